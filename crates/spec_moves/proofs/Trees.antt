-- The trees of a refresh that are done, and the one that is under way: the moves made are the front of all, and the bytes written the front of the new trees'.
use Rattle.std.proofs.Common.{◌≡◌, ◌≤◌, ◌+◌, ◌*◌, ℕ, List, [], ◌∷◌, ◌++◌, length, take, refl, ap, sym, ◌∙◌, arith, subst, append_assoc, append-nil, length-append}
use Rattle.std.specs.Prelude.{flat_map}
use Rattle.std.specs.List.{AllByRecursion}
use Rattle.std.proofs.lemmas.List.{take_at}
use Rattle.std.proofs.lemmas.List.Sums.{sum_by-cons}
use Rattle.cube_point.specs.declared.point.Entry.{Entry}
use Rattle.spec_tree.specs.Moves.{KeepsTo, Move, reads_in, written}
use Rattle.spec_tree.proofs.Moves.{reads-behind, reads-past, reads-within, written-append, written-behind, written-front, written-past, written-within}
use Rattle.delta_agg.specs.Joins.{merged_entries}
use Rattle.tree_pack.specs.Lawful.{AreLawful}
use Rattle.tree_pack.specs.Packing.{max_first}
use Rattle.tree_pack.specs.Pages.{PointPage, page_bytes, pages_of}
use Rattle.tree_pack.proofs.Lawful.{pages-lawful}
use Rattle.merge_pack.specs.declared.side.Advance.TheVariants as advances
use Rattle.merge_pack.specs.Between.{IsMergeInto, Makes, points_of}
use Rattle.merge_pack.specs.Merging.{Goes, Merging}
use Rattle.merge_pack.proofs.Making.{makes-all, makes-front}
use Rattle.spec_forest.proofs.Bytes.{pages-long}
use Rattle.spec_moves.specs.Trees.{IsTreeMerge, TreeMerge, all_bytes, all_moves, moves_in, total_of, totals}
use Rattle.spec_moves.proofs.Ways.{bytes-append, flat-append, lawful-front, moves-more, total-same, totals-more}

-- of these trees all moves are made, so many, and all bytes are written, up to this page
pub record AreDone (done : List TreeMerge) (count first : ℕ) (bytes : List ℕ) : Type 0 where
  pub count_is : length (all_moves done) ≡ count
  pub first_is : totals done ≡ first
  pub bytes_are : all_bytes 0 done ≡ bytes
  pub writes : written (length (all_moves done)) (all_moves done) ≡ totals done
  pub long : length (all_bytes 0 done) ≡ 4096 * totals done

pub none-done : AreDone [] 0 0 []
none-done = record { count_is = refl; first_is = refl; bytes_are = refl; writes = refl; long = refl }

-- one of the trees, and those before it
at-split : (P : TreeMerge → Type 0) (done : List TreeMerge) (t : TreeMerge) (rest : List TreeMerge) → AllByRecursion P (done ++ t ∷ rest) → P t
at-split P [] t rest h = h.0
at-split P (d ∷ done) t rest h = at-split P done t rest h.1

totals-split : (done : List TreeMerge) (t : TreeMerge) (rest : List TreeMerge) → totals done + total_of t ≤ totals (done ++ t ∷ rest)
totals-split [] t rest = omega (arith, sum_by-cons total_of t rest)
totals-split (d ∷ done) t rest = omega (arith, sum_by-cons total_of d (done ++ t ∷ rest), sum_by-cons total_of d done, totals-split done t rest)

pages-here : (t : TreeMerge) (done : List TreeMerge) → pages_of t.shape (0 + totals done) t.views ≡ pages_of t.shape (totals done) t.views
pages-here t done = let e : 0 + totals done ≡ totals done = omega arith in ap (λ (n : ℕ). pages_of t.shape n t.views) e

module _ (done : List TreeMerge) (t : TreeMerge) (rest : List TreeMerge) (are : AllByRecursion IsTreeMerge (done ++ t ∷ rest)) (low : totals (done ++ t ∷ rest) ≤ max_first) where
  abbrev trees : List TreeMerge
  trees = done ++ t ∷ rest

  is-tree : IsTreeMerge t
  is-tree = at-split IsTreeMerge done t rest are

  first-low : totals done + total_of t ≤ max_first
  first-low = omega (arith, totals-split done t rest, low)

  -- the merge of this tree makes its pages behind those of the trees before
  pub tree-into : IsMergeInto t.shape (totals done) (total_of t) t.views t.old t.new
  tree-into = record {
    tree = record { shape_is = is-tree.shape_is; are = is-tree.are; low = omega (arith, first-low); total_is = total-same t is-tree (totals done) };
    old_points = is-tree.old_points;
    new_points = is-tree.new_points;
  }

  -- its pages have 4,096 bytes each
  front-long : (pages more : List PointPage) → pages ++ more ≡ pages_of t.shape (totals done) t.views → length (flat_map (page_bytes t.shape) pages) ≡ 4096 * length pages
  front-long pages more is =
      let lawful = pages-lawful t.shape is-tree.shape_is (totals done) t.views (merged_entries (points_of t.old) t.new) is-tree.are (omega (arith, first-low)) in
      pages-long t.shape is-tree.shape_is (totals done) pages (lawful-front t.shape (totals done) pages more (subst (AreLawful t.shape (totals done)) (sym is) lawful))

  -- of all moves those of this tree stand behind those of the trees before
  abbrev later : List Move
  later = moves_in t ++ all_moves rest

  all-split : all_moves trees ≡ all_moves done ++ later
  all-split = flat-append moves_in done (t ∷ rest)

  all-reads : (k : ℕ) → k ≤ length (moves_in t) → reads_in (length (all_moves done) + k) (all_moves trees) ≡ reads_in (length (all_moves done)) (all_moves done) + reads_in k (moves_in t)
  all-reads k le = ap (reads_in (length (all_moves done) + k)) all-split ∙ (reads-behind (all_moves done) later k ∙ ap (λ (n : ℕ). reads_in (length (all_moves done)) (all_moves done) + n) (reads-within k (moves_in t) (all_moves rest) le))

  more-reads : (k : ℕ) → reads_in (length (all_moves done)) (all_moves done) + reads_in k (moves_in t) ≤ reads_in (length (all_moves done) + k) (all_moves trees)
  more-reads k = omega (arith, ap (reads_in (length (all_moves done) + k)) all-split, reads-behind (all_moves done) later k, reads-past k (moves_in t) (all_moves rest))

  all-written : (k : ℕ) → k ≤ length (moves_in t) → written (length (all_moves done) + k) (all_moves trees) ≡ written (length (all_moves done)) (all_moves done) + written k (moves_in t)
  all-written k le = ap (written (length (all_moves done) + k)) all-split ∙ (written-behind (all_moves done) later k ∙ ap (λ (n : ℕ). written (length (all_moves done)) (all_moves done) + n) (written-within k (moves_in t) (all_moves rest) le))

  more-written : (k : ℕ) → written (length (all_moves done)) (all_moves done) + written k (moves_in t) ≤ written (length (all_moves done) + k) (all_moves trees)
  more-written k = omega (arith, ap (written (length (all_moves done) + k)) all-split, written-behind (all_moves done) later k, written-past k (moves_in t) (all_moves rest))

  -- what keeps to the moves of this tree keeps to all
  pub keeps-all : (from to : ℕ) (before now : ℕ × ℕ) → from ≤ length (moves_in t) → KeepsTo (moves_in t) from to before now → KeepsTo (all_moves trees) (length (all_moves done) + from) (length (all_moves done) + to) before now
  keeps-all from to before now le keeps = record {
    read = omega (arith, all-reads from le, more-reads to, keeps.read);
    wrote = omega (arith, all-written from le, more-written to, keeps.wrote);
  }

  -- ---- where the merge of this tree has made so many moves

  module _ (made : List Move) (pages : List PointPage) (unread : List (List Entry)) (m : Merging) (makes : Makes t.shape (totals done) t.old t.new made pages unread m) where
    abbrev code : PointPage → List ℕ
    code = page_bytes t.shape

    pub made-few : length made ≤ length (moves_in t)
    made-few =
        let front = makes-front t.shape (totals done) (total_of t) t.views t.old t.new tree-into.tree tree-into.old_points tree-into.new_points makes in
        omega (arith, ap length front.moves, length-append made front.moves_to_come)

    -- the moves and the pages so far are the front of all
    pub record IsFront (count : ℕ) (first : ℕ) (bytes : List ℕ) : Type 0 where
      pub few : count + length made ≤ length (all_moves trees)
      pub number : written (count + length made) (all_moves trees) ≡ first + length pages
      pub bytes_are : take (4096 * (first + length pages)) (all_bytes 0 trees) ≡ bytes ++ flat_map code pages
      pub long : length (bytes ++ flat_map code pages) ≡ 4096 * (first + length pages)

    pub is-front : (count first : ℕ) (bytes : List ℕ) → AreDone done count first bytes → IsFront count first bytes
    is-front count first bytes are_done =
        let front = makes-front t.shape (totals done) (total_of t) t.views t.old t.new tree-into.tree tree-into.old_points tree-into.new_points makes in
        let here : written (length made) (moves_in t) ≡ length pages = ap (written (length made)) (sym front.moves) ∙ (written-front made front.moves_to_come ∙ front.count) in
        let more : List ℕ = flat_map code front.pages_to_come ++ all_bytes (0 + totals done + total_of t) rest in
        let tree_bytes : flat_map code (pages_of t.shape (0 + totals done) t.views) ≡ flat_map code pages ++ flat_map code front.pages_to_come =
        ap (flat_map code) (pages-here t done ∙ sym front.pages_are) ∙ flat-append code pages front.pages_to_come in
        let all : all_bytes 0 trees ≡ (bytes ++ flat_map code pages) ++ more =
        bytes-append 0 done (t ∷ rest) ∙ (ap (λ (l : List ℕ). all_bytes 0 done ++ (l ++ all_bytes (0 + totals done + total_of t) rest)) tree_bytes
        ∙ (ap (λ (l : List ℕ). all_bytes 0 done ++ l) (append_assoc (flat_map code pages) (flat_map code front.pages_to_come) (all_bytes (0 + totals done + total_of t) rest))
        ∙ (sym (append_assoc (all_bytes 0 done) (flat_map code pages) more) ∙ ap (λ (l : List ℕ). (l ++ flat_map code pages) ++ more) are_done.bytes_are))) in
        let long : length (bytes ++ flat_map code pages) ≡ 4096 * (first + length pages) =
        omega (arith, length-append bytes (flat_map code pages), front-long pages front.pages_to_come front.pages_are, are_done.long, ap length are_done.bytes_are, are_done.first_is) in
        record {
          few = omega (arith, made-few, are_done.count_is, ap length all-split, length-append (all_moves done) later, length-append (moves_in t) (all_moves rest));
          number = ap (λ (n : ℕ). written (n + length made) (all_moves trees)) (sym are_done.count_is) ∙ omega (arith, all-written (length made) made-few, are_done.writes, are_done.first_is, here);
          bytes_are = ap (take (4096 * (first + length pages))) all ∙ take_at (bytes ++ flat_map code pages) more (4096 * (first + length pages)) long;
          long = long;
        }

    -- where nothing is left of this tree, one more is done
    pub one-done : (n : Merging) → Goes (length unread) m advances.Done n → (count first : ℕ) (bytes : List ℕ) → AreDone done count first bytes
        → AreDone (done ++ t ∷ []) (count + length made) (first + length pages) (bytes ++ flat_map code pages)
    one-done n goes count first bytes are_done =
        let whole = makes-all t.shape (totals done) (total_of t) t.views t.old t.new tree-into.tree tree-into.old_points tree-into.new_points makes goes in
        let front = makes-front t.shape (totals done) (total_of t) t.views t.old t.new tree-into.tree tree-into.old_points tree-into.new_points makes in
        let many : length pages ≡ total_of t = ap length whole.pages_are ∙ total-same t is-tree (totals done) in
        let moves : all_moves (done ++ t ∷ []) ≡ all_moves done ++ made = moves-more done t ∙ ap (λ (l : List Move). all_moves done ++ l) (sym whole.moves) in
        let bytes_are : all_bytes 0 (done ++ t ∷ []) ≡ all_bytes 0 done ++ flat_map code pages =
        bytes-append 0 done (t ∷ []) ∙ ap (λ (l : List ℕ). all_bytes 0 done ++ l) (append-nil (flat_map code (pages_of t.shape (0 + totals done) t.views)) ∙ ap (flat_map code) (pages-here t done ∙ sym whole.pages_are)) in
        let long_here : length (flat_map code pages) ≡ 4096 * length pages = front-long pages [] (append-nil pages ∙ whole.pages_are) in
        record {
          count_is = omega (arith, ap length moves, length-append (all_moves done) made, are_done.count_is);
          first_is = omega (arith, totals-more done t, many, are_done.first_is);
          bytes_are = bytes_are ∙ ap (λ (l : List ℕ). l ++ flat_map code pages) are_done.bytes_are;
          writes = (λ i. written (length (moves i)) (moves i)) ∙ omega (arith, written-append (all_moves done) made, are_done.writes, front.count, many, totals-more done t);
          long = ap length bytes_are ∙ omega (arith, length-append (all_bytes 0 done) (flat_map code pages), are_done.long, long_here, many, totals-more done t);
        }
