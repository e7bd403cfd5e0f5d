-- Over any number of moves of a refresh, the pages written are the first of the forest over all facts, one for each write among the moves.
use Rattle.std.proofs.Common.{◌≡◌, ◌≤◌, ◌<◌, ◌+◌, ◌*◌, ◌^◌, ℕ, List, [], ◌∷◌, ◌++◌, drop, flat_map, length, map, take, sum_by, append_assoc, refl, ap, sym, ◌∙◌, arith, subst}
use Rattle.std.specs.List.{All, AllByRecursion}
use Rattle.std.proofs.lemmas.List.{get_or_default, map-append, take-append-drop, take_all, take_more}
use Rattle.std.proofs.lemmas.List.Elements.{All-weaker, recursion_from_All}
use Rattle.std.proofs.lemmas.List.Sums.{sum_by-cons}
use Rattle.fact_model.specs.declared.fact.Fact.{Fact}
use Rattle.cube_point.specs.declared.point.Entry.{Entry}
use Rattle.cube_point.specs.declared.point.Shape.{Shape}
use Rattle.cube_point.specs.Points.{IsPoint}
use Rattle.cube_schema.specs.declared.schema.Schema.{Schema}
use Rattle.cube_schema.specs.Lawful.{IsSchema}
use Rattle.cube_schema.specs.Kinds.{measure_count}
use Rattle.spec_points.specs.Codes.{names_of}
use Rattle.spec_forest.specs.Storable.{AreStorable}
use Rattle.select_map.specs.declared.mapping.Tree.{Tree}
use Rattle.select_map.specs.Selection.{no_tree}
use Rattle.select_map.specs.Trees.{views_of}
use Rattle.select_map.specs.Views.{selected}
use Rattle.delta_agg.specs.Joins.{merged_entries}
use Rattle.delta_agg.specs.Trees.{named_tree}
use Rattle.delta_agg.proofs.Rising.{views-rise}
use Rattle.spec_tree.specs.Moves.{KeepsTo, Move, written}
use Rattle.spec_tree.specs.Tree.{Leaf, Inner, entries_in}
use Rattle.spec_tree.proofs.Tops.{every-map}
use Rattle.page_entry.specs.Stored.{FitsLeaf}
use Rattle.forest_root.specs.Forest.{pages_of_all, shape_of}
use Rattle.tree_pack.specs.Packing.{AreTreePoints, AreTreeViews, max_first}
use Rattle.tree_pack.specs.Pages.{PointPage, page_bytes, pages_of}
use Rattle.tree_pack.proofs.Whole.{pages-entries}
use Rattle.merge_pack.specs.declared.side.Advance.TheVariants as advances
use Rattle.merge_pack.specs.Between.{IsMergeInto, Makes, points_of}
use Rattle.merge_pack.specs.Merging.{Goes, Merging}
use Rattle.view_route.specs.Counts.{body_counts}
use Rattle.spec_forest.specs.Forest.{forest, page_count, tree_bytes, tree_entries, trees_bytes, views_over}
use Rattle.spec_forest.proofs.Bounds.{pages-within}
use Rattle.spec_forest.proofs.Bytes.{all-long, trees-long}
use Rattle.spec_forest.proofs.Deltas.{delta-points}
use Rattle.spec_forest.proofs.Merges.{tree-merged}
use Rattle.spec_forest.proofs.Scanned.{counts-few, few-views}
use Rattle.spec_forest.proofs.Selected.{tree, tree-shape, tree-views}
use Rattle.spec_moves.specs.Forest.{IsSoFar, forest_merges, forest_moves, merge_of, old_pages, points_on}
use Rattle.spec_moves.specs.Trees.{IsTreeMerge, TreeMerge, all_bytes, all_moves, moves_in, total_of, totals}
use Rattle.spec_moves.proofs.Trees.{AreDone, is-front, keeps-all, made-few, one-done, tree-into}

-- the points of pages, page by page or all at once
points-pages : (pages : List PointPage) → points_of (map points_on pages) ≡ entries_in pages
points-pages [] = refl
points-pages (Leaf es ∷ pages) = ap (λ (l : List Entry). es ++ l) (points-pages pages)
points-pages (Inner cs ∷ pages) = points-pages pages

good-points : (shape : Shape) (es : List Entry) → AreTreePoints shape es → All (λ (e : Entry). IsPoint e.point) es
good-points shape es are = All-weaker (FitsLeaf shape) (λ (e : Entry). IsPoint e.point) (λ (e : Entry) (fits : FitsLeaf shape e). fits.point) es are.good

-- the merges of trees have the bytes of the trees
module _ (old_format format : ℕ) (schema : Schema) (facts batch : List Fact) where
  bytes-trees : (first : ℕ) (trees : List Tree) → all_bytes first (map (merge_of old_format format schema facts batch) trees) ≡ trees_bytes format schema (facts ++ batch) first trees
  bytes-trees first [] = refl
  bytes-trees first (t ∷ trees) = ap (λ (l : List ℕ). tree_bytes format schema (facts ++ batch) first t ++ l) (bytes-trees (first + page_count format schema (facts ++ batch) t) trees)

  totals-trees : (trees : List Tree) → totals (map (merge_of old_format format schema facts batch) trees) ≡ sum_by (page_count format schema (facts ++ batch)) trees
  totals-trees [] = refl
  totals-trees (t ∷ trees) = omega (
    arith,
    sum_by-cons total_of (merge_of old_format format schema facts batch t) (map (merge_of old_format format schema facts batch) trees),
    sum_by-cons (page_count format schema (facts ++ batch)) t trees,
    totals-trees trees,
  )

  bytes-forest : all_bytes 0 (forest_merges old_format format schema facts batch) ≡ forest format schema (facts ++ batch)
  unfolding forest
  bytes-forest = bytes-trees 0 (selected schema.views).trees

module _ {old_format format : ℕ} (schema : Schema) (lawful : IsSchema schema) (facts batch : List Fact)
    (old : AreStorable old_format (names_of facts) (measure_count schema) facts) (new : AreStorable format (names_of (facts ++ batch)) (measure_count schema) batch)
    (all : AreStorable format (names_of (facts ++ batch)) (measure_count schema) (facts ++ batch)) where
  one-merge : (t : ℕ) → t < length (selected schema.views).trees → IsTreeMerge (merge_of old_format format schema facts batch (tree schema lawful t))
  one-merge t lt =
      let x : Tree = tree schema lawful t in
      let shape : Shape = shape_of format schema x in
      let old_shape : Shape = shape_of old_format schema x in
      let delta : List Entry = named_tree (names_of (facts ++ batch)) schema batch x in
      let shape_is = tree-shape schema lawful format t lt in
      let old_shape_is = tree-shape schema lawful old_format t lt in
      let old_views = tree-views schema lawful facts old t lt in
      let points : points_of (old_pages old_format schema facts x) ≡ tree_entries schema facts x =
      points-pages (pages_of old_shape 0 (views_over schema facts x)) ∙ pages-entries old_shape old_shape_is (views_over schema facts x) (tree_entries schema facts x) old_views 0 in
      let merged : tree_entries schema (facts ++ batch) x ≡ merged_entries (points_of (old_pages old_format schema facts x)) delta =
      tree-merged schema facts batch (views_of schema.views x) (views-rise schema (selected schema.views) lawful refl t) ∙ ap (λ (es : List Entry). merged_entries es delta) (sym points) in
      record {
        shape_is = shape_is;
        are = subst (AreTreeViews shape (views_over schema (facts ++ batch) x)) merged (tree-views schema lawful (facts ++ batch) all t lt);
        old_points = subst (All (λ (e : Entry). IsPoint e.point)) (sym points) (good-points old_shape (tree_entries schema facts x) old_views.points);
        new_points = good-points shape delta (delta-points schema lawful (names_of (facts ++ batch)) batch new t);
      }

  are-merges : AllByRecursion IsTreeMerge (forest_merges old_format format schema facts batch)
  are-merges = every-map (λ (t : Tree). IsTreeMerge (merge_of old_format format schema facts batch t)) IsTreeMerge (merge_of old_format format schema facts batch) (λ t is. is) (selected schema.views).trees
      (recursion_from_All (λ (t : Tree). IsTreeMerge (merge_of old_format format schema facts batch t)) (selected schema.views).trees
      (λ t d lt. subst (λ (x : Tree). IsTreeMerge (merge_of old_format format schema facts batch x)) (get_or_default (selected schema.views).trees t no_tree d lt) (one-merge t lt)))

  few-pages : totals (forest_merges old_format format schema facts batch) ≤ max_first
  few-pages =
      let within : pages_of_all format schema (body_counts schema (facts ++ batch)) (selected schema.views).trees ≤ 2 ^ 50 = pages-within format schema lawful (body_counts schema (facts ++ batch)) (counts-few schema (facts ++ batch) all.few) (few-views schema lawful) in
      let long = trees-long schema lawful (facts ++ batch) all 0 (selected schema.views).trees (all-long schema lawful (facts ++ batch) all) (omega (arith, within)) in
      omega (arith, within, long.1, totals-trees old_format format schema facts batch (selected schema.views).trees)

  abbrev merges : List TreeMerge
  merges = forest_merges old_format format schema facts batch

  abbrev trees : List Tree
  trees = (selected schema.views).trees

  -- the trees before one, and those behind it
  abbrev pub before : ℕ → List TreeMerge
  before t = map (merge_of old_format format schema facts batch) (take t trees)

  abbrev behind : ℕ → List TreeMerge
  behind t = map (merge_of old_format format schema facts batch) (drop (t + 1) trees)

  module _ (t : ℕ) (lt : t < length trees) where
    abbrev here : TreeMerge
    here = merge_of old_format format schema facts batch (tree schema lawful t)

    split : before t ++ here ∷ behind t ≡ merges
    split =
        let x : Tree = tree schema lawful t in
        let more : take (t + 1) trees ≡ take t trees ++ x ∷ [] = take_more trees t no_tree lt in
        let all : take t trees ++ x ∷ drop (t + 1) trees ≡ trees =
        sym (append_assoc (take t trees) (x ∷ []) (drop (t + 1) trees)) ∙ (ap (λ (l : List Tree). l ++ drop (t + 1) trees) (sym more) ∙ take-append-drop (t + 1) trees) in
        sym (map-append (merge_of old_format format schema facts batch) (take t trees) (x ∷ drop (t + 1) trees)) ∙ ap (map (merge_of old_format format schema facts batch)) all

    are-here : AllByRecursion IsTreeMerge (before t ++ here ∷ behind t)
    are-here = subst (AllByRecursion IsTreeMerge) (sym split) are-merges

    low-here : totals (before t ++ here ∷ behind t) ≤ max_first
    low-here = subst (λ (ts : List TreeMerge). totals ts ≤ max_first) (sym split) few-pages

    next-before : before t ++ here ∷ [] ≡ before (t + 1)
    next-before = sym (map-append (merge_of old_format format schema facts batch) (take t trees) (tree schema lawful t ∷ [])) ∙ ap (map (merge_of old_format format schema facts batch)) (sym (take_more trees t no_tree lt))

    -- the merge of a tree makes its pages behind those of the trees before
    pub into-forest : (count first : ℕ) (bytes : List ℕ) → AreDone (before t) count first bytes → IsMergeInto here.shape first (total_of here) here.views here.old here.new
    into-forest count first bytes done =
        subst (λ (n : ℕ). IsMergeInto here.shape n (total_of here) here.views here.old here.new) done.first_is (tree-into (before t) here (behind t) are-here low-here)

    -- what keeps to the moves of a tree keeps to those of the forest
    pub keeps-forest : (count first : ℕ) (bytes : List ℕ) → AreDone (before t) count first bytes → (from to : ℕ) (spent now : ℕ × ℕ) → from ≤ length (moves_in here) → KeepsTo (moves_in here) from to spent now
        → KeepsTo (forest_moves old_format format schema facts batch) (count + from) (count + to) spent now
    keeps-forest count first bytes done from to spent now le keeps =
        subst (λ (n : ℕ). KeepsTo (forest_moves old_format format schema facts batch) (n + from) (n + to) spent now) done.count_is
        (subst (λ (ts : List TreeMerge). KeepsTo (all_moves ts) (length (all_moves (before t)) + from) (length (all_moves (before t)) + to) spent now) split
        (keeps-all (before t) here (behind t) are-here low-here from to spent now le keeps))

    module _ (count first : ℕ) (bytes : List ℕ) (done : AreDone (before t) count first bytes) (made : List Move) (pages : List PointPage) (unread : List (List Entry)) (m : Merging)
        (makes : Makes here.shape first here.old here.new made pages unread m) where
      makes-here : Makes here.shape (totals (before t)) here.old here.new made pages unread m
      makes-here = subst (λ (n : ℕ). Makes here.shape n here.old here.new made pages unread m) (sym done.first_is) makes

      pub made-here : length made ≤ length (moves_in here)
      made-here = made-few (before t) here (behind t) are-here low-here made pages unread m makes-here

      -- the pages written so far are the first of the forest
      pub is-so-far : IsSoFar old_format format schema facts batch (count + length made) (first + length pages) (bytes ++ flat_map (page_bytes here.shape) pages)
      is-so-far =
          let front = is-front (before t) here (behind t) are-here low-here made pages unread m makes-here count first bytes done in
          let number : written (count + length made) (forest_moves old_format format schema facts batch) ≡ first + length pages
          = ap (λ (ts : List TreeMerge). written (count + length made) (all_moves ts)) (sym split) ∙ front.number in
          record {
            within = omega (arith, front.few, ap (λ (ts : List TreeMerge). length (all_moves ts)) split);
            number = number;
            bytes_are = sym ((λ i. take (4096 * number i) (sym bytes-forest-here i)) ∙ front.bytes_are);
            long = front.long;
          }
        where
          bytes-forest-here : all_bytes 0 (before t ++ here ∷ behind t) ≡ forest format schema (facts ++ batch)
          bytes-forest-here = ap (all_bytes 0) split ∙ bytes-forest old_format format schema facts batch

      -- where nothing is left of this tree, it is done
      pub done-here : (n : Merging) → Goes (length unread) m advances.Done n
          → AreDone (before (t + 1)) (count + length made) (first + length pages) (bytes ++ flat_map (page_bytes here.shape) pages)
      done-here n goes = subst (λ (ts : List TreeMerge). AreDone ts (count + length made) (first + length pages) (bytes ++ flat_map (page_bytes here.shape) pages)) next-before
          (one-done (before t) here (behind t) are-here low-here made pages unread m makes-here n goes count first bytes done)

  -- where all trees are done, all moves are made, and the whole forest is written, a page for each write
  pub record IsWhole (count : ℕ) (bytes : List ℕ) : Type 0 where
    pub count_is : count ≡ length (forest_moves old_format format schema facts batch)
    pub bytes_are : bytes ≡ forest format schema (facts ++ batch)
    pub long : length (forest format schema (facts ++ batch)) ≡ 4096 * written (length (forest_moves old_format format schema facts batch)) (forest_moves old_format format schema facts batch)

  pub forest-done : (t count first : ℕ) (bytes : List ℕ) → length trees ≤ t → AreDone (before t) count first bytes → IsWhole count bytes
  forest-done t count first bytes whole done =
      let all : before t ≡ merges = ap (map (merge_of old_format format schema facts batch)) (take_all t trees whole) in
      let forest_is : all_bytes 0 (before t) ≡ forest format schema (facts ++ batch) = ap (all_bytes 0) all ∙ bytes-forest old_format format schema facts batch in
      record {
        count_is = sym done.count_is ∙ ap (λ (ts : List TreeMerge). length (all_moves ts)) all;
        bytes_are = sym done.bytes_are ∙ forest_is;
        long = omega (arith, ap length forest_is, done.long, done.writes, ap (λ (ts : List TreeMerge). written (length (all_moves ts)) (all_moves ts)) all);
      }
