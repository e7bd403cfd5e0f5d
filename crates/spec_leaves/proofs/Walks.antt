-- The leaves that a search of a packed tree goes to: one, or no more than leaves whose boxes meet the region.
use Rattle.std.proofs.Common.{◌≡◌, ◌⊎◌, inl, inr, ℕ, zero, suc, ◌+◌, ◌≤◌, Bool, true, false, cond, List, [], ◌∷◌, ◌++◌, filter, length, length-append, map, refl, sym, ap, ◌∙◌, subst, arith, append-nil, append_assoc}
use Rattle.std.specs.Prelude.{flat_map}
use Rattle.std.specs.List.{AllByRecursion}
use Rattle.std.proofs.lemmas.Grind.{flat_map-append}
use Rattle.std.proofs.lemmas.List.Elements.{filter-append}
use Rattle.cube_point.specs.declared.bounds.Region.{Region}
use Rattle.cube_point.specs.declared.point.Entry.{Entry}
use Rattle.spec_tree.specs.Runs.{runs, top}
use Rattle.spec_tree.specs.Tree.{Leaf, Inner, Node, inner, laid, leaf, placed, size}
use Rattle.spec_tree.proofs.Counts.{Sized, length-laid}
use Rattle.spec_tree.proofs.Runs.{joined, joined-runs}
use Rattle.spec_tree.proofs.Tops.{every-runs, every-top}
use Rattle.page_fmt.specs.declared.page.Child.{Child}
use Rattle.page_fmt.specs.declared.page.Place.{Place}
use Rattle.leaf_pack.specs.Cover.{box_of}
use Rattle.tree_pack.specs.Pages.{PointPage, child_of}
use Rattle.range_scan.specs.Meeting.{is_met}
use Rattle.range_scan.specs.Visits.{all_ways, below, met, page_of}
use Rattle.range_scan.proofs.Downward.{ways-go_on}
use Rattle.range_scan.proofs.Standing.{AreThere, IsThere, there-back, there-front}
use Rattle.range_scan.proofs.Underway.{page-falls}
use Rattle.spec_leaves.specs.Leaves.{is_leaf, leaves_among}
use Rattle.spec_leaves.proofs.Touched.{passing-append, passing-is}

-- the entries of each leaf among the pages
abbrev pub leaf_lists : List PointPage → List (List Entry)
leaf_lists [] = []
leaf_lists (Leaf es ∷ pages) = es ∷ leaf_lists pages
leaf_lists (Inner cs ∷ pages) = leaf_lists pages

lists-append : (a b : List PointPage) → leaf_lists (a ++ b) ≡ leaf_lists a ++ leaf_lists b
lists-append [] b = refl
lists-append (Leaf es ∷ a) b = ap (λ l. es ∷ l) (lists-append a b)
lists-append (Inner cs ∷ a) b = lists-append a b

-- ---- the leaves of nodes, wherever their pages stand

-- the leaves of a node
abbrev own : Node Entry Child → List (List Entry)
own n = leaf_lists (n.pages 0)

abbrev IsFixed : Node Entry Child → Type 0
IsFixed n = (f : ℕ) → leaf_lists (n.pages f) ≡ own n

lists-laid : (f : ℕ) (ns : List (Node Entry Child)) → AllByRecursion IsFixed ns → leaf_lists (laid f ns) ≡ flat_map own ns
lists-laid f [] h = refl
lists-laid f (n ∷ ns) h = lists-append (n.pages f) (laid (f + suc n.below) ns) ∙ (λ i. h.0 f i ++ lists-laid (f + suc n.below) ns h.1 i)

inner-lists : (f : ℕ) (ns : List (Node Entry Child)) → AllByRecursion IsFixed ns → leaf_lists ((inner child_of ns).pages f) ≡ flat_map own ns
inner-lists f ns h = lists-append (laid f ns) (Inner (placed child_of f ns) ∷ []) ∙ (append-nil (leaf_lists (laid f ns)) ∙ lists-laid f ns h)

inner-fixed : (ns : List (Node Entry Child)) → AllByRecursion IsFixed ns → IsFixed (inner child_of ns)
inner-fixed ns h = λ f. inner-lists f ns h ∙ sym (inner-lists 0 ns h)

leaves-fixed : (rs : List (List Entry)) → AllByRecursion IsFixed (map leaf rs)
leaves-fixed [] = tt
leaves-fixed (r ∷ rs) = ((λ f. refl), leaves-fixed rs)

leaves-own : (rs : List (List Entry)) → flat_map own (map leaf rs) ≡ rs
leaves-own [] = refl
leaves-own (r ∷ rs) = ap (λ l. r ∷ l) (leaves-own rs)

runs-own : (rs : List (List (Node Entry Child))) → AllByRecursion (AllByRecursion IsFixed) rs → flat_map own (map (inner child_of) rs) ≡ flat_map own (joined rs)
runs-own [] h = refl
runs-own (r ∷ rs) h = (λ i. inner-lists 0 r h.0 i ++ runs-own rs h.1 i) ∙ sym (flat_map-append own r (joined rs))

top-own : (k d : ℕ) (ns : List (Node Entry Child)) → AllByRecursion IsFixed ns → flat_map own (top k (inner child_of) d ns) ≡ flat_map own ns
top-own k zero [] h = refl
top-own k (suc d) [] h = refl
top-own k zero (x ∷ []) h = refl
top-own k (suc d) (x ∷ []) h = refl
top-own k zero (x ∷ y ∷ ns) h = refl
top-own k (suc d) (x ∷ y ∷ ns) h =
    let all = x ∷ y ∷ ns in
    let each = every-runs IsFixed k all h in
    top-own k d (map (inner child_of) (runs k all)) (every-mapped (runs k all) each)
    ∙ (runs-own (runs k all) each ∙ ap (flat_map own) (joined-runs k all))
  where
    every-mapped : (rs : List (List (Node Entry Child))) → AllByRecursion (AllByRecursion IsFixed) rs → AllByRecursion IsFixed (map (inner child_of) rs)
    every-mapped [] h = tt
    every-mapped (r ∷ rs) h = (inner-fixed r h.0, every-mapped rs h.1)

-- the leaves of a packed tree, in order
pub top-lists : (k d f : ℕ) (rs : List (List Entry)) → leaf_lists (laid f (top k (inner child_of) d (map leaf rs))) ≡ rs
top-lists k d f rs = lists-laid f (top k (inner child_of) d (map leaf rs)) (every-top IsFixed k (inner child_of) inner-fixed d (map leaf rs) (leaves-fixed rs))
    ∙ (top-own k d (map leaf rs) (leaves-fixed rs) ∙ leaves-own rs)

-- ---- the leaves gone to

module _ (tree : Place) (region : Region) (bytes : List ℕ) where
  abbrev pub down : ℕ → List ℕ
  down n = all_ways region (page_of tree.shape bytes) n

  -- how many of the pages are leaves
  abbrev pub leaf_count : List ℕ → ℕ
  leaf_count numbers = length (leaves_among tree bytes numbers)

  -- how many of these leaves meet the region
  abbrev pub met_count : List (List Entry) → ℕ
  met_count rs = length (filter (λ es. is_met region (box_of es)) rs)

  count-append : (xs ys : List ℕ) → leaf_count (xs ++ ys) ≡ leaf_count xs + leaf_count ys
  count-append xs ys = passing-append (λ n. is_leaf (page_of tree.shape bytes n)) xs ys

  down-is : (n : ℕ) (page : PointPage) → page_of tree.shape bytes n ≡ page → down n ≡ n ∷ flat_map down (below region page)
  down-is n page is = ways-go_on region (page_of tree.shape bytes) (page-falls tree.shape bytes region) n ∙ ap (λ p. n ∷ flat_map down (below region p)) is

  count-down : (n : ℕ) (page : PointPage) → page_of tree.shape bytes n ≡ page → leaf_count (down n) ≡ length (cond (is_leaf page) (n ∷ []) []) + leaf_count (flat_map down (below region page))
  count-down n page is = ap leaf_count (down-is n page is) ∙ (passing-is (λ n. is_leaf (page_of tree.shape bytes n)) (is_leaf page) n (flat_map down (below region page)) (ap is_leaf is) ∙ split (is_leaf page))
    where
      rest : List ℕ
      rest = leaves_among tree bytes (flat_map down (below region page))

      split : (b : Bool) → length (cond b (n ∷ rest) rest) ≡ length (cond b (n ∷ []) []) + length rest
      split true = omega arith
      split false = omega arith

  -- where the pages of a node stand: of the leaves below it those are gone to that meet the region, or it is one leaf
  pub record IsWalked (n : Node Entry Child) : Type 0 where
    pub sized : Sized n
    pub met : (f : ℕ) → AreThere tree.shape bytes f (n.pages f) → is_met region (box_of n.points) ≡ true → leaf_count (down (f + n.below)) ≤ met_count (leaf_lists (n.pages f))
    pub root : (f : ℕ) → AreThere tree.shape bytes f (n.pages f) → (leaf_count (down (f + n.below)) ≤ 1) ⊎ (leaf_count (down (f + n.below)) ≤ met_count (leaf_lists (n.pages f)))

  pub all-sized : (ns : List (Node Entry Child)) → AllByRecursion IsWalked ns → AllByRecursion Sized ns
  all-sized [] h = tt
  all-sized (n ∷ ns) h = (h.0.sized, all-sized ns h.1)

  lists-more : (a b : List PointPage) → met_count (leaf_lists (a ++ b)) ≡ met_count (leaf_lists a) + met_count (leaf_lists b)
  lists-more a b = ap met_count (lists-append a b) ∙ passing-append (λ es. is_met region (box_of es)) (leaf_lists a) (leaf_lists b)

  child-walked : (f : ℕ) (n : Node Entry Child) (cs : List Child) (most rest : ℕ) (b : Bool) → is_met region (box_of n.points) ≡ b
      → (is_met region (box_of n.points) ≡ true → leaf_count (down (f + n.below)) ≤ most) → leaf_count (flat_map down (met region cs)) ≤ rest
      → leaf_count (flat_map down (map (λ (c : Child). c.page) (cond b (child_of n.points (f + n.below) ∷ filter (λ (c : Child). is_met region c.bounds) cs) (filter (λ (c : Child). is_met region c.bounds) cs)))) ≤ most + rest
  child-walked f n cs most rest true test here later = omega (arith, count-append (down (f + n.below)) (flat_map down (met region cs)), here test, later)
  child-walked f n cs most rest false test here later = omega (arith, later)

  children-walked : (f : ℕ) (ns : List (Node Entry Child)) → AllByRecursion IsWalked ns → AreThere tree.shape bytes f (laid f ns)
      → leaf_count (flat_map down (met region (placed child_of f ns))) ≤ met_count (leaf_lists (laid f ns))
  children-walked f [] h there = omega arith
  children-walked f (n ∷ ns) h there =
      let here = there-front tree.shape bytes f (n.pages f) (laid (f + suc n.below) ns) there in
      let behind = there-back tree.shape bytes f (f + suc n.below) (n.pages f) (laid (f + suc n.below) ns) (omega (arith, h.0.sized f)) there in
      let most = met_count (leaf_lists (n.pages f)) in
      let rest = met_count (leaf_lists (laid (f + suc n.below) ns)) in
      let both = child-walked f n (placed child_of (f + suc n.below) ns) most rest (is_met region (box_of n.points)) refl (h.0.met f here) (children-walked (f + suc n.below) ns h.1 behind) in
      omega (arith, both, lists-more (n.pages f) (laid (f + suc n.below) ns))

  inner-few : (ns : List (Node Entry Child)) → AllByRecursion IsWalked ns → (f : ℕ) → AreThere tree.shape bytes f ((inner child_of ns).pages f)
      → leaf_count (down (f + size ns)) ≤ met_count (leaf_lists ((inner child_of ns).pages f))
  inner-few ns h f there =
      let page : PointPage = Inner (placed child_of f ns) in
      let own_page = there-back tree.shape bytes f (f + size ns) (laid f ns) (page ∷ []) (omega (arith, length-laid f ns (all-sized ns h))) there in
      let kids = children-walked f ns h (there-front tree.shape bytes f (laid f ns) (page ∷ []) there) in
      omega (arith, count-down (f + size ns) page own_page.0.is, kids, lists-more (laid f ns) (page ∷ []))

  pub inner-walked : (ns : List (Node Entry Child)) → AllByRecursion IsWalked ns → IsWalked (inner child_of ns)
  inner-walked ns h = record {
    sized = λ f. length-append (laid f ns) (Inner (placed child_of f ns) ∷ []) ∙ omega (arith, length-laid f ns (all-sized ns h));
    met = λ f there test. inner-few ns h f there;
    root = λ f there. inr (inner-few ns h f there);
  }

  leaf-one : (es : List Entry) (f : ℕ) → AreThere tree.shape bytes f (Leaf es ∷ []) → leaf_count (down (f + 0)) ≡ 1
  leaf-one es f there =
      let same : f ≡ f + 0 = omega arith in
      count-down (f + 0) (Leaf es) (subst (λ n. page_of tree.shape bytes n ≡ Leaf es) same there.0.is) ∙ omega arith

  leaf-walked : (es : List Entry) → IsWalked (leaf es)
  leaf-walked es = record {
    sized = λ f. refl;
    met = λ f there test. omega (arith, leaf-one es f there, passing-is (λ es. is_met region (box_of es)) true es [] test);
    root = λ f there. inl (omega (arith, leaf-one es f there));
  }

  pub leaves-walked : (rs : List (List Entry)) → AllByRecursion IsWalked (map leaf rs)
  leaves-walked [] = tt
  leaves-walked (r ∷ rs) = (leaf-walked r, leaves-walked rs)
