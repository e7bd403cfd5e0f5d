-- In a packed tree, where the last dimension alone is bound, a search goes to few leaves.
use Rattle.std.proofs.Common.{◌≡◌, ◌⊎◌, inl, inr, ℕ, zero, suc, ◌+◌, ◌*◌, ◌/◌, ◌%◌, ◌^◌, ◌<◌, ◌≤◌, Bool, true, false, List, [], ◌∷◌, ◌++◌, filter, length, length-append, map, take, drop, refl, sym, ap, ◌∙◌, subst, arith, append-nil, mul-suc}
use Rattle.std.specs.Prelude.{flat_map, slice_index}
use Rattle.std.specs.List.{AllByRecursion}
use Rattle.std.proofs.Math.Nat.{div-add-mod}
use Rattle.std.proofs.lemmas.Bool.{cases_Bool, cases_eq}
use Rattle.std.proofs.lemmas.List.{length-map}
use Rattle.std.proofs.lemmas.List.Elements.{filter-append}
use Rattle.cube_point.specs.declared.bounds.Region.{Region}
use Rattle.cube_point.specs.declared.point.Entry.{Entry}
use Rattle.spec_tree.specs.Counts.{reach, runs_of}
use Rattle.spec_tree.specs.Leaves.{HaveArity, Rise}
use Rattle.spec_tree.specs.Runs.{runs, top}
use Rattle.spec_tree.specs.Tree.{Node, inner, laid, leaf, size}
use Rattle.spec_tree.proofs.Counts.{length-laid}
use Rattle.spec_tree.proofs.Finish.{below_factor}
use Rattle.spec_tree.proofs.Leaves.{leaves-views}
use Rattle.spec_tree.proofs.Pages.{size-cons}
use Rattle.spec_tree.proofs.Room.{twelve}
use Rattle.spec_tree.proofs.Runs.{joined as run_joined, joined-runs, length-runs_of}
use Rattle.spec_tree.proofs.Tops.{every-runs, every-top}
use Rattle.page_fmt.specs.declared.page.Child.{Child}
use Rattle.page_fmt.specs.declared.page.Place.{Place}
use Rattle.page_entry.specs.declared.size.TheConstants.{PAGE}
use Rattle.page_entry.specs.Entries.{ascend, entry_before}
use Rattle.page_fmt.specs.Trees.{fanout_of, room_of}
use Rattle.page_entry.specs.Stored.{FitsLeaf}
use Rattle.page_fmt.specs.Writing.{IsShape}
use Rattle.page_fmt.proofs.Rooms.{fanout-many}
use Rattle.leaf_pack.specs.Cover.{box_of}
use Rattle.leaf_pack.specs.Leaf.{arity_of}
use Rattle.spec_points.proofs.Members.{every-from_All}
use Rattle.tree_pack.specs.Packing.{max_first}
use Rattle.tree_pack.specs.Pages.{Views, child_of, joined, pages_of}
use Rattle.tree_pack.proofs.Lawful.{pages-lawful}
use Rattle.tree_pack.proofs.Standing.{runs-few}
use Rattle.range_scan.specs.Meeting.{is_inside, is_met}
use Rattle.range_scan.specs.Packed.{HoldsTree}
use Rattle.range_scan.specs.Visits.{top_page, visits}
use Rattle.range_scan.proofs.Standing.{AreThere, bytes-there, there-front}
use Rattle.spec_leaves.specs.Leaves.{IsLastBound, leaves_among, most_leaves}
use Rattle.spec_leaves.proofs.Boxes.{high_end, hit-inside, low_end, met-arity, met-touched}
use Rattle.spec_leaves.proofs.Order.{IsOf, ascend-left, ascend-right, last-sorted, last_of}
use Rattle.spec_leaves.proofs.Runs.{packed-runs}
use Rattle.spec_leaves.proofs.Touched.{IsFew, Sorted, every-both, every-left, every-map, every-right, few-bound, few-more, few-touched, hits, is_hit, is_touched, passing-append, passing-fewer, passing-none, touched}
use Rattle.spec_leaves.proofs.Walks.{IsWalked, all-sized, down, inner-walked, leaf_count, leaf_lists, leaves-walked, met_count, top-lists}

every-one : {X : Type 0} (P : X → Type 0) (xs : List X) → ((x : X) → P x) → AllByRecursion P xs
every-one P [] f = tt
every-one P (x ∷ xs) f = (f x, every-one P xs f)

-- ---- the levels end in one page

runs-within : (k q count : ℕ) → 0 < k → count ≤ k * q → runs_of k count ≤ q
runs-within k q count pos few = by (count % k) refl
  where
    whole : k * (count / k) + count % k ≡ count
    whole = div-add-mod count k

    by : (r : ℕ) → count % k ≡ r → runs_of k count ≤ q
    by zero is =
        let next : k * suc q ≡ k * q + k = mul-suc k q in
        let less : count / k < suc q = below_factor k (count / k) (suc q) 0 (omega (arith, whole, is, next, few, pos)) in
        omega (arith, is, less)
    by (suc r) is =
        let less : count / k < q = below_factor k (count / k) q r (omega (arith, whole, is, few)) in
        omega (arith, is, less)

one-top : {N : Type 0} (k : ℕ) (over : List N → N) → 0 < k → (d : ℕ) (ns : List N) → length ns ≤ reach k d → length (top k over d ns) ≤ 1
one-top k over pos zero [] few = omega arith
one-top k over pos (suc d) [] few = omega arith
one-top k over pos zero (x ∷ []) few = omega arith
one-top k over pos (suc d) (x ∷ []) few = omega arith
one-top k over pos zero (x ∷ y ∷ ns) few = absurd (omega (arith, few))
one-top k over pos (suc d) (x ∷ y ∷ ns) few =
    one-top k over pos d (map over (runs k (x ∷ y ∷ ns)))
    (omega (arith, length-map (runs k (x ∷ y ∷ ns)) over, length-runs_of k pos (x ∷ y ∷ ns), runs-within k (reach k d) (length (x ∷ y ∷ ns)) pos few))

module _ (tree : Place) (shape : IsShape tree.shape) (low : tree.first ≤ max_first) (region : Region) (bytes : List ℕ) (points : List Entry) (holds : HoldsTree tree bytes points) where
  abbrev k : ℕ
  k = fanout_of tree.shape

  many : 16 ≤ k
  many = fanout-many tree.shape shape.dims

  abbrev own_lists : List (List Entry)
  own_lists = flat_map (λ v. runs (room_of tree.shape v.0) v.1) holds.views

  abbrev roots : List (Node Entry Child)
  roots = top k (inner child_of) 11 (map leaf own_lists)

  few-lists : length own_lists < 2 ^ 44
  few-lists = omega (
    arith,
    holds.are_views.points.few,
    ap length (leaves-views arity_of (room_of tree.shape) holds.views holds.are_views.fit),
    runs-few arity_of (room_of tree.shape) [] (joined holds.views),
    ap length holds.are_views.join,
  )

  one-root : length roots ≤ 1
  one-root = one-top k (inner child_of) (omega (arith, many)) 11 (map leaf own_lists)
      (omega (arith, length-map own_lists (leaf {C = Child}), few-lists, twelve k (length own_lists) many few-lists))

  stand : AreThere tree.shape bytes tree.first (pages_of tree.shape tree.first holds.views)
  stand = bytes-there tree.shape bytes shape tree.first (pages_of tree.shape tree.first holds.views) (pages-lawful tree.shape shape tree.first holds.views points holds.are_views low)
      (ap (λ n. take (PAGE * n) (drop (PAGE * tree.first) bytes)) holds.count ∙ holds.bytes_are)

  all-walked : AllByRecursion (IsWalked tree region bytes) roots
  all-walked = every-top (IsWalked tree region bytes) k (inner child_of) (inner-walked tree region bytes) 11 (map leaf own_lists) (leaves-walked tree region bytes own_lists)

  abbrev count : List ℕ → ℕ
  count numbers = leaf_count tree region bytes numbers

  by-root : (ns : List (Node Entry Child)) → length ns ≤ 1 → AllByRecursion (IsWalked tree region bytes) ns → AreThere tree.shape bytes tree.first (laid tree.first ns)
      → (pages : ℕ) → size ns ≡ pages → (count (flat_map (down tree region bytes) (top_page tree.first pages)) ≤ 1)
      ⊎ (count (flat_map (down tree region bytes) (top_page tree.first pages)) ≤ met_count tree region bytes (leaf_lists (laid tree.first ns)))
  by-root [] one h there zero is = inl (omega arith)
  by-root [] one h there (suc pages) is = absurd (omega (arith, is))
  by-root (n ∷ []) one h there zero is = absurd (omega (arith, is, size-cons n []))
  by-root (n ∷ []) one h there (suc pages) is =
      let same : n.below ≡ pages = omega (arith, is, size-cons n []) in
      let ways : flat_map (down tree region bytes) (top_page tree.first (suc pages)) ≡ down tree region bytes (tree.first + n.below)
      = append-nil (down tree region bytes (tree.first + pages)) ∙ ap (λ b. down tree region bytes (tree.first + b)) (sym same) in
      let lists : leaf_lists (n.pages tree.first) ≡ leaf_lists (laid tree.first (n ∷ [])) = ap leaf_lists (sym (append-nil (n.pages tree.first))) in
      elim (h.0.root tree.first (there-front tree.shape bytes tree.first (n.pages tree.first) [] there)) [
        | inl single ↦ inl (omega (arith, single, ap count ways))
        | inr few ↦ inr (omega (arith, few, ap count ways, ap (met_count tree region bytes) lists))
      ]
  by-root (n ∷ m ∷ ns) one h there pages is = absurd (omega (arith, one))

  -- the leaves gone to are one, or no more than meet the region
  walked : (count (visits tree region bytes) ≤ 1) ⊎ (count (visits tree region bytes) ≤ met_count tree region bytes own_lists)
  unfolding visits
  walked = elim (by-root roots one-root all-walked stand tree.pages (sized ∙ holds.count)) [
    | inl one ↦ inl one
    | inr few ↦ inr (omega (arith, few, ap (met_count tree region bytes) (top-lists k 11 tree.first own_lists)))
  ]
    where
      sized : size roots ≡ length (pages_of tree.shape tree.first holds.views)
      sized = sym (length-laid tree.first roots (all-sized tree region bytes roots all-walked))

  -- ---- the leaves that meet the region

  module _ (j : ℕ) (bound : IsLastBound tree.shape.wide j region) where
    abbrev capacity : ℕ
    capacity = room_of tree.shape (suc j)

    abbrev found : List Entry → ℕ
    found es = length (filter (is_inside region) es)

    abbrev met : List (List Entry) → ℕ
    met rs = met_count tree region bytes rs

    -- an entry of an arity, as a leaf may hold it
    abbrev IsAt : ℕ → Entry → Type 0
    IsAt arity e = (e.point.arity ≡ arity) × FitsLeaf tree.shape e

    -- no leaf of another arity does
    other-none : (arity : ℕ) → (arity ≡ suc j → ⊥) → (rs : List (List Entry)) → AllByRecursion (AllByRecursion (IsAt arity)) rs → met rs ≡ 0
    other-none arity other rs all = passing-none (λ es. is_met region (box_of es)) rs
        (every-map (AllByRecursion (IsAt arity)) (λ es. is_met region (box_of es) ≡ false)
        (λ es at. elim (cases_Bool (is_met region (box_of es))) [
          | inl is ↦ absurd (other (met-arity tree.shape j region bound es is arity at))
          | inr not ↦ not
        ]) rs all)

    -- those of the view are few
    own-few : (es : List Entry) → 0 < capacity → AllByRecursion (IsAt (suc j)) es → ascend entry_before es ≡ true → IsFew capacity (met (runs capacity es)) (found es)
    own-few es some all order =
        let z = last_of tree.shape j bound.few in
        let from = low_end tree.shape j region bound in
        let to = high_end tree.shape j region bound in
        let rs = runs capacity es in
        let same : run_joined rs ≡ es = joined-runs capacity es in
        let few = few-touched z from to capacity some rs (packed-runs z from to capacity some es)
        (subst (λ l. Sorted z from to l) (sym same) (last-sorted tree.shape j bound.few from to es all order)) in
        few-more capacity (touched z from to rs) (met rs) (hits z from to (run_joined rs)) (found es)
        (passing-fewer (λ es. is_met region (box_of es)) (is_touched z from to) rs (every-one (λ r. is_met region (box_of r) ≡ true → is_touched z from to r ≡ true) rs (λ r is. met-touched tree.shape j region bound r is)))
        (omega (
          arith,
          ap (hits z from to) same,
          passing-fewer (is_hit z from to) (is_inside region) es (every-map (IsAt (suc j)) (λ e. is_hit z from to e ≡ true → is_inside region e ≡ true) (hit-inside tree.shape j region bound) es all),
        )) few

    later-arities : (v : ℕ × List Entry) (views : Views) → Rise (v ∷ views) → AllByRecursion (λ w. v.0 < w.0) views
    later-arities v [] rise = tt
    later-arities v (w ∷ views) rise = (rise.0, every-map (λ u. w.0 < u.0) (λ u. v.0 < u.0) (λ u less. omega (arith, less, rise.0)) views (later-arities w views rise.1))

    rise-tail : (v : ℕ × List Entry) (views : Views) → Rise (v ∷ views) → Rise views
    rise-tail v [] rise = tt
    rise-tail v (w ∷ views) rise = rise.1

    -- the leaves of views
    abbrev lists_of : Views → List (List Entry)
    lists_of views = flat_map (λ v. runs (room_of tree.shape v.0) v.1) views

    abbrev AreAt : Views → Type 0
    AreAt views = AllByRecursion (λ v. AllByRecursion (IsAt v.0) v.1) views

    met-append : (xs ys : List (List Entry)) → met (xs ++ ys) ≡ met xs + met ys
    met-append xs ys = passing-append (λ es. is_met region (box_of es)) xs ys

    found-append : (xs ys : List Entry) → found (xs ++ ys) ≡ found xs + found ys
    found-append xs ys = passing-append (is_inside region) xs ys

    view-none : (v : ℕ × List Entry) → AllByRecursion (IsAt v.0) v.1 → (v.0 ≡ suc j → ⊥) → met (runs (room_of tree.shape v.0) v.1) ≡ 0
    view-none v all other = other-none v.0 other (runs (room_of tree.shape v.0) v.1) (every-runs (IsAt v.0) (room_of tree.shape v.0) v.1 all)

    others-none : (views : Views) → AreAt views → AllByRecursion (λ w. suc j < w.0) views → met (lists_of views) ≡ 0
    others-none [] all later = refl
    others-none (v ∷ views) all later =
        met-append (runs (room_of tree.shape v.0) v.1) (lists_of views)
        ∙ (λ i. view-none v all.0 (λ is. omega (arith, is, later.0)) i + others-none views all.1 later.1 i)

    few-views : (views : Views) → AreAt views → Rise views → AllByRecursion (λ v. 0 < room_of tree.shape v.0) views → ascend entry_before (joined views) ≡ true
        → IsFew capacity (met (lists_of views)) (found (joined views))
    few-views [] all rise rooms order = inl (omega arith)
    few-views (v ∷ views) all rise rooms order =
        let own = runs (room_of tree.shape v.0) v.1 in
        let both = met-append own (lists_of views) in
        let points_both = found-append v.1 (joined views) in
        elim (cases_eq v.0 (suc j)) [
          | inl is ↦
              let rest : met (lists_of views) ≡ 0 = others-none views all.1 (subst (λ a. AllByRecursion (λ w. a < w.0) views) is (later-arities v views rise)) in
              let few : IsFew capacity (met (runs capacity v.1)) (found v.1) = own-few v.1 (subst (λ a. 0 < room_of tree.shape a) is rooms.0)
              (subst (λ a. AllByRecursion (IsAt a) v.1) is all.0) (ascend-left v.1 (joined views) order) in
              few-more capacity (met (runs capacity v.1)) (met (own ++ lists_of views)) (found v.1) (found (v.1 ++ joined views))
              (omega (arith, both, rest, ap (λ a. met (runs (room_of tree.shape a) v.1)) is)) (omega (arith, points_both)) few
          | inr other ↦
              few-more capacity (met (lists_of views)) (met (own ++ lists_of views)) (found (joined views)) (found (v.1 ++ joined views))
              (omega (arith, both, view-none v all.0 other)) (omega (arith, points_both)) (few-views views all.1 (rise-tail v views rise) rooms.1 (ascend-right v.1 (joined views) order))
        ]

    are-at : (views : Views) → AllByRecursion (λ v. HaveArity arity_of v.0 v.1) views → AllByRecursion (FitsLeaf tree.shape) (joined views) → AreAt views
    are-at [] arities fit = tt
    are-at (v ∷ views) arities fit = (
      every-both (λ (e : Entry). e.point.arity ≡ v.0) (FitsLeaf tree.shape) v.1 arities.0 (every-left (FitsLeaf tree.shape) v.1 (joined views) fit),
      are-at views arities.1 (every-right (FitsLeaf tree.shape) v.1 (joined views) fit),
    )

    few-met : IsFew capacity (met own_lists) (found points)
    few-met =
        let views = holds.are_views in
        let fit : AllByRecursion (FitsLeaf tree.shape) (joined holds.views) = subst (AllByRecursion (FitsLeaf tree.shape)) (sym views.join) (every-from_All (FitsLeaf tree.shape) points views.points.good) in
        subst (λ (l : List Entry). IsFew capacity (met own_lists) (found l)) views.join
        (few-views holds.views (are-at holds.views views.fit.arities fit) views.fit.rise views.fit.rooms (ap (ascend entry_before) views.join ∙ views.points.order))

    -- the leaves gone to
    pub leaves-few : 0 < capacity → length (leaves_among tree bytes (visits tree region bytes)) ≤ most_leaves (length (filter (is_inside region) points)) capacity
    leaves-few some = elim walked [
      | inl one ↦ omega (arith, one)
      | inr few ↦ omega (arith, few, few-bound capacity (met own_lists) (found points) some few-met)
    ]
