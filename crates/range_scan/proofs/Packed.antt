-- A packed tree is searched.
use Rattle.std.proofs.Common.{◌≡◌, ◌≤◌, ◌<◌, ◌+◌, ◌*◌, ◌/◌, ◌%◌, ◌^◌, ℕ, zero, suc, List, [], ◌∷◌, ◌++◌, get_or, length, length-append, map, take, drop, Result, Ok, Err, refl, sym, ap, ◌∙◌, subst, arith, append-nil, mul-suc}
use Rattle.std.specs.Prelude.{IfErr, flat_map}
use Rattle.std.specs.List.{Contains}
use Rattle.std.proofs.Math.Nat.{div-add-mod}
use Rattle.std.proofs.lemmas.List.{length-map}
use Rattle.std.proofs.lemmas.List.Elements.{All-contains, All-nil}
use Rattle.cube_point.specs.declared.bounds.Region.{Region}
use Rattle.cube_point.specs.declared.point.Entry.{Entry}
use Rattle.spec_tree.specs.Counts.{reach, runs_of}
use Rattle.spec_tree.specs.Runs.{runs, top}
use Rattle.spec_tree.specs.Tree.{Node, inner, laid, leaf, size}
use Rattle.spec_tree.proofs.Counts.{length-laid}
use Rattle.spec_tree.proofs.Finish.{below_factor}
use Rattle.spec_tree.proofs.Leaves.{leaves-views}
use Rattle.spec_tree.proofs.Pages.{size-cons}
use Rattle.spec_tree.proofs.Room.{twelve}
use Rattle.spec_tree.proofs.Runs.{length-runs_of}
use Rattle.spec_tree.proofs.Tops.{every-top}
use Rattle.page_fmt.specs.declared.page.Child.{Child}
use Rattle.page_fmt.specs.declared.page.Place.{Place}
use Rattle.page_entry.specs.declared.size.TheConstants.{PAGE}
use Rattle.page_fmt.specs.Trees.{fanout_of, room_of}
use Rattle.page_fmt.specs.Writing.{IsShape}
use Rattle.page_fmt.proofs.Rooms.{fanout-many}
use Rattle.leaf_pack.specs.Leaf.{arity_of}
use Rattle.tree_pack.specs.Packing.{max_first}
use Rattle.tree_pack.specs.Pages.{child_of, joined, pages_of}
use Rattle.tree_pack.proofs.Lawful.{pages-lawful}
use Rattle.tree_pack.proofs.Standing.{runs-few}
use Rattle.tree_pack.proofs.Whole.{pages-entries}
use Rattle.range_scan.specs.Packed.{HoldsTree, IsUndamaged}
use Rattle.range_scan.specs.Searching.{IsFirstBad, IsSearched, IsSound}
use Rattle.range_scan.specs.Visits.{top_page, visits}
use Rattle.range_scan.specs.declared.walk.SearchStop.{SearchStop}
use Rattle.range_scan.specs.declared.walk.SearchStop.TheVariants as stops
use Rattle.range_scan.proofs.Ranges.{none-once}
use Rattle.range_scan.proofs.Standing.{AreThere, bytes-there, there-front}
use Rattle.range_scan.proofs.Trees.{AreAllFound, AreFound, IsFound, all-sized, down, entries-laid, inner-found, leaves-found, points_of}

-- ---- the levels end in one page

-- so many elements make no more runs than this
runs-within : (k q count : ℕ) → 0 < k → count ≤ k * q → runs_of k count ≤ q
runs-within k q count pos few = by (count % k) refl
  where
    whole : k * (count / k) + count % k ≡ count
    whole = div-add-mod count k

    by : (r : ℕ) → count % k ≡ r → runs_of k count ≤ q
    by zero is =
        let next : k * suc q ≡ k * q + k = mul-suc k q in
        let less : count / k < suc q = below_factor k (count / k) (suc q) 0 (omega (arith, whole, is, next, few, pos)) in
        omega (arith, is, less)
    by (suc r) is =
        let less : count / k < q = below_factor k (count / k) q r (omega (arith, whole, is, few)) in
        omega (arith, is, less)

one-top : {N : Type 0} (k : ℕ) (over : List N → N) → 0 < k → (d : ℕ) (ns : List N) → length ns ≤ reach k d → length (top k over d ns) ≤ 1
one-top k over pos zero [] few = omega arith
one-top k over pos (suc d) [] few = omega arith
one-top k over pos zero (x ∷ []) few = omega arith
one-top k over pos (suc d) (x ∷ []) few = omega arith
one-top k over pos zero (x ∷ y ∷ ns) few = absurd (omega (arith, few))
one-top k over pos (suc d) (x ∷ y ∷ ns) few =
    one-top k over pos d (map over (runs k (x ∷ y ∷ ns)))
    (omega (arith, length-map (runs k (x ∷ y ∷ ns)) over, length-runs_of k pos (x ∷ y ∷ ns), runs-within k (reach k d) (length (x ∷ y ∷ ns)) pos few))

module _ (tree : Place) (shape : IsShape tree.shape) (low : tree.first ≤ max_first) (region : Region) (bytes : List ℕ) (points : List Entry) (holds : HoldsTree tree bytes points) where
  abbrev k : ℕ
  k = fanout_of tree.shape

  many : 16 ≤ k
  many = fanout-many tree.shape shape.dims

  abbrev leaf_lists : List (List Entry)
  leaf_lists = flat_map (λ v. runs (room_of tree.shape v.0) v.1) holds.views

  abbrev roots : List (Node Entry Child)
  roots = top k (inner child_of) 11 (map leaf leaf_lists)

  few-leaves : length leaf_lists < 2 ^ 44
  few-leaves = omega (
    arith,
    holds.are_views.points.few,
    ap length (leaves-views arity_of (room_of tree.shape) holds.views holds.are_views.fit),
    runs-few arity_of (room_of tree.shape) [] (joined holds.views),
    ap length holds.are_views.join,
  )

  leaves-few : length (map (leaf {C = Child}) leaf_lists) ≤ reach k 11
  leaves-few = omega (arith, length-map leaf_lists (leaf {C = Child}), few-leaves, twelve k (length leaf_lists) many few-leaves)

  one-root : length roots ≤ 1
  one-root = one-top k (inner child_of) (omega (arith, many)) 11 (map leaf leaf_lists) leaves-few

  stand : AreThere tree.shape bytes tree.first (pages_of tree.shape tree.first holds.views)
  stand = bytes-there tree.shape bytes shape tree.first (pages_of tree.shape tree.first holds.views) (pages-lawful tree.shape shape tree.first holds.views points holds.are_views low)
      (ap (λ n. take (PAGE * n) (drop (PAGE * tree.first) bytes)) holds.count ∙ holds.bytes_are)

  all-found : AreAllFound tree region bytes roots
  all-found = every-top (IsFound tree region bytes) k (inner child_of) (inner-found tree region bytes) 11 (map leaf leaf_lists) (leaves-found tree region bytes leaf_lists)

  points-are : points_of roots ≡ points
  points-are = sym (entries-laid tree region bytes tree.first roots all-found) ∙ (pages-entries tree.shape shape holds.views points holds.are_views tree.first ∙ holds.are_views.join)

  by-root : (ns : List (Node Entry Child)) → length ns ≤ 1 → AreAllFound tree region bytes ns → AreThere tree.shape bytes tree.first (laid tree.first ns)
      → (pages : ℕ) → size ns ≡ pages → AreFound tree region bytes tree.first (points_of ns) pages (flat_map (down tree region bytes) (top_page tree.first pages))
  by-root [] one h there zero is = record { finds = refl; few = omega arith; once = none-once tree.first 0; sound = All-nil (IsSound tree bytes) }
  by-root [] one h there (suc pages) is = absurd (omega (arith, is))
  by-root (n ∷ []) one h there zero is = absurd (omega (arith, is, size-cons n []))
  by-root (n ∷ []) one h there (suc pages) is =
      let same : n.below ≡ pages = omega (arith, is, size-cons n []) in
      let all : n.points ≡ points_of (n ∷ []) = sym (append-nil n.points) in
      let ways = append-nil (down tree region bytes (tree.first + pages)) in
      subst (AreFound tree region bytes tree.first (points_of (n ∷ [])) (suc pages)) (sym ways)
      (subst (λ (b : ℕ). AreFound tree region bytes tree.first (points_of (n ∷ [])) (suc b) (down tree region bytes (tree.first + b))) same
      (subst (λ (l : List Entry). AreFound tree region bytes tree.first l (suc n.below) (down tree region bytes (tree.first + n.below))) all
      (h.0.found tree.first (omega arith) (there-front tree.shape bytes tree.first (n.pages tree.first) [] there))))
  by-root (n ∷ m ∷ ns) one h there pages is = absurd (omega (arith, one))

  -- the pages that the search goes to are sound, no more than the tree has, each once of its own, and have its points in the region
  pub packed-found : AreFound tree region bytes tree.first points tree.pages (visits tree region bytes)
  unfolding visits
  packed-found =
      subst (λ (l : List Entry). AreFound tree region bytes tree.first l tree.pages (visits tree region bytes)) points-are
      (by-root roots one-root all-found stand tree.pages (sized ∙ holds.count))
    where
      sized : size roots ≡ length (pages_of tree.shape tree.first holds.views)
      sized = sym (length-laid tree.first roots (all-sized tree region bytes roots all-found))

  undamaged : (page : ℕ) → IsFirstBad tree region bytes page → ⊥
  undamaged page is =
      let within : length is.before < tree.pages = omega (arith, packed-found.few, ap length is.split, length-append is.before (page ∷ is.after)) in
      is.bad within (All-contains (IsSound tree bytes) (visits tree region bytes) page packed-found.sound (there is.before (visits tree region bytes) is.split))
    where
      there : (before l : List ℕ) → l ≡ before ++ page ∷ is.after → Contains l page
      there before l split = subst (λ (m : List ℕ). Contains m page) (sym split)
          (length before, omega (arith, length-append before (page ∷ is.after)), at before)
        where
          at : (b : List ℕ) → get_or (b ++ page ∷ is.after) (length b) page ≡ page
          at [] = refl
          at (x ∷ b) = at b

  -- so no page is damaged
  pub packed-searched : (result : Result (Unit {0}) SearchStop) → IsSearched tree region bytes result → IfErr result IsUndamaged
  packed-searched (Ok done) is = tt
  packed-searched (Err stops.Disk) is = tt
  packed-searched (Err stops.Memory) is = tt
  packed-searched (Err (stops.Damaged page)) is = undamaged page is
