-- Points of the right arities as the views of a tree that is packed.
use Rattle.std.proofs.Common.{◌≡◌, ◌≤◌, ◌<◌, ◌+◌, ◌*◌, ◌^◌, ℕ, zero, suc, inl, inr, None, List, [], ◌∷◌, ◌++◌, length, map, take, drop, refl, ap, sym, ◌∙◌, arith, subst}
use Rattle.std.specs.Prelude.{flat_map, replicate, slice_index}
use Rattle.std.specs.List.{AllByRecursion, range_with_len, sum_by}
use Rattle.std.proofs.lemmas.List.{length-map, take-append-drop}
use Rattle.std.proofs.lemmas.List.Concat.{length-flat_map}
use Rattle.std.proofs.lemmas.List.Sums.{sum_by-cons}
use Rattle.cube_point.specs.declared.point.Entry.{Entry}
use Rattle.cube_point.specs.declared.point.Shape.{Shape}
use Rattle.leaf_pack.specs.Leaf.{arity_of}
use Rattle.spec_tree.specs.Counts.{counts_of, tree_pages as pages_by_counts}
use Rattle.spec_tree.specs.Leaves.{HaveArity, Rise}
use Rattle.spec_tree.specs.Levels.{full_level, rest_level}
use Rattle.spec_tree.specs.Packing.{IsPackable, PacksMany, start}
use Rattle.spec_tree.proofs.Room.{twelve-hold}
use Rattle.spec_tree.proofs.Steps.{packs-fewer, packs-goes-on, packs-prefix, packs-tree}
use Rattle.spec_tree.proofs.Tops.{every-map}
use Rattle.page_fmt.specs.declared.tree.TheConstants.{ARITIES}
use Rattle.page_fmt.specs.Trees.{by_arity, fanout_of, room_of, tree_pages}
use Rattle.page_fmt.specs.Writing.{IsShape}
use Rattle.page_fmt.proofs.Rooms.{fanout-many, room-some}
use Rattle.tree_pack.specs.Moving.{IsMoving, Moving, state_of}
use Rattle.tree_pack.specs.Packing.{child_over}
use Rattle.tree_pack.specs.Pages.{PointPage, Views, child_of, joined, pages_of}
use Rattle.tree_pack.proofs.Law.{child-law}
use Rattle.audit_tree.specs.Broken.{AreFew}
use Rattle.audit_tree.specs.Numbers.{arities, cut, views_of}
use Rattle.audit_tree.proofs.Arities.{arities-few}
use Rattle.audit_tree.proofs.Leaves.{arities-cut}

pub no-points : (es : List Entry) → map arity_of es ≡ [] → es ≡ []
no-points [] h = refl
no-points (e ∷ es) h = absurd cc

abbrev many_of : List (ℕ × ℕ) → List ℕ
many_of cs = flat_map (λ c. replicate c.1 c.0) cs

cut-arities : (cs : List (ℕ × ℕ)) (es : List Entry) → map arity_of es ≡ many_of cs → AllByRecursion (λ v. HaveArity arity_of v.0 v.1) (cut cs es)
cut-arities [] es h = tt
cut-arities (c ∷ cs) es h = let is = arities-cut c.0 c.1 (many_of cs) es h in (is.own, cut-arities cs (drop c.1 es) is.rest)

cut-joined : (cs : List (ℕ × ℕ)) (es : List Entry) → map arity_of es ≡ many_of cs → joined (cut cs es) ≡ es
cut-joined [] es h = sym (no-points es h)
cut-joined (c ∷ cs) es h =
    let is = arities-cut c.0 c.1 (many_of cs) es h in
    ap (λ (l : List Entry). take c.1 es ++ l) (cut-joined cs (drop c.1 es) is.rest) ∙ take-append-drop c.1 es

cut-counts : (cs : List (ℕ × ℕ)) (es : List Entry) → map arity_of es ≡ many_of cs → counts_of (cut cs es) ≡ cs
cut-counts [] es h = refl
cut-counts (c ∷ cs) es h =
    let is = arities-cut c.0 c.1 (many_of cs) es h in
    (λ i. (c.0, is.many i) ∷ cut-counts cs (drop c.1 es) is.rest i)

cut-rise : (f : ℕ → ℕ) (s n : ℕ) (es : List Entry) → Rise (cut (map (λ a. (a, f a)) (range_with_len s n)) es)
cut-rise f s zero es = tt
cut-rise f s (suc zero) es = tt
cut-rise f s (suc (suc n)) es = (omega arith, cut-rise f (s + 1) (suc n) (drop (f s) es))

cut-rooms : (shape : Shape) (four : shape.measures ≤ 4) (f : ℕ → ℕ) (s n : ℕ) (es : List Entry) → s + n ≤ 9 → AllByRecursion (λ v. 0 < room_of shape v.0) (cut (map (λ a. (a, f a)) (range_with_len s n)) es)
cut-rooms shape four f s zero es le = tt
cut-rooms shape four f s (suc n) es le =
    let some = room-some s shape (omega (arith, le)) four in
    (omega (arith, some), cut-rooms shape four f (s + 1) n (drop (f s) es) (omega (arith, le)))

counts-sum : (vs : Views) → sum_by (λ c. c.1) (counts_of vs) ≡ sum_by (λ v. length v.1) vs
counts-sum [] = refl
counts-sum (v ∷ vs) = omega (arith, sum_by-cons (λ c. c.1) (v.0, length v.1) (counts_of vs), sum_by-cons (λ w. length w.1) v vs, counts-sum vs)

module _ (shape : Shape) (is : IsShape shape) (counts : List ℕ) (few : AreFew counts) (all : List Entry) (numbers : map arity_of all ≡ arities counts) where
  abbrev views : Views
  views = views_of counts all

  pub views-join : joined views ≡ all
  views-join = cut-joined (by_arity ARITIES counts) all numbers

  pub views-few : length all ≤ 9 * 2 ^ 40
  views-few = let long = arities-few counts few in omega (arith, sym (length-map all arity_of), ap length numbers, long)

  rooms : AllByRecursion (λ v. 0 < room_of shape v.0) views
  rooms = cut-rooms shape is.measures (slice_index counts) 0 9 all (omega arith)

  pub views-packable : IsPackable arity_of (room_of shape) (fanout_of shape) views
  views-packable =
      let long : length (joined views) ≡ sum_by (λ v. length v.1) views = length-flat_map (λ v. v.1) views in
      record {
        views_fit = record { arities = cut-arities (by_arity ARITIES counts) all numbers; rise = cut-rise (slice_index counts) 0 9 all; rooms = rooms };
        fanout = omega (arith, fanout-many shape is.dims);
        few = twelve-hold (room_of shape) (fanout_of shape) (counts_of views) (fanout-many shape is.dims)
            (every-map (λ (v : ℕ × List Entry). 0 < room_of shape v.0) (λ (c : ℕ × ℕ). 0 < room_of shape c.0) (λ (v : ℕ × List Entry). (v.0, length v.1)) (λ v h. h) views rooms)
            (omega (arith, counts-sum views, long, ap length views-join, views-few));
      }

  module _ (first : ℕ) (pages : List PointPage) (to_come : List Entry) (m : Moving) (same : m.shape ≡ shape) (moving : IsMoving first all pages to_come m) where
    written : PacksMany arity_of (room_of shape) (fanout_of shape) child_of child_over (start first (joined views)) pages (state_of to_come m)
    written = subst (λ (es : List Entry). PacksMany arity_of (room_of shape) (fanout_of shape) child_of child_over (start first es) pages (state_of to_come m)) (sym views-join)
        (subst (λ (s : Shape). PacksMany arity_of (room_of s) (fanout_of s) child_of child_over (start first all) pages (state_of to_come m)) same moving.packed)

    -- the pages are the first of the packing
    pub views-front : (later : List PointPage) × (pages_of shape first views ≡ pages ++ later)
    views-front = packs-prefix arity_of (room_of shape) (fanout_of shape) child_of child_over child-law first views views-packable written

    -- and all of them where nothing is left
    pub views-all : to_come ≡ [] → m.buffer ≡ [] → full_level (fanout_of shape) m.levels ≡ None → rest_level m.levels ≡ None → pages ≡ pages_of shape first views
    views-all nothing empty none rest = packs-tree arity_of (room_of shape) (fanout_of shape) child_of child_over child-law first views views-packable written
        (record { to_come = λ j. empty j ++ nothing j; buffer = refl; full = none; rest = rest })

    -- where as many are written as the tree has, nothing is left
    pub views-whole : length pages ≡ tree_pages shape counts → m.buffer ≡ [] → (to_come ≡ []) × (pages ≡ pages_of shape first views)
    unfolding tree_pages
    views-whole many empty = elim (packs-goes-on arity_of (room_of shape) (fanout_of shape) child_of child_over (state_of to_come m)) [
      | inl done ↦ (
        ap (λ (b : List Entry). b ++ to_come) (sym empty) ∙ done.to_come,
        packs-tree arity_of (room_of shape) (fanout_of shape) child_of child_over child-law first views views-packable written done,
      )
      | inr step ↦
          let fewer = packs-fewer arity_of (room_of shape) (fanout_of shape) child_of child_over child-law first views views-packable written step.2 in
          let same : counts_of views ≡ by_arity ARITIES counts = cut-counts (by_arity ARITIES counts) all numbers in
          absurd (omega (arith, fewer, many, ap (pages_by_counts (room_of shape) (fanout_of shape)) same))
    ]
