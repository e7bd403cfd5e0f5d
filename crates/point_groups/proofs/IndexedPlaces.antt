-- Where the index of places has a place.
use Rattle.std.proofs.Common.{◌≡◌, ℕ, zero, suc, ◌<◌, ◌≤◌, Bool, true, false, not, List, [], ◌∷◌, map, take, length, get_or, refl, sym, ◌∙◌, ap, arith, nat_eq, ◌==◌, ◌&&◌, ◌||◌, true≢false}
use Rattle.std.proofs.lemmas.Bool.{eqb-true, eq-eqb}
use Rattle.std.proofs.lemmas.List.{get_or-map, length-map}
use Rattle.std.proofs.lemmas.List.Folds.{list_any_at, list_any_none}
use Rattle.std.proofs.lemmas.List.Sums.{prefix_len_passes, prefix_len_stops}
use Rattle.std.specs.Cmp.Lexicographic.{pointwise}
use Rattle.std.specs.List.{AllByRecursion, list_any, position_or_len}
use Rattle.cube_point.specs.declared.point.Entry.{Entry}
use Rattle.spec_points.specs.Entries.{pair_of}
use Rattle.spec_points.specs.Points.{PlacedCell}
use Rattle.point_groups.specs.Folded.{AllApart, NoneAt}
use Rattle.point_groups.specs.Kept.{place_of, same_place}

eq-comm : (c d : ℕ) → (c == d) ≡ (d == c)
eq-comm c d = by (c == d) (d == c) refl refl
  where
    by : (a b : Bool) → (c == d) ≡ a → (d == c) ≡ b → a ≡ b
    by true true h k = refl
    by false false h k = refl
    by true false h k = absurd (true≢false (sym (eq-eqb d c (sym (eqb-true c d h))) ∙ k))
    by false true h k = absurd (true≢false (sym (eq-eqb c d (sym (eqb-true d c k))) ∙ h))

pub as-same : (a b : List ℕ) → pointwise nat_eq a b ≡ same_place b a
as-same [] [] = refl
as-same [] (c ∷ cs) = refl
as-same (c ∷ cs) [] = refl
as-same (c ∷ cs) (d ∷ ds) = λ i. eq-comm c d i && as-same cs ds i

pub found-nowhere : (gs : List Entry) (e : Entry) → list_any (pointwise nat_eq e.point.at) (map place_of gs) ≡ false → NoneAt same_place e.point.at (map pair_of gs)
found-nowhere [] e none = tt
found-nowhere (g ∷ gs) e none =
    let p = pointwise nat_eq e.point.at in
    let parts = neither (p g.point.at) (list_any p (map place_of gs)) none in
    (sym (as-same e.point.at g.point.at) ∙ parts.0, found-nowhere gs e parts.1)
  where
    neither : (a b : Bool) → (a || b) ≡ false → (a ≡ false) × (b ≡ false)
    neither true b h = absurd (true≢false h)
    neither false b h = (refl, h)

-- ---- a place put into an index

not-no : (b : Bool) → not b ≡ false → b ≡ true
not-no true h = refl
not-no false h = absurd (true≢false h)

not-yes : (b : Bool) → not b ≡ true → b ≡ false
not-yes true h = absurd (true≢false (sym h))
not-yes false h = refl

abbrev tells : List ℕ → List ℕ → Bool
tells = pointwise nat_eq

-- an index before the end is that of the place
pub placed-there : (gs : List Entry) (e : Entry) (keys : List (List ℕ)) (i : ℕ) → keys ≡ map place_of gs → i ≡ position_or_len (tells e.point.at) keys → i < length gs
    → (same_place (get_or gs i e).point.at e.point.at ≡ true) × (list_any (tells e.point.at) keys ≡ true)
placed-there gs e keys i are is low =
    let long : length keys ≡ length gs = ap length are ∙ length-map gs place_of in
    let here : position_or_len (tells e.point.at) keys < length keys = omega (arith, is, low, long) in
    let passes = not-no (tells e.point.at (get_or keys (position_or_len (tells e.point.at) keys) e.point.at)) (prefix_len_stops (λ k. not (tells e.point.at k)) keys e.point.at here) in
    let at : tells e.point.at (get_or keys i e.point.at) ≡ true = ap (λ n. tells e.point.at (get_or keys n e.point.at)) is ∙ passes in (
      sym (as-same e.point.at (get_or gs i e).point.at)
          ∙ (ap (tells e.point.at) (sym (ap (λ ks. get_or ks i e.point.at) are ∙ get_or-map place_of gs i e e.point.at low)) ∙ at),
      list_any_at (tells e.point.at) keys i e.point.at (omega (arith, low, long)) at,
    )

-- and at the end no point has it
pub placed-nowhere : (gs : List Entry) (e : Entry) (keys : List (List ℕ)) (i : ℕ) → keys ≡ map place_of gs → i ≡ position_or_len (tells e.point.at) keys → length gs ≤ i
    → list_any (tells e.point.at) keys ≡ false
placed-nowhere gs e keys i are is past =
    let long : length keys ≡ length gs = ap length are ∙ length-map gs place_of in
    list_any_none (tells e.point.at) keys (λ k d low. not-yes (tells e.point.at (get_or keys k d)) (prefix_len_passes (λ key. not (tells e.point.at key)) keys k d (omega (arith, low, is, past, long))))

-- ---- an index of all places

apart-at : (k : List ℕ) (gs : List Entry) (i : ℕ) (d : Entry) → i < length gs → AllByRecursion (λ (h : PlacedCell). same_place k h.0 ≡ false) (map pair_of gs) → same_place k (get_or gs i d).point.at ≡ false
apart-at k [] i d low all = absurd (omega (arith, low))
apart-at k (g ∷ gs) zero d low all = all.0
apart-at k (g ∷ gs) (suc i) d low all = apart-at k gs i d (omega (arith, low)) all.1

-- the place of a point is not among those before it
pub none-before : (gs : List Entry) (i : ℕ) (d : Entry) → i < length gs → AllApart same_place (map pair_of gs) → list_any (tells (get_or gs i d).point.at) (map place_of (take i gs)) ≡ false
none-before [] i d low apart = absurd (omega (arith, low))
none-before (g ∷ gs) zero d low apart = refl
none-before (g ∷ gs) (suc i) d low apart =
    λ j. ((as-same (get_or gs i d).point.at g.point.at ∙ apart-at g.point.at gs i d (omega (arith, low)) apart.0) j || none-before gs i d (omega (arith, low)) apart.1 j)
