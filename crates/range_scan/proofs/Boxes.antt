-- A box that does not meet the region has no point of those that lie in it.
use Rattle.std.proofs.Common.{◌≡◌, ◌≤◌, ◌<◌, inl, inr, ℕ, zero, suc, Bool, true, false, List, [], ◌∷◌, cond, length, get_or, filter, map, refl, ap, ◌∙◌, arith}
use Rattle.std.specs.Prelude.{slice_index}
use Rattle.std.proofs.lemmas.Bool.{cases_Bool, both_ways}
use Rattle.std.proofs.lemmas.List.FromFn.{get_or-map-range_with_len}
use Rattle.cube_point.specs.declared.bounds.Region.{Region}
use Rattle.cube_point.specs.declared.point.Entry.{Entry}
use Rattle.leaf_pack.specs.Cover.{box_of, coordinates, greatest, least}
use Rattle.range_scan.specs.Meeting.{is_inside, is_met}
use Rattle.range_scan.proofs.Tests.{inside-told, met-from}

least-below : {A : Type 0} (f : A → ℕ) (xs : List A) (k : ℕ) (d : A) → k < length xs → least (map f xs) ≤ f (get_or xs k d)
least-below f [] k d lt = absurd (omega (arith, lt))
least-below f (x ∷ []) zero d lt = omega arith
least-below f (x ∷ []) (suc k) d lt = absurd (omega (arith, lt))
least-below f (x ∷ y ∷ xs) zero d lt = omega arith
least-below f (x ∷ y ∷ xs) (suc k) d lt = omega (arith, least-below f (y ∷ xs) k d (omega (arith, lt)))

greatest-above : {A : Type 0} (f : A → ℕ) (xs : List A) (k : ℕ) (d : A) → k < length xs → f (get_or xs k d) ≤ greatest (map f xs)
greatest-above f [] k d lt = absurd (omega (arith, lt))
greatest-above f (x ∷ xs) zero d lt = omega arith
greatest-above f (x ∷ xs) (suc k) d lt = omega (arith, greatest-above f xs k d (omega (arith, lt)))

-- the box of points meets a region in which one of them lies
inside-meets : (region : Region) (es : List Entry) (k : ℕ) (d : Entry) → k < length es → is_inside region (get_or es k d) ≡ true → is_met region (box_of es) ≡ true
unfolding box_of
inside-meets region es k d lt inside =
    let at = (inside-told region (get_or es k d) inside).place in
    met-from region (box_of es) (λ i few.
    let low : slice_index (box_of es).low i ≡ least (coordinates i es) = get_or-map-range_with_len (λ i. least (coordinates i es)) 0 8 i i 0 few (omega arith) in
    let high : slice_index (box_of es).high i ≡ greatest (coordinates i es) = get_or-map-range_with_len (λ i. greatest (coordinates i es)) 0 8 i i 0 few (omega arith) in
    let lower = least-below (λ e. slice_index e.point.at i) es k d lt in
    let upper = greatest-above (λ e. slice_index e.point.at i) es k d lt in
    let here = at i few in
    omega (arith, low, high, lower, upper, here.0, here.1))

pub filter-none : {A : Type 0} (p : A → Bool) (xs : List A) → ((k : ℕ) (d : A) → k < length xs → p (get_or xs k d) ≡ false) → filter p xs ≡ []
filter-none p [] h = refl
filter-none p (x ∷ xs) h =
    ap (λ b. cond b (x ∷ filter p xs) (filter p xs)) (h 0 x (omega arith)) ∙ filter-none p xs (λ k d lt. h (suc k) d (omega (arith, lt)))

pub none-inside : (region : Region) (es : List Entry) → is_met region (box_of es) ≡ false → filter (is_inside region) es ≡ []
none-inside region es apart = filter-none (is_inside region) es (λ k d lt. elim (cases_Bool (is_inside region (get_or es k d))) [
  | inl inside ↦ absurd (both_ways (is_met region (box_of es)) apart (inside-meets region es k d lt inside))
  | inr outside ↦ outside
])
