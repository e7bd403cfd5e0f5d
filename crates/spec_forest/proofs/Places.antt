-- The places of coded facts are points with coordinates within their bits.
use Rattle.std.proofs.Common.{◌≡◌, ◌≤◌, ◌-◌, ℕ, Bool, zero, suc, List, [], ◌∷◌, ◌++◌, map, length, replicate, arith, length-append}
use Rattle.std.specs.Prelude.{slice_index}
use Rattle.std.proofs.lemmas.List.{length-map, length-replicate}
use Rattle.fact_model.specs.declared.fact.Fact.{Fact}
use Rattle.fact_model.specs.Fact.{value_at}
use Rattle.spec_points.specs.Arity.{HasArity}
use Rattle.spec_points.specs.Points.{Names, View, coord, place_of}
use Rattle.spec_points.specs.Agree.{IsCoded}
use Rattle.spec_points.proofs.Arities.{place-arity}
use Rattle.page_fmt.specs.Formats.{is_wide}
use Rattle.page_entry.specs.Stored.{IsCoordinate}
use Rattle.page_entry.proofs.Widths.{narrow-fits}
use Rattle.spec_forest.specs.Storable.{HasCodesFor}

-- eight coordinates within their bits, of which the first are used
pub record IsPlaceOf (wide : Bool) (arity : ℕ) (place : List ℕ) : Type 0 where
  pub used : HasArity arity place
  pub eight : length place ≡ 8
  pub narrow : (i : ℕ) → IsCoordinate wide (slice_index place i)

zero-fits : (wide : Bool) (q i : ℕ) → IsCoordinate wide (slice_index (replicate q 0) i)
zero-fits wide zero i = narrow-fits wide 0 (omega arith)
zero-fits wide (suc q) zero = narrow-fits wide 0 (omega arith)
zero-fits wide (suc q) (suc i) = zero-fits wide q i

codes-fit : (format : ℕ) (names : Names) (view : View) (x : Fact) → HasCodesFor format names x → (q i : ℕ) → IsCoordinate (is_wide format) (slice_index (map (λ a. coord (names a) (value_at x a)) view ++ replicate q 0) i)
codes-fit format names [] x h q i = zero-fits (is_wide format) q i
codes-fit format names (a ∷ view) x h q zero = h a
codes-fit format names (a ∷ view) x h q (suc i) = codes-fit format names view x h q i

pub coded-place : (format : ℕ) (names : Names) (view : View) (x : Fact) → length view ≤ 8 → IsCoded names x → HasCodesFor format names x → IsPlaceOf (is_wide format) (length view) (place_of names view x)
coded-place format names view x few coded narrow =
    let codes : List ℕ = map (λ a. coord (names a) (value_at x a)) view in
    let long : length codes ≡ length view = length-map view (λ a. coord (names a) (value_at x a)) in
    record {
      used = place-arity names view x coded;
      eight = omega (arith, length-append codes (replicate (8 - length codes) 0), length-replicate {A = ℕ} (8 - length codes) 0, few);
      narrow = λ i. codes-fit format names view x narrow (8 - length codes) i;
    }
