-- Codes within the limits of numbers and names are coordinates.
use Rattle.std.proofs.Common.{ℕ, suc, ◌≤◌, Bool, true, false, cond, List, [], ◌∷◌, length, Option, Some, None, option_map, unwrap_or, arith}
use Rattle.std.specs.Str.{bytes_eq}
use Rattle.fact_model.specs.declared.fact.Value.{Value}
use Rattle.fact_model.specs.declared.fact.Value.TheVariants.{Word, Number}
use Rattle.fact_model.specs.declared.fact.Fact.{Fact}
use Rattle.fact_model.specs.Fact.{value_at}
use Rattle.spec_points.specs.Codes.{Text, place}
use Rattle.spec_points.specs.Points.{Names, coord}
use Rattle.fact_model.specs.Limits.{IsWithin, number_limit}
use Rattle.spec_points.specs.Agree.{InRange, name_limit}

-- a text's code is at most the number of names
pub place-below : {A : Type 0} (same : A → A → Bool) (x : A) (ys : List A) → unwrap_or (option_map suc (place same x ys)) 0 ≤ length ys
place-below same x [] = omega arith
place-below same x (y ∷ ys) = elim (same x y) as (λ b. unwrap_or (option_map suc (cond b (Some 0) (option_map suc (place same x ys)))) 0 ≤ length (y ∷ ys))
    [ true ↦ omega arith | false ↦ by (place same x ys) (place-below same x ys) ]
  where
    by : (o : Option ℕ) → unwrap_or (option_map suc o) 0 ≤ length ys → unwrap_or (option_map suc (option_map suc o)) 0 ≤ length (y ∷ ys)
    by None h = omega arith
    by (Some i) h = omega arith

-- a code within the limits
pub coord-below : (ts : List Text) (v : Value) → length ts ≤ name_limit → IsWithin number_limit v → coord ts v ≤ suc number_limit
coord-below ts (Word t) l h = omega (arith, place-below bytes_eq t ts)
coord-below ts (Number n) l h = omega arith

-- a fact within the limits has coordinates for codes
pub in-range : (ns : Names) (x : Fact) → ((a : ℕ) → length (ns a) ≤ name_limit) → ((a : ℕ) → IsWithin number_limit (value_at x a)) → InRange ns x
in-range ns x l h a = omega (arith, coord-below (ns a) (value_at x a) (l a) (h a))
