-- Two tests that hold or fail together.
use Rattle.std.proofs.Common.{◌≡◌, Bool, true, false, refl, sym, ap}
use Rattle.std.specs.Prelude.{◌&&◌}

pub and-both : (a b : Bool) → (a && b) ≡ true → (a ≡ true) × (b ≡ true)
and-both true b e = (refl, e)
and-both false b e = absurd cc

-- where one of two fails, both together do
pub left-false : (p o : Bool) → p ≡ false → false ≡ (p && o)
left-false p o e = sym (ap (λ b. b && o) e)

pub right-false : (p o : Bool) → o ≡ false → false ≡ (p && o)
right-false true o e = sym e
right-false false o e = refl
