-- Which count a fault is added to.
use Rattle.std.specs.Prelude.{◌≡◌, ℕ, Result}
use Rattle.site_core.specs.Causes.{HasCause}

-- a fault of the call is added to the count `asked`, and no fault to the other count
pub record FaultsOf {S A E : Type 0} (asked others : S → ℕ) (old new : S) (result : Result A E) : Type 0 where
  pub cause : HasCause (asked old) (asked new) result
  pub rest : others new ≡ others old
