-- A value as the index of parents holds it, and what its hash takes in.
use Rattle.std.specs.Prelude.{◌≡◌, ℕ, true, List, [], ◌∷◌, Option, Some, None}
use Rattle.std.specs.Cmp.{IsEquivalence, eq_by_cmp_equiv}
use Rattle.std.specs.Hash.{HashWrites, u64}
use Rattle.std.proofs.Common.{ap}
use Rattle.fact_model.specs.Value.{same_value, value_cmp}
use Rattle.fact_model.specs.declared.fact.Value.{Value}
use Rattle.fact_model.specs.declared.fact.Value.TheVariants.{Word, Number}
use Rattle.fact_model.proofs.ValueOrder.{value_cmp-IsAntisymmetric, value-total}
use Rattle.row_fold.proofs.Groups.{equal-from_is}

-- the number, or else the text
abbrev pub child_of : Option ℕ → List ℕ → Value
child_of (Some n) text = Number n
child_of None text = Word text

-- a text as one write of its bytes, a number as one write
abbrev pub fed : Value → HashWrites
fed (Word text) = text ∷ []
fed (Number n) = u64 n

-- ---- what an index requires of its keys

pub same-equiv : IsEquivalence same_value
same-equiv = eq_by_cmp_equiv value-total

-- equal values are hashed alike
pub fed-alike : (v w : Value) → same_value v w ≡ true → fed v ≡ fed w
fed-alike v w same = ap fed (equal-from_is value_cmp value-total value_cmp-IsAntisymmetric v w same)
