use Rattle.std.proofs.Common.{◌≡◌, map, take}
use Rattle.row_fold.specs.Lent.{value_of}
use Rattle.row_fold.proofs.lent.to_values.Given as goal

-- the values passed
abbrev pub invariant-loop-value : goal.invariant-loop-value
invariant-loop-value l = l.values.items ≡ map value_of (take l.value-index l.key)
