use Rattle.std.proofs.Common.{◌≡◌, map, reverse, take}
use Rattle.delta_agg.specs.Rows.{digit_of}
use Rattle.delta_agg.proofs.digits.digits_of.Given as goal

-- the digits of the attributes passed
abbrev pub invariant-loop-skipped : goal.invariant-loop-skipped
invariant-loop-skipped l = l.digits.items ≡ map (digit_of l.tops) (take l.skipped (reverse l.view))
