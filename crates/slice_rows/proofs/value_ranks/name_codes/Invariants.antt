use Rattle.slice_rows.specs.Ranks.{HasCodes}
use Rattle.slice_rows.proofs.value_ranks.name_codes.Given as goal

-- the codes passed
abbrev pub invariant-loop-place : goal.invariant-loop-place
invariant-loop-place l = HasCodes l.place l.codes.keys
