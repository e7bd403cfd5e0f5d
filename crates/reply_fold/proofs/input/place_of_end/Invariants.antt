use Rattle.std.proofs.Common.{◌≡◌, ◌+◌, drop}
use Rattle.reply_fold.specs.Input.{place_of_end}
use Rattle.reply_fold.proofs.input.place_of_end.Given as goal

-- no line `end` begins before this place
abbrev pub invariant-loop-at : goal.invariant-loop-at
invariant-loop-at l = l.at + place_of_end (drop l.at l.input) ≡ place_of_end l.input
