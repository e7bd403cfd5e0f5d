use Rattle.std.proofs.Common.{◌≡◌, ◌+◌, drop}
use Rattle.slice_lang.specs.Values.{place_of_dots}
use Rattle.slice_lang.proofs.values.place_of_dots.Given as goal

-- no `..` begins before this place
abbrev pub invariant-loop-at : goal.invariant-loop-at
invariant-loop-at l = l.at + place_of_dots (drop l.at l.text) ≡ place_of_dots l.text
