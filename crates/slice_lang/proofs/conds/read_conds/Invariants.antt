use Rattle.std.proofs.Common.{◌≡◌, length}
use Rattle.slice_lang.specs.Reading.{conds_in, all_conds_in}
use Rattle.slice_lang.proofs.conds.read_conds.Given as goal

-- the conditions so far, with the words to come, give what all words give
abbrev pub invariant-loop-more : goal.invariant-loop-more
invariant-loop-more l = conds_in l.schema l.conds l.more ≡ all_conds_in l.schema l.first l.fn.more

abbrev pub decreases-loop-more : goal.decreases-loop-more
decreases-loop-more l = length l.more
