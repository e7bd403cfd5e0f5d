use Rattle.std.proofs.Common.{◌≡◌, ◌≤◌, ◌++◌, length}
use Rattle.sql_lang.specs.Tokens.{tokens_from}
use Rattle.sql_lang.proofs.tokens.tokens_of.Given as goal

-- the tokens so far, and those of the rest, are those of the text
abbrev pub invariant-loop-rest : goal.invariant-loop-rest
invariant-loop-rest l = record {
  cut : l.tokens.items ++ tokens_from l.end 0 l.rest ≡ tokens_from l.end 0 l.text;
  within : length l.rest ≤ length l.text;
}

abbrev pub decreases-loop-rest : goal.decreases-loop-rest
decreases-loop-rest l = length l.rest
