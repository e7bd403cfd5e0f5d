use Rattle.std.proofs.Common.{◌≡◌, drop}
use Rattle.sql_lang.specs.Reading.{read_on}
use Rattle.sql_lang.proofs.read.read_on.Given as goal

-- the tokens to come, behind what is read, give what all tokens give
abbrev pub invariant-loop-token : goal.invariant-loop-token
invariant-loop-token l = read_on l.schema l.end l.reader (drop l.token-index l.tokens) ≡ read_on l.schema l.end l.fn.start l.tokens
