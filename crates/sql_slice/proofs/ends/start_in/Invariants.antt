use Rattle.std.proofs.Common.{◌≡◌, max, drop}
use Rattle.sql_slice.specs.Ends.{start_in}
use Rattle.sql_slice.proofs.ends.start_in.Given as goal

-- the tests to come decide with what is known
abbrev pub invariant-loop-test : goal.invariant-loop-test
invariant-loop-test l = max l.start (start_in l.attr (drop l.test-index l.tests)) ≡ start_in l.attr l.tests
