use Rattle.std.proofs.Common.{◌≡◌, ◌≤◌, min, drop}
use Rattle.sql_slice.specs.Ends.{end_in, number_end}
use Rattle.sql_slice.proofs.ends.end_in.Given as goal

-- the tests to come decide with what is known
abbrev pub invariant-loop-test : goal.invariant-loop-test
invariant-loop-test l = record {
  rest : min l.end (end_in l.attr (drop l.test-index l.tests)) ≡ end_in l.attr l.tests;
  within : l.end ≤ number_end;
}
