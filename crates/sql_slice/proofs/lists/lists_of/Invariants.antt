use Rattle.std.proofs.Common.{◌≡◌, ℕ, ◌&&◌, List, drop}
use Rattle.fact_model.specs.Value.{Key}
use Rattle.sql_slice.specs.Lists.{lists_have}
use Rattle.sql_slice.specs.RowFold.{key_passes}
use Rattle.sql_slice.proofs.lists.lists_of.Given as goal

-- the lists so far and the tests to come say what all tests do
abbrev pub invariant-loop-test : goal.invariant-loop-test
invariant-loop-test l = (group : List ℕ) (key : Key) → (lists_have group l.lists.items key && key_passes group (drop l.test-index l.tests) key) ≡ key_passes group l.tests key
