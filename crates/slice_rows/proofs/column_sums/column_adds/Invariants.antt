use Rattle.std.proofs.Common.{◌≡◌, ◌≤◌, take, nat_abs, sum_by}
use Rattle.fact_model.specs.Fact.{mass_limit}
use Rattle.fact_model.specs.Adds.{numbers_in}
use Rattle.slice_rows.proofs.column_sums.column_adds.Given as goal

-- the magnitudes of the rows passed
abbrev pub invariant-loop-place : goal.invariant-loop-place
invariant-loop-place l = record {
  sum : l.sum ≡ sum_by nat_abs (numbers_in l.column (take l.place l.rows));
  low : l.sum ≤ mass_limit;
}
