use Rattle.std.proofs.Common.{◌≤◌, ◌<◌, ℕ, nat_abs, sum_by}
use Rattle.fact_model.specs.Fact.{mass_limit}
use Rattle.fact_model.specs.Adds.{numbers_in}
use Rattle.slice_rows.proofs.column_sums.add_up.Given as goal

-- the columns passed add up
abbrev pub invariant-loop-column : goal.invariant-loop-column
invariant-loop-column l = (c : ℕ) → c < l.column → sum_by nat_abs (numbers_in c l.rows) ≤ mass_limit
