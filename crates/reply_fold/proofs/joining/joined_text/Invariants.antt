use Rattle.std.proofs.Common.{◌≡◌, ℕ, ◌+◌, ◌≤◌, drop, length}
use Rattle.fact_model.specs.Fact.{mass_limit}
use Rattle.row_fold.specs.Joins.{size_at}
use Rattle.reply_fold.specs.Folding.{Makes}
use Rattle.reply_fold.specs.Order.{picked}
use Rattle.reply_fold.specs.Whole.{joined}
use Rattle.reply_fold.proofs.Orders.{entries, weight_at}
use Rattle.reply_fold.proofs.joining.joined_text.Given as goal

-- the rows passed and those to come make the rows joined, and are light
abbrev pub invariant-loop-at : goal.invariant-loop-at
invariant-loop-at l = record {
  makes : Makes l.columns l.rows l.folding (entries l.rows (drop l.at-index l.rest)) (joined l.columns l.rows);
  wide : length l.folding.sums.items ≡ length l.columns;
  light : (j : ℕ) → size_at j l.folding.sums.items + weight_at j (picked l.rows (drop l.at-index l.rest)) ≤ mass_limit;
  count : l.folding.count ≤ l.at-index;
}
