use Rattle.std.proofs.Common.{rules}
use Rattle.std.proofs.lemmas.Fn.{always_returns_same}
use Rattle.std.proofs.lemmas.List.Sorted.{ranks_by}
use Rattle.fact_model.proofs.ValueOrder.{value-total}
use Rattle.slice_rows.specs.Grouped.{value_at_code}
use Rattle.slice_rows.specs.Ranks.{comes_first}
use Rattle.slice_rows.proofs.value_ranks.sorted_codes.Goals as goal

pub returns-clause-sorted : goal.returns-clause-sorted
returns-clause-sorted c = c.in_ok-sort_by.ensures.sorted (comes_first c.args.names.now c.args.attr) (ranks_by value-total (value_at_code c.args.names.now c.args.attr))
    (always_returns_same _ _ _ (λ a r f g. search rules))
