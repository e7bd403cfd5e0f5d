use Rattle.std.proofs.Common.{ℕ, sym, ◌∙◌, ap}
use Rattle.std.specs.Cmp.{tied_itself}
use Rattle.fact_model.specs.Value.{value_cmp}
use Rattle.fact_model.proofs.ValueOrder.{value-total}
use Rattle.slice_rows.specs.Grouped.{value_at_code}
use Rattle.slice_rows.proofs.keys.compare_codes.Goals as goal

pub returns-then-a-b : goal.returns-then-a-b
returns-then-a-b c =
    let value : ℕ → _ = value_at_code c.args.names.now c.args.attr in
    sym (ap (λ (d : ℕ). value_cmp (value c.args.a) (value d)) (sym c.if-a-b.true) ∙ tied_itself value-total (value c.args.a))
