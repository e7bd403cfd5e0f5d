use Rattle.std.proofs.Common.{Bool, cond, sym, ap, ◌∙◌}
use Rattle.page_fmt.specs.Formats.{wide_format}
use Rattle.forest_refresh.proofs.Formats.{within-narrow}
use Rattle.forest_refresh.proofs.limits.format_for.Goals as goal

pub returns-then-all_within : goal.returns-then-all_within
returns-then-all_within c =
    ap (λ (narrow : Bool). cond narrow c.args.format wide_format) (sym c.if-all_within.true ∙ (c.all_within.ensures ∙ within-narrow c.args.facts.now))

pub returns-else-all_within : goal.returns-else-all_within
returns-else-all_within c =
    ap (λ (narrow : Bool). cond narrow c.args.format wide_format) (sym c.if-all_within.false ∙ (c.all_within.ensures ∙ within-narrow c.args.facts.now))
