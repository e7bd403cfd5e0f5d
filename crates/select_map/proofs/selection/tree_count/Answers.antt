use Rattle.std.specs.Prelude.{count_by}
use Rattle.std.proofs.Common.{◌∙◌}
use Rattle.select_map.specs.Views.{has_arity}
use Rattle.select_map.proofs.Counts.{max-is, most_more}
use Rattle.select_map.proofs.selection.tree_count.Goals as goal

pub loop-arity-preserved : goal.loop-arity-preserved
loop-arity-preserved c =
    c.max-most.ensures ∙ max-is c.loop-arity.most c.count_of.result ∙ most_more (λ arity. count_by (has_arity arity) c.args.views.now) c.loop-arity.arity c.loop-arity.most c.count_of.result c.loop-arity.invariant c.count_of.ensures
