use Rattle.std.proofs.Common.{sym, ◌∙◌}
use Rattle.delta_agg.proofs.TreeRuns.{tree-long}
use Rattle.delta_agg.proofs.points.Points.new.Goals as goal

pub invariant_of-result : goal.invariant_of-result
invariant_of-result c = record {
  batch = c.requires.batch;
  tree = c.requires.tree;
  counted = c.count_of.ensures ∙ sym (tree-long c.args.measures c.args.coded.now c.args.numbers.now c.args.views.now);
}
