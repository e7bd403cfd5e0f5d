use Rattle.std.proofs.Common.{◌∙◌, arith}
use Rattle.attr_dict.proofs.Lens.{shown-all}
use Rattle.forest_refresh.proofs.committing.with_body.Goals as goal

pub invariant_of-result : goal.invariant_of-result
invariant_of-result c = record {
  text = c.requires.next.1.schema_len ∙ c.args.store.text;
  kinds = c.args.store.kinds;
  names = omega (arith, c.requires.names, shown-all c.args.store.dicts c.lengths-shown.result.at c.lengths-shown.ensures);
}
