use Rattle.std.proofs.Common.{◌∙◌}
use Rattle.forest_refresh.proofs.NamesRoom.{cut_room}
use Rattle.forest_refresh.proofs.refresh.without_batch.Goals as goal

pub invariant_of-store : goal.invariant_of-store
invariant_of-store c = record {
  text = c.args.store.text;
  kinds = c.forget.ensures.kinds ∙ c.args.store.kinds;
  names = cut_room c.args.store c.forget.new.self c.forget.ensures.kinds c.forget.ensures.names;
}
