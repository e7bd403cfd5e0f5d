use Rattle.delta_agg.proofs.PlacedOrders.{few-placed, points-ordered}
use Rattle.delta_agg.proofs.placed.runs_by_places.Goals as goal

pub runs_of_keys-requires : goal.runs_of_keys-requires
runs_of_keys-requires c =
    few-placed c.args.view.now c.args.coded.now c.in_ok-placed.placed.items c.deref_mut.result.now c.in_ok-placed.ensures c.deref_mut.ensures.value c.requires.rows

pub returns : goal.returns
returns c =
    points-ordered c.args.view.now c.args.coded.now c.in_ok-placed.placed.items c.deref_mut.result.now c.in_ok-placed.ensures c.deref_mut.ensures.value c.runs_of_keys.result c.runs_of_keys.ensures
