use Rattle.std.proofs.Common.{ap}
use Rattle.std.proofs.Math.Seq.{map-set_same}
use Rattle.point_groups.specs.Kept.{place_of}
use Rattle.point_groups.proofs.GatheredPlaces.{on-ok}
use Rattle.point_groups.proofs.point_list.join_recent.Goals as goal

pub returns-clause-places : goal.returns-clause-places
returns-clause-places c =
    let x = c.index_mut.result.now in
    on-ok c.join_next.result
    (map-set_same place_of c.args.points.now.items c.args.number (record { point = x.point; cell = c.join_next.new.last }) x (ap place_of c.index_mut.ensures.value))
