use Rattle.std.proofs.Common.{map, ap, refl, get_or, ◌∙◌}
use Rattle.std.proofs.Math.Seq.{map-set_same}
use Rattle.point_groups.specs.Bare.{nowhere, with_cell}
use Rattle.point_groups.specs.Kept.{place_of}
use Rattle.point_groups.proofs.point_list.join_closed.Goals as goal

pub returns-clause-places : goal.returns-clause-places
returns-clause-places c =
    let es = c.args.points.now in
    let n = c.args.number in
    ap (map place_of) c.in_ok-set_cell.ensures ∙ map-set_same place_of es n (with_cell (get_or es n nowhere) c.join_next.new.last) nowhere refl
