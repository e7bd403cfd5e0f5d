use Rattle.std.proofs.Common.{rules, arith, ◌≡◌, length}
use Rattle.point_groups.proofs.FlatLists.{all-long}
use Rattle.point_groups.proofs.point_list.FlatPoints.len.Goals as goal

pub returns : goal.returns
returns c =
    let its = c.self.inside in
    let many : c.len-2.result ≡ length its.recent.items = search (rules, c.len-2.ensures) in
    omega (arith, c.len.ensures.count, many, all-long its.closed its.recent.items c.args.self.now c.self.view_is)
