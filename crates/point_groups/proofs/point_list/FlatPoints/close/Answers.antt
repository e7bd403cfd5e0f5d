use Rattle.std.proofs.Common.{◌++◌, List, map, ap, ◌∙◌, append-nil}
use Rattle.cube_point.specs.declared.point.Entry.{Entry}
use Rattle.point_groups.specs.Bare.{bare}
use Rattle.point_groups.proofs.point_list.FlatPoints.close.Goals as goal

pub returns : goal.returns
returns c =
    let its = c.self.inside in
    ap (λ (l : List Entry). c.close_each.new.closed ++ map bare l) c.clear.ensures.items
    ∙ (append-nil c.close_each.new.closed
    ∙ (c.in_ok-close_each.ensures
    ∙ (ap (λ (l : List Entry). its.closed ++ map bare l) c.deref.ensures.value ∙ c.self.view_is)))
