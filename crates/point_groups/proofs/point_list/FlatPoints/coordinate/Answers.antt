use Rattle.std.proofs.Common.{arith, ℕ, ◌-◌, List, get_or, ap, ◌∙◌}
use Rattle.cube_point.specs.declared.point.Entry.{Entry}
use Rattle.point_groups.specs.Bare.{nowhere}
use Rattle.point_groups.proofs.FlatLists.{in-closed, in-recent}
use Rattle.point_groups.proofs.point_list.FlatPoints.coordinate.Goals as goal

pub returns-then-number-closed : goal.returns-then-number-closed
returns-then-number-closed c =
    let its = c.self.inside in
    let es = c.args.self.now in
    let n = c.args.number in
    c.coordinate.ensures ∙ ap (λ (e : Entry). get_or e.point.at c.args.dimension 0) (in-closed its.closed its.recent.items es c.self.view_is n (omega (arith, c.if-number-closed.true, c.len-closed.ensures.count)))

pub returns : goal.returns
returns c =
    let its = c.self.inside in
    let es = c.args.self.now in
    let n = c.args.number in
    c.coordinate_at.ensures
    ∙ (ap (λ (l : List Entry). (λ (e : Entry). get_or e.point.at c.args.dimension 0) (get_or l (n - c.len-closed.result) nowhere)) c.deref.ensures.value
    ∙ ap (λ (e : Entry). get_or e.point.at c.args.dimension 0) (in-recent its.closed its.recent.items es c.self.view_is n (n - c.len-closed.result) (omega (arith, c.if-number-closed.false, c.len-closed.ensures.count)) (ap (λ (k : ℕ). n - k) c.len-closed.ensures.count)))
