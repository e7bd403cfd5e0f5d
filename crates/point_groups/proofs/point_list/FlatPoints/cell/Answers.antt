use Rattle.std.proofs.Common.{rules, arith, ◌<◌, ℕ, ◌-◌, length, ap, ◌∙◌}
use Rattle.std.proofs.lemmas.List.{get_or_default}
use Rattle.cube_point.specs.declared.point.Entry.{Entry}
use Rattle.point_groups.specs.Bare.{nowhere}
use Rattle.point_groups.proofs.FlatLists.{all-long, in-closed, in-recent}
use Rattle.point_groups.proofs.point_list.FlatPoints.cell.Goals as goal

pub returns-then-number-closed : goal.returns-then-number-closed
returns-then-number-closed c =
    let its = c.self.inside in
    let es = c.args.self.now in
    let n = c.args.number in
    c.cell.ensures ∙ ap (λ (e : Entry). e.cell) (in-closed its.closed its.recent.items es c.self.view_is n (omega (arith, c.if-number-closed.true, c.len-closed.ensures.count)))

pub index-requires : goal.index-requires
index-requires c =
    let its = c.self.inside in
    let es = c.args.self.now in
    let n = c.args.number in
    let low : n - c.len-closed.result < length its.recent.items =
    omega (arith, c.requires, c.if-number-closed.false, c.len-closed.ensures.count, all-long its.closed its.recent.items es c.self.view_is) in
    search (rules, low)

pub returns : goal.returns
returns c =
    let its = c.self.inside in
    let es = c.args.self.now in
    let n = c.args.number in
    let k = n - c.len-closed.result in
    let low : k < length its.recent.items =
    omega (arith, c.requires, c.if-number-closed.false, c.len-closed.ensures.count, all-long its.closed its.recent.items es c.self.view_is) in
    ap (λ (e : Entry). e.cell) (c.index.ensures ∙ get_or_default its.recent.items k c.index.result.now nowhere low)
    ∙ ap (λ (e : Entry). e.cell) (in-recent its.closed its.recent.items es c.self.view_is n (n - c.len-closed.result) (omega (arith, c.if-number-closed.false, c.len-closed.ensures.count)) (ap (λ (k : ℕ). n - k) c.len-closed.ensures.count))
