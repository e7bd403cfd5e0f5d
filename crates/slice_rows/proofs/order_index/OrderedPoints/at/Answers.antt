use Rattle.std.proofs.Common.{rules, arith, ◌<◌, ℕ, List, get_or, length, ap, sym, ◌∙◌}
use Rattle.std.proofs.lemmas.List.{get_or-map, length-map}
use Rattle.cube_point.specs.declared.point.Entry.{Entry}
use Rattle.point_groups.specs.Bare.{nowhere}
use Rattle.slice_rows.proofs.order_index.OrderedPoints.at.Goals as goal

pub index-requires : goal.index-requires
index-requires c =
    let its = c.self.inside in
    let low : c.args.place < length its.numbers.items =
    omega (arith, c.requires, ap length c.self.view_is, length-map its.numbers.items (λ (k : ℕ). get_or its.points k nowhere)) in
    search (rules, low)

pub returns : goal.returns
returns c = λ d.
    let its = c.self.inside in
    let at : ℕ → Entry = λ k. get_or its.points k nowhere in
    let low : c.args.place < length its.numbers.items =
    omega (arith, c.requires, ap length c.self.view_is, length-map its.numbers.items at) in
    ap at c.index.ensures
    ∙ (sym (get_or-map at its.numbers.items c.args.place c.index.result.now d low) ∙ ap (λ (l : List Entry). get_or l c.args.place d) c.self.view_is)
