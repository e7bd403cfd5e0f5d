use Rattle.std.proofs.Common.{rules, ℕ, List, get_or, ap, ◌∙◌}
use Rattle.std.proofs.lemmas.List.{get_or_default}
use Rattle.cube_point.specs.declared.point.Entry.{Entry}
use Rattle.point_groups.proofs.ClosedLists.{found, within}
use Rattle.point_groups.proofs.columns.ClosedPoints.cell.Goals as goal

pub index-requires : goal.index-requires
index-requires c = search (rules, within c.self.inside c.args.self.now c.args.number c.self.view_is c.requires)

pub returns : goal.returns
returns c =
    let at = c.args.number in
    let e = found c.self.inside c.args.self.now at c.self.view_is c.requires in
    let count = c.number_at.ensures ∙ (ap (λ (l : List ℕ). get_or l at 0) c.deref.ensures.value ∙ ap (λ (e : Entry). e.cell.count) e) in
    let measures = c.index.ensures
    ∙ (get_or_default c.self.inside.measures.items at c.index.result.now 0 (within c.self.inside c.args.self.now at c.self.view_is c.requires)
    ∙ ap (λ (e : Entry). e.cell.measures) e) in
    let parts = c.parts_at.ensures ∙ ap (λ (e : Entry). e.cell.parts) e in
    λ i. record { count = count i; measures = measures i; parts = parts i }
