use Rattle.std.proofs.Common.{◌≤◌, All, get_or, map, subst, arith}
use Rattle.std.proofs.lemmas.List.Elements.{All-append, All-map}
use Rattle.cube_point.specs.declared.point.Entry.{Entry}
use Rattle.point_groups.specs.Bare.{bare}
use Rattle.point_groups.proofs.point_list.FlatPoints.greatest.Goals as goal

pub returns : goal.returns
returns c =
    let its = c.self.inside in
    let IsLow : Entry → Type 0 = λ e. get_or e.point.at c.args.dimension 0 ≤ c.max.result in
    let closed : All IsLow its.closed = λ k d low. omega (arith, c.greatest.ensures k d low, c.max.ensures) in
    let recent : All IsLow its.recent.items = subst (All IsLow) c.deref.ensures.value (λ k d low. omega (arith, c.greatest_at.ensures k d low, c.max.ensures)) in
    subst (All IsLow) c.self.view_is (All-append IsLow its.closed (map bare its.recent.items) closed (All-map IsLow bare its.recent.items recent))
