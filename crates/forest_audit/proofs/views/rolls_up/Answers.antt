use Rattle.std.proofs.Common.{◌≡◌, ◌∙◌, [], ℕ, List, get_or, ap, subst, sym}
use Rattle.std.proofs.lemmas.List.{get_or_default}
use Rattle.cube_point.specs.declared.point.Entry.{Entry}
use Rattle.select_map.specs.Views.{View}
use Rattle.audit_view.specs.Rolling.{AreDims, RollsUp}
use Rattle.forest_audit.specs.Agreeing.{HasDims}
use Rattle.forest_audit.specs.Audited.{points_at, view_of}
use Rattle.forest_audit.proofs.Results.{ok-one, some-holds}
use Rattle.audit_points.specs.Kept.{points_of}
use Rattle.forest_audit.proofs.views.rolls_up.Goals as goal

pub returns-in-Some : goal.returns-in-Some
returns-in-Some c = λ files read.
    let forest = c.args.store.now.forest in
    let schema = forest.schema in
    let dicts = c.args.store.now.dicts in
    let w = c.args.fine in
    let v = c.args.coarse in
    let fine = view_of schema w in
    let coarse = view_of schema v in
    let one = c.points_of.ensures.read files read in
    let two = c.points_of-in-Some.ensures.read files read in
    let first : c.as_slice.result.now ≡ fine = c.as_slice.ensures ∙ (c.index-views-fine.is
    ∙ (ap (λ (l : List View). get_or l w c.index-views-fine.result) c.as_slice-views.ensures ∙ get_or_default schema.views w c.index-views-fine.result [] c.requires.fine)) in
    let second : c.as_slice-2.result.now ≡ coarse = c.as_slice-2.ensures ∙ (c.index-views-coarse.is
    ∙ (ap (λ (l : List View). get_or l v c.index-views-coarse.result) c.as_slice-views.ensures ∙ get_or_default schema.views v c.index-views-coarse.result [] c.requires.coarse)) in
    let has : HasDims c.as_slice.result.now c.as_slice-2.result.now c.in-Some.dims.items = some-holds (λ dims. HasDims c.as_slice.result.now c.as_slice-2.result.now dims.items) c.in_ok-found.found c.in-Some.dims c.in_ok-found.ensures.found c.in-Some.is in
    let dims : HasDims fine coarse c.in-Some.dims.items = subst (λ (x : List ℕ). HasDims x coarse c.in-Some.dims.items) first (subst (λ (y : List ℕ). HasDims c.as_slice.result.now y c.in-Some.dims.items) second has) in
    let are = subst (AreDims fine coarse) (sym c.as_slice-in-Some.ensures.value) dims.are in
    ok-one c.is_roll_up.result (c.is_roll_up.ensures fine coarse are one.read two.read) (λ is told. (
      (λ t differ all. subst (λ (es : List Entry). RollsUp fine coarse es (points_at files forest.body schema dicts v)) one.points
          (subst (RollsUp fine coarse (points_of c.points_of.result.now)) two.points (told.0 t))),
      λ pairs. told.1 (subst (λ (es : List Entry). RollsUp fine coarse es (points_of c.points_of-in-Some.result.now)) (sym one.points)
          (subst (RollsUp fine coarse (points_at files forest.body schema dicts w)) (sym two.points) (pairs (λ e. c.if-fine-coarse.false e) dims.all))),
    ))
