use Rattle.std.proofs.Common.{◌≡◌, ◌+◌, ◌<◌, ◌++◌, ◌∷◌, [], ℕ, List, Option, Vec, Global, get_or, length, append-nil, append_assoc, sym, ◌∙◌, ap, subst, arith}
use Rattle.std.specs.List.{All}
use Rattle.std.proofs.lemmas.List.{length_push, map-append}
use Rattle.std.proofs.lemmas.List.Elements.{All-push}
use Rattle.spec_points.specs.Points.{View}
use Rattle.select_map.specs.Trees.{views_of}
use Rattle.select_map.proofs.TreeViews.{numbers_in}
use Rattle.delta_agg.specs.declared.runs.ViewRuns.{ViewRuns}
use Rattle.delta_agg.specs.Orders.{IsRuns, views_in}
use Rattle.delta_agg.proofs.TreeTurns.{from, from-end, from-none, from-some, number-has}
use Rattle.delta_agg.proofs.trees.tree_of.Goals as goal
use Rattle.delta_agg.proofs.trees.tree_of.Goals.{in-Some+in_ok-number_runs+in_ok-push, in_default}

pub number_runs-requires-clause-view : goal.number_runs-requires-clause-view
number_runs-requires-clause-view c =
    let IsDeclared : ℕ → Type 0 = λ v. v < length c.args.schema.now.views in
    let declared = subst (λ (slots : List (Option ℕ)). All IsDeclared (numbers_in slots)) (sym c.as_slice-slot-items.ensures) c.requires.views in
    number-has IsDeclared c.as_slice-slot-items.result.now declared c.loop-slot.slot-index c.in-Some.number c.in-Some.is

-- one view more
views-more : (so_far : List ViewRuns) (v : ViewRuns) (view : View) (rest whole left : List View) → v.view ≡ view → left ≡ view ∷ rest → views_in so_far ++ left ≡ whole
    → views_in (so_far ++ v ∷ []) ++ rest ≡ whole
views-more so_far v view rest whole left is at before =
    ap (λ (vs : List View). vs ++ rest) (map-append (λ (v : ViewRuns). v.view) so_far (v ∷ []))
    ∙ (append_assoc (views_in so_far) (v.view ∷ []) rest
    ∙ (ap (λ (w : View). views_in so_far ++ (w ∷ rest)) is ∙ (ap (λ (vs : List View). views_in so_far ++ vs) (sym at) ∙ before)))

pub loop-slot-preserved : goal.loop-slot-preserved
loop-slot-preserved c =
    let views = c.args.schema.now.views in
    let slots = c.as_slice-slot-items.result.now in
    let i = c.loop-slot.slot-index in
    let so_far = c.loop-slot.views.items in
    elim c.match-slot.branch [
      | in-Some+in_ok-number_runs+in_ok-push w ↦
          let v : ViewRuns = w.in_ok-number_runs.field-0 in
          let pushed = ap (λ (vs : Vec ViewRuns Global). vs.items) w.views-is ∙ w.in_ok-push.ensures.items in
          record {
            views =
                ap (λ (vs : List ViewRuns). views_in vs ++ from views slots i (i + 1)) pushed
                ∙ views-more so_far v (get_or views w.in-Some.number []) (from views slots i (i + 1)) (views_of views c.args.tree.now) (from views slots i i)
                w.in_ok-number_runs.ensures.view (from-some views slots i w.in-Some.number c.loop-slot-test.true w.in-Some.is) c.loop-slot.invariant.views;
            few = omega (arith, ap (λ (vs : List ViewRuns). length vs) pushed, length_push so_far v, c.loop-slot.invariant.few);
            each = subst (All (IsRuns c.args.coded.now)) (sym pushed) (All-push (IsRuns c.args.coded.now) so_far v c.loop-slot.invariant.each w.in_ok-number_runs.ensures.runs);
          }
      | in_default w ↦
          let same = ap (λ (vs : Vec ViewRuns Global). vs.items) w.views-is in
          record {
            views =
                ap (λ (vs : List ViewRuns). views_in vs ++ from views slots i (i + 1)) same
                ∙ (ap (λ (vs : List View). views_in so_far ++ vs) (sym (from-none views slots i c.loop-slot-test.true w.in_default.is)) ∙ c.loop-slot.invariant.views);
            few = omega (arith, ap (λ (vs : List ViewRuns). length vs) same, c.loop-slot.invariant.few);
            each = subst (All (IsRuns c.args.coded.now)) (sym same) c.loop-slot.invariant.each;
          }
    ]

pub returns-clause-views : goal.returns-clause-views
returns-clause-views c =
    let views = c.args.schema.now.views in
    let slots = c.as_slice-slot-items.result.now in
    let i = c.loop-slot.slot-index in
    ap views_in c.from_vec.ensures
    ∙ (sym (append-nil (views_in c.loop-slot.views.items))
    ∙ (ap (λ (vs : List View). views_in c.loop-slot.views.items ++ vs) (sym (from-end views slots i c.loop-slot-test.false)) ∙ c.loop-slot.invariant.views))

pub returns-clause-tree : goal.returns-clause-tree
returns-clause-tree c = record {
  nine = omega (arith, ap (λ (vs : List ViewRuns). length vs) c.from_vec.ensures, c.loop-slot.invariant.few, c.loop-slot.auto.slot-index-end, c.requires.slots, ap (λ (slots : List (Option ℕ)). length slots) c.as_slice-slot-items.ensures);
  each = subst (All (IsRuns c.args.coded.now)) (sym c.from_vec.ensures) c.loop-slot.invariant.each;
}
