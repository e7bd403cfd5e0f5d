use Rattle.std.proofs.Common.{◌∷◌, ◌++◌, ◌+◌, ◌<◌, ℕ, suc, List, map, drop, length, get_or, sym, ◌∙◌, ap, subst, arith}
use Rattle.std.proofs.lemmas.Result.{err_from_is_err_and}
use Rattle.std.specs.Ordering.{is_eq}
use Rattle.fact_model.specs.Value.{Key, key_cmp}
use Rattle.cube_point.specs.declared.point.Entry.{Entry}
use Rattle.spec_points.specs.Entries.{both}
use Rattle.point_groups.specs.Bare.{nowhere}
use Rattle.point_groups.specs.Joins.{Joins}
use Rattle.slice_rows.specs.Grouped.{key_of_entry, keyed, picked}
use Rattle.slice_rows.proofs.KeyTurns.{squeezed_keys, turn-same, turn-other, first-join, later-join, other-join, joined-too, apart-too}
use Rattle.slice_rows.proofs.key_groups.join_equal.Goals as goal
use Rattle.slice_rows.proofs.key_groups.join_equal.Goals.{then-is_eq+in_ok-take_in, else-is_eq+in_ok-push}

pub entry_of-entry-requires : goal.entry_of-entry-requires
entry_of-entry-requires c =
    let i = c.loop-number.number-index in
    let is = c.in-Some.ensures.cases.0 in
    subst (λ (l : List ℕ). get_or l (suc i) 0 < length c.args.points.now) is (c.requires.numbers (suc i) 0 (omega (arith, c.loop-number-test.true, c.in-Some.ensures.cases.1)))

pub returns-in_err-take_in-clause-damaged : goal.returns-in_err-take_in-clause-damaged
returns-in_err-take_in-clause-damaged c =
    let b = c.args.names.now in
    let view = c.args.view.now in
    let group = c.args.group.now in
    let last = c.loop-number.last in
    let is = c.entry_of-entry.ensures in
    let next = get_or c.args.points.now (get_or c.in-Some.rest.now c.loop-number.number-index 0) nowhere in
    let order = c.is_eq.ensures ∙ ap is_eq (c.compare_keys.ensures ∙ ap (λ (k : Key). key_cmp k (key_of_entry b view group next)) (sym c.loop-number.invariant.first)) in
    let same = sym order ∙ c.if-is_eq.true in
    let p = err_from_is_err_and c.from_residual.result c.from_residual.ensures.1 in
    rw p.1 (λ to joins. c.in_err-take_in.ensures.apart (subst (λ (e : Entry). Joins last.cell e.cell) (sym is)
    (first-join b view group c.args.points.now c.in-Some.rest.now c.loop-number.number-index last 0 c.loop-number-test.true same (c.loop-number.invariant.left joins))))

pub loop-number-preserved : goal.loop-number-preserved
loop-number-preserved c =
    let b = c.args.names.now in
    let view = c.args.view.now in
    let group = c.args.group.now in
    let points = c.args.points.now in
    let kept = c.loop-number.invariant in
    let rest = c.in-Some.rest.now in
    let i = c.loop-number.number-index in
    let last = c.loop-number.last in
    let low = c.loop-number-test.true in
    let entry = c.entry_of-entry.ensures in
    let next = get_or points (get_or rest i 0) nowhere in
    let order = c.is_eq.ensures ∙ ap is_eq (c.compare_keys.ensures ∙ ap (λ (k : Key). key_cmp k (key_of_entry b view group next)) (sym kept.first)) in
    let done = c.loop-number.joined in
    let whole = squeezed_keys b view group (picked points c.args.sorted.now) in
    let now = c.if-is_eq.last in
    elim c.if-is_eq.branch [
      | then-is_eq+in_ok-take_in w ↦
          let same = sym order ∙ w.if-is_eq.true in
          let is = w.last-is ∙ (w.in_ok-take_in.ensures.joined ∙ ap (both last) entry) in
          let join = subst (λ (e : Entry). Joins last.cell e.cell) entry w.in_ok-take_in.ensures.joins in
          record {
            first = ap (key_of_entry b view group) is ∙ (kept.first ∙ ap (λ (k : ℕ). key_of_entry b view group (get_or points k nowhere)) (sym w.key-is));
            whole = ap (λ (v : List Entry). map (keyed b view group) v ++ squeezed_keys b view group (now ∷ picked points (drop (i + 1) rest))) w.joined-is
                ∙ turn-same b view group points rest i last 0 low done whole now kept.whole same is;
            so_far = λ joins. kept.so_far (joined-too b view group points rest i last 0 low now is same join joins);
            left = λ joins. later-join b view group points rest i last 0 low now is same (kept.left joins);
          }
      | else-is_eq+in_ok-push w ↦
          let other = sym order ∙ w.if-is_eq.false in
          let pushed = w.joined-is ∙ w.in_ok-push.ensures in
          let is = w.last-is ∙ entry in
          record {
            first = ap (key_of_entry b view group) is ∙ ap (λ (k : ℕ). key_of_entry b view group (get_or points k nowhere)) (sym w.key-is);
            whole = turn-other b view group points rest i last 0 low done whole c.if-is_eq.joined now kept.whole other pushed is;
            so_far = λ joins. kept.so_far (apart-too b view group points rest i last 0 low now is other joins);
            left = λ joins. other-join b view group points rest i last 0 low now is other (kept.left joins);
          }
    ]
