use Rattle.std.proofs.Common.{◌≡◌, List, [], ℕ, IfErr, IfOk, arith, subst, sym}
use Rattle.std.specs.List.{All}
use Rattle.fact_model.specs.Rows.{rows}
use Rattle.cube_schema.specs.Kinds.{measure_count}
use Rattle.spec_points.specs.Points.{View}
use Rattle.point_groups.specs.Held.{AreOf, WereGiven}
use Rattle.point_groups.specs.declared.stop.RowsStop.TheVariants as fails
use Rattle.slice_rows.specs.Grouped.{Answers, HasForm, points_inside, rows_from}
use Rattle.slice_rows.specs.Sound.{GiveRows}
use Rattle.slice_exec.specs.Answers.{IsJudged, IsNoDamage, points_found}
use Rattle.slice_exec.specs.Searching.{SearchesView}
use Rattle.slice_exec.proofs.Agreed.{answers}
use Rattle.slice_exec.proofs.Searching.{handed-on, rows-searched}
use Rattle.slice_exec.proofs.Told.{rows-judged, rows-ok, rows-undamaged}
use Rattle.slice_exec.proofs.Views.{declared, few, grouped}
use Rattle.slice_exec.proofs.answering.rows_of_view.Goals as goal

pub new-groups-requires : goal.new-groups-requires
new-groups-requires g c =
    let store = c.args.store.now in
    let view = c.attrs_of-attrs.ensures in
    record { arity = few store c.args.slice.now c.args.view c.requires.covering c.attrs_of-attrs.result.now view }

pub rows_of-requires-clause-declared : goal.rows_of-requires-clause-declared
rows_of-requires-clause-declared g c =
    let store = c.args.store.now in
    let view = c.attrs_of-attrs.ensures in
    declared store c.args.slice.now c.args.view c.requires.covering c.attrs_of-attrs.result.now view

pub rows_of-requires-clause-group : goal.rows_of-requires-clause-group
rows_of-requires-clause-group g c =
    let store = c.args.store.now in
    let view = c.attrs_of-attrs.ensures in
    grouped store c.args.slice.now c.args.view c.requires.covering c.attrs_of-attrs.result.now view

pub returns-clause-rows : goal.returns-clause-rows
returns-clause-rows g c = λ t agree accepted stored.
    let store = c.args.store.now in
    let measures = measure_count store.forest.schema in
    let start = c.new-groups.result in
    let attrs = c.attrs_of-attrs.result.now in
    let view = c.attrs_of-attrs.ensures in
    let known = subst (λ (v : View). Answers store.dicts v c.args.slice.now accepted) (sym view)
    (answers store c.args.view c.args.slice.now accepted stored.accepted stored.names c.requires.agrees c.requires.covering) in
    let of = subst (λ (group : List ℕ). AreOf group attrs start) c.as_slice.ensures c.new-groups.ensures.kind in
    let given = subst (λ (v : View). WereGiven start (points_inside store.dicts measures v c.args.slice.now accepted) c.find.new.taker) (sym view)
    (c.in_ok-find.ensures.points t agree accepted stored start [] c.new-groups.ensures.given) in
    subst (λ result. IfOk result (λ found. found ≡ rows accepted c.args.slice.now)) (sym c.told.ensures)
    (rows-ok store.forest.body c.rows_of.result (λ found. found ≡ rows accepted c.args.slice.now) (c.rows_of.ensures.rows start measures accepted of known given))

pub returns-clause-undamaged : goal.returns-clause-undamaged
returns-clause-undamaged g c = λ t agree accepted stored.
    let store = c.args.store.now in
    let measures = measure_count store.forest.schema in
    let start = c.new-groups.result in
    let attrs = c.attrs_of-attrs.result.now in
    let view = c.attrs_of-attrs.ensures in
    let known = subst (λ (v : View). Answers store.dicts v c.args.slice.now accepted) (sym view)
    (answers store c.args.view c.args.slice.now accepted stored.accepted stored.names c.requires.agrees c.requires.covering) in
    let of = subst (λ (group : List ℕ). AreOf group attrs start) c.as_slice.ensures c.new-groups.ensures.kind in
    let given = subst (λ (v : View). WereGiven start (points_inside store.dicts measures v c.args.slice.now accepted) c.find.new.taker) (sym view)
    (c.in_ok-find.ensures.points t agree accepted stored start [] c.new-groups.ensures.given) in
    subst (λ result. IfErr result IsNoDamage) (sym c.told.ensures)
    (rows-undamaged store.forest.body c.rows_of.result (c.rows_of.ensures.never start measures accepted of known given stored.accepted.masses (let few = stored.accepted.few in omega (arith, few))))

pub returns-clause-judged : goal.returns-clause-judged
returns-clause-judged g c = λ t agree.
    let store = c.args.store.now in
    let slice = c.args.slice.now in
    let files = (g.T.Site.disk c.args.site.now).files in
    let start = c.new-groups.result in
    let attrs = c.attrs_of-attrs.result.now in
    let view = c.attrs_of-attrs.ensures in
    let of = subst (λ (group : List ℕ). AreOf group attrs start) c.as_slice.ensures c.new-groups.ensures.kind in
    let found = points_found store slice c.args.view files in
    let given = c.in_ok-find.ensures.gives t agree start [] c.new-groups.ensures.given in
    let made = c.rows_of.result in
    subst (IsJudged store slice c.args.view files) (sym c.told.ensures)
    (rows-judged store slice c.args.view files found (c.in_ok-find.ensures.searched t agree) made
    (subst (λ (v : View). IfOk made (λ _. GiveRows store.dicts v slice.group found)) view (c.rows_of.ensures.sound start found of given))
    (subst (λ (v : View). IfOk made (λ rows. rows ≡ rows_from store.dicts v slice found)) view (c.rows_of.ensures.grouped start found of given))
    (subst (λ (v : View). IfErr made (λ stop. stop ≡ fails.Damaged → GiveRows store.dicts v slice.group found → ⊥)) view (c.rows_of.ensures.damaged start found of given)))

pub returns-clause-form : goal.returns-clause-form
returns-clause-form g c =
    let form = All (HasForm c.args.store.now.dicts c.args.slice.now) in
    subst (λ result. IfOk result form) (sym c.told.ensures) (rows-ok c.args.store.now.forest.body c.rows_of.result form c.rows_of.ensures.form)

pub returns-clause-search : goal.returns-clause-search
returns-clause-search g c =
    let store = c.args.store.now in
    subst (SearchesView g.T.Site store c.args.slice.now c.args.view c.args.site.now c.find.new.site c.args.pages.now c.find.new.pages) (sym c.told.ensures)
    (rows-searched g.T.Site c.args.site.now c.find.new.site c.args.pages.now c.find.new.pages store c.args.slice.now c.args.view tt c.rows_of.result c.in_ok-find.ensures.search)

pub returns-in_err-find-clause-search : goal.returns-in_err-find-clause-search
returns-in_err-find-clause-search g c = handed-on g.T.Site c.args.site.now c.find.new.site c.args.pages.now c.find.new.pages c.args.store.now c.args.slice.now c.args.view c.in_err-find.field-0.0 c.from_residual.result c.from_residual.ensures.1 c.in_err-find.ensures.search
