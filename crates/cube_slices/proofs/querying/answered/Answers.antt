use Rattle.cube_slices.proofs.Names.{Command, [], ap, only_replies, runs_out_as, sym, true, ◌∙◌, ◌≡◌}
use Rattle.cube_slices.specs.Told.{where_covered}
use Rattle.sql_slice.specs.Plans.{plan_of}
use Rattle.sql_slice.specs.RowFold.{query_text}
use Rattle.sql_slice.specs.declared.planned.Plan.{Plan}
use Rattle.cube_slices.proofs.QueryAnswers.{tells, without}
use Rattle.cube_slices.proofs.querying.answered.Goals as goal

pub returns-in_err-plan : goal.returns-in_err-plan
returns-in_err-plan g c =
    λ state has ready. runs_out_as g.T.Site (Command.Sql c.args.text.now) state c.args.site.now c.args.pages.now (λ t told files. g.met.T.Site.only_now c.args.site.now told files t)
    ready state c.from_residual.result c.from_residual.ensures.1

pub returns-in_err-without_rows : goal.returns-in_err-without_rows
returns-in_err-without_rows g c =
    let its = c.from_residual-in_err-without_rows in
    λ state has ready. runs_out_as g.T.Site (Command.Sql c.args.text.now) state c.args.site.now c.args.pages.now (λ t told files. g.met.T.Site.only_now c.args.site.now told files t)
    ready state its.result its.ensures.1

pub returns-then-plan : goal.returns-then-plan
returns-then-plan g c =
    let store = c.args.store.now in
    let q = c.args.query.now in
    let planned = c.in_ok-plan.ensures.exact in
    let p : Plan = plan_of store.forest.schema q in
    let none : p.empty ≡ true = ap (λ (x : Plan). x.empty) (sym planned) ∙ c.if-plan.true in
    λ state has ready. only_replies g.T.Site (Command.Sql c.args.text.now) state c.args.site.now c.args.pages.now (λ t told files. g.met.T.Site.only_now c.args.site.now told files t)
    (where_covered store p.slice (query_text q p [])) c.in_ok-without_rows.field-0 ready
    (without g.T.Site c.args.site.now state store c.args.text.now q has c.requires.read none)
    (c.in_ok-without_rows.ensures ∙ ap (λ (x : Plan). where_covered store x.slice (query_text q x [])) planned)

pub returns : goal.returns
returns g c =
    let its = c.answer_picked in
    λ state has ready. tells g.T.Site c.args.site.now its.new.site state c.args.store.now c.args.pages.now its.new.pages c.args.text.now c.args.query.now c.in_ok-plan.plan has
    c.requires.read c.requires.agrees c.in_ok-plan.ensures.exact (c.in_ok-plan.ensures.agrees c.requires.agrees) c.if-plan.false
    ready (λ t told files. g.met.T.Site.only_now c.args.site.now told files t) its.result its.ensures.answers c.told.result c.told.ensures
