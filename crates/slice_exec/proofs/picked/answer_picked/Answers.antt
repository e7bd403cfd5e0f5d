use Rattle.replica_route.specs.Picked.{IsPicked}
use Rattle.replica_route.proofs.Unique.{one-pick}
use Rattle.slice_exec.proofs.FromView.{from-chosen, from-none}
use Rattle.slice_exec.proofs.picked.answer_picked.Goals as goal

pub returns-in-Some : goal.returns-in-Some
returns-in-Some g c =
    let store = c.args.store.now in
    let slice = c.args.slice.now in
    let its = c.answer_from in
    let choice = c.in-Some.choice in
    let picked = c.in-Some.ensures.picked.picked in
    record {
      answers = from-chosen g.T.Site (λ counts view. IsPicked store.forest.schema.views counts slice view) store slice c.args.site.now c.args.pages.now choice.view
          (λ other is. one-pick store.forest.schema.views store.forest.body.counts slice choice.view other picked is)
          its.new.site its.new.pages its.result its.ensures.answers;
    }

pub returns-in-None : goal.returns-in-None
returns-in-None g c =
    let store = c.args.store.now in
    let slice = c.args.slice.now in
    record { answers = from-none g.T.Site (λ counts view. IsPicked store.forest.schema.views counts slice view) store slice c.args.site.now c.args.pages.now c.in-None.ensures.picked (λ counts view is. is.covering) }
