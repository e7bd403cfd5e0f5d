use Rattle.std.proofs.Common.{rules, ◌≡◌, to_z, of_z, ◌*◌, ◌++◌, ◌∷◌, [], ap, ◌∙◌}
use Rattle.std.specs.Int.{w128}
use Rattle.std.proofs.lemmas.List.{drop-append-le}
use Rattle.fact_batch.specs.Batch.{Draft, draft_of}
use Rattle.fact_batch.specs.Values.{values_of}
use Rattle.fact_batch.proofs.Drafts.{facts-numbers}
use Rattle.fact_batch.proofs.builder.BatchBuilder.push_number.Goals as goal

pub returns : goal.returns
returns c =
    let b = c.self.inside in
    let vs = values_of b.slots.items b.texts.items in
    let facts = facts-numbers b.width b.measures b.rows vs b.numbers.items (c.args.number ∷ []) c.self.invariant.numbers_are in
    let numbers = drop-append-le (b.measures * b.rows) b.numbers.items (c.args.number ∷ []) c.self.invariant.numbers_are in
    let same : to_z w128 (of_z w128 c.args.number) ≡ c.args.number = search rules in
    ap (draft_of b.width b.measures b.rows b.slots.items b.texts.items) (c.in_ok-push.ensures.items ∙ ap (λ z. b.numbers.items ++ z ∷ []) same)
    ∙ ((λ j. record (draft_of b.width b.measures b.rows b.slots.items b.texts.items b.numbers.items) { facts = facts j; numbers = numbers j })
    ∙ ap (λ (d : Draft). record d { numbers = d.numbers ++ c.args.number ∷ [] }) c.self.view_is)
