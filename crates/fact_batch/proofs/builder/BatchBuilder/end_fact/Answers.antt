use Rattle.std.proofs.Common.{◌≡◌, ◌<◌, ◌+◌, ◌*◌, ◌^◌, [], ◌∷◌, ◌++◌, length, sym, ap, ◌∙◌, arith, subst}
use Rattle.std.proofs.lemmas.List.{drop_all}
use Rattle.std.proofs.lemmas.List.FromFn.{length-map-range_with_len}
use Rattle.fact_batch.specs.Batch.{Draft, fact_at}
use Rattle.fact_batch.specs.Values.{values_of}
use Rattle.fact_batch.proofs.Drafts.{facts-more, row-ends}
use Rattle.fact_batch.proofs.Texts.{values-len}
use Rattle.fact_batch.proofs.builder.BatchBuilder.end_fact.Goals as goal

pub overflow_add-self : goal.overflow_add-self
overflow_add-self c =
    let b = c.self.inside in
    let few = subst (λ (d : Draft). length d.facts < 2 ^ 63) (sym c.self.view_is) c.requires.few in
    let long = length-map-range_with_len (fact_at b.width b.measures (values_of b.slots.items b.texts.items) b.numbers.items) 0 b.rows in
    omega (arith, few, long)

pub invariant_of-self : goal.invariant_of-self
invariant_of-self c =
    let b = c.self.inside in
    let values = subst (λ (d : Draft). length d.values ≡ d.width) (sym c.self.view_is) c.requires.values in
    let numbers = subst (λ (d : Draft). length d.numbers ≡ d.measures) (sym c.self.view_is) c.requires.numbers in
    let same = values-len b.slots.items b.texts.items in
    let slots = row-ends b.width b.rows (values_of b.slots.items b.texts.items) (omega (arith, same, c.self.invariant.slots_are)) values in
    let wide = row-ends b.measures b.rows b.numbers.items c.self.invariant.numbers_are numbers in
    record { slots_are = omega (arith, same, slots); texts_are = c.self.invariant.texts_are; numbers_are = omega (arith, wide) }

pub returns : goal.returns
returns c =
    let b = c.self.inside in
    let vs = values_of b.slots.items b.texts.items in
    let values = subst (λ (d : Draft). length d.values ≡ d.width) (sym c.self.view_is) c.requires.values in
    let numbers = subst (λ (d : Draft). length d.numbers ≡ d.measures) (sym c.self.view_is) c.requires.numbers in
    let same = values-len b.slots.items b.texts.items in
    let slots = row-ends b.width b.rows vs (omega (arith, same, c.self.invariant.slots_are)) values in
    let wide = row-ends b.measures b.rows b.numbers.items c.self.invariant.numbers_are numbers in
    let facts = facts-more b.width b.measures b.rows vs b.numbers.items values numbers in
    let none = drop_all (b.width * (b.rows + 1)) vs (omega (arith, slots)) in
    let empty = drop_all (b.measures * (b.rows + 1)) b.numbers.items (omega (arith, wide)) in
    (λ j. record { width = b.width; measures = b.measures; facts = facts j; values = none j; numbers = empty j })
    ∙ ap (λ (d : Draft). record d { facts = d.facts ++ (record { values = d.values; measures = d.numbers }) ∷ []; values = []; numbers = [] }) c.self.view_is
