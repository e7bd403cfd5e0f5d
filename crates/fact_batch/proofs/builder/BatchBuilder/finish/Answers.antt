use Rattle.std.proofs.Common.{◌≡◌, ◌*◌, [], length, sym, ap, arith, subst}
use Rattle.std.proofs.lemmas.List.{length-drop}
use Rattle.fact_batch.specs.Batch.{Draft}
use Rattle.fact_batch.specs.Values.{values_of}
use Rattle.fact_batch.proofs.Texts.{values-len}
use Rattle.fact_batch.proofs.builder.BatchBuilder.finish.Goals as goal

pub invariant_of-result : goal.invariant_of-result
invariant_of-result c =
    let b = c.self.inside in
    let vs = values_of b.slots.items b.texts.items in
    let values = ap length (subst (λ (d : Draft). d.values ≡ []) (sym c.self.view_is) c.requires.values) in
    let numbers = ap length (subst (λ (d : Draft). d.numbers ≡ []) (sym c.self.view_is) c.requires.numbers) in
    let same = values-len b.slots.items b.texts.items in
    record {
      slots_are = omega (arith, same, values, length-drop (b.width * b.rows) vs, c.self.invariant.slots_are);
      texts_are = c.self.invariant.texts_are;
      numbers_are = omega (arith, numbers, length-drop (b.measures * b.rows) b.numbers.items, c.self.invariant.numbers_are);
    }
