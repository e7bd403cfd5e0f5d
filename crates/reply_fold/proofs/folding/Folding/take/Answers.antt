use Rattle.std.proofs.Common.{◌≡◌, ◌++◌, ◌+◌, ◌≤◌, List, ℤ, true, false, refl, sym, ap, ◌∙◌, arith, subst}
use Rattle.std.specs.Ordering.{is_eq}
use Rattle.fact_model.specs.Value.{key_cmp}
use Rattle.row_fold.specs.Joins.{join_numbers, size_at}
use Rattle.row_fold.proofs.NumberJoins.{numbers-size}
use Rattle.row_fold.proofs.Puts.{joined-items}
use Rattle.reply_fold.specs.Order.{row_at}
use Rattle.reply_fold.proofs.Foldings.{makes-other, makes-same}
use Rattle.reply_fold.proofs.folding.Folding.take.Goals as goal

pub returns-then-is_eq-clause-makes : goal.returns-then-is_eq-clause-makes
returns-then-is_eq-clause-makes c =
    let rows = c.args.rows.now in
    let cs = c.args.columns.now in
    let old = c.args.self.now in
    let same : is_eq (key_cmp (row_at rows old.head).key (row_at rows c.args.at).key) ≡ true = ap is_eq (sym c.compare.ensures) ∙ (sym c.is_eq.ensures ∙ c.if-is_eq.true) in
    let sums = joined-items cs (row_at rows c.args.at).numbers old.sums c.join_numbers.new.sums c.requires.room
    (c.join_numbers.ensures ∙ (λ i. join_numbers cs (c.numbers_at-numbers.ensures i) (c.deref_mut.ensures.value i))) in
    λ es whole m. makes-same cs rows old _ c.args.at es whole same refl refl refl sums m

pub returns-then-is_eq-clause-light : goal.returns-then-is_eq-clause-light
returns-then-is_eq-clause-light c =
    let numbers = (row_at c.args.rows.now c.args.at).numbers in
    let cs = c.args.columns.now in
    let old = c.args.self.now.sums in
    let sums = joined-items cs numbers old c.join_numbers.new.sums c.requires.room
    (c.join_numbers.ensures ∙ (λ i. join_numbers cs (c.numbers_at-numbers.ensures i) (c.deref_mut.ensures.value i))) in
    λ j. subst (λ (xs : List ℤ). size_at j xs ≤ size_at j old.items + size_at j numbers) (sym sums) (omega (arith, numbers-size j cs numbers old.items))

pub returns-clause-makes : goal.returns-clause-makes
returns-clause-makes c =
    let rows = c.args.rows.now in
    let old = c.args.self.now in
    let other : is_eq (key_cmp (row_at rows old.head).key (row_at rows c.args.at).key) ≡ false = ap is_eq (sym c.compare.ensures) ∙ (sym c.is_eq.ensures ∙ c.if-is_eq.false) in
    let sums = c.in_ok-extend_from_slice.ensures.items ∙ (ap (λ xs. xs ++ c.numbers_at-numbers.result.now) c.clear.ensures.items ∙ c.numbers_at-numbers.ensures) in
    λ es whole m. makes-other c.args.columns.now rows old _ c.args.at es whole other c.in_ok-write.ensures.written c.in_ok-write.ensures.count refl sums m
