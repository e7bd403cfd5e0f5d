use Rattle.std.proofs.Common.{◌≡◌, ℕ, ◌+◌, ◌≤◌, List, ℤ, Vec, [], ◌∷◌, length, drop, get_or, map, sym, ap, ◌∙◌, arith, subst}
use Rattle.std.specs.Prelude.{IfOk}
use Rattle.std.specs.declared.alloc.Global.{Global}
use Rattle.std.proofs.lemmas.List.{drop_all, get_or_default}
use Rattle.csv_text.specs.Rows.{with_count}
use Rattle.fact_model.specs.Rows.{as_row}
use Rattle.fact_model.specs.Value.{Key}
use Rattle.fact_model.specs.declared.slice.Column.{Column}
use Rattle.fact_model.specs.Fact.{mass_limit}
use Rattle.reply_text.specs.Replies.{answer_text}
use Rattle.row_fold.specs.Joins.{size_at}
use Rattle.reply_fold.specs.Folding.{Makes}
use Rattle.reply_fold.specs.Order.{picked}
use Rattle.reply_fold.specs.Whole.{joined}
use Rattle.reply_fold.proofs.Orders.{entries, first-light, first-makes, first-wide, next-makes, next-room, next-weight, next-wide, none-told, rest-wide, told-also, weight_at}
use Rattle.reply_fold.proofs.joining.joined_text.Goals as goal

pub returns-in_default : goal.returns-in_default
returns-in_default c =
    let cs = c.args.columns.now in
    let rows = c.args.rows.now in
    let none : length c.in_ok-order.order.items ≡ 0 = ap length (sym c.deref.ensures.value) ∙ c.in_default.ensures.cases in
    subst (λ (xs : List ℕ). IfOk c.into_answer.result (λ text. text.items ≡ xs))
    ((λ i. with_count (c.new.ensures i).text 0) ∙ ap (λ es. answer_text (map as_row es)) (sym (none-told cs rows c.in_ok-order.order.items c.in_ok-order.ensures none))) c.into_answer.ensures

pub loop-at-init : goal.loop-at-init
loop-at-init c =
    let cs = c.args.columns.now in
    let rows = c.args.rows.now in
    let order = c.in_ok-order.order.items in
    let first = c.in-Some.first.now in
    let rest = c.in-Some.rest.now in
    let f = c.in_ok-folding.folding in
    let is = c.in_ok-order.ensures in
    let parts : order ≡ first ∷ rest = sym c.deref.ensures.value ∙ c.in-Some.ensures.cases.0 in
    record {
      makes = first-makes cs rows order is first rest parts f c.in_ok-folding.ensures.makes;
      wide = ap length c.in_ok-folding.ensures.sums ∙ first-wide cs rows order is first rest parts c.requires.wide;
      light = λ j. subst (λ (xs : List ℤ). size_at j xs + weight_at j (picked rows rest) ≤ mass_limit) (sym c.in_ok-folding.ensures.sums) (first-light cs rows order is first rest parts c.requires.adds j);
      count = omega (arith, c.in_ok-folding.ensures.count);
    }

pub take-requires-clause-room : goal.take-requires-clause-room
take-requires-clause-room c =
    let cs = c.args.columns.now in
    let rows = c.args.rows.now in
    let order = c.in_ok-order.order.items in
    let first = c.in-Some.first.now in
    let rest = c.in-Some.rest.now in
    let i = c.loop-at.at-index in
    let at : ℕ = get_or rest i 0 in
    let low = c.loop-at-test.true in
    let is : get_or rest i at ≡ at = get_or_default rest i at 0 low in
    let parts : order ≡ first ∷ rest = sym c.deref.ensures.value ∙ c.in-Some.ensures.cases.0 in
    next-room cs rows at c.loop-at.folding.sums.items (λ j. weight_at j (picked rows (drop (i + 1) rest)))
    (next-wide cs rows rest i at low is (rest-wide cs rows order c.in_ok-order.ensures first rest parts c.requires.wide)) c.loop-at.invariant.wide
    (λ j. omega (arith, next-weight cs rows rest i at low is j, c.loop-at.invariant.light j))

pub loop-at-preserved : goal.loop-at-preserved
loop-at-preserved c =
    let cs = c.args.columns.now in
    let rows = c.args.rows.now in
    let rest = c.in-Some.rest.now in
    let i = c.loop-at.at-index in
    let at : ℕ = get_or rest i 0 in
    let low = c.loop-at-test.true in
    let is : get_or rest i at ≡ at = get_or_default rest i at 0 low in
    let taken = c.in_ok-take.ensures in
    record {
      makes = next-makes cs rows rest i at low is c.loop-at.folding c.take.new.self (joined cs rows) taken.makes c.loop-at.invariant.makes;
      wide = taken.wide;
      light = λ j. omega (arith, next-weight cs rows rest i at low is j, c.loop-at.invariant.light j, taken.light j);
      count = omega (arith, taken.count, c.loop-at.invariant.count);
    }

pub returns : goal.returns
returns c =
    let cs = c.args.columns.now in
    let rows = c.args.rows.now in
    let f = c.loop-at.folding in
    let past : drop c.loop-at.at-index c.in-Some.rest.now ≡ [] = drop_all c.loop-at.at-index c.in-Some.rest.now c.loop-at-test.false in
    let made : Makes cs rows f [] (joined cs rows) = subst (λ (places : List ℕ). Makes cs rows f (entries rows places) (joined cs rows)) past c.loop-at.invariant.makes in
    told-also (λ (text : Vec ℕ Global). (columns : List Column) (whole : List (Key × List ℤ)) → Makes columns rows f [] whole → text.items ≡ answer_text (map as_row whole))
    (λ text. text.items ≡ answer_text (map as_row (joined cs rows))) c.into_answer-2.result (λ text h. h cs (joined cs rows) made) c.into_answer-2.ensures
