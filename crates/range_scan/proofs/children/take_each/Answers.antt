use Rattle.std.proofs.Common.{Vec, Global, ◌≡◌, ◌<◌, ◌+◌, ◌-◌, ◌*◌, ◌++◌, ◌∙◌, ℕ, [], ◌∷◌, drop, length, reverse, subst, sym, ap, arith}
use Rattle.page_fmt.specs.declared.page.Child.{Child}
use Rattle.page_fmt.specs.Pages.{child_size}
use Rattle.page_entry.specs.Entries.{page_count}
use Rattle.page_fmt.specs.Taking.{child_of, children}
use Rattle.page_fmt.specs.Writing.{IsBox}
use Rattle.range_scan.specs.Visits.{met}
use Rattle.range_scan.proofs.Lists.{goes_on, passes_by}
use Rattle.range_scan.proofs.Meetings.{there}
use Rattle.range_scan.proofs.children.take_each.Goals.{then-is_met+in_ok-push, else-is_met}
use Rattle.range_scan.proofs.children.take_each.Goals as goal

-- the place of one child more
place-is : (count passed at size long : ℕ) → passed < count → at ≡ 8 + (count - passed) * size → size ≡ long → at - size ≡ 8 + (count - 1 - passed) * long
place-is count passed at size long lt is same =
    let i = count - 1 - passed in
    let next : count - passed ≡ i + 1 = omega (arith, lt) in
    let place : at ≡ 8 + (i + 1) * size = is ∙ ap (λ (k : ℕ). 8 + k * size) next in
    let here : at - size ≡ 8 + i * size = omega (arith, place) in
    here ∙ ap (λ (s : ℕ). 8 + i * s) same

pub is_met-requires-clause-ends : goal.is_met-requires-clause-ends
is_met-requires-clause-ends c =
    let shape = c.args.shape.now in
    let b = c.args.page.now in
    let i = c.args.count - 1 - c.loop-passed.passed in
    let at = c.loop-passed.at - c.size_of_child-size.result in
    let is = place-is c.args.count c.loop-passed.passed c.loop-passed.at c.size_of_child-size.result (child_size shape) c.loop-passed-test.true c.loop-passed.invariant.place c.size_of_child-size.ensures in
    let low : i < length (children shape b) = omega (arith, c.requires.count, c.loop-passed-test.true) in
    let said : i < page_count b = omega (arith, c.requires.said, c.loop-passed-test.true) in
    subst (λ (x : Child). IsBox shape x.bounds) (sym (there shape b i at said is)) (c.requires.boxes i (child_of shape (drop at b)) low)

pub loop-passed-preserved : goal.loop-passed-preserved
loop-passed-preserved c =
    let shape = c.args.shape.now in
    let b = c.args.page.now in
    let region = c.args.region.now in
    let cs = children shape b in
    let old = reverse c.args.ahead.now.items in
    let i = c.args.count - 1 - c.loop-passed.passed in
    let size = c.size_of_child-size.result in
    let at = c.loop-passed.at - size in
    let child = child_of shape (drop at b) in
    let i-is : c.args.count - (c.loop-passed.passed + 1) ≡ i = omega arith in
    let next : c.args.count - c.loop-passed.passed ≡ i + 1 = omega (arith, c.loop-passed-test.true) in
    let low : i < length cs = omega (arith, c.requires.count, c.loop-passed-test.true) in
    let said : i < page_count b = omega (arith, c.requires.said, c.loop-passed-test.true) in
    let is = place-is c.args.count c.loop-passed.passed c.loop-passed.at size (child_size shape) c.loop-passed-test.true c.loop-passed.invariant.place c.size_of_child-size.ensures in
    let child-is = there shape b i at said is in
    let back = ap (λ (k : ℕ). met region (drop k cs) ++ old) (sym i-is) in
    record {
      goes_on = elim c.if-is_met.branch [
        | then-is_met+in_ok-push w ↦ ap (λ (v : Vec ℕ Global). reverse v.items) w.ahead-is
            ∙ (ap reverse (w.in_ok-push.ensures.items ∙ ap (λ (n : ℕ). c.loop-passed.ahead.items ++ n ∷ []) w.child_page_at.ensures)
            ∙ (goes_on region cs i (c.args.count - c.loop-passed.passed) child c.loop-passed.ahead.items old next low child-is (sym c.is_met.ensures ∙ w.if-is_met.true) c.loop-passed.invariant.goes_on ∙ back))
        | else-is_met w ↦ ap (λ (v : Vec ℕ Global). reverse v.items) w.ahead-is
            ∙ (passes_by region cs i (c.args.count - c.loop-passed.passed) child c.loop-passed.ahead.items old next low child-is (sym c.is_met.ensures ∙ w.if-is_met.false) c.loop-passed.invariant.goes_on ∙ back)
      ];
      place = place-is c.args.count c.loop-passed.passed c.loop-passed.at size size c.loop-passed-test.true c.loop-passed.invariant.place (λ j. size) ∙ ap (λ (k : ℕ). 8 + k * size) (sym i-is);
    }
