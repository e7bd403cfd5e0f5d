use Rattle.std.proofs.Common.{◌≡◌, ◌≢◌, ◌≤◌, ◌<◌, ◌+◌, ◌-◌, ◌*◌, ◌^◌, ℕ, Bool, List, true, false, inl, inr, take, drop, sym, ap, ◌∙◌, arith}
use Rattle.std.specs.List.{list_all}
use Rattle.std.specs.Prelude.{nat_lt, slice_index, ◌&&◌}
use Rattle.std.proofs.Math.Bool.{and-false, and-true}
use Rattle.std.proofs.Math.Nat.{mul-le-mul_right}
use Rattle.std.specs.Ordering.{is_lt}
use Rattle.page_entry.specs.Bytes.{width}
use Rattle.std.proofs.lemmas.Bool.{cases_Bool, lt-ltb, ltb-true, le-ltb, true≢false}
use Rattle.cube_point.specs.Points.{comes_before}
use Rattle.page_entry.specs.Entries.{are_positive, point_of}
use Rattle.page_entry.proofs.Coordinates.{coordinates}
use Rattle.page_entry.proofs.Following.{each-positive, front-alone, front-same, positive}
use Rattle.page_entry.proofs.Pairs.{pair, pair-tells, tied-walk}
use Rattle.page_entry.proofs.Tests.{left-false}
use Rattle.page_entry.proofs.order.is_pair_after.Goals as goal

module _ (wide : Bool) (arity : ℕ) (left right : List ℕ) (two : 2 ≤ arity) (le : arity ≤ 8)
    (low-left : slice_index (coordinates wide arity left) (arity - 2) < 2 ^ 32) (low-right : slice_index (coordinates wide arity right) (arity - 2) < 2 ^ 32)
    (before here : ℕ) (before-is : before ≡ pair wide arity left) (here-is : here ≡ pair wide arity right) where
  tells : before ≢ here → nat_lt before here ≡ comes_before (point_of wide arity left) (point_of wide arity right)
  tells differ = (λ j. nat_lt (before-is j) (here-is j)) ∙ pair-tells wide arity left right two le low-left low-right (λ e. differ (before-is ∙ (e ∙ sym here-is)))

  -- behind a point whose last coordinate is positive that of the next one is
  last-positive : are_positive (point_of wide arity left) ≡ true → before < here → positive (slice_index (coordinates wide arity right) (arity - 1)) ≡ true
  last-positive all below =
      let x = slice_index (coordinates wide arity left) (arity - 1) in
      let y = slice_index (coordinates wide arity right) (arity - 1) in
      let some : 0 < x = ltb-true 0 x (each-positive wide arity left le all (arity - 1) (omega (arith, two))) in
      lt-ltb 0 y (omega (arith, some, below, before-is, here-is, low-right))

-- one coordinate that is zero tells it
none-zero : (wide : Bool) (arity i : ℕ) (b : List ℕ) → arity ≤ 8 → i < arity → slice_index (coordinates wide arity b) i ≡ 0 → are_positive (point_of wide arity b) ≡ false
none-zero wide arity i b le lt zero = elim (cases_Bool (are_positive (point_of wide arity b))) [
  | inl all ↦ absurd (true≢false (sym (each-positive wide arity b le all i lt) ∙ le-ltb 0 (slice_index (coordinates wide arity b) i) (omega (arith, zero))))
  | inr fails ↦ fails
]

-- where the last two are positive, the ones before tell it
front : (wide : Bool) (arity : ℕ) (b : List ℕ) → 2 ≤ arity → arity ≤ 8
    → positive (slice_index (coordinates wide arity b) (arity - 1)) ≡ true → positive (slice_index (coordinates wide arity b) (arity - 2)) ≡ true
    → are_positive (point_of wide arity b) ≡ are_positive (point_of wide (arity - 2) b)
front wide arity b two le last before =
    let whole : arity ≡ arity - 1 + 1 = omega (arith, two) in
    let less : arity - 1 ≡ arity - 2 + 1 = omega (arith, two) in
    ap (λ (n : ℕ). list_all positive (take n (coordinates wide arity b))) whole
    ∙ (front-same wide arity b le (arity - 1) (omega (arith, two)) last
    ∙ (ap (λ (n : ℕ). list_all positive (take n (coordinates wide arity b))) less
    ∙ (front-same wide arity b le (arity - 2) (omega (arith, two)) before ∙ front-alone wide arity b le (arity - 2) (omega (arith, two)))))

-- ---- two points with the same last two coordinates

module _ (wide : Bool) (arity : ℕ) (left right : List ℕ) (two : 2 ≤ arity) (le : arity ≤ 8)
    (low-left : slice_index (coordinates wide arity left) (arity - 2) < 2 ^ 32) (low-right : slice_index (coordinates wide arity right) (arity - 2) < 2 ^ 32)
    (same : pair wide arity left ≡ pair wide arity right) where
  same-last : slice_index (coordinates wide arity left) (arity - 1) ≡ slice_index (coordinates wide arity right) (arity - 1)
  same-last = omega (arith, same, low-left, low-right)

  same-before : slice_index (coordinates wide arity left) (arity - 2) ≡ slice_index (coordinates wide arity right) (arity - 2)
  same-before = omega (arith, same, low-left, low-right)

  -- the ones before tell the order
  tied-order : comes_before (point_of wide arity left) (point_of wide arity right) ≡ comes_before (point_of wide (arity - 2) left) (point_of wide (arity - 2) right)
  tied-order = ap is_lt (tied-walk wide arity left right two le same-last same-before)

  left-front : are_positive (point_of wide arity left) ≡ true → are_positive (point_of wide (arity - 2) left) ≡ true
  left-front all =
      sym (front wide arity left two le (each-positive wide arity left le all (arity - 1) (omega (arith, two))) (each-positive wide arity left le all (arity - 2) (omega (arith, two)))) ∙ all

  right-front : are_positive (point_of wide arity left) ≡ true → are_positive (point_of wide arity right) ≡ are_positive (point_of wide (arity - 2) right)
  right-front all =
      front wide arity right two le (ap positive (sym same-last) ∙ each-positive wide arity left le all (arity - 1) (omega (arith, two)))
      (ap positive (sym same-before) ∙ each-positive wide arity left le all (arity - 2) (omega (arith, two)))

pub returns-then-here-before-2 : goal.returns-then-here-before-2
returns-then-here-before-2 c =
    let right = drop c.args.at c.args.page.now in
    let before = c.args.before in
    let here = c.args.here in
    let order = tells c.args.wide c.args.arity (drop c.args.last c.args.page.now) right c.requires.two c.requires.arity c.requires.low_before c.requires.low_here
    before here c.requires.before c.requires.here (λ e. absurd (omega (arith, e, c.if-here-before-2.true))) in
    let other = sym order ∙ le-ltb before here (omega (arith, c.if-here-before-2.true)) in
    sym (ap (λ (t : Bool). are_positive (point_of c.args.wide c.args.arity right) && t) other ∙ and-false (are_positive (point_of c.args.wide c.args.arity right)))

pub returns-then-here-eq0 : goal.returns-then-here-eq0
returns-then-here-eq0 c =
    let right = drop c.args.at c.args.page.now in
    let zero : slice_index (coordinates c.args.wide c.args.arity right) (c.args.arity - 2) ≡ 0
    = omega (arith, c.requires.here, c.requires.low_here, c.if-here-eq0.true) in
    left-false (are_positive (point_of c.args.wide c.args.arity right)) (comes_before (point_of c.args.wide c.args.arity (drop c.args.last c.args.page.now)) (point_of c.args.wide c.args.arity right))
    (none-zero c.args.wide c.args.arity (c.args.arity - 2) right c.requires.arity (omega (arith, c.requires.two)) zero)

pub returns : goal.returns
returns c =
    let left = drop c.args.last c.args.page.now in
    let right = drop c.args.at c.args.page.now in
    let before = c.args.before in
    let here = c.args.here in
    let below : before < here = omega (arith, c.if-here-before.false, c.if-here-before-2.false) in
    let order = tells c.args.wide c.args.arity left right c.requires.two c.requires.arity c.requires.low_before c.requires.low_here
    before here c.requires.before c.requires.here (λ e. absurd (omega (arith, e, below))) in
    let last = last-positive c.args.wide c.args.arity left right c.requires.two c.requires.arity c.requires.low_before c.requires.low_here
    before here c.requires.before c.requires.here c.requires.positive below in
    let v = slice_index (coordinates c.args.wide c.args.arity right) (c.args.arity - 2) in
    let some : positive v ≡ true = lt-ltb 0 v (omega (arith, c.requires.here, c.requires.low_here, c.if-here-eq0.false)) in
    c.are_coordinates_positive.ensures
    ∙ (sym (front c.args.wide c.args.arity right c.requires.two c.requires.arity last some)
    ∙ sym (ap (λ (t : Bool). are_positive (point_of c.args.wide c.args.arity right) && t) (sym order ∙ lt-ltb before here below) ∙ and-true (are_positive (point_of c.args.wide c.args.arity right))))

same-pair : (wide : Bool) (arity before here : ℕ) (left right : List ℕ) → before ≡ pair wide arity left → here ≡ pair wide arity right → here ≡ before → pair wide arity left ≡ pair wide arity right
same-pair wide arity before here left right before-is here-is same = sym before-is ∙ (sym same ∙ here-is)

pub is_positive_after-requires : goal.is_positive_after-requires
is_positive_after-requires c =
    let left = drop c.args.last c.args.page.now in
    let right = drop c.args.at c.args.page.now in
    let same = same-pair c.args.wide c.args.arity c.args.before c.args.here left right c.requires.before c.requires.here c.if-here-before.true in
    let fewer : (c.args.arity - 2) * width c.args.wide ≤ c.args.arity * width c.args.wide = mul-le-mul_right (width c.args.wide) (let few : c.args.arity - 2 ≤ c.args.arity = omega arith in few) in
    record {
      arity = omega (arith, c.requires.arity);
      last = omega (arith, fewer, c.requires.last);
      place = omega (arith, fewer, c.requires.place);
      positive = left-front c.args.wide c.args.arity left right c.requires.two c.requires.arity c.requires.low_before c.requires.low_here same c.requires.positive;
    }

pub returns-then-here-before : goal.returns-then-here-before
returns-then-here-before c =
    let left = drop c.args.last c.args.page.now in
    let right = drop c.args.at c.args.page.now in
    let same = same-pair c.args.wide c.args.arity c.args.before c.args.here left right c.requires.before c.requires.here c.if-here-before.true in
    let positives = right-front c.args.wide c.args.arity left right c.requires.two c.requires.arity c.requires.low_before c.requires.low_here same c.requires.positive in
    let order = tied-order c.args.wide c.args.arity left right c.requires.two c.requires.arity c.requires.low_before c.requires.low_here same in
    c.is_positive_after.ensures ∙ (λ i. sym positives i && sym order i)
