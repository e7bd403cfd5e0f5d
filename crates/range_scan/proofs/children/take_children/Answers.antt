use Rattle.std.proofs.Common.{◌≡◌, ◌<◌, ◌≤◌, ◌+◌, ◌*◌, ◌++◌, ◌∙◌, ℕ, List, true, drop, get_or, reverse, refl, sym, ap, arith, true≢false}
use Rattle.std.specs.List.{All}
use Rattle.page_fmt.specs.declared.page.Child.{Child}
use Rattle.page_fmt.specs.declared.page.Place.{Place}
use Rattle.page_fmt.specs.Pages.{child_size}
use Rattle.page_entry.specs.Entries.{ascend, page_count}
use Rattle.page_fmt.specs.Taking.{child_of, children, page_before}
use Rattle.range_scan.proofs.Meetings.{ahead-met, from-first, none-met, there}
use Rattle.range_scan.proofs.children.take_children.Goals as goal

-- the first child's page
first-is : (tree : Place) (b : List ℕ) → 0 < page_count b → (child_of tree.shape (drop 8 b)).page ≡ (get_or (children tree.shape b) 0 (child_of tree.shape (drop 8 b))).page
first-is tree b some =
    let place : 8 ≡ 8 + 0 * child_size tree.shape = omega arith in
    ap (λ (c : Child). c.page) (there tree.shape b 0 8 some place)

from-tree : (tree : Place) (b : List ℕ) (read : ℕ) → 0 < page_count b → ascend page_before (children tree.shape b) ≡ true → read ≡ (child_of tree.shape (drop 8 b)).page → tree.first ≤ read
    → All (λ (c : Child). tree.first ≤ c.page) (children tree.shape b)
from-tree tree b read some order is from = from-first tree.first (children tree.shape b) (child_of tree.shape (drop 8 b)) order (omega (arith, first-is tree b some, is, from))

pub returns-then-child_page_at-query-clause-within : goal.returns-then-child_page_at-query-clause-within
returns-then-child_page_at-query-clause-within c =
    let tree = c.args.query.now.tree.now in
    let b = c.args.page.now in
    let child = child_of tree.shape (drop 8 b) in
    let some : 0 < page_count b = omega (arith, c.requires.said, c.requires.some) in (
      λ yes. absurd cc,
      λ all. absurd (omega (arith, all 0 child (omega (arith, c.requires.count, c.requires.some)), first-is tree b some, c.child_page_at.ensures, c.if-child_page_at-query.true)),
    )

pub returns-then-not-holds_some-clause-within : goal.returns-then-not-holds_some-clause-within
returns-then-not-holds_some-clause-within c = (
  λ _. from-tree c.args.query.now.tree.now c.args.page.now c.child_page_at.result (omega (arith, c.requires.said, c.requires.some)) c.requires.holds.order c.child_page_at.ensures c.if-child_page_at-query.false,
  λ _. refl,
)

pub returns-then-not-holds_some-clause-goes_on : goal.returns-then-not-holds_some-clause-goes_on
returns-then-not-holds_some-clause-goes_on c = λ _.
    let shape = c.args.query.now.tree.now.shape in
    sym (ap (λ (l : List ℕ). l ++ reverse c.args.ahead.now.items) (none-met shape c.args.query.now.region.now (children shape c.args.page.now) c.requires.page.dims c.requires.holds.boxes
    (λ some. true≢false (sym (c.holds_some.ensures.1 some) ∙ c.if-not-holds_some.true))))

pub returns-clause-within : goal.returns-clause-within
returns-clause-within c = (
  λ _. from-tree c.args.query.now.tree.now c.args.page.now c.child_page_at.result (omega (arith, c.requires.said, c.requires.some)) c.requires.holds.order c.child_page_at.ensures c.if-child_page_at-query.false,
  λ _. refl,
)

pub returns-clause-ahead : goal.returns-clause-ahead
returns-clause-ahead c =
    let tree = c.args.query.now.tree.now in
    let b = c.args.page.now in
    let from = from-tree tree b c.child_page_at.result (omega (arith, c.requires.said, c.requires.some)) c.requires.holds.order c.child_page_at.ensures c.if-child_page_at-query.false in
    ahead-met tree c.args.query.now.region.now (children tree.shape b) c.args.ahead.now.items c.take_met.new.ahead.items c.requires.ahead from c.requires.below c.in_ok-take_met.ensures
