use Rattle.std.proofs.Common.{◌≡◌, ◌-◌, ◌+◌, ℕ, take, arith, subst}
use Rattle.std.specs.List.{All}
use Rattle.page_entry.specs.Runs.{Precedes}
use Rattle.page_entry.proofs.Runs.{before-all, behind-all}
use Rattle.page_entry.proofs.run.CodedRun.count_before.Goals as goal

pub returns-then-not-is_before-clause-behind : goal.returns-then-not-is_before-clause-behind
returns-then-not-is_before-clause-behind c =
    behind-all c.args.point.now c.args.self.now.entries 0 c.requires.order (omega (arith, c.len-count.ensures, c.if-count-eq0.false)) (c.is_before.ensures.behind c.if-not-is_before.true)

pub returns-then-is_before-clause-before : goal.returns-then-is_before-clause-before
returns-then-is_before-clause-before c =
    let n = c.len-count.result in
    let es = c.args.self.now.entries in
    let all : n - 1 + 1 ≡ n = omega (arith, c.if-count-eq0.false) in
    subst (λ (k : ℕ). All (Precedes c.args.point.now) (take k es)) all
    (before-all c.args.point.now es (n - 1) c.requires.order (omega (arith, c.len-count.ensures, c.if-count-eq0.false)) (c.is_before-2.ensures.before c.if-is_before.true))
