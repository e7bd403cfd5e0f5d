use Rattle.audit_view.specs.Totals.{AreNone}
use Rattle.audit_view.proofs.rolling.none.Given as goal

-- so many are none
abbrev pub invariant-loop : goal.invariant-loop
invariant-loop l = AreNone l.counter l.totals.items
