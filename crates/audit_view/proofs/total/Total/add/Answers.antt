use Rattle.std.proofs.Common.{Some, subst, sym, arith}
use Rattle.audit_view.specs.Totals.{HoldsSum, plus}
use Rattle.audit_view.proofs.Exact.{first-holds}
use Rattle.audit_view.proofs.total.Total.add.Goals as goal

pub returns-then-self-eq0-clause-joined : goal.returns-then-self-eq0-clause-joined
returns-then-self-eq0-clause-joined c = λ measures sum measured holds _.
    subst (HoldsSum measures (plus sum (Some c.args.cell.now))) (sym c.of.ensures)
    (first-holds measures sum c.args.cell.now c.args.self.now measured c.have_four.ensures.four (omega arith) (omega arith) holds)
