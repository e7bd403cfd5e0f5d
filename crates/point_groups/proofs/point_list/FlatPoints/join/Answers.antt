use Rattle.std.proofs.Common.{arith, ◌≡◌, ℕ, ◌-◌, ap, sym, subst}
use Rattle.std.specs.Prelude.{OnOk, IfErr}
use Rattle.std.proofs.lemmas.Result.{on_ok_weaker}
use Rattle.cube_point.specs.declared.point.Entry.{Entry}
use Rattle.fact_model.specs.Cell.{join}
use Rattle.page_entry.specs.Cells.{EndsInZeros}
use Rattle.point_groups.specs.Joins.{Joins}
use Rattle.point_groups.specs.declared.stop.RowsStop.TheVariants as stops
use Rattle.point_groups.proofs.FlatLists.{all-long, closed-places, in-closed, in-recent, joined-closed, joined-recent, recent-places}
use Rattle.point_groups.proofs.point_list.FlatPoints.join.Goals as goal

pub join_recent-requires : goal.join_recent-requires
join_recent-requires c =
    let its = c.self.inside in
    let es = c.args.self.now in
    let n = c.args.number in
    omega (arith, c.requires, c.if-number-closed.false, c.len-closed.ensures.count, all-long its.closed its.recent.items es c.self.view_is)

pub returns-then-number-closed-clause-joined : goal.returns-then-number-closed-clause-joined
returns-then-number-closed-clause-joined c = λ ends.
    let its = c.self.inside in
    let es = c.args.self.now in
    let n = c.args.number in
    on_ok_weaker c.join_closed.result (λ is. joined-closed its.closed its.recent.items es c.self.view_is c.join_closed.new.points c.args.entry.now n (omega (arith, c.if-number-closed.true, c.len-closed.ensures.count)) is)
    (c.join_closed.ensures.joined (subst (λ (e : Entry). EndsInZeros e.cell) (sym (in-closed its.closed its.recent.items es c.self.view_is n (omega (arith, c.if-number-closed.true, c.len-closed.ensures.count)))) ends))

pub returns-then-number-closed-clause-joins : goal.returns-then-number-closed-clause-joins
returns-then-number-closed-clause-joins c =
    let its = c.self.inside in
    let es = c.args.self.now in
    let n = c.args.number in
    subst (λ (e : Entry). OnOk c.join_closed.result (Joins e.cell c.args.entry.now.cell)) (in-closed its.closed its.recent.items es c.self.view_is n (omega (arith, c.if-number-closed.true, c.len-closed.ensures.count))) c.join_closed.ensures.joins

pub returns-then-number-closed-clause-ends : goal.returns-then-number-closed-clause-ends
returns-then-number-closed-clause-ends c = λ ends.
    let its = c.self.inside in
    let es = c.args.self.now in
    let n = c.args.number in
    subst (λ (e : Entry). OnOk c.join_closed.result (EndsInZeros (join e.cell c.args.entry.now.cell))) (in-closed its.closed its.recent.items es c.self.view_is n (omega (arith, c.if-number-closed.true, c.len-closed.ensures.count)))
    (c.join_closed.ensures.ends (subst (λ (e : Entry). EndsInZeros e.cell) (sym (in-closed its.closed its.recent.items es c.self.view_is n (omega (arith, c.if-number-closed.true, c.len-closed.ensures.count)))) ends))

pub returns-then-number-closed-clause-places : goal.returns-then-number-closed-clause-places
returns-then-number-closed-clause-places c =
    let its = c.self.inside in
    let es = c.args.self.now in
    let n = c.args.number in
    on_ok_weaker c.join_closed.result (λ is. closed-places its.closed its.recent.items es c.self.view_is c.join_closed.new.points is) c.join_closed.ensures.places

pub returns-then-number-closed-clause-apart : goal.returns-then-number-closed-clause-apart
returns-then-number-closed-clause-apart c =
    let its = c.self.inside in
    let es = c.args.self.now in
    let n = c.args.number in
    subst (λ (e : Entry). IfErr c.join_closed.result (λ stop. stop ≡ stops.Damaged → Joins e.cell c.args.entry.now.cell → ⊥)) (in-closed its.closed its.recent.items es c.self.view_is n (omega (arith, c.if-number-closed.true, c.len-closed.ensures.count))) c.join_closed.ensures.apart

pub returns-clause-joined : goal.returns-clause-joined
returns-clause-joined c = λ ends.
    let its = c.self.inside in
    let es = c.args.self.now in
    let n = c.args.number in
    on_ok_weaker c.join_recent.result (λ is. joined-recent its.closed its.recent.items es c.self.view_is c.join_recent.new.points.items c.args.entry.now n (n - c.len-closed.result) (omega (arith, c.if-number-closed.false, c.len-closed.ensures.count)) (ap (λ (k : ℕ). n - k) c.len-closed.ensures.count) is)
    (c.join_recent.ensures.joined (subst (λ (e : Entry). EndsInZeros e.cell) (sym (in-recent its.closed its.recent.items es c.self.view_is n (n - c.len-closed.result) (omega (arith, c.if-number-closed.false, c.len-closed.ensures.count)) (ap (λ (k : ℕ). n - k) c.len-closed.ensures.count))) ends))

pub returns-clause-joins : goal.returns-clause-joins
returns-clause-joins c =
    let its = c.self.inside in
    let es = c.args.self.now in
    let n = c.args.number in
    subst (λ (e : Entry). OnOk c.join_recent.result (Joins e.cell c.args.entry.now.cell)) (in-recent its.closed its.recent.items es c.self.view_is n (n - c.len-closed.result) (omega (arith, c.if-number-closed.false, c.len-closed.ensures.count)) (ap (λ (k : ℕ). n - k) c.len-closed.ensures.count)) c.join_recent.ensures.joins

pub returns-clause-ends : goal.returns-clause-ends
returns-clause-ends c = λ ends.
    let its = c.self.inside in
    let es = c.args.self.now in
    let n = c.args.number in
    subst (λ (e : Entry). OnOk c.join_recent.result (EndsInZeros (join e.cell c.args.entry.now.cell))) (in-recent its.closed its.recent.items es c.self.view_is n (n - c.len-closed.result) (omega (arith, c.if-number-closed.false, c.len-closed.ensures.count)) (ap (λ (k : ℕ). n - k) c.len-closed.ensures.count))
    (c.join_recent.ensures.ends (subst (λ (e : Entry). EndsInZeros e.cell) (sym (in-recent its.closed its.recent.items es c.self.view_is n (n - c.len-closed.result) (omega (arith, c.if-number-closed.false, c.len-closed.ensures.count)) (ap (λ (k : ℕ). n - k) c.len-closed.ensures.count))) ends))

pub returns-clause-places : goal.returns-clause-places
returns-clause-places c =
    let its = c.self.inside in
    let es = c.args.self.now in
    let n = c.args.number in
    on_ok_weaker c.join_recent.result (λ is. recent-places its.closed its.recent.items es c.self.view_is c.join_recent.new.points.items is) c.join_recent.ensures.places

pub returns-clause-apart : goal.returns-clause-apart
returns-clause-apart c =
    let its = c.self.inside in
    let es = c.args.self.now in
    let n = c.args.number in
    subst (λ (e : Entry). IfErr c.join_recent.result (λ stop. stop ≡ stops.Damaged → Joins e.cell c.args.entry.now.cell → ⊥)) (in-recent its.closed its.recent.items es c.self.view_is n (n - c.len-closed.result) (omega (arith, c.if-number-closed.false, c.len-closed.ensures.count)) (ap (λ (k : ℕ). n - k) c.len-closed.ensures.count)) c.join_recent.ensures.apart
