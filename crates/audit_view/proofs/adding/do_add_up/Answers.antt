use Rattle.std.proofs.Common.{◌+◌, arith, sym, ap}
use Rattle.std.proofs.lemmas.Bool.{true≢false}
use Rattle.cube_point.specs.declared.point.Entry.{Entry}
use Rattle.fact_model.specs.declared.cell.Cell.{Cell}
use Rattle.audit_points.specs.Kept.{points_of}
use Rattle.audit_view.proofs.Weights.{counts-front, counts-more}
use Rattle.audit_view.proofs.adding.do_add_up.Goals as goal

pub returns-then-left-count : goal.returns-then-left-count
returns-then-left-count c = (
  (λ is. absurd (true≢false (sym is))),
  λ adds.
      let es = points_of c.args.view.now in
      let n = c.loop-index.index in
      absurd (omega (
        arith,
        adds,
        c.loop-index.invariant,
        counts-more es n c.point.result (omega arith),
        counts-front es (n + 1),
        ap (λ (e : Entry). e.cell.count) c.point.ensures.point,
        ap (λ (x : Cell). x.count) c.cell-count.ensures.value,
      )),
)

pub loop-index-preserved : goal.loop-index-preserved
loop-index-preserved c =
    let es = points_of c.args.view.now in
    let n = c.loop-index.index in
    omega (
      arith,
      c.loop-index.invariant,
      counts-more es n c.point.result (omega arith),
      ap (λ (e : Entry). e.cell.count) c.point.ensures.point,
      ap (λ (x : Cell). x.count) c.cell-count.ensures.value,
    )
