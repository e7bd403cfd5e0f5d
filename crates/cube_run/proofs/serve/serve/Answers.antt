use Rattle.std.proofs.Common.{ap, arith}
use Rattle.cube_run.proofs.Names.{Reading}
use Rattle.cube_run.proofs.Going.{handed}
use Rattle.cube_run.proofs.Serving.{come_end, come_piece, piece_reads, served_end, served_fault, served_more, served_none, served_out, served_past, served_stop}
use Rattle.cube_run.proofs.serve.serve.Goals as goal

pub loop-lines-init : goal.loop-lines-init
loop-lines-init g c = served_none g.S.Source g.T.Site _ _ _ _ _ _ (λ t told files. g.met.T.Site.only_now c.args.site.now told files t) c.requires.runs c.new-lines.ensures

pub loop-lines-preserved : goal.loop-lines-preserved
loop-lines-preserved g c = served_more c.loop-lines.invariant c.in_ok-count.ensures (piece_reads _ _ _ _ c.loop-lines.invariant.reads.over c.give_back.ensures c.take_over.ensures)
    c.in_ok-carry_out-2.ensures (omega (arith, c.if-taken-limit.false)) (omega (arith, c.if-count-eq0.false))

pub returns-in_err-buffer : goal.returns-in_err-buffer
returns-in_err-buffer g c = rw (handed _ _ c.from_residual.ensures.1) (served_out c.loop-lines.invariant)

pub returns-in_err-count : goal.returns-in_err-count
returns-in_err-count g c = rw (handed _ _ c.from_residual-in_err-count.ensures.1) (served_fault c.loop-lines.invariant c.in_err-count.ensures)

pub returns-then-taken-limit : goal.returns-then-taken-limit
returns-then-taken-limit g c =
    served_past c.loop-lines.invariant c.in_ok-count.ensures (omega (arith, c.if-taken-limit.true)) (omega (arith, c.loop-lines.invariant.few, c.pull.ensures.room, c.in_ok-buffer.ensures.most))
    (omega (arith, c.pull.ensures.room, c.in_ok-buffer.ensures.piece)) (omega (arith, c.if-count-eq0.false))

pub returns-in_err-carry_out : goal.returns-in_err-carry_out
returns-in_err-carry_out g c =
    rw (handed _ _ c.from_residual-in_err-carry_out.ensures.1) (served_stop c.loop-lines.invariant c.in_ok-count.ensures
    (come_end c.loop-lines.invariant c.in_ok-count.ensures _ _ c.give_back.ensures c.end.ensures c.if-count-eq0.true)
    c.in_err-carry_out.ensures (omega (arith, c.if-count-eq0.true, c.loop-lines.invariant.few)))

pub returns-then-count-eq0 : goal.returns-then-count-eq0
returns-then-count-eq0 g c =
    served_end c.loop-lines.invariant c.in_ok-count.ensures (come_end c.loop-lines.invariant c.in_ok-count.ensures _ _ c.give_back.ensures c.end.ensures c.if-count-eq0.true)
    c.in_ok-carry_out.ensures (ap (λ (r : Reading). r.over) c.end.ensures) c.if-count-eq0.true

pub returns-in_err-carry_out-2 : goal.returns-in_err-carry_out-2
returns-in_err-carry_out-2 g c =
    rw (handed _ _ c.from_residual-in_err-carry_out-2.ensures.1) (served_stop c.loop-lines.invariant c.in_ok-count.ensures
    (come_piece c.loop-lines.invariant c.in_ok-count.ensures _ (piece_reads _ _ _ _ c.loop-lines.invariant.reads.over c.give_back.ensures c.take_over.ensures))
    c.in_err-carry_out-2.ensures (omega (arith, c.if-taken-limit.false)))
