use Rattle.std.proofs.Common.{◌+◌, ◌-◌, ◌/◌, arith}
use Rattle.page_entry.proofs.Runs.{before-all, behind-all}
use Rattle.page_entry.proofs.run.CodedRun.count_by_halves.Goals as goal

pub loop-low-preserved-then-is_before : goal.loop-low-preserved-then-is_before
loop-low-preserved-then-is_before c =
    let inv = c.loop-low.invariant in
    let es = c.args.self.now.entries in
    let middle = c.loop-low.low + (c.loop-low.high - c.loop-low.low) / 2 in
    record {
      within = omega (arith, c.loop-low-test.true);
      inside = inv.inside;
      before = before-all c.args.point.now es middle c.requires.order (omega (arith, c.loop-low-test.true, inv.inside)) (c.is_before.ensures.before c.if-is_before.true);
      behind = inv.behind;
    }

pub loop-low-preserved : goal.loop-low-preserved
loop-low-preserved c =
    let inv = c.loop-low.invariant in
    let es = c.args.self.now.entries in
    let middle = c.loop-low.low + (c.loop-low.high - c.loop-low.low) / 2 in
    record {
      within = omega (arith, c.loop-low-test.true);
      inside = omega (arith, c.loop-low-test.true, inv.inside);
      before = inv.before;
      behind = behind-all c.args.point.now es middle c.requires.order (omega (arith, c.loop-low-test.true, inv.inside)) (c.is_before.ensures.behind c.if-is_before.false);
    }
