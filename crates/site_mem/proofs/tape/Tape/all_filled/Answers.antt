use Rattle.std.proofs.Common.{sym, subst, arith}
use Rattle.site_mem.specs.History.{MayLeave}
use Rattle.site_mem.specs.Image.{filled_files}
use Rattle.site_mem.specs.Tape.{tape_first, tape_steps}
use Rattle.site_mem.proofs.Arrays.{files_of-past, texts_of-four}
use Rattle.site_mem.proofs.Images.{filled-past, may_leave-filled}
use Rattle.site_mem.proofs.tape.Tape.all_filled.Goals as goal

pub returns-clause-files : goal.returns-clause-files
returns-clause-files c =
    let first = tape_first c.args.self.now in
    let steps = tape_steps c.args.self.now in
    texts_of-four (filled_files first steps c.args.byte) (filled-past first (λ file high. files_of-past c.args.self.now.first file (omega (arith, c.args.self.now.four))) steps c.args.byte) _ _ _ _
    c.in_ok-filled.ensures c.in_ok-filled-2.ensures c.in_ok-filled-3.ensures c.in_ok-filled-4.ensures

pub returns-clause-outcome : goal.returns-clause-outcome
returns-clause-outcome c = subst (MayLeave (tape_first c.args.self.now) (tape_steps c.args.self.now)) (sym (returns-clause-files c)) (may_leave-filled (tape_first c.args.self.now) (tape_steps c.args.self.now) c.args.byte)
