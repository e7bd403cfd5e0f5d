use Rattle.std.proofs.Common.{sym, subst}
use Rattle.merge_pack.specs.Merging.{Merger}
use Rattle.merge_pack.specs.Runs.{MayMoveRun}
use Rattle.merge_pack.proofs.merge.Merge.move_at_once.Goals as goal

pub move_run-requires : goal.move_run-requires
move_run-requires c =
    let may = subst (λ (v : Merger). MayMoveRun c.args.count v) (sym c.self.view_is) c.requires.may in
    record { some = may.some; held = may.held; shape = may.shape; may = may.may }
