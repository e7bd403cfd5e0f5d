use Rattle.std.proofs.Common.{◌∙◌, List, arith, ap, set, ℕ}
use Rattle.std.specs.Prelude.{slice_index}
use Rattle.audit_view.proofs.Places.{put-more}
use Rattle.audit_view.proofs.place.projected.Goals as goal

pub loop-place-preserved : goal.loop-place-preserved
loop-place-preserved c =
    ap (λ (l : List ℕ). set l c.loop-place.place c.coordinate.result) c.loop-place.invariant
    ∙ put-more (λ d. slice_index c.args.entry.now.point.at d) c.args.dims.now c.loop-place.place c.coordinate.result (omega arith) c.requires.few c.coordinate.ensures
