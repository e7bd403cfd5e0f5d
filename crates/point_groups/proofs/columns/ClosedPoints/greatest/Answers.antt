use Rattle.std.proofs.Common.{get_or, ap, arith}
use Rattle.std.proofs.lemmas.List.{get_or_default}
use Rattle.cube_point.specs.declared.point.Entry.{Entry}
use Rattle.point_groups.specs.Bare.{nowhere}
use Rattle.point_groups.proofs.ClosedLists.{found}
use Rattle.point_groups.proofs.columns.ClosedPoints.greatest.Goals as goal

pub returns : goal.returns
returns c = λ k d low.
    let es = c.args.self.now in
    omega (
      arith,
      ap (λ (e : Entry). get_or e.point.at c.args.dimension 0) (get_or_default es k d nowhere low),
      ap (λ (e : Entry). get_or e.point.at c.args.dimension 0) (found c.self.inside es k c.self.view_is low),
      c.greatest_in.ensures k,
    )
