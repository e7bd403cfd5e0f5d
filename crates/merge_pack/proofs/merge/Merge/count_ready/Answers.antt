use Rattle.std.proofs.Common.{Option, drop, sym, subst}
use Rattle.cube_point.specs.declared.point.Point.{Point}
use Rattle.merge_pack.specs.Ready.{MayMoveAtOnce}
use Rattle.merge_pack.proofs.merge.Merge.count_ready.Goals as goal

pub returns-clause-may : goal.returns-clause-may
returns-clause-may c = λ some.
    let v = c.args.self.now in
    subst (λ (p : Option Point). MayMoveAtOnce c.look_ahead-count.result p v.scan v.at) (sym c.look_ahead-count.ensures.new) (c.look_ahead-count.ensures.may some)
