use Rattle.std.proofs.Common.{subst}
use Rattle.merge_pack.specs.Merging.{Merger}
use Rattle.merge_pack.specs.Ready.{MayMoveAtOnce}
use Rattle.merge_pack.proofs.merge.Merge.look_ahead.Goals as goal

pub returns-clause-may : goal.returns-clause-may
returns-clause-may c = λ some. subst (λ (v : Merger). MayMoveAtOnce c.count_at_once.result c.look_on.new.new v.scan v.at) c.self.view_is (c.count_at_once.ensures some)
