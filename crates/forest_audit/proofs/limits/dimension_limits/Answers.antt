use Rattle.std.proofs.Common.{◌∙◌, List, ℕ, ap, arith, set}
use Rattle.forest_audit.specs.Limits.{attr_limit}
use Rattle.forest_audit.proofs.Puts.{all-put, put-more}
use Rattle.forest_audit.proofs.limits.dimension_limits.Goals as goal

pub loop-dimension-preserved : goal.loop-dimension-preserved
loop-dimension-preserved c = λ names are.
    ap (λ (l : List ℕ). set l c.loop-dimension.dimension c.attr_limit.result) (c.loop-dimension.invariant names are)
    ∙ put-more (attr_limit c.args.schema.now names) 0 8 c.args.view.now c.loop-dimension.dimension 0 c.attr_limit.result (omega arith) c.requires (c.attr_limit.ensures names are)

pub returns : goal.returns
returns c = λ names are.
    c.loop-dimension.invariant names are ∙ all-put (attr_limit c.args.schema.now names) 0 8 c.args.view.now c.loop-dimension.dimension (omega arith) (omega arith)
