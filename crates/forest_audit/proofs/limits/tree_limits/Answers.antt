use Rattle.std.proofs.Common.{rules, ◌≡◌, ◌∙◌, ◌-◌, ◌++◌, map, take, List, None, ℕ, ap, arith, length, replicate, set}
use Rattle.forest_audit.specs.Limits.{view_limits}
use Rattle.forest_audit.proofs.Puts.{full-put, put-more}
use Rattle.forest_audit.proofs.limits.tree_limits.Goals as goal

pub loop-arity-preserved : goal.loop-arity-preserved
loop-arity-preserved c = λ names are.
    let nine : length c.args.tree.now.view_of ≡ 9 = search rules in
    ap (λ (l : List (List ℕ)). set l c.loop-arity.arity c.view_limits.result) (c.loop-arity.invariant names are)
    ∙ put-more (view_limits c.args.schema.now names) (replicate 8 0) 9 c.args.tree.now.view_of c.loop-arity.arity None c.view_limits.result (omega (arith, nine)) (omega (arith, nine)) (c.view_limits.ensures names are)

pub returns : goal.returns
returns c = λ names are.
    let nine : length c.args.tree.now.view_of ≡ 9 = search rules in
    let all : c.loop-arity.arity ≡ 9 = omega arith in
    c.loop-arity.invariant names are
    ∙ (ap (λ (n : ℕ). map (view_limits c.args.schema.now names) (take n c.args.tree.now.view_of) ++ replicate (9 - n) (replicate 8 0)) all
    ∙ full-put (view_limits c.args.schema.now names) (replicate 8 0) 9 c.args.tree.now.view_of nine)
