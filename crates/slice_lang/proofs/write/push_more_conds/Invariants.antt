use Rattle.std.proofs.Common.{◌≡◌, ◌++◌, drop, map}
use Rattle.std.specs.Prelude.{flat_map, codes}
use Rattle.slice_lang.specs.Writing.{cond_text}
use Rattle.slice_lang.proofs.write.push_more_conds.Given as goal

-- the text so far, with the conditions to come, is the whole
abbrev pub invariant-loop-cond : goal.invariant-loop-cond
invariant-loop-cond l =
    l.text.items ++ flat_map (λ t. codes " and " ++ t) (map (cond_text l.schema) (drop l.cond-index l.conds))
    ≡ l.fn.text.items ++ flat_map (λ t. codes " and " ++ t) (map (cond_text l.schema) l.conds)
