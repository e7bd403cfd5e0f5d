use Rattle.std.proofs.Common.{◌≡◌, drop, map}
use Rattle.sql_lang.specs.Answers.{judged}
use Rattle.sql_lang.specs.Reading.{query_in, group_rules, is_grouped}
use Rattle.sql_lang.specs.declared.draft.Named.{Named}
use Rattle.sql_lang.specs.declared.refusal.SqlRefusal.TheVariants as refused
use Rattle.sql_lang.proofs.read.finished.Given as goal

-- the rules to come decide
abbrev pub invariant-loop-named : goal.invariant-loop-named
invariant-loop-named l =
    judged (query_in l.fn.draft) (map (λ (n : Named). (is_grouped l.fn.draft.group n.attr, refused.Group n.byte)) (drop l.named-index l.named-items))
    ≡ judged (query_in l.fn.draft) (group_rules l.fn.draft)
