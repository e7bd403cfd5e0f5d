-- The rules of the groups, one by one.
use Rattle.std.proofs.Common.{◌≡◌, ℕ, ◌+◌, ◌<◌, Bool, true, false, cond, List, map, drop, length, get_or, Err, ◌∙◌, ap}
use Rattle.std.proofs.lemmas.List.{at_drop_more}
use Rattle.sql_lang.specs.declared.draft.Named.{Named}
use Rattle.sql_lang.specs.declared.query.Query.{Query}
use Rattle.sql_lang.specs.declared.refusal.SqlRefusal.{SqlRefusal}
use Rattle.sql_lang.specs.declared.refusal.SqlRefusal.TheVariants as refused
use Rattle.sql_lang.specs.Answers.{judged}
use Rattle.sql_lang.specs.Reading.{is_grouped}

-- the rule of an attribute that is named
abbrev pub rule_of : List ℕ → Named → Bool × SqlRefusal
rule_of group n = (is_grouped group n.attr, refused.Group n.byte)

module _ (q : Query) (group : List ℕ) (ns : List Named) (i : ℕ) (d : Named) (low : i < length ns) where
  pub rule-broken : is_grouped group (get_or ns i d).attr ≡ false → judged q (map (rule_of group) (drop i ns)) ≡ Err (refused.Group (get_or ns i d).byte)
  rule-broken e = at_drop_more (λ ms. judged q (map (rule_of group) ms)) ns i d low
      ∙ ap (λ b. cond b (judged q (map (rule_of group) (drop (i + 1) ns))) (Err (refused.Group (get_or ns i d).byte))) e

  pub rule-held : is_grouped group (get_or ns i d).attr ≡ true → judged q (map (rule_of group) (drop i ns)) ≡ judged q (map (rule_of group) (drop (i + 1) ns))
  rule-held e = at_drop_more (λ ms. judged q (map (rule_of group) ms)) ns i d low
      ∙ ap (λ b. cond b (judged q (map (rule_of group) (drop (i + 1) ns))) (Err (refused.Group (get_or ns i d).byte))) e
