use Rattle.std.proofs.Common.{Some, arith, subst}
use Rattle.std.specs.List.{IsDistinct}
use Rattle.std.specs.Str.{bytes_eq}
use Rattle.std.proofs.lemmas.Grind.{common_steps}
use Rattle.fact_model.specs.declared.fact.Value.TheVariants.{Word}
use Rattle.attr_dict.specs.Book.{Book, kind_at, names_at}
use Rattle.attr_dict.proofs.Backs.{has-code}
use Rattle.attr_dict.proofs.dicts.Dicts.value_of.Goals as goal

pub returns-in-Some-clause-value : goal.returns-in-Some-clause-value
returns-in-Some-clause-value c = grind (arith, common_steps)

pub returns-in-Some-clause-back : goal.returns-in-Some-clause-back
returns-in-Some-clause-back c =
    has-code (kind_at c.args.self.now c.args.attr) (names_at c.args.self.now c.args.attr) c.args.code (Some (Word c.in-Some.text.now))
    (subst (λ (b : Book). IsDistinct bytes_eq (names_at b c.args.attr)) c.self.view_is (c.self.invariant.distinct c.args.attr)) (returns-in-Some-clause-value c)
