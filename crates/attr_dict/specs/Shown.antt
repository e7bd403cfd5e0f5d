-- The value that a reference shows.
use Rattle.fact_model.specs.declared.fact.Value.{Value}
use Rattle.fact_model.specs.declared.fact.Value.TheVariants.{Word, Number}
use Rattle.attr_dict.specs.declared.dicts.ValueRef.{ValueRef}
use Rattle.attr_dict.specs.declared.dicts.ValueRef.TheVariants as lent

abbrev pub shown : ValueRef → Value
shown (lent.Word text) = Word text.now
shown (lent.Number n) = Number n
