-- Why facts are not admitted.
use Rattle.std.specs.Prelude.{◌≡◌, List, Some}
use Rattle.fact_model.specs.declared.fact.Fact.{Fact}
use Rattle.attr_dict.specs.Book.{Book}
use Rattle.attr_dict.specs.Admitting.{first_full}
use Rattle.attr_dict.specs.declared.admit.DictRefusal.{DictRefusal}
use Rattle.attr_dict.specs.declared.admit.DictRefusal.TheVariants as refused

-- the attribute is the first that the facts would make too full
abbrev pub IsFull : Book → List Fact → DictRefusal → Type 0
IsFull b facts (refused.Full a) = first_full b facts ≡ Some a
IsFull b facts refused.Memory = Unit {0}
