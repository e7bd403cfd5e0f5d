-- Which facts meet the tests of a query.
use Rattle.std.specs.Prelude.{ℕ, Bool, true, false, not, ◌&&◌, ◌||◌, List, int_lt, int_le, ℤ, pos}
use Rattle.std.specs.List.{list_all, list_any}
use Rattle.std.specs.Ordering.{int_eq}
use Rattle.fact_model.specs.declared.fact.Fact.{Fact}
use Rattle.fact_model.specs.declared.fact.Value.{Value}
use Rattle.fact_model.specs.declared.fact.Value.TheVariants.{Word, Number}
use Rattle.fact_model.specs.Fact.{value_at}
use Rattle.fact_model.specs.Value.{same_value}
use Rattle.sql_lang.specs.declared.query.Operand.{Operand}
use Rattle.sql_lang.specs.declared.query.Operand.TheVariants as operand
use Rattle.sql_lang.specs.declared.query.Sign.{Sign}
use Rattle.sql_lang.specs.declared.query.Sign.TheVariants.{Equal, Less, LessEqual, More, MoreEqual}
use Rattle.sql_lang.specs.declared.query.Test.{Test}
use Rattle.sql_lang.specs.declared.query.Test.TheVariants.{Compare, Between, OneOf}

-- the attribute of a test
abbrev pub attr_of : Test → ℕ
attr_of (Compare attr sign value) = attr
attr_of (Between attr low high) = attr
attr_of (OneOf attr values) = attr

-- the value is this one
abbrev pub is_operand : Value → Operand → Bool
is_operand v (operand.Word text) = same_value (Word text) v
is_operand (Number n) (operand.Whole z) = int_eq (pos n) z
is_operand (Word text) (operand.Whole z) = false

-- the first number compares so with the second
abbrev pub stands : Sign → ℤ → ℤ → Bool
stands Equal m n = int_eq m n
stands Less m n = int_lt m n
stands LessEqual m n = int_le m n
stands More m n = int_lt n m
stands MoreEqual m n = int_le n m

-- a text is only equal or not
abbrev pub compares : Sign → Value → Operand → Bool
compares sign (Number n) (operand.Whole z) = stands sign (pos n) z
compares sign (Word text) (operand.Whole z) = false
compares Equal v (operand.Word text) = same_value (Word text) v
compares Less v (operand.Word text) = false
compares LessEqual v (operand.Word text) = false
compares More v (operand.Word text) = false
compares MoreEqual v (operand.Word text) = false

-- the value is a number from low to high, both included
abbrev pub lies : ℤ → ℤ → Value → Bool
lies low high (Word text) = false
lies low high (Number n) = int_le low (pos n) && int_le (pos n) high

-- the test holds of a value of its attribute
abbrev pub passes : Test → Value → Bool
passes (Compare attr sign value) v = compares sign v value
passes (Between attr low high) v = lies low high v
passes (OneOf attr values) v = list_any (is_operand v) values

-- the fact meets the test
abbrev pub meets : Test → Fact → Bool
meets t x = passes t (value_at x (attr_of t))

-- the fact meets every test
abbrev pub holds : List Test → Fact → Bool
holds tests x = list_all (λ t. meets t x) tests

-- the test is an IN
abbrev pub is_list : Test → Bool
is_list (Compare attr sign value) = false
is_list (Between attr low high) = false
is_list (OneOf attr values) = true

-- the fact meets every test except the IN tests
abbrev pub holds_ends : List Test → Fact → Bool
holds_ends tests x = list_all (λ t. is_list t || meets t x) tests

-- the fact meets every IN test
abbrev pub holds_lists : List Test → Fact → Bool
holds_lists tests x = list_all (λ t. not (is_list t) || meets t x) tests
