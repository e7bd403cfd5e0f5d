-- The slice that a query is answered from.
use Rattle.std.specs.Prelude.{ℕ, ◌+◌, Bool, false, not, ◌&&◌, ◌||◌, ◌==◌, List, [], ◌∷◌, ◌++◌, filter, flat_map, if◌then◌else◌, Option, Some, None, option_to_list}
use Rattle.std.specs.List.{list_all, list_any, range_with_len}
use Rattle.std.specs.Str.{bytes_eq}
use Rattle.fact_model.specs.Limits.{number_limit}
use Rattle.fact_model.specs.declared.fact.Value.TheVariants as value
use Rattle.fact_model.specs.declared.slice.Column.{Column}
use Rattle.fact_model.specs.declared.slice.Column.TheVariants.{Count}
use Rattle.fact_model.specs.declared.slice.Cond.{Cond}
use Rattle.fact_model.specs.declared.slice.Cond.TheVariants as cond
use Rattle.fact_model.specs.declared.slice.Slice.{Slice}
use Rattle.cube_schema.specs.Kinds.{arity, kind_at}
use Rattle.cube_schema.specs.declared.schema.Kind.{Kind}
use Rattle.cube_schema.specs.declared.schema.Kind.TheVariants as kind
use Rattle.cube_schema.specs.declared.schema.Schema.{Schema}
use Rattle.sql_lang.specs.declared.query.Item.{Item}
use Rattle.sql_lang.specs.declared.query.Item.TheVariants as item
use Rattle.sql_lang.specs.declared.query.Operand.{Operand}
use Rattle.sql_lang.specs.declared.query.Operand.TheVariants as operand
use Rattle.sql_slice.specs.declared.planned.Plan.{Plan}
use Rattle.sql_lang.specs.declared.query.Query.{Query}
use Rattle.sql_lang.specs.declared.query.Sign.{Sign}
use Rattle.sql_lang.specs.declared.query.Sign.TheVariants.{Equal, Less, LessEqual, More, MoreEqual}
use Rattle.sql_lang.specs.declared.query.Test.{Test}
use Rattle.sql_lang.specs.declared.query.Test.TheVariants.{Compare, Between, OneOf}
use Rattle.sql_lang.specs.Reading.{is_grouped}
use Rattle.sql_lang.specs.Tests.{attr_of, is_list, passes}

-- ---- columns and groups

-- the columns among the items
abbrev pub columns_in : List Item → List Column
columns_in [] = []
columns_in (item.Attr a ∷ items) = columns_in items
columns_in (item.Column c ∷ items) = c ∷ columns_in items

-- there is a column
abbrev pub or_count : List Column → List Column
or_count [] = Count ∷ []
or_count (c ∷ columns) = c ∷ columns

-- a test by IN is on the attribute
abbrev pub is_listed : List Test → ℕ → Bool
is_listed tests a = list_any (λ t. is_list t && attr_of t == a) tests

-- the attributes in order of declaration
abbrev pub attrs_of : Schema → List ℕ
attrs_of s = range_with_len 0 (arity s)

-- an attribute of IN that is not among the groups
abbrev pub is_more : Query → ℕ → Bool
is_more q a = is_listed q.tests a && not (is_grouped q.group a)

-- the groups, and then the attributes of IN that are not among them, in order of declaration
abbrev pub base_group : Schema → Query → List ℕ
base_group s q = q.group ++ filter (is_more q) (attrs_of s)

-- ---- conditions

-- a test other than IN is on the attribute
abbrev pub bounds : ℕ → Test → Bool
bounds a t = not (is_list t) && attr_of t == a

-- some test other than IN is on the attribute
abbrev pub is_bound : ℕ → List Test → Bool
is_bound a tests = list_any (bounds a) tests

-- how many numbers a number attribute may have
unfoldable pub number_count : ℕ
number_count = number_limit + 1

-- the numbers that it may have
abbrev pub numbers : List ℕ
numbers = range_with_len 0 number_count

-- the number passes all tests on the attribute but those by IN
abbrev pub passes_all : ℕ → List Test → ℕ → Bool
passes_all a tests n = list_all (λ t. not (bounds a t) || passes t (value.Number n)) tests

-- the numbers that pass
abbrev pub numbers_in : ℕ → List Test → List ℕ
numbers_in a tests = filter (passes_all a tests) numbers

-- the last of some numbers, of which this is the first
abbrev pub last_of : ℕ → List ℕ → ℕ
last_of n [] = n
last_of n (m ∷ more) = last_of m more

-- one number is an equality, several are the range from the least to the greatest, and none is the range from 1 to 0
abbrev pub cond_among : ℕ → List ℕ → Cond
cond_among a [] = cond.Between a 1 0
cond_among a (n ∷ []) = cond.Equal a (value.Number n)
cond_among a (n ∷ (m ∷ more)) = cond.Between a n (last_of m more)

-- the text that an equality wants
abbrev pub wanted_by : Sign → Operand → Option (List ℕ)
wanted_by Equal (operand.Word text) = Some text
wanted_by Equal (operand.Whole z) = None
wanted_by Less value = None
wanted_by LessEqual value = None
wanted_by More value = None
wanted_by MoreEqual value = None

abbrev pub wanted : Test → Option (List ℕ)
wanted (Compare attr sign value) = wanted_by sign value
wanted (Between attr low high) = None
wanted (OneOf attr values) = None

-- the texts that equalities on the attribute want
abbrev pub texts_in : ℕ → List Test → List (List ℕ)
texts_in a [] = []
texts_in a (t ∷ tests) = (if bounds a t then option_to_list (wanted t) else []) ++ texts_in a tests

-- the first of them is the condition
abbrev pub text_cond : ℕ → List (List ℕ) → List Cond
text_cond a [] = []
text_cond a (text ∷ texts) = cond.Equal a (value.Word text) ∷ []

-- the condition on an attribute of this kind, if a test other than IN is on it
abbrev pub cond_on : List Test → ℕ → Kind → List Cond
cond_on tests a (kind.Word max) = text_cond a (texts_in a tests)
cond_on tests a kind.Number = if is_bound a tests then cond_among a (numbers_in a tests) ∷ [] else []

-- the condition on a declared attribute
abbrev pub cond_of : Schema → List Test → ℕ → List Cond
cond_of s tests a = cond_on tests a (kind_at s a)

-- some text is not this one
abbrev pub has_other : List ℕ → List (List ℕ) → Bool
has_other text texts = list_any (λ other. not (bytes_eq text other)) texts

-- some text is not the first
abbrev pub do_differ : List (List ℕ) → Bool
do_differ [] = false
do_differ (text ∷ texts) = has_other text (text ∷ texts)

-- two equalities on one text attribute want different texts
abbrev pub clash_on : List Test → ℕ → Kind → Bool
clash_on tests a (kind.Word max) = do_differ (texts_in a tests)
clash_on tests a kind.Number = false

abbrev pub clash_of : Schema → List Test → ℕ → Bool
clash_of s tests a = clash_on tests a (kind_at s a)

-- ---- the plan

abbrev pub slice_for : Schema → Query → Slice
slice_for s q = record {
  columns = or_count (columns_in q.items);
  group = base_group s q;
  conds = flat_map (cond_of s q.tests) (attrs_of s);
}

unfoldable pub plan_of : Schema → Query → Plan
plan_of s q = record { slice = slice_for s q; empty = list_any (clash_of s q.tests) (attrs_of s) }
