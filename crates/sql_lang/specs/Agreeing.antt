-- Queries that agree with a schema.
use Rattle.std.specs.Prelude.{ℕ, ◌<◌, ◌^◌, Bool, true, false, ◌&&◌, ◌||◌, List, length, nat_lt, nat_le, nat_eq, nat_abs, IsTrue, ℤ}
use Rattle.std.specs.List.{list_all}
use Rattle.cube_schema.specs.Kinds.{arity, kind_at, measure_count}
use Rattle.cube_schema.specs.Reading.{are_distinct}
use Rattle.cube_schema.specs.declared.schema.Kind.{Kind}
use Rattle.cube_schema.specs.declared.schema.Kind.TheVariants as kind
use Rattle.cube_schema.specs.declared.schema.Schema.{Schema}
use Rattle.slice_lang.specs.Agreeing.{is_column}
use Rattle.sql_lang.specs.declared.query.Item.{Item}
use Rattle.sql_lang.specs.declared.query.Item.TheVariants as item
use Rattle.sql_lang.specs.declared.query.Operand.{Operand}
use Rattle.sql_lang.specs.declared.query.Operand.TheVariants as operand
use Rattle.sql_lang.specs.declared.query.Query.{Query}
use Rattle.sql_lang.specs.declared.query.Test.{Test}
use Rattle.sql_lang.specs.declared.query.Test.TheVariants.{Compare, Between, OneOf}
use Rattle.sql_lang.specs.Reading.{is_equal, is_grouped}
use Rattle.sql_lang.specs.Tests.{attr_of}

-- a declared attribute that is grouped by, or a column of a declared measure
abbrev pub is_item : Schema → List ℕ → Item → Bool
is_item s group (item.Attr a) = nat_lt a (arity s) && is_grouped group a
is_item s group (item.Column c) = is_column (measure_count s) c

-- a magnitude below 2 ^ 127
abbrev pub is_small : ℤ → Bool
is_small z = nat_lt (nat_abs z) (2 ^ 127)

-- a text of at most 255 bytes for a text attribute, or a number for a number attribute
abbrev pub is_of_kind : Kind → Operand → Bool
is_of_kind (kind.Word max) (operand.Word text) = nat_le (length text) 255
is_of_kind (kind.Word max) (operand.Whole z) = false
is_of_kind kind.Number (operand.Word text) = false
is_of_kind kind.Number (operand.Whole z) = is_small z

abbrev pub is_number : Kind → Bool
is_number (kind.Word max) = false
is_number kind.Number = true

-- each literal is of the kind, a text attribute has only the tests `=` and IN, and an IN has a literal
abbrev pub fits_kind : Kind → Test → Bool
fits_kind k (Compare attr sign value) = (is_equal sign || is_number k) && is_of_kind k value
fits_kind k (Between attr low high) = is_number k && is_small low && is_small high
fits_kind k (OneOf attr values) = nat_lt 0 (length values) && list_all (is_of_kind k) values

-- a test of a declared attribute that fits the attribute's kind
abbrev pub is_test : Schema → Test → Bool
is_test s t = nat_lt (attr_of t) (arity s) && fits_kind (kind_at s (attr_of t)) t

pub record SqlAgrees (s : Schema) (q : Query) : Type 0 where
  -- there is an item
  pub some : 0 < length q.items
  pub items : IsTrue (list_all (is_item s q.group) q.items)
  -- facts are grouped by declared attributes, each at most once
  pub group : IsTrue (list_all (λ a. nat_lt a (arity s)) q.group)
  pub group_apart : IsTrue (are_distinct nat_eq q.group)
  pub tests : IsTrue (list_all (is_test s) q.tests)
