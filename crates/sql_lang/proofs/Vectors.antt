-- Worked examples over a text and a number attribute: what texts are read as, and by which rule they are refused.
use Rattle.std.specs.Prelude.{◌≡◌, ℕ, List, [], ◌∷◌, ◌++◌, map, codes, Ok, Err, refl, ℤ, pos, negsuc}
use Rattle.cube_schema.specs.declared.schema.Schema.{Schema}
use Rattle.cube_schema.specs.declared.schema.Kind.TheVariants as kind
use Rattle.fact_model.specs.declared.fact.Fact.{Fact}
use Rattle.fact_model.specs.declared.fact.Value.TheVariants as value
use Rattle.fact_model.specs.declared.slice.Column.TheVariants.{Count, Sum, Max}
use Rattle.sql_lang.specs.declared.query.Item.TheVariants.{Attr, Column}
use Rattle.sql_lang.specs.declared.query.Operand.TheVariants.{Word, Whole}
use Rattle.sql_lang.specs.declared.query.Query.{Query}
use Rattle.sql_lang.specs.declared.query.Sign.TheVariants.{Equal, Less, MoreEqual}
use Rattle.sql_lang.specs.declared.query.Test.{Test}
use Rattle.sql_lang.specs.declared.query.Test.TheVariants.{Compare, Between, OneOf}
use Rattle.sql_lang.specs.declared.refusal.SqlRefusal.TheVariants as refused
use Rattle.sql_lang.specs.Answers.{Reading}
use Rattle.sql_lang.specs.Reading.{at_due, at_item, at_measure, at_close, at_table, at_test, at_sign, at_value, at_low, at_high, at_member, at_more_members, at_group, query_of}
use Rattle.sql_lang.specs.Tokens.{front_of, is_keyword, tokens_of}

abbrev schema : Schema
schema = record {
  attrs = record { name = codes "part"; kind = kind.Word 1000000 } ∷ record { name = codes "year"; kind = kind.Number } ∷ [];
  measures = codes "qty" ∷ [];
  views = (0 ∷ 1 ∷ []) ∷ [];
}

abbrev sale : List ℕ → ℕ → ℤ → Fact
sale part year number = record { values = value.Word part ∷ value.Number year ∷ []; measures = number ∷ [] }

abbrev sales : List Fact
sales = sale (codes "bolt") 1997 (pos 5) ∷ sale (codes "nut") 1997 (negsuc 1) ∷ sale (codes "bolt") 1998 (pos 4) ∷ []

-- ---- queries

abbrev by_part : Query
by_part = record { items = Attr 0 ∷ Column (Sum 0) ∷ []; group = 0 ∷ []; tests = Compare 1 MoreEqual (Whole (pos 1997)) ∷ Compare 1 Less (Whole (pos 1998)) ∷ [] }

abbrev by_year : Query
by_year = record { items = Attr 1 ∷ Column (Max 0) ∷ []; group = 1 ∷ []; tests = OneOf 0 (Word (codes "bolt") ∷ Word (codes "saw") ∷ []) ∷ [] }

abbrev counted : List Test → Query
counted tests = record { items = Column Count ∷ []; group = []; tests = tests }

read-by_part : query_of schema (codes "SELECT part, SUM(qty) FROM facts WHERE year >= 1997 AND year < 1998 GROUP BY part") ≡ Ok by_part
unfolding query_of tokens_of front_of is_keyword at_due at_item at_measure at_close at_table at_test at_sign at_value at_group
read-by_part = refl

read-by_year : query_of schema (codes "select year, max(qty) from facts where part in ('bolt','saw') group by year") ≡ Ok by_year
unfolding query_of tokens_of front_of is_keyword at_due at_item at_measure at_close at_table at_test at_sign at_member at_more_members at_group
read-by_year = refl

-- words in any case of letters, quotes doubled, signs without spaces, numbers with a sign
read-counted : map (query_of schema)
    (codes "select count(*) from facts"
    ∷ codes "sELECT count ( * )FROM facts wHere part='it''s'"
    ∷ codes "select count(*) from facts where year<-1and year between +0 and 007 "
    ∷ [])
    ≡ map Ok (counted [] ∷ counted (Compare 0 Equal (Word (codes "it's")) ∷ []) ∷ counted (Compare 1 Less (Whole (negsuc 0)) ∷ Between 1 (pos 0) (pos 7) ∷ []) ∷ [])
unfolding query_of tokens_of front_of is_keyword at_due at_item at_close at_table at_test at_sign at_value at_low at_high
read-counted = refl

-- ---- refusals

abbrev asked : List ℕ → Reading Query
asked text = query_of schema (codes "select " ++ text)

refused-rules : map asked
    (codes "part from facts" ∷ codes "count(*) from parts" ∷ codes "sum(cost) from facts" ∷ codes "count(*) from facts where year = 'x'" ∷ [])
    ≡ map Err (refused.Group 8 ∷ refused.Table 22 ∷ refused.Name 12 ∷ refused.Value 41 ∷ [])
unfolding query_of tokens_of front_of is_keyword at_due at_item at_measure at_close at_table at_test at_sign at_value
refused-rules = refl

-- something else is due, a byte begins no token, a text is not closed, a keyword is no name, and a text ends too early
refused-syntax : map asked
    (codes "count(*), from facts" ∷ codes "count(*) from facts;" ∷ codes "count(*) from facts where part = 'a" ∷ codes "in from facts" ∷ codes "count(*) from facts where year in ( " ∷ [])
    ≡ map Err (refused.Syntax 18 ∷ refused.Syntax 27 ∷ refused.Syntax 41 ∷ refused.Syntax 8 ∷ refused.Syntax 44 ∷ [])
unfolding query_of tokens_of front_of is_keyword at_due at_item at_close at_table at_test at_sign at_value at_member
refused-syntax = refl

-- the first broken rule from the left: a name before what is due behind it, and a value before the groups
refused-first : map asked
    (codes "cost part" ∷ codes "count(*) from facts where part < 'a' group by part, part" ∷ codes "part from facts group by part, part" ∷ codes "part from facts where year = 170141183460469231731687303715884105728" ∷ [])
    ≡ map Err (refused.Name 8 ∷ refused.Value 41 ∷ refused.Group 39 ∷ refused.Value 37 ∷ [])
unfolding query_of tokens_of front_of is_keyword at_due at_item at_close at_table at_test at_sign at_value at_group
refused-first = refl
