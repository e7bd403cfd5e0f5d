-- The texts that say a query, by the grammar.
use Rattle.std.specs.Prelude.{ℕ, ◌+◌, Bool, true, false, ◌&&◌, List, [], ◌∷◌, ◌++◌, map, flat_map, length, codes, Option, Some, None, IsTrue, ℤ}
use Rattle.std.specs.Ordering.{int_eq}
use Rattle.std.specs.Str.{bytes_eq}
use Rattle.fact_model.specs.Number.{number_in}
use Rattle.fact_model.specs.declared.slice.Column.TheVariants.{Count, Sum, Min, Max}
use Rattle.cube_schema.specs.Kinds.{name_at, measure_name_at}
use Rattle.cube_schema.specs.declared.schema.Schema.{Schema}
use Rattle.sql_lang.specs.declared.query.Item.{Item}
use Rattle.sql_lang.specs.declared.query.Item.TheVariants as item
use Rattle.sql_lang.specs.declared.query.Operand.{Operand}
use Rattle.sql_lang.specs.declared.query.Operand.TheVariants as operand
use Rattle.sql_lang.specs.declared.query.Query.{Query}
use Rattle.sql_lang.specs.declared.query.Sign.{Sign}
use Rattle.sql_lang.specs.declared.query.Sign.TheVariants.{Equal, Less, LessEqual, More, MoreEqual}
use Rattle.sql_lang.specs.declared.query.Test.{Test}
use Rattle.sql_lang.specs.declared.query.Test.TheVariants.{Compare, Between, OneOf}
use Rattle.sql_lang.specs.declared.token.Token.{Token}
use Rattle.sql_lang.specs.Tokens.{is_word, is_mark, is_name, is_quoted, is_whole, tokens_of}

-- a form: a test for each of its tokens
abbrev pub Form : Type 0
Form = List (Token → Bool)

-- the tokens have the form
abbrev pub fits : Form → List Token → Bool
fits [] [] = true
fits [] (t ∷ ts) = false
fits (p ∷ form) [] = false
fits (p ∷ form) (t ∷ ts) = p t && fits form ts

-- a keyword, in upper or lower case
abbrev pub keyword : List ℕ → Form
keyword word = is_word word ∷ []

abbrev pub mark : List ℕ → Form
mark text = is_mark text ∷ []

-- the token is this name
abbrev pub is_named : List ℕ → Token → Bool
is_named name t = is_name t && bytes_eq t.text name

abbrev pub name : List ℕ → Form
name text = is_named text ∷ []

-- the token's number is this one
abbrev pub same_number : ℤ → Option ℤ → Bool
same_number z None = false
same_number z (Some y) = int_eq y z

-- the token writes the literal: a text in quotes, or a number as `read_number` reads it
abbrev pub writes : Operand → Token → Bool
writes (operand.Word text) t = is_quoted t && bytes_eq t.text text
writes (operand.Whole z) t = is_whole t && same_number z (number_in t.text)

abbrev pub literal : Operand → Form
literal value = writes value ∷ []

-- these forms one after another, with a given form between them
abbrev pub parted : Form → List Form → Form
parted between [] = []
parted between (form ∷ more) = form ++ flat_map (λ next. between ++ next) more

-- SUM, MIN or MAX, with a measure in parentheses
abbrev pub over : List ℕ → List ℕ → Form
over word measure = keyword word ++ mark (codes "(") ++ name measure ++ mark (codes ")")

abbrev pub item_form : Schema → Item → Form
item_form s (item.Attr a) = name (name_at s a)
item_form s (item.Column Count) = keyword (codes "COUNT") ++ mark (codes "(") ++ mark (codes "*") ++ mark (codes ")")
item_form s (item.Column (Sum m)) = over (codes "SUM") (measure_name_at s m)
item_form s (item.Column (Min m)) = over (codes "MIN") (measure_name_at s m)
item_form s (item.Column (Max m)) = over (codes "MAX") (measure_name_at s m)

abbrev pub sign_text : Sign → List ℕ
sign_text Equal = codes "="
sign_text Less = codes "<"
sign_text LessEqual = codes "<="
sign_text More = codes ">"
sign_text MoreEqual = codes ">="

abbrev pub test_form : Schema → Test → Form
test_form s (Compare a sign value) = name (name_at s a) ++ mark (sign_text sign) ++ literal value
test_form s (Between a low high) = name (name_at s a) ++ keyword (codes "BETWEEN") ++ literal (operand.Whole low) ++ keyword (codes "AND") ++ literal (operand.Whole high)
test_form s (OneOf a values) = name (name_at s a) ++ keyword (codes "IN") ++ mark (codes "(") ++ parted (mark (codes ",")) (map literal values) ++ mark (codes ")")

-- WHERE and the tests, if there are any
abbrev pub where_form : Schema → List Test → Form
where_form s [] = []
where_form s (t ∷ tests) = keyword (codes "WHERE") ++ parted (keyword (codes "AND")) (map (test_form s) (t ∷ tests))

-- GROUP BY and the attributes, if there are any
abbrev pub group_form : Schema → List ℕ → Form
group_form s [] = []
group_form s (a ∷ group) = keyword (codes "GROUP") ++ keyword (codes "BY") ++ parted (mark (codes ",")) (map (λ b. name (name_at s b)) (a ∷ group))

abbrev pub query_form : Schema → Query → Form
query_form s q =
    keyword (codes "SELECT") ++ parted (mark (codes ",")) (map (item_form s) q.items)
    ++ keyword (codes "FROM") ++ name (codes "facts") ++ where_form s q.tests ++ group_form s q.group

-- the tokens of the text have the form of the query
abbrev pub Says : Schema → Query → List ℕ → Type 0
Says s q text = IsTrue (fits (query_form s q) (tokens_of (length text + 1) text))
