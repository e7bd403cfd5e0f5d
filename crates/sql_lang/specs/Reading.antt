-- The query of a text, or the first rule that is broken, token by token: which tokens may come where something is due, and what is due after them.
use Rattle.std.specs.Prelude.{ℕ, ◌+◌, Bool, true, false, not, ◌&&◌, ◌||◌, ◌==◌, List, [], ◌∷◌, ◌++◌, map, length, nat_le, codes, if◌then◌else◌, Option, Some, None, option_map, Ok, Err, ℤ}
use Rattle.std.specs.List.{list_any}
use Rattle.std.specs.Str.{bytes_eq}
use Rattle.fact_model.specs.Number.{number_in}
use Rattle.fact_model.specs.declared.slice.Column.{Column}
use Rattle.fact_model.specs.declared.slice.Column.TheVariants as column
use Rattle.cube_schema.specs.Kinds.{kind_at}
use Rattle.cube_schema.specs.Reading.{is_attr, number_of, is_measure, measure_number}
use Rattle.cube_schema.specs.declared.schema.Kind.{Kind}
use Rattle.cube_schema.specs.declared.schema.Kind.TheVariants as kind
use Rattle.cube_schema.specs.declared.schema.Schema.{Schema}
use Rattle.sql_lang.specs.Answers.{Reading, ◌>>=◌, judged, or_refused}
use Rattle.sql_lang.specs.Tokens.{is_word, is_mark, is_name, is_quoted, is_whole, is_end, end_at, tokens_of}
use Rattle.sql_lang.specs.declared.draft.Draft.{Draft}
use Rattle.sql_lang.specs.declared.draft.Due.{Due}
use Rattle.sql_lang.specs.declared.draft.Due.TheVariants as due
use Rattle.sql_lang.specs.declared.draft.Fold.{Fold}
use Rattle.sql_lang.specs.declared.draft.Fold.TheVariants.{Sum, Min, Max}
use Rattle.sql_lang.specs.declared.draft.Named.{Named}
use Rattle.sql_lang.specs.declared.draft.Reader.{Reader}
use Rattle.sql_lang.specs.declared.query.Item.{Item}
use Rattle.sql_lang.specs.declared.query.Item.TheVariants as item
use Rattle.sql_lang.specs.declared.query.Operand.{Operand}
use Rattle.sql_lang.specs.declared.query.Operand.TheVariants as operand
use Rattle.sql_lang.specs.declared.query.Query.{Query}
use Rattle.sql_lang.specs.declared.query.Sign.{Sign}
use Rattle.sql_lang.specs.declared.query.Sign.TheVariants as sign
use Rattle.sql_lang.specs.declared.query.Test.{Test}
use Rattle.sql_lang.specs.declared.query.Test.TheVariants as test
use Rattle.sql_lang.specs.declared.refusal.SqlRefusal.{SqlRefusal}
use Rattle.sql_lang.specs.declared.refusal.SqlRefusal.TheVariants as refused
use Rattle.sql_lang.specs.declared.token.Token.{Token}

-- ---- what has been read so far

-- this is due next
abbrev pub goes : Draft → Due → Reader
goes d next = record { draft = d; due = next }

-- one more item
abbrev pub with_item : Draft → Item → Draft
with_item d x = record { items = d.items ++ x ∷ []; named = d.named; group = d.group; tests = d.tests }

-- one more attribute among the items, named at this byte
abbrev pub with_attr : Draft → ℕ → ℕ → Draft
with_attr d a byte = record { items = d.items ++ item.Attr a ∷ []; named = d.named ++ record { attr = a; byte = byte } ∷ []; group = d.group; tests = d.tests }

-- one more test
abbrev pub with_test : Draft → Test → Draft
with_test d x = record { items = d.items; named = d.named; group = d.group; tests = d.tests ++ x ∷ [] }

-- one more attribute to group by
abbrev pub with_group : Draft → ℕ → Draft
with_group d a = record { items = d.items; named = d.named; group = d.group ++ a ∷ []; tests = d.tests }

-- the token may not come here
abbrev pub misfit : {A : Type 0} → Token → Reading A
misfit t = Err (refused.Syntax t.byte)

-- the first way whose test holds, with what is due after it; otherwise `other`
abbrev pub along_or : Draft → List (Bool × Due) → Reading Reader → Reading Reader
along_or d [] other = other
along_or d (way ∷ ways) other = if way.0 then Ok (goes d way.1) else along_or d ways other

-- the first way whose test holds; otherwise the token may not come here
abbrev pub along : Draft → Token → List (Bool × Due) → Reading Reader
along d t ways = along_or d ways (misfit t)

-- ---- what may come between

-- GROUP, or the end
abbrev pub group_or_end : Token → List (Bool × Due)
group_or_end t = (is_word (codes "GROUP") t, due.By) ∷ (is_end t, due.Nothing) ∷ []

-- a comma and an item, or FROM
abbrev pub item_ways : Token → List (Bool × Due)
item_ways t = (is_mark (codes ",") t, due.Item) ∷ (is_word (codes "FROM") t, due.Table) ∷ []

-- WHERE, GROUP, or the end
abbrev pub clause_ways : Token → List (Bool × Due)
clause_ways t = (is_word (codes "WHERE") t, due.Test) ∷ group_or_end t

-- AND and a test, GROUP, or the end
abbrev pub test_ways : Token → List (Bool × Due)
test_ways t = (is_word (codes "AND") t, due.Test) ∷ group_or_end t

-- a comma and an attribute, or the end
abbrev pub group_ways : Token → List (Bool × Due)
group_ways t = (is_mark (codes ",") t, due.Group) ∷ (is_end t, due.Nothing) ∷ []

-- only this
abbrev pub only : Bool → Due → List (Bool × Due)
only stands next = (stands, next) ∷ []

-- ---- names and literals

-- the rules for the name of an attribute
abbrev pub attr_rules : Schema → Token → List (Bool × SqlRefusal)
attr_rules s t = (is_name t, refused.Syntax t.byte) ∷ (is_attr s t.text, refused.Name t.byte) ∷ []

abbrev pub attr_at : Schema → Token → Reading ℕ
attr_at s t = judged (number_of s t.text) (attr_rules s t)

-- the rules for the name of a measure
abbrev pub measure_rules : Schema → Token → List (Bool × SqlRefusal)
measure_rules s t = (is_name t, refused.Syntax t.byte) ∷ (is_measure s t.text, refused.Name t.byte) ∷ []

abbrev pub measure_at : Schema → Token → Reading ℕ
measure_at s t = judged (measure_number s t.text) (measure_rules s t)

-- a text in quotes, or a number
abbrev pub is_literal : Token → Bool
is_literal t = is_quoted t || is_whole t

-- the number, if an attribute of this kind may have it
abbrev pub bound_in : Kind → Token → Option ℤ
bound_in (kind.Word max) t = None
bound_in kind.Number t = if is_whole t then number_in t.text else None

-- the text or the number, if an attribute of this kind may have it; a text is compared only by `=` and IN
abbrev pub operand_in : Kind → Bool → Token → Option Operand
operand_in (kind.Word max) exact t = if exact && is_quoted t && nat_le (length t.text) 255 then Some (operand.Word t.text) else None
operand_in kind.Number exact t = option_map operand.Whole (bound_in kind.Number t)

abbrev pub operand_at : Schema → ℕ → Bool → Token → Reading Operand
operand_at s a exact t = if is_literal t then or_refused (refused.Value t.byte) (operand_in (kind_at s a) exact t) else misfit t

abbrev pub bound_at : Schema → ℕ → Token → Reading ℤ
bound_at s a t = if is_literal t then or_refused (refused.Value t.byte) (bound_in (kind_at s a) t) else misfit t

abbrev pub is_equal : Sign → Bool
is_equal sign.Equal = true
is_equal sign.Less = false
is_equal sign.LessEqual = false
is_equal sign.More = false
is_equal sign.MoreEqual = false

abbrev pub column_over : Fold → ℕ → Column
column_over Sum m = column.Sum m
column_over Min m = column.Min m
column_over Max m = column.Max m

-- ---- items: SELECT item { "," item } FROM facts

-- COUNT "(" "*" ")", or SUM, MIN or MAX and "(" measure ")"
abbrev pub column_ways : Token → List (Bool × Due)
column_ways t =
    (is_word (codes "COUNT") t, due.CountOpen)
    ∷ (is_word (codes "SUM") t, due.FoldOpen Sum)
    ∷ (is_word (codes "MIN") t, due.FoldOpen Min)
    ∷ (is_word (codes "MAX") t, due.FoldOpen Max)
    ∷ []

-- a column, or an attribute
unfoldable pub at_item : Schema → Draft → Token → Reading Reader
at_item s d t = along_or d (column_ways t) (attr_at s t >>= (λ a. Ok (goes (with_attr d a t.byte) due.MoreItems)))

unfoldable pub at_measure : Schema → Draft → Fold → Token → Reading Reader
at_measure s d fold t = measure_at s t >>= (λ m. Ok (goes d (due.Close (column_over fold m))))

unfoldable pub at_close : Draft → Column → Token → Reading Reader
at_close d c t = along (with_item d (item.Column c)) t (only (is_mark (codes ")") t) due.MoreItems)

-- the rules for the table's name, which is `facts`
abbrev pub table_rules : Token → List (Bool × SqlRefusal)
table_rules t = (is_name t, refused.Syntax t.byte) ∷ (bytes_eq t.text (codes "facts"), refused.Table t.byte) ∷ []

unfoldable pub at_table : Draft → Token → Reading Reader
at_table d t = judged (goes d due.Clauses) (table_rules t)

-- ---- tests: WHERE test { AND test }

unfoldable pub at_test : Schema → Draft → Token → Reading Reader
at_test s d t = attr_at s t >>= (λ a. Ok (goes d (due.Sign a)))

-- an operator, BETWEEN or IN after an attribute
abbrev pub sign_ways : ℕ → Token → List (Bool × Due)
sign_ways a t =
    (is_mark (codes "=") t, due.Value a sign.Equal)
    ∷ (is_mark (codes "<") t, due.Value a sign.Less)
    ∷ (is_mark (codes "<=") t, due.Value a sign.LessEqual)
    ∷ (is_mark (codes ">") t, due.Value a sign.More)
    ∷ (is_mark (codes ">=") t, due.Value a sign.MoreEqual)
    ∷ (is_word (codes "BETWEEN") t, due.Low a)
    ∷ (is_word (codes "IN") t, due.InOpen a)
    ∷ []

unfoldable pub at_sign : Draft → ℕ → Token → Reading Reader
at_sign d a t = along d t (sign_ways a t)

unfoldable pub at_value : Schema → Draft → ℕ → Sign → Token → Reading Reader
at_value s d a sign t = operand_at s a (is_equal sign) t >>= (λ v. Ok (goes (with_test d (test.Compare a sign v)) due.MoreTests))

unfoldable pub at_low : Schema → Draft → ℕ → Token → Reading Reader
at_low s d a t = bound_at s a t >>= (λ low. Ok (goes d (due.LowAnd a low)))

unfoldable pub at_high : Schema → Draft → ℕ → ℤ → Token → Reading Reader
at_high s d a low t = bound_at s a t >>= (λ high. Ok (goes (with_test d (test.Between a low high)) due.MoreTests))

unfoldable pub at_member : Schema → Draft → ℕ → List Operand → Token → Reading Reader
at_member s d a vs t = operand_at s a true t >>= (λ v. Ok (goes d (due.MoreMembers a (vs ++ v ∷ []))))

unfoldable pub at_more_members : Draft → ℕ → List Operand → Token → Reading Reader
at_more_members d a vs t = along_or d (only (is_mark (codes ",") t) (due.Member a vs)) (along (with_test d (test.OneOf a vs)) t (only (is_mark (codes ")") t) due.MoreTests))

-- ---- groups: GROUP BY name { "," name }

-- the attribute is among these
abbrev pub is_grouped : List ℕ → ℕ → Bool
is_grouped group a = list_any (λ g. g == a) group

-- the attribute differs from those before it
abbrev pub fresh_rules : Draft → ℕ → Token → List (Bool × SqlRefusal)
fresh_rules d a t = (not (is_grouped d.group a), refused.Group t.byte) ∷ []

unfoldable pub at_group : Schema → Draft → Token → Reading Reader
at_group s d t =
    attr_at s t
    >>= (λ a. judged (goes (with_group d a) due.MoreGroups) (fresh_rules d a t))

-- ---- the whole

-- what a token may be where something is due
unfoldable pub at_due : Schema → Draft → Due → Token → Reading Reader
at_due s d due.Select t = along d t (only (is_word (codes "SELECT") t) due.Item)
at_due s d due.Item t = at_item s d t
at_due s d due.CountOpen t = along d t (only (is_mark (codes "(") t) due.CountStar)
at_due s d due.CountStar t = along d t (only (is_mark (codes "*") t) (due.Close column.Count))
at_due s d (due.FoldOpen fold) t = along d t (only (is_mark (codes "(") t) (due.Measure fold))
at_due s d (due.Measure fold) t = at_measure s d fold t
at_due s d (due.Close c) t = at_close d c t
at_due s d due.MoreItems t = along d t (item_ways t)
at_due s d due.Table t = at_table d t
at_due s d due.Clauses t = along d t (clause_ways t)
at_due s d due.Test t = at_test s d t
at_due s d (due.Sign a) t = at_sign d a t
at_due s d (due.Value a sign) t = at_value s d a sign t
at_due s d (due.Low a) t = at_low s d a t
at_due s d (due.LowAnd a low) t = along d t (only (is_word (codes "AND") t) (due.High a low))
at_due s d (due.High a low) t = at_high s d a low t
at_due s d (due.InOpen a) t = along d t (only (is_mark (codes "(") t) (due.Member a []))
at_due s d (due.Member a vs) t = at_member s d a vs t
at_due s d (due.MoreMembers a vs) t = at_more_members d a vs t
at_due s d due.MoreTests t = along d t (test_ways t)
at_due s d due.By t = along d t (only (is_word (codes "BY") t) due.Group)
at_due s d due.Group t = at_group s d t
at_due s d due.MoreGroups t = along d t (group_ways t)
at_due s d due.Nothing t = misfit t

abbrev pub query_in : Draft → Query
query_in d = record { items = d.items; group = d.group; tests = d.tests }

-- each attribute among the items is grouped by
abbrev pub group_rules : Draft → List (Bool × SqlRefusal)
group_rules d = map (λ (n : Named). (is_grouped d.group n.attr, refused.Group n.byte)) d.named

-- the query of these tokens and the end at this byte, after what was read before them
abbrev pub read_on : Schema → ℕ → Reader → List Token → Reading Query
read_on s end r [] = at_due s r.draft r.due (end_at end) >>= (λ last. judged (query_in last.draft) (group_rules last.draft))
read_on s end r (t ∷ more) = at_due s r.draft r.due t >>= (λ next. read_on s end next more)

abbrev pub nothing : Draft
nothing = record { items = []; named = []; group = []; tests = [] }

-- the query of a text, whose first byte is byte 1
unfoldable pub query_of : Schema → List ℕ → Reading Query
query_of s text = read_on s (length text + 1) (goes nothing due.Select) (tokens_of (length text + 1) text)
