-- Rows joined by the front of their keys, and the records of what they join to.
use Rattle.std.specs.Prelude.{◌≡◌, ℕ, Bool, false, not, ◌||◌, List, [], ◌∷◌, map, filter, take, length, Option, Some, None, ℤ}
use Rattle.std.specs.List.{list_all}
use Rattle.std.specs.Fmt.{signed_decimal}
use Rattle.fact_model.specs.declared.fact.Value.{Value}
use Rattle.fact_model.specs.declared.slice.Column.{Column}
use Rattle.fact_model.specs.declared.slice.Row.{Row}
use Rattle.fact_model.specs.Value.{Key, key_cmp}
use Rattle.row_fold.specs.Folds.{entry_of}
use Rattle.row_fold.specs.Joins.{join_numbers}
use Rattle.row_fold.specs.Squeezed.{squeezed}
use Rattle.sql_lang.specs.declared.query.Item.{Item}
use Rattle.sql_lang.specs.declared.query.Item.TheVariants as item
use Rattle.sql_lang.specs.declared.query.Query.{Query}
use Rattle.sql_lang.specs.declared.query.Test.{Test}
use Rattle.sql_slice.specs.SqlRows.{found_text, records_text, value_in}
use Rattle.sql_slice.specs.declared.planned.Plan.{Plan}
use Rattle.sql_lang.specs.Tests.{attr_of, is_list, passes}

-- the row has a number for each column
abbrev pub IsWide : List Column → Row → Type 0
IsWide columns row = length row.numbers ≡ length columns

-- ---- keys

-- the front of a key
abbrev pub front_of : ℕ → Key → Key
front_of width key = take width key

-- the value, if it is there, passes the test
abbrev pub found_passes : Test → Option Value → Bool
found_passes t None = false
found_passes t (Some v) = passes t v

-- a key of these attributes passes the tests by IN
abbrev pub key_passes : List ℕ → List Test → Key → Bool
key_passes group tests key = list_all (λ t. not (is_list t) || found_passes t (value_in group key (attr_of t))) tests

-- the rows that pass, by the front of their keys, where neighbours of one front are joined
abbrev pub joined_rows : List Column → ℕ → List ℕ → List Test → List Row → List (Key × List ℤ)
joined_rows columns width group tests rows =
    squeezed key_cmp (join_numbers columns) (map (entry_of (front_of width)) (filter (λ (r : Row). key_passes group tests r.key) rows))

-- ---- records

-- the items of a key and its numbers, of which there is one for each column
abbrev pub laid : List ℕ → List Item → Key → List ℤ → List (List ℕ)
laid group [] key numbers = []
laid group (item.Attr a ∷ items) key numbers = found_text (value_in group key a) ∷ laid group items key numbers
laid group (item.Column c ∷ items) key [] = [] ∷ laid group items key []
laid group (item.Column c ∷ items) key (n ∷ numbers) = signed_decimal n ∷ laid group items key numbers

-- a record of an entry
abbrev pub laid_entry : Query → (Key × List ℤ) → List (List ℕ)
laid_entry q e = laid q.group q.items e.0 e.1

-- the text of the records that rows join to
abbrev pub query_text : Query → Plan → List Row → List ℕ
query_text q p rows = records_text (map (laid_entry q) (joined_rows p.slice.columns (length q.group) p.slice.group q.tests rows))
