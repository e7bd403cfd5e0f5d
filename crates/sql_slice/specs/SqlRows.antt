-- The reply to a query over a list of facts.
use Rattle.std.specs.Prelude.{ℕ, ◌==◌, List, [], ◌∷◌, map, filter, length, cond, Option, Some, None}
use Rattle.std.specs.Fmt.{signed_decimal}
use Rattle.csv_text.specs.Rows.{value_text, rows_text, with_count}
use Rattle.fact_model.specs.declared.fact.Fact.{Fact}
use Rattle.fact_model.specs.declared.fact.Value.{Value}
use Rattle.fact_model.specs.Fact.{key_of}
use Rattle.fact_model.specs.Groups.{groups}
use Rattle.fact_model.specs.Rows.{number_of}
use Rattle.fact_model.specs.Value.{Key, key_cmp}
use Rattle.sql_lang.specs.declared.query.Item.{Item}
use Rattle.sql_lang.specs.declared.query.Item.TheVariants as item
use Rattle.sql_lang.specs.declared.query.Query.{Query}
use Rattle.sql_lang.specs.Tests.{holds}

-- the value of a grouped attribute in a key
abbrev pub value_in : List ℕ → Key → ℕ → Option Value
value_in [] key a = None
value_in (g ∷ group) [] a = None
value_in (g ∷ group) (v ∷ key) a = cond (g == a) (Some v) (value_in group key a)

-- a value as the text of a field; empty where there is none
abbrev pub found_text : Option Value → List ℕ
found_text None = []
found_text (Some v) = value_text v

-- an item over the facts of a key
abbrev pub field : List ℕ → Key → List Fact → Item → List ℕ
field group key facts (item.Attr a) = found_text (value_in group key a)
field group key facts (item.Column c) = signed_decimal (number_of facts c)

-- a record has the items in order
abbrev pub record_of : Query → (Key × List Fact) → List (List ℕ)
record_of q g = map (field q.group g.0 g.1) q.items

-- the facts that meet each test by itself, by the values of the groups, ascending
abbrev pub kept_groups : List Fact → Query → List (Key × List Fact)
kept_groups facts q = groups key_cmp (key_of q.group) (λ xs. xs) (filter (holds q.tests) facts)

-- one record for each of these lists of values
abbrev pub sqlrows : List Fact → Query → List (List (List ℕ))
sqlrows facts q = map (record_of q) (kept_groups facts q)

-- records as `csv` writes them, and then their number
abbrev pub records_text : List (List (List ℕ)) → List ℕ
records_text records = with_count (rows_text records) (length records)

-- the reply to a query
unfoldable pub sql_reply : List Fact → Query → List ℕ
sql_reply facts q = records_text (sqlrows facts q)
