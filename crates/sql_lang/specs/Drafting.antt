-- What holds of all that has been read so far.
use Rattle.std.specs.Prelude.{◌≡◌, ℕ, ◌<◌, Bool, true, ◌&&◌, ◌==◌, List, length, nat_lt, nat_eq}
use Rattle.std.specs.List.{list_all, list_any}
use Rattle.cube_schema.specs.Kinds.{arity, kind_at, measure_count}
use Rattle.cube_schema.specs.Reading.{are_distinct}
use Rattle.cube_schema.specs.declared.schema.Schema.{Schema}
use Rattle.sql_lang.specs.declared.draft.Draft.{Draft}
use Rattle.sql_lang.specs.declared.draft.Due.{Due}
use Rattle.sql_lang.specs.declared.draft.Due.TheVariants as due
use Rattle.sql_lang.specs.declared.draft.Named.{Named}
use Rattle.sql_lang.specs.declared.draft.Reader.{Reader}
use Rattle.sql_lang.specs.declared.query.Item.{Item}
use Rattle.sql_lang.specs.declared.query.Item.TheVariants as item
use Rattle.slice_lang.specs.Agreeing.{is_column}
use Rattle.sql_lang.specs.Agreeing.{is_number, is_of_kind, is_small, is_test}

-- the attribute is among those that were named
abbrev pub has_attr : List Named → ℕ → Bool
has_attr named a = list_any (λ (n : Named). n.attr == a) named

-- a declared attribute that was named, or a column of a declared measure
abbrev pub is_read : Schema → List Named → Item → Bool
is_read s named (item.Attr a) = nat_lt a (arity s) && has_attr named a
is_read s named (item.Column c) = is_column (measure_count s) c

pub record AgreesSoFar (s : Schema) (d : Draft) : Type 0 where
  pub items : list_all (is_read s d.named) d.items ≡ true
  pub group : list_all (λ a. nat_lt a (arity s)) d.group ≡ true
  pub group_apart : are_distinct nat_eq d.group ≡ true
  pub tests : list_all (is_test s) d.tests ≡ true

-- there is an item
abbrev pub HasItem : Draft → Type 0
HasItem d = 0 < length d.items

-- the attribute is declared
abbrev pub Declared : Schema → ℕ → Type 0
Declared s a = nat_lt a (arity s) ≡ true

-- what is due fits what has been read
abbrev pub DueAgrees : Schema → Draft → Due → Type 0
DueAgrees s d due.Select = Unit {0}
DueAgrees s d due.Item = Unit {0}
DueAgrees s d due.CountOpen = Unit {0}
DueAgrees s d due.CountStar = Unit {0}
DueAgrees s d (due.FoldOpen fold) = Unit {0}
DueAgrees s d (due.Measure fold) = Unit {0}
DueAgrees s d (due.Close c) = is_column (measure_count s) c ≡ true
DueAgrees s d due.MoreItems = HasItem d
DueAgrees s d due.Table = HasItem d
DueAgrees s d due.Clauses = HasItem d
DueAgrees s d due.Test = HasItem d
DueAgrees s d (due.Sign a) = HasItem d × Declared s a
DueAgrees s d (due.Value a sign) = HasItem d × Declared s a
DueAgrees s d (due.Low a) = HasItem d × Declared s a
DueAgrees s d (due.LowAnd a low) = HasItem d × Declared s a × (is_number (kind_at s a) ≡ true) × (is_small low ≡ true)
DueAgrees s d (due.High a low) = HasItem d × Declared s a × (is_number (kind_at s a) ≡ true) × (is_small low ≡ true)
DueAgrees s d (due.InOpen a) = HasItem d × Declared s a
DueAgrees s d (due.Member a vs) = HasItem d × Declared s a × (list_all (is_of_kind (kind_at s a)) vs ≡ true)
DueAgrees s d (due.MoreMembers a vs) = HasItem d × Declared s a × (list_all (is_of_kind (kind_at s a)) vs ≡ true) × (nat_lt 0 (length vs) ≡ true)
DueAgrees s d due.MoreTests = HasItem d
DueAgrees s d due.By = HasItem d
DueAgrees s d due.Group = HasItem d
DueAgrees s d due.MoreGroups = HasItem d
DueAgrees s d due.Nothing = HasItem d

pub record ReaderAgrees (s : Schema) (r : Reader) : Type 0 where
  pub draft : AgreesSoFar s r.draft
  pub due : DueAgrees s r.draft r.due
