-- Rows while they are folded in the order of their keys.
use Rattle.std.specs.Prelude.{◌≡◌, ℕ, List, [], ◌∷◌, ◌++◌, length, map, ℤ}
use Rattle.csv_text.specs.Rows.{row_fields, rows_text}
use Rattle.fact_model.specs.Rows.{as_row}
use Rattle.fact_model.specs.Value.{Key, key_cmp}
use Rattle.fact_model.specs.declared.slice.Column.{Column}
use Rattle.fact_model.specs.declared.slice.Row.{Row}
use Rattle.row_fold.specs.Joins.{join_numbers}
use Rattle.row_fold.specs.Squeezed.{squeezed}
use Rattle.reply_fold.specs.Order.{row_at}
use Rattle.reply_fold.specs.declared.folding.Folding.{Folding}

-- the key and the numbers of the row at a place
abbrev pub entry_at : List Row → ℕ → Key × List ℤ
entry_at rows at = ((row_at rows at).key, (row_at rows at).numbers)

-- the last key so far, and the combined numbers of its rows
abbrev pub head_of : List Row → Folding → Key × List ℤ
head_of rows f = ((row_at rows f.head).key, f.sums.items)

-- entries, with neighbours of the same key joined
abbrev pub neighbours : List Column → List (Key × List ℤ) → List (Key × List ℤ)
neighbours columns es = squeezed key_cmp (join_numbers columns) es

-- the rows written, the last key and the entries to come make the entries `whole`
pub record Makes (columns : List Column) (rows : List Row) (f : Folding) (es whole : List (Key × List ℤ)) : Type 0 where
  pub done : List (Key × List ℤ)
  pub written : f.writer ≡ record { text = rows_text (map row_fields (map as_row done)); fields = [] }
  pub count : f.count ≡ length done
  pub goes : done ++ neighbours columns (head_of rows f ∷ es) ≡ whole
