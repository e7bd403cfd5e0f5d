-- Borrowed values and keys.
use Rattle.std.specs.Prelude.{ℤ, List, map, Vec}
use Rattle.std.specs.declared.alloc.Global.{Global}
use Rattle.fact_model.specs.Value.{Key}
use Rattle.fact_model.specs.declared.fact.Value.{Value}
use Rattle.fact_model.specs.declared.fact.Value.TheVariants as values
use Rattle.fact_model.specs.declared.slice.Row.{Row}
use Rattle.row_fold.specs.declared.lending.LentRow.{LentRow}
use Rattle.row_fold.specs.declared.lent.LentValue.{LentValue}
use Rattle.row_fold.specs.declared.lent.LentValue.TheVariants.{Word, Number}

-- the value itself
abbrev pub value_of : LentValue → Value
value_of (Word bytes) = values.Word bytes.now
value_of (Number n) = values.Number n

-- a borrowed key and its numbers
abbrev pub group_of : Vec LentValue Global × Vec ℤ Global → Key × List ℤ
group_of entry = (map value_of entry.0.items, entry.1.items)

-- the row that is borrowed
abbrev pub row_in : LentRow → Row
row_in row = record { key = map value_of row.key.items; numbers = row.numbers.items }
