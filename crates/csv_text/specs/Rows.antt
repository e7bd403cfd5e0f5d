-- Rows as text.
use Rattle.std.specs.Prelude.{ℕ, List, [], ◌∷◌, ◌++◌, map, flat_map, codes, decimal}
use Rattle.std.specs.Fmt.{signed_decimal}
use Rattle.csv.specs.Writing.{default_writer, row_text}
use Rattle.fact_model.specs.declared.fact.Value.{Value}
use Rattle.fact_model.specs.declared.fact.Value.TheVariants.{Word, Number}
use Rattle.fact_model.specs.declared.slice.Row.{Row}

-- a value as the text of a field
abbrev pub value_text : Value → List ℕ
value_text (Word text) = text
value_text (Number n) = decimal n

-- the fields of an answer row: its values, then its numbers in decimal
abbrev pub row_fields : Row → List (List ℕ)
row_fields row = map value_text row.key ++ map signed_decimal row.numbers

-- rows as text, written as `csv` writes records with its default settings
abbrev pub rows_text : List (List (List ℕ)) → List ℕ
rows_text rows = flat_map (row_text default_writer) rows

pub record Written : Type 0 where
  -- the text of the rows that have been ended
  pub text : List ℕ
  -- the fields of the current row
  pub fields : List (List ℕ)

abbrev pub nothing_written : Written
nothing_written = record { text = []; fields = [] }

-- with one more field
abbrev pub with_field : Written → List ℕ → Written
with_field written field = record { text = written.text; fields = written.fields ++ field ∷ [] }

-- with these fields added
abbrev pub with_fields : Written → List (List ℕ) → Written
with_fields written fields = record { text = written.text; fields = written.fields ++ fields }

-- the row has ended
abbrev pub with_end : Written → Written
with_end written = record { text = written.text ++ row_text default_writer written.fields; fields = [] }

-- with these rows added
abbrev pub with_rows : Written → List (List (List ℕ)) → Written
with_rows written rows = record { text = written.text ++ rows_text rows; fields = written.fields }

-- the text of rows, followed by a line with their number
abbrev pub with_count : List ℕ → ℕ → List ℕ
with_count text count = text ++ (codes "rows " ++ (decimal count ++ 10 ∷ []))
