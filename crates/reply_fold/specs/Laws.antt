-- Printed rows are read back as the same rows.
use Rattle.std.specs.Prelude.{◌≡◌, ◌≤◌, ◌<◌, ℕ, pos, nat_abs, List, ◌∷◌, get_or, length, Ok}
use Rattle.std.specs.List.{All, AllZip}
use Rattle.csv_text.specs.Records.{records_of}
use Rattle.cube_schema.specs.Agreeing.{IsOfKind}
use Rattle.cube_schema.specs.Kinds.{kind_at}
use Rattle.cube_schema.specs.declared.schema.Schema.{Schema}
use Rattle.fact_model.specs.Fact.{mass_limit}
use Rattle.fact_model.specs.declared.slice.Row.{Row}
use Rattle.fact_model.specs.declared.slice.Slice.{Slice}
use Rattle.reply_text.specs.Replies.{answer_text}
use Rattle.reply_fold.specs.Replies.{rows_from}

-- a row of facts within their limits: values of the grouped attributes' kinds, and a number for each column
pub record IsRow (s : Schema) (q : Slice) (row : Row) : Type 0 where
  pub key : AllZip (λ a v. IsOfKind (kind_at s a) v) q.group row.key
  pub numbers : length row.numbers ≡ length q.columns
  pub some : 0 < length q.columns
  pub light : (column : ℕ) → nat_abs (get_or row.numbers column (pos 0)) ≤ mass_limit

-- the printed reply with such rows, after a line feed, is read back as these rows
abbrev pub RowsReadBack : Type 0
RowsReadBack = (s : Schema) (q : Slice) (rows : List Row) → All (IsRow s q) rows → rows_from s q 0 1 (records_of (10 ∷ answer_text rows)) ≡ Ok rows
