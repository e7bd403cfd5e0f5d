-- Records while they are taken.
use Rattle.std.specs.Prelude.{ℕ, List, Result}
use Rattle.cube_schema.specs.declared.schema.Schema.{Schema}
use Rattle.fact_model.specs.declared.slice.Row.{Row}
use Rattle.fact_model.specs.declared.slice.Slice.{Slice}
use Rattle.reply_fold.specs.declared.fault.Fault.{Fault}
use Rattle.reply_fold.specs.declared.taken.Taken.{Taken}
use Rattle.reply_fold.specs.Replies.{rows_from, with_front}

-- the rows so far, and those of the remaining records, the first of which has number n
abbrev pub left : Schema → Slice → Taken → ℕ → List (List (List ℕ)) → Result (List Row) Fault
left s q t n records = with_front t.rows (rows_from s q t.begun n records)
