-- What the records of replies say, one reply after the other.
use Rattle.std.specs.Prelude.{ℕ, suc, ◌==◌, ◌&&◌, Bool, true, false, cond, List, [], ◌∷◌, ◌++◌, length, codes, decimal, get_or, Option, Some, None, Result, Ok, Err}
use Rattle.std.specs.Str.{bytes_eq}
use Rattle.cube_schema.specs.Words.{begins}
use Rattle.cube_schema.specs.declared.schema.Schema.{Schema}
use Rattle.fact_model.specs.declared.slice.Row.{Row}
use Rattle.fact_model.specs.declared.slice.Slice.{Slice}
use Rattle.reply_fold.specs.declared.fault.Fault.{Fault}
use Rattle.reply_fold.specs.declared.fault.Fault.TheVariants as faults
use Rattle.reply_fold.specs.Rows.{row_in}

-- the first field
abbrev pub first_field : List (List ℕ) → List ℕ
first_field fields = get_or fields 0 []

-- the record has only this field
abbrev pub is_single : List ℕ → List (List ℕ) → Bool
is_single text fields = length fields == 1 && bytes_eq (first_field fields) text

-- ---- replies that refuse

-- the record is a refusal
abbrev pub is_refusal : List (List ℕ) → Bool
is_refusal fields = length fields == 1 && begins (first_field fields) (codes "refused ")

-- the first reply, if it is a refusal
abbrev pub first_in : List (List (List ℕ)) → Result (Option (List ℕ)) Fault
first_in [] = Err faults.Nothing
first_in (fields ∷ records) = Ok (cond (is_refusal fields) (Some (first_field fields)) None)

-- each record is this refusal; the first record has number n
abbrev pub refused_from : List ℕ → ℕ → List (List (List ℕ)) → Result (Unit {0}) Fault
refused_from text n [] = Ok tt
refused_from text n (fields ∷ records) = cond (is_single text fields) (refused_from text (suc n) records) (Err (faults.Differs n))

-- ---- replies of rows

-- the last line of a reply with `rows` rows, without its line feed
abbrev pub end_text : ℕ → List ℕ
end_text rows = codes "rows " ++ decimal rows

-- the record is that line
abbrev pub is_end : ℕ → List (List ℕ) → Bool
is_end rows fields = is_single (end_text rows) fields

-- these rows before others, or the fault
abbrev pub with_front : List Row → Result (List Row) Fault → Result (List Row) Fault
with_front front (Err fault) = Err fault
with_front front (Ok rows) = Ok (front ++ rows)

-- a row before others, or the first fault
abbrev pub onto : Result Row Fault → Result (List Row) Fault → Result (List Row) Fault
onto (Err fault) rows = Err fault
onto (Ok row) rows = with_front (row ∷ []) rows

-- a record and the rows after it; the end of a reply adds no row
abbrev pub taken : Bool → Result Row Fault → Result (List Row) Fault → Result (List Row) Fault
taken true row rows = rows
taken false row rows = onto row rows

-- how many rows the current reply has after a record
abbrev pub begun_behind : Bool → ℕ → ℕ
begun_behind true begun = 0
begun_behind false begun = suc begun

-- every reply has ended
abbrev pub all_ended : ℕ → Result (List Row) Fault
all_ended begun = cond (begun == 0) (Ok []) (Err faults.Cut)

-- the rows of records, the first of which has number n; `begun` rows of the current reply come before them
abbrev pub rows_from : Schema → Slice → ℕ → ℕ → List (List (List ℕ)) → Result (List Row) Fault
rows_from s q begun n [] = all_ended begun
rows_from s q begun n (fields ∷ records) =
    taken (is_end begun fields) (row_in s q n fields) (rows_from s q (begun_behind (is_end begun fields) begun) (suc n) records)
