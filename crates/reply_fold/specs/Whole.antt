-- The reply of the whole, from what the replies of parts say.
use Rattle.std.specs.Prelude.{◌≡◌, ◌≢◌, ℕ, ◌==◌, ◌≤◌, ◌<◌, Bool, true, false, cond, List, [], ◌∷◌, flat_map, length, map, ℤ, Option, Some, None, Result, Ok, Err}
use Rattle.std.specs.List.{All}
use Rattle.std.specs.List.Sorted.{IsPermutation}
use Rattle.csv.specs.Writing.{default_writer, row_text}
use Rattle.csv_text.specs.Records.{records_of}
use Rattle.cube_schema.specs.Agreeing.{Agrees}
use Rattle.cube_schema.specs.Kinds.{measure_count}
use Rattle.cube_schema.specs.Reading.{schema_of}
use Rattle.cube_schema.specs.declared.schema.Schema.{Schema}
use Rattle.cube_schema.specs.declared.schema.SchemaRefusal.{SchemaRefusal}
use Rattle.fact_model.specs.Adds.{AddUp}
use Rattle.fact_model.specs.Fact.{mass, mass_limit}
use Rattle.fact_model.specs.Rows.{as_row}
use Rattle.fact_model.specs.Value.{Key}
use Rattle.fact_model.specs.declared.fact.Fact.{Fact}
use Rattle.fact_model.specs.declared.slice.Column.{Column}
use Rattle.fact_model.specs.declared.slice.Row.{Row}
use Rattle.fact_model.specs.declared.slice.Slice.{Slice}
use Rattle.spec_machine.specs.Machine.{slice_over}
use Rattle.reply_text.specs.Replies.{answer_text}
use Rattle.row_fold.specs.Folds.{folded}
use Rattle.slice_lang.specs.Reading.{slice_of}
use Rattle.slice_lang.specs.declared.refusal.SliceRefusal.{SliceRefusal}
use Rattle.slice_lang.specs.declared.refusal.SliceRefusal.TheVariants as slices
use Rattle.reply_fold.specs.Answers.{Answers}
use Rattle.reply_fold.specs.Input.{behind_text, block_in, is_whole, place_of_end, text_in}
use Rattle.reply_fold.specs.Replies.{first_in, refused_from, rows_from}
use Rattle.reply_fold.specs.declared.fault.Fault.{Fault}
use Rattle.reply_fold.specs.declared.fault.Fault.TheVariants as faults
use Rattle.reply_fold.specs.declared.replies.Replies.{Replies}
use Rattle.reply_fold.specs.declared.replies.Replies.TheVariants as says

-- ---- what the replies say

-- all replies are this refusal, or the fault
abbrev pub as_refused : List ℕ → Result (Unit {0}) Fault → Result Replies Fault
as_refused text (Err fault) = Err fault
as_refused text (Ok shared) = Ok (says.Refused text)

abbrev pub as_rows : Slice → Result (List Row) Fault → Result Replies Fault
as_rows q (Err fault) = Err fault
as_rows q (Ok rows) = Ok (says.Rows q rows)

-- the rows of the records, if the text is that of a slice
abbrev pub rows_said : Schema → Result Slice SliceRefusal → List (List (List ℕ)) → Result Replies Fault
rows_said s (Err refusal) records = Err (faults.Slice refusal)
rows_said s (Ok q) records = as_rows q (rows_from s q 0 1 records)

-- what the replies say, if the first record is a refusal and if it is not
abbrev pub records_said : Schema → Result Slice SliceRefusal → List (List (List ℕ)) → Result (Option (List ℕ)) Fault → Result Replies Fault
records_said s asked records (Err fault) = Err fault
records_said s asked records (Ok (Some text)) = as_refused text (refused_from text 1 records)
records_said s asked records (Ok None) = rows_said s asked records

-- replies that are not cut off
abbrev pub replies_said : Schema → Result Slice SliceRefusal → List ℕ → Result Replies Fault
replies_said s asked replies = cond (is_whole replies) (records_said s asked (records_of replies) (first_in (records_of replies))) (Err faults.Cut)

-- memory ran out
abbrev pub is_short : Result Slice SliceRefusal → Bool
is_short (Ok q) = false
is_short (Err (slices.Syntax byte)) = false
is_short (Err (slices.UnknownAttr byte)) = false
is_short (Err (slices.UnknownMeasure byte)) = false
is_short (Err (slices.Repeated byte)) = false
is_short (Err (slices.BadValue byte)) = false
is_short (Err slices.Memory) = true

abbrev pub asked_said : Schema → Result Slice SliceRefusal → List ℕ → Result Replies Fault
asked_said s asked replies = cond (is_short asked) (Err faults.Memory) (replies_said s asked replies)

-- the schema, or the fault
abbrev pub as_schema : Result Schema SchemaRefusal → Result Schema Fault
as_schema (Ok s) = Ok s
as_schema (Err refusal) = Err (faults.Schema refusal)

abbrev pub schema_said : Result Schema Fault → List ℕ → List ℕ → Result Replies Fault
schema_said (Err fault) text replies = Err fault
schema_said (Ok s) text replies = asked_said s (slice_of s text) replies

-- what the replies of an input say, or the first fault
unfoldable pub said_in : List ℕ → Result Replies Fault
said_in input = cond (place_of_end input == length input) (Err faults.Heading) (schema_said (as_schema (schema_of (block_in input))) (text_in input) (behind_text input))

-- ---- the reply of the whole

-- the row has a number for each column
abbrev pub IsWide : List Column → Row → Type 0
IsWide columns row = length row.numbers ≡ length columns

-- each row has a number for each column
abbrev pub AreWide : Replies → Type 0
AreWide (says.Refused text) = Unit {0}
AreWide (says.Rows q rows) = All (IsWide q.columns) rows

-- rows of the same key joined, in ascending order of their keys
abbrev pub joined : List Column → List Row → List (Key × List ℤ)
joined columns rows = folded columns (λ k. true) (λ k. k) rows

-- the reply of the whole
abbrev pub whole_text : Replies → List ℕ
whole_text (says.Refused text) = row_text default_writer (text ∷ [])
whole_text (says.Rows q rows) = answer_text (map as_row (joined q.columns rows))

-- the numbers of all rows add up
abbrev pub CanJoin : Replies → Type 0
CanJoin (says.Refused text) = Unit {0}
CanJoin (says.Rows q rows) = AddUp rows

-- the reply of the whole if the numbers add up, and otherwise the fault
abbrev pub IsJoined : Replies → Result (List ℕ) Fault → Type 0
IsJoined replies (Ok text) = CanJoin replies × (text ≡ whole_text replies)
IsJoined replies (Err fault) = fault ≢ faults.Memory → (fault ≡ faults.Sum) × (CanJoin replies → ⊥)

-- the answer to an input whose replies say this
abbrev pub IsFold : Result Replies Fault → Result (List ℕ) Fault → Type 0
IsFold (Ok replies) result = IsJoined replies result
IsFold (Err fault) result = Answers result (Err fault)

-- ---- the replies of the plain machine

-- its reply to the text of a slice, over these facts
abbrev pub reply_over : Schema → List ℕ → List Fact → List ℕ
reply_over schema text facts = slice_over (Some (record { schema = schema; facts = facts; last = 0 })) text

-- facts that agree with the schema, and are few and light enough for all counts and sums
pub record KeepLimits (schema : Schema) (facts : List Fact) : Type 0 where
  pub agree : All (Agrees schema) facts
  pub few : length facts ≤ mass_limit
  pub light : (m : ℕ) → m < measure_count schema → mass m facts ≤ mass_limit

-- the facts of all lists
abbrev pub together : List (List Fact) → List Fact
together parts = flat_map (λ facts. facts) parts

-- these are the facts of all parts, in any order
abbrev pub AreOfAll : List (List Fact) → List Fact → Type 0
AreOfAll parts facts = IsPermutation (together parts) facts

-- the input has the block of a schema, a text, and the plain machine's replies to it, one for each of one or more parts
pub record HasParts (input : List ℕ) (schema : Schema) (parts : List (List Fact)) : Type 0 where
  pub declared : schema_of (block_in input) ≡ Ok schema
  pub told : behind_text input ≡ 10 ∷ flat_map (reply_over schema (text_in input)) parts
  pub some : 0 < length parts
  pub limits : KeepLimits schema (together parts)
