-- The facts of a batch, or its first fault. Rows and fields count from 1.
use Rattle.std.specs.Prelude.{ℕ, ◌+◌, ◌==◌, ◌≡◌, ◌≢◌, cond, List, drop, length, map, nat_le, nat_lt, ℤ, pos, negsuc, Option, Some, None, Result, Ok, Err}
use Rattle.std.specs.List.{enumerate_from, zip}
use Rattle.csv_text.specs.Records.{records_of}
use Rattle.cube_schema.specs.declared.schema.Attr.{Attr}
use Rattle.cube_schema.specs.declared.schema.Kind.{Kind}
use Rattle.cube_schema.specs.declared.schema.Kind.TheVariants as kind
use Rattle.cube_schema.specs.declared.schema.Schema.{Schema}
use Rattle.fact_model.specs.declared.fact.Fact.{Fact}
use Rattle.fact_model.specs.declared.fact.Value.{Value}
use Rattle.fact_model.specs.declared.fact.Value.TheVariants.{Word, Number}
use Rattle.fact_model.specs.Limits.{number_limit}
use Rattle.fact_model.specs.Number.{number_in}
use Rattle.fact_csv.specs.declared.refusal.RowRefusal.{RowRefusal}
use Rattle.fact_csv.specs.declared.refusal.RowRefusal.TheVariants as refusals
use Rattle.fact_csv.specs.Gathered.{gathered}

-- a value of a number attribute lies between 0 and the greatest value that it may have
abbrev pub coordinate_in : ℕ → ℕ → Option ℤ → Result Value RowRefusal
coordinate_in row field None = Err (refusals.Number row field)
coordinate_in row field (Some (negsuc k)) = Err (refusals.Number row field)
coordinate_in row field (Some (pos n)) = cond (nat_le n number_limit) (Ok (Number n)) (Err (refusals.Number row field))

-- the value that a field gives an attribute; a text has at most 255 bytes
abbrev pub value_in : Kind → ℕ → ℕ → List ℕ → Result Value RowRefusal
value_in (kind.Word max) row field bytes = cond (nat_le (length bytes) 255) (Ok (Word bytes)) (Err (refusals.Long row field))
value_in kind.Number row field bytes = coordinate_in row field (number_in bytes)

abbrev pub number_or : RowRefusal → Option ℤ → Result ℤ RowRefusal
number_or refusal None = Err refusal
number_or refusal (Some z) = Ok z

-- the number that a field gives a measure
abbrev pub measure_in : ℕ → ℕ → List ℕ → Result ℤ RowRefusal
measure_in row field bytes = number_or (refusals.Number row field) (number_in bytes)

-- what each of the first fields gives its attribute
abbrev pub value_answers : ℕ → List Attr → List (List ℕ) → List (Result Value RowRefusal)
value_answers row attrs fields = map (λ p. value_in p.1.0.kind row p.0 p.1.1) (enumerate_from 1 (zip attrs fields))

-- the values that the first fields give the attributes, or the first fault
abbrev pub values_in : ℕ → List Attr → List (List ℕ) → Result (List Value) RowRefusal
values_in row attrs fields = gathered (value_answers row attrs fields)

-- what each field after the attributes' fields gives its measure
abbrev pub measure_answers : ℕ → ℕ → List (List ℕ) → List (Result ℤ RowRefusal)
measure_answers row attrs fields = map (λ p. measure_in row p.0 p.1) (enumerate_from (attrs + 1) (drop attrs fields))

-- the numbers that these fields give the measures, or the first fault
abbrev pub measures_in : ℕ → ℕ → List (List ℕ) → Result (List ℤ) RowRefusal
measures_in row attrs fields = gathered (measure_answers row attrs fields)

-- the fact of these values and numbers; a fault of a value comes before one of a number
abbrev pub fact_from : Result (List Value) RowRefusal → Result (List ℤ) RowRefusal → Result Fact RowRefusal
fact_from (Err refusal) numbers = Err refusal
fact_from (Ok values) (Err refusal) = Err refusal
fact_from (Ok values) (Ok numbers) = Ok (record { values = values; measures = numbers })

-- the fact of a row, which has a field for each attribute and then one for each measure, or its first fault
abbrev pub fact_in : Schema → ℕ → List (List ℕ) → Result Fact RowRefusal
fact_in schema row fields =
    cond (length fields == length schema.attrs + length schema.measures)
    (fact_from (values_in row schema.attrs fields) (measures_in row (length schema.attrs) fields))
    (Err (refusals.Fields row))

-- what each row gives
abbrev pub fact_answers : Schema → List (List (List ℕ)) → List (Result Fact RowRefusal)
fact_answers schema rows = map (λ p. fact_in schema p.0 p.1) (enumerate_from 1 rows)

-- the facts of rows, or the first fault
abbrev pub facts_in : Schema → List (List (List ℕ)) → Result (List Fact) RowRefusal
facts_in schema rows = gathered (fact_answers schema rows)

-- the facts of a block, which has at most 262,144 rows, or the first fault
abbrev pub batch_of : Schema → List ℕ → Result (List Fact) RowRefusal
batch_of schema block = cond (nat_lt 262144 (length (records_of block))) (Err refusals.Rows) (facts_in schema (records_of block))

-- the refusal is the one that the definition gives, unless memory was short
abbrev pub Refuses : {A : Type 0} → Result A RowRefusal → RowRefusal → Type 0
Refuses read refusal = refusal ≢ refusals.Memory → read ≡ Err refusal

-- these are the facts of the rows, or the first fault, unless memory was short
abbrev pub AreRead : Schema → List (List (List ℕ)) → Result (List Fact) RowRefusal → Type 0
AreRead schema rows (Ok facts) = facts_in schema rows ≡ Ok facts
AreRead schema rows (Err refusal) = Refuses (facts_in schema rows) refusal
