-- Reads a row from its record, as it was printed.
use Rattle.std.specs.Prelude.{ℕ, ◌+◌, ◌==◌, cond, List, drop, length, map, ℤ, Option, Some, None, Result, Ok, Err}
use Rattle.std.specs.List.{zip}
use Rattle.cube_schema.specs.Kinds.{kind_at}
use Rattle.cube_schema.specs.declared.schema.Kind.{Kind}
use Rattle.cube_schema.specs.declared.schema.Kind.TheVariants as kind
use Rattle.cube_schema.specs.declared.schema.Schema.{Schema}
use Rattle.fact_csv.specs.Gathered.{gathered}
use Rattle.fact_model.specs.declared.fact.Value.{Value}
use Rattle.fact_model.specs.declared.fact.Value.TheVariants.{Word, Number}
use Rattle.fact_model.specs.declared.slice.Row.{Row}
use Rattle.fact_model.specs.declared.slice.Slice.{Slice}
use Rattle.fact_model.specs.Number.{number_in}
use Rattle.fact_model.specs.Value.{Key}
use Rattle.slice_lang.specs.Values.{coordinate_in}
use Rattle.reply_fold.specs.declared.fault.Fault.{Fault}
use Rattle.reply_fold.specs.declared.fault.Fault.TheVariants.{Record}

-- what was read from record n, if anything was
abbrev pub found_or : {A B : Type 0} → ℕ → (A → B) → Option A → Result B Fault
found_or n f None = Err (Record n)
found_or n f (Some x) = Ok (f x)

-- the value of an attribute of this kind in a field: any bytes are a text, and a number is in decimal
abbrev pub value_in : Kind → ℕ → List ℕ → Result Value Fault
value_in (kind.Word max) n field = Ok (Word field)
value_in kind.Number n field = found_or n Number (coordinate_in field)

-- the values of these attributes in the first fields
abbrev pub values_in : Schema → List ℕ → ℕ → List (List ℕ) → Result Key Fault
values_in s group n fields = gathered (map (λ p. value_in (kind_at s p.0) n p.1) (zip group fields))

-- the number in a field
abbrev pub number_at : ℕ → List ℕ → Result ℤ Fault
number_at n field = found_or n (λ z. z) (number_in field)

-- the numbers in the fields after the first `values`
abbrev pub numbers_in : ℕ → ℕ → List (List ℕ) → Result (List ℤ) Fault
numbers_in values n fields = gathered (map (number_at n) (drop values fields))

abbrev pub row_from : Result Key Fault → Result (List ℤ) Fault → Result Row Fault
row_from (Err fault) numbers = Err fault
row_from (Ok key) (Err fault) = Err fault
row_from (Ok key) (Ok numbers) = Ok (record { key = key; numbers = numbers })

-- a record that is a row of the slice: a value for each grouped attribute, then a number for each column
abbrev pub row_in : Schema → Slice → ℕ → List (List ℕ) → Result Row Fault
row_in s q n fields =
    cond (length fields == length q.group + length q.columns)
    (row_from (values_in s q.group n fields) (numbers_in (length q.group) n fields))
    (Err (Record n))
