-- Worked examples: the parts of an input, and the rows of records.
use Rattle.std.proofs.Common.{◌<◌, ◌≤◌, zero, suc, arith}
use Rattle.std.specs.Prelude.{◌≡◌, ℕ, flat_map, true, false, List, [], ◌∷◌, codes, Some, None, Ok, Err, ℤ, pos, negsuc, refl}
use Rattle.std.specs.Fmt.{digits}
use Rattle.std.specs.List.{All}
use Rattle.std.proofs.lemmas.List.Elements.{All-from_recursion}
use Rattle.csv.specs.Writing.{escaped, fields_text, is_blank}
use Rattle.cube_schema.specs.Agreeing.{Agrees}
use Rattle.cube_schema.specs.Reading.{schema_of, after_line, after_attr, after_measure, after_view}
use Rattle.cube_schema.specs.declared.schema.Kind.TheVariants as kind
use Rattle.cube_schema.specs.declared.schema.Schema.{Schema}
use Rattle.fact_model.specs.Fact.{mass, mass_limit}
use Rattle.fact_model.specs.declared.fact.Fact.{Fact}
use Rattle.fact_model.specs.declared.fact.Value.TheVariants.{Word, Number}
use Rattle.fact_model.specs.declared.slice.Column.TheVariants.{Count, Sum}
use Rattle.fact_model.specs.declared.slice.Row.{Row}
use Rattle.fact_model.specs.declared.slice.Slice.{Slice}
use Rattle.slice_lang.specs.Parts.{parts_of}
use Rattle.slice_lang.specs.Reading.{slice_of, behind_columns, behind_group, column_in, count_in, measured_in, name_of_group, attr_in}
use Rattle.reply_fold.specs.Input.{behind_text, block_in, is_whole, text_in}
use Rattle.reply_fold.specs.Replies.{first_in, refused_from, rows_from}
use Rattle.reply_fold.specs.Rows.{row_in}
use Rattle.reply_fold.specs.Whole.{HasParts, reply_over, together}
use Rattle.reply_fold.specs.declared.fault.Fault.TheVariants as faults

-- ---- the parts of an input

abbrev input : List ℕ
input = codes "attr part text\nmeasure qty\nview part\nend\ncount by part\nend\nend\nrows 1\n"

-- the block ends at the first line `end`
block : block_in input ≡ codes "attr part text\nmeasure qty\nview part"
block = refl

text : text_in input ≡ codes "count by part"
text = refl

behind : behind_text input ≡ codes "\nend\nend\nrows 1\n"
behind = refl

whole : is_whole (codes "\nrows 0\n") ≡ true
whole = refl

cut : is_whole (codes "\nrows 0") ≡ false
cut = refl

-- ---- rows

abbrev schema : Schema
schema = record {
  attrs = record { name = codes "part"; kind = kind.Word 9 } ∷ record { name = codes "year"; kind = kind.Number } ∷ [];
  measures = codes "qty" ∷ [];
  views = (0 ∷ 1 ∷ []) ∷ [];
}

-- sum(qty),count by year,part
abbrev slice : Slice
slice = record { columns = Sum 0 ∷ Count ∷ []; group = 1 ∷ 0 ∷ []; conds = [] }

abbrev row : List ℕ → ℕ → ℤ → ℤ → Row
row part year sum count = record { key = Number year ∷ Word part ∷ []; numbers = sum ∷ count ∷ [] }

abbrev line : List ℕ → List ℕ → List ℕ → List ℕ → List (List ℕ)
line year part sum count = year ∷ part ∷ sum ∷ count ∷ []

-- a text may look like a number, and may be empty
numeral : row_in schema slice 1 (line (codes "1997") (codes "10") (codes "-5") (codes "1")) ≡ Ok (row (codes "10") 1997 (negsuc 4) (pos 1))
numeral = refl

empty : row_in schema slice 1 (line (codes "0") [] (codes "0") (codes "2")) ≡ Ok (row [] 0 (pos 0) (pos 2))
empty = refl

-- a number may not be a text, and no field is left over
worded : row_in schema slice 3 (line (codes "bolt") (codes "1997") (codes "0") (codes "2")) ≡ Err (faults.Record 3)
worded = refl

longer : row_in schema slice 4 ([] ∷ line (codes "1997") (codes "bolt") (codes "0") (codes "2")) ≡ Err (faults.Record 4)
longer = refl

-- ---- replies

abbrev bolts : List (List ℕ)
bolts = line (codes "1997") (codes "bolt") (codes "3") (codes "1")

abbrev bolt : Row
bolt = row (codes "bolt") 1997 (pos 3) (pos 1)

-- two replies of rows, and one of none between
replies : rows_from schema slice 0 1 (bolts ∷ (codes "rows 1" ∷ []) ∷ (codes "rows 0" ∷ []) ∷ bolts ∷ bolts ∷ (codes "rows 2" ∷ []) ∷ []) ≡ Ok (bolt ∷ bolt ∷ bolt ∷ [])
unfolding digits
replies = refl

-- one that is cut off, and one that has another number of rows
open_reply : rows_from schema slice 0 1 (bolts ∷ (codes "rows 1" ∷ []) ∷ bolts ∷ []) ≡ Err faults.Cut
unfolding digits
open_reply = refl

miscounted : rows_from schema slice 0 1 (bolts ∷ (codes "rows 2" ∷ []) ∷ []) ≡ Err (faults.Record 2)
unfolding digits
miscounted = refl

-- refusals that are shared, and that are not
shared : refused_from (codes "refused notcovered") 1 ((codes "refused notcovered" ∷ []) ∷ (codes "refused notcovered" ∷ []) ∷ []) ≡ Ok tt
shared = refl

other : refused_from (codes "refused notcovered") 1 ((codes "refused notcovered" ∷ []) ∷ (codes "rows 0" ∷ []) ∷ []) ≡ Err (faults.Differs 2)
other = refl

-- the first record tells which
refusal : first_in ((codes "refused syntax 9" ∷ []) ∷ []) ≡ Ok (Some (codes "refused syntax 9"))
refusal = refl

no_refusal : first_in ((codes "refused syntax 9" ∷ codes "1" ∷ []) ∷ []) ≡ Ok None
no_refusal = refl

none : first_in [] ≡ Err faults.Nothing
none = refl

-- ---- the premise of the theorem can be met

abbrev parts_input : List ℕ
parts_input = codes "attr part text max 9\nmeasure qty\nview part\nend\ncount,sum(qty) by part\nbolt,1,-5\nrows 1\nrows 0\n"

abbrev bolts_schema : Schema
bolts_schema = record { attrs = record { name = codes "part"; kind = kind.Word 9 } ∷ []; measures = codes "qty" ∷ []; views = (0 ∷ []) ∷ [] }

abbrev a_bolt : Fact
a_bolt = record { values = Word (codes "bolt") ∷ []; measures = negsuc 4 ∷ [] }

abbrev parts : List (List Fact)
parts = (a_bolt ∷ []) ∷ [] ∷ []

light : (m : ℕ) → m < 1 → mass m (together parts) ≤ mass_limit
light zero l = omega arith
light (suc m) l = absurd (omega arith)

agree : All (Agrees bolts_schema) (together parts)
agree = All-from_recursion (Agrees bolts_schema) (together parts) (record { values = (omega arith, tt); measures = refl }, tt)

declared : schema_of (block_in parts_input) ≡ Ok bolts_schema
unfolding schema_of after_line after_attr after_measure after_view
declared = refl

told : behind_text parts_input ≡ 10 ∷ flat_map (reply_over bolts_schema (text_in parts_input)) parts
unfolding parts_of slice_of behind_columns behind_group column_in count_in measured_in name_of_group attr_in digits escaped fields_text is_blank
told = refl

met : HasParts parts_input bolts_schema parts
met = record { declared = declared; told = told; some = omega arith; limits = record { agree = agree; few = omega arith; light = light } }
