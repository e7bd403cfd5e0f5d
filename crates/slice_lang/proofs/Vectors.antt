-- Worked examples over a text and a number attribute: what texts are read as, and the text that a slice is written as.
use Rattle.std.specs.Prelude.{◌≡◌, ℕ, List, [], ◌∷◌, ◌++◌, map, codes, decimal, Ok, refl}
use Rattle.cube_schema.specs.declared.schema.Schema.{Schema}
use Rattle.cube_schema.specs.declared.schema.Kind.TheVariants as kind
use Rattle.fact_model.specs.declared.fact.Value.TheVariants.{Word, Number}
use Rattle.fact_model.specs.declared.slice.Cond.{Cond}
use Rattle.fact_model.specs.declared.slice.Cond.TheVariants.{Equal, Between}
use Rattle.fact_model.specs.declared.slice.Column.TheVariants.{Count, Sum, Min, Max}
use Rattle.fact_model.specs.declared.slice.Slice.{Slice}
use Rattle.slice_lang.specs.Answers.{Reading}
use Rattle.slice_lang.specs.Parts.{parts_of}
use Rattle.slice_lang.specs.Values.{written_in, number_cond, meaning}
use Rattle.slice_lang.specs.Reading.{count_in, measured_in, column_in, attr_in, name_of_group, value_in, cond_in, behind_group, behind_columns, slice_of}
use Rattle.slice_lang.specs.Writing.{slice_text}

abbrev schema : Schema
schema = record {
  attrs = record { name = codes "part"; kind = kind.Word 1000000 } ∷ record { name = codes "year"; kind = kind.Number } ∷ [];
  measures = codes "qty" ∷ [];
  views = (0 ∷ 1 ∷ []) ∷ [];
}

-- each kind of column, group and condition
abbrev whole : Slice
whole = record {
  columns = Sum 0 ∷ Count ∷ Min 0 ∷ Max 0 ∷ Count ∷ [];
  group = 1 ∷ 0 ∷ [];
  conds = Between 1 1997 1999 ∷ Equal 0 (Word (codes "a \"b\" and c")) ∷ [];
}

read : slice_of schema (codes "sum(qty),count,min(qty),max(qty),count by year,part where year=1997..+1999 and part=\"a \"\"b\"\" and c\"") ≡ Ok whole
unfolding slice_of parts_of column_in count_in measured_in behind_columns name_of_group attr_in behind_group cond_in value_in written_in meaning number_cond
read = refl

-- numbers are in plain decimal, and quotes are doubled
written : slice_text schema whole
    ≡ codes "sum(qty),count,min(qty),max(qty),count by year,part where year=" ++ ((decimal 1997 ++ (codes ".." ++ decimal 1999)) ++ codes " and part=\"a \"\"b\"\" and c\"")
unfolding slice_text
written = refl

-- the count where one condition holds
abbrev counted : Cond → Slice
counted cond = record { columns = Count ∷ []; group = []; conds = cond ∷ [] }

abbrev asked : List ℕ → Reading Slice
asked cond = slice_of schema (codes "count where " ++ cond)

conds : map asked (codes "part=x.-+_Z9" ∷ codes "part=1..2" ∷ codes "part=\"\"\"\"" ∷ codes "part=\"a\nb\"" ∷ codes "year=0009223372036854775807" ∷ codes "year=-0" ∷ codes "year=+0..-0" ∷ codes "year=1998..1997" ∷ [])
    ≡ map (λ cond. Ok (counted cond)) (Equal 0 (Word (codes "x.-+_Z9")) ∷ Equal 0 (Word (codes "1..2")) ∷ Equal 0 (Word (codes "\"")) ∷ Equal 0 (Word (codes "a\nb"))
    ∷ Equal 1 (Number 9223372036854775807) ∷ Equal 1 (Number 0) ∷ Between 1 0 0 ∷ Between 1 1998 1997 ∷ [])
unfolding slice_of parts_of column_in count_in behind_columns behind_group cond_in attr_in value_in written_in meaning number_cond
conds = refl
