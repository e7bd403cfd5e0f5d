-- Worked examples over a text and a number attribute: what is replied, and which conditions are made of tests.
use Rattle.std.specs.Prelude.{◌≡◌, ℕ, List, [], ◌∷◌, codes, decimal, refl, ℤ, pos, negsuc}
use Rattle.std.specs.Fmt.{signed_decimal}
use Rattle.std.proofs.Common.{ap}
use Rattle.cube_schema.specs.declared.schema.Schema.{Schema}
use Rattle.cube_schema.specs.declared.schema.Kind.TheVariants as kind
use Rattle.fact_model.specs.declared.fact.Fact.{Fact}
use Rattle.fact_model.specs.declared.fact.Value.TheVariants as value
use Rattle.fact_model.specs.declared.slice.Column.TheVariants.{Count, Sum, Max}
use Rattle.fact_model.specs.declared.slice.Cond.{Cond}
use Rattle.fact_model.specs.declared.slice.Cond.TheVariants as cond
use Rattle.sql_lang.specs.declared.query.Item.TheVariants.{Attr, Column}
use Rattle.sql_lang.specs.declared.query.Operand.TheVariants.{Word, Whole}
use Rattle.sql_lang.specs.declared.query.Query.{Query}
use Rattle.sql_lang.specs.declared.query.Sign.TheVariants.{Equal, Less, MoreEqual}
use Rattle.sql_lang.specs.declared.query.Test.{Test}
use Rattle.sql_lang.specs.declared.query.Test.TheVariants.{Compare, OneOf}
use Rattle.sql_slice.specs.Plans.{plan_of}
use Rattle.sql_slice.proofs.Among.{number_among}
use Rattle.sql_slice.specs.SqlRows.{sqlrows}

abbrev schema : Schema
schema = record {
  attrs = record { name = codes "part"; kind = kind.Word 1000000 } ∷ record { name = codes "year"; kind = kind.Number } ∷ [];
  measures = codes "qty" ∷ [];
  views = (0 ∷ 1 ∷ []) ∷ [];
}

abbrev sale : List ℕ → ℕ → ℤ → Fact
sale part year number = record { values = value.Word part ∷ value.Number year ∷ []; measures = number ∷ [] }

abbrev sales : List Fact
sales = sale (codes "bolt") 1997 (pos 5) ∷ sale (codes "nut") 1997 (negsuc 1) ∷ sale (codes "bolt") 1998 (pos 4) ∷ []

-- ---- queries

abbrev by_part : Query
by_part = record { items = Attr 0 ∷ Column (Sum 0) ∷ []; group = 0 ∷ []; tests = Compare 1 MoreEqual (Whole (pos 1997)) ∷ Compare 1 Less (Whole (pos 1998)) ∷ [] }

abbrev by_year : Query
by_year = record { items = Attr 1 ∷ Column (Max 0) ∷ []; group = 1 ∷ []; tests = OneOf 0 (Word (codes "bolt") ∷ Word (codes "saw") ∷ []) ∷ [] }

abbrev counted : List Test → Query
counted tests = record { items = Column Count ∷ []; group = []; tests = tests }

-- ---- replies

rows-by_part : sqlrows sales by_part ≡ (codes "bolt" ∷ signed_decimal (pos 5) ∷ []) ∷ (codes "nut" ∷ signed_decimal (negsuc 1) ∷ []) ∷ []
rows-by_part = refl

rows-by_year : sqlrows sales by_year ≡ (decimal 1997 ∷ signed_decimal (pos 5) ∷ []) ∷ (decimal 1998 ∷ signed_decimal (pos 4) ∷ []) ∷ []
rows-by_year = refl

rows-counted : sqlrows sales (counted []) ≡ (signed_decimal (pos 3) ∷ []) ∷ []
rows-counted = refl

-- ---- plans

abbrev conds_for : List Test → List Cond
conds_for tests = (plan_of schema (counted tests)).slice.conds

abbrev within_year : List Test
within_year = Compare 1 MoreEqual (Whole (pos 1997)) ∷ Compare 1 Less (Whole (pos 1998)) ∷ []

abbrev from_year : List Test
from_year = Compare 1 MoreEqual (Whole (pos 1997)) ∷ []

abbrev before_all : List Test
before_all = Compare 1 Less (Whole (pos 0)) ∷ Compare 0 Equal (Word (codes "a")) ∷ []

-- one number, several, and none
planned-one : conds_for within_year ≡ cond.Equal 1 (value.Number 1997) ∷ []
unfolding plan_of
planned-one = ap (λ (c : Cond). c ∷ []) (number_among 1 within_year)

planned-several : conds_for from_year ≡ cond.Between 1 1997 9223372036854775807 ∷ []
unfolding plan_of
planned-several = ap (λ (c : Cond). c ∷ []) (number_among 1 from_year)

planned-none : conds_for before_all ≡ cond.Equal 0 (value.Word (codes "a")) ∷ cond.Between 1 1 0 ∷ []
unfolding plan_of
planned-none = ap (λ (c : Cond). cond.Equal 0 (value.Word (codes "a")) ∷ c ∷ []) (number_among 1 before_all)
