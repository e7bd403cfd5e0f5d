-- The forest of a worked example, byte by byte: one tree of three views, in four pages.
use Rattle.std.proofs.Common.{◌≡◌, ◌-◌, ◌/◌, ◌%◌, ℕ, List, [], ◌∷◌, ◌++◌, length, replicate, refl}
use Rattle.std.specs.Prelude.{codes}
use Rattle.page_entry.specs.Bytes.{width}
use Rattle.be_numbers.specs.Numbers.{coded, signed_coded}
use Rattle.cube_schema.specs.declared.schema.Schema.{Schema}
use Rattle.cube_schema.specs.declared.schema.Kind.TheVariants.{Word, Number}
use Rattle.select_map.specs.Views.{selected}
use Rattle.spec_points.proofs.Vectors.{facts}
use Rattle.leaf_pack.specs.Cover.{box_of}
use Rattle.view_route.specs.Counts.{body_counts}
use Rattle.spec_forest.specs.Forest.{forest}

-- parts and years, and the views by both, by the year and by none
abbrev schema : Schema
schema = record {
  attrs = record { name = codes "part"; kind = Word 1000000 } ∷ record { name = codes "year"; kind = Number } ∷ [];
  measures = codes "qty" ∷ [];
  views = (0 ∷ 1 ∷ []) ∷ (1 ∷ []) ∷ [] ∷ [];
}

-- a number in four, eight or sixteen bytes, and the negative -2 in sixteen
abbrev four : ℕ → List ℕ
four n = 0 ∷ 0 ∷ n / 256 ∷ n % 256 ∷ []

abbrev eight : ℕ → List ℕ
eight n = replicate 7 0 ++ n ∷ []

abbrev sixteen : ℕ → List ℕ
sixteen n = replicate 15 0 ++ n ∷ []

abbrev minus_two : List ℕ
minus_two = replicate 15 255 ++ 254 ∷ []

-- a page of these bytes, filled up with zeros
abbrev filled : List ℕ → List ℕ
filled bytes = bytes ++ replicate (4096 - length bytes) 0

-- the header of a page of this kind, arity and number of entries
abbrev header : ℕ → ℕ → ℕ → List ℕ
header kind arity count = kind ∷ arity ∷ 0 ∷ count ∷ 0 ∷ 0 ∷ 0 ∷ 0 ∷ []

-- three facts: sum 7, least -2, greatest 5
abbrev of_none : List ℕ
of_none = header 1 0 1 ++ (eight 3 ++ (sixteen 7 ++ (minus_two ++ sixteen 5)))

-- in 1997 two facts, 3, -2 and 5; in 1998 one, of 4
abbrev of_years : List ℕ
of_years = header 1 1 2 ++ (four 1998 ++ (eight 2 ++ (sixteen 3 ++ (minus_two ++ (sixteen 5 ++ (four 1999 ++ (eight 1 ++ (sixteen 4 ++ (sixteen 4 ++ sixteen 4)))))))))

-- bolts and nuts in 1997, and bolts in 1998
abbrev of_parts_and_years : List ℕ
of_parts_and_years = header 1 2 3
    ++ (four 1 ++ (four 1998 ++ (eight 1 ++ (sixteen 5 ++ (sixteen 5 ++ (sixteen 5
    ++ (four 2 ++ (four 1998 ++ (eight 1 ++ (minus_two ++ (minus_two ++ (minus_two
    ++ (four 1 ++ (four 1999 ++ (eight 1 ++ (sixteen 4 ++ (sixteen 4 ++ sixteen 4)))))))))))))))))

-- the boxes of these three pages, with their numbers
abbrev over_all : List ℕ
over_all = header 2 2 3
    ++ (four 0 ++ (four 0 ++ (four 0 ++ (four 0 ++ (eight 0
    ++ (four 1998 ++ (four 1999 ++ (four 0 ++ (four 0 ++ (eight 1
    ++ (four 1 ++ (four 2 ++ (four 1998 ++ (four 1999 ++ eight 2))))))))))))))

state_a : forest 1 schema facts ≡ filled of_none ++ (filled of_years ++ (filled of_parts_and_years ++ filled over_all))
unfolding forest selected box_of width coded signed_coded
state_a = refl

-- its body counts the points of each view
counted : body_counts schema facts ≡ 3 ∷ 2 ∷ 1 ∷ replicate 29 0
counted = refl
