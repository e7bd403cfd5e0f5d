-- Worked examples: the records of blocks, and rows as text.
use Rattle.std.specs.Prelude.{◌≡◌, ℕ, List, [], ◌∷◌, ◌++◌, map, codes, refl}
use Rattle.csv.specs.Machine.{next_record}
use Rattle.csv.specs.Reading.{records_from, strip_bom}
use Rattle.csv.specs.Writing.{escaped, fields_text, is_blank}
use Rattle.fact_model.specs.declared.fact.Value.TheVariants.{Word}
use Rattle.fact_model.specs.declared.slice.Row.{Row}
use Rattle.csv_text.specs.Records.{records_of}
use Rattle.csv_text.specs.Rows.{nothing_written, with_field, with_end, rows_text, row_fields}

-- lines that are empty are none, and each of a line feed, a carriage return and both ends a record
lines : records_of (codes "\n\r\na,b\r\nc\r\n\r\nd,e,f\ra") ≡ (codes "a" ∷ codes "b" ∷ []) ∷ (codes "c" ∷ []) ∷ (codes "d" ∷ codes "e" ∷ codes "f" ∷ []) ∷ (codes "a" ∷ []) ∷ []
unfolding records_of records_from next_record strip_bom
lines = refl

-- fields that are empty, and bytes of no meaning
plain : records_of (codes "\"\"\n,\na,\n a , b \n#a\n" ++ 255 ∷ 0 ∷ 44 ∷ 254 ∷ [])
    ≡ ([] ∷ []) ∷ ([] ∷ [] ∷ []) ∷ (codes "a" ∷ [] ∷ []) ∷ (codes " a " ∷ codes " b " ∷ []) ∷ (codes "#a" ∷ []) ∷ ((255 ∷ 0 ∷ []) ∷ (254 ∷ []) ∷ []) ∷ []
unfolding records_of records_from next_record strip_bom
plain = refl

-- quotes at the front of a field and within, and one that is not closed
quotes : records_of (codes "\"a,\"\"b\"\"\nc\",1\na\"b,c\n\"a\"b,c\n\"open,1\n2")
    ≡ (codes "a,\"b\"\nc" ∷ codes "1" ∷ []) ∷ (codes "a\"b" ∷ codes "c" ∷ []) ∷ (codes "ab" ∷ codes "c" ∷ []) ∷ (codes "open,1\n2" ∷ []) ∷ []
unfolding records_of records_from next_record strip_bom
quotes = refl

-- the byte order mark
abbrev mark : List ℕ
mark = 239 ∷ 187 ∷ 191 ∷ []

-- it is dropped at the front of a block alone
marked : records_of (mark ++ (codes "a\n" ++ (mark ++ codes "b\n"))) ≡ (codes "a" ∷ []) ∷ ((mark ++ codes "b") ∷ []) ∷ []
unfolding records_of records_from next_record strip_bom
marked = refl

-- the row of a text and another
abbrev row : List ℕ → Row
row text = record { key = Word text ∷ Word (codes "1") ∷ []; numbers = [] }

texts : rows_text (map (λ text. row_fields (row text)) (codes "bolt" ∷ [] ∷ codes "a,\"b\"\nc" ∷ codes "a\rb" ∷ codes " #" ∷ (255 ∷ []) ∷ []))
    ≡ codes "bolt,1\n,1\n\"a,\"\"b\"\"\nc\",1\n\"a\rb\",1\n #,1\n" ++ 255 ∷ codes ",1\n"
unfolding escaped fields_text is_blank
texts = refl

-- a row of nothing is two quotes
nothing : rows_text (row_fields (record { key = []; numbers = [] }) ∷ []) ≡ codes "\"\"\n"
unfolding is_blank
nothing = refl

-- rows of other lengths follow, and one that has not ended is not in the text
begun : (with_field (with_end (with_field (with_end (with_field (with_field nothing_written (codes "a")) (codes "-2"))) (codes "3"))) (codes "begun")).text
    ≡ codes "a,-2\n3\n"
unfolding fields_text is_blank
begun = refl
