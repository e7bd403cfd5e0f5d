-- The formats of a leaf's entry.
use Rattle.std.proofs.Common.{◌≡◌, ◌<◌, ◌+◌, ◌-◌, ◌*◌, ◌^◌, ℕ, zero, suc, List, [], ◌∷◌, ◌++◌, length, take, refl, sym, ap, ◌∙◌, SFits}
use Rattle.std.specs.Prelude.{flat_map, replicate}
use Rattle.std.specs.Int.{w128}
use Rattle.std.proofs.lemmas.List.{take-append-drop, take_at, drop_at}
use Rattle.be_numbers.specs.Numbers.{coded, number, signed_coded, signed}
use Rattle.page_entry.specs.Bytes.{width, part_bytes, entry_bytes, entry_size, zeros}
use Rattle.be_numbers.specs.Formats.{many, AreMany, IsFormat, pair_write, pair_read}
use Rattle.page_entry.specs.Entries.{part_of, no_part, entry_of}
use Rattle.fact_model.specs.declared.cell.Part.{Part}
use Rattle.cube_point.specs.declared.point.Entry.{Entry}
use Rattle.cube_point.specs.declared.point.Shape.{Shape}
use Rattle.page_entry.specs.Stored.{IsPart, IsCoordinate, IsStored}
use Rattle.be_numbers.proofs.Format.{is_number, is_signed, is_pair, is_many, is_seen}

-- one list of n, and the padding behind it

pub many-length : {A : Type 0} (P : A → Type 0) (n : ℕ) (xs : List A) → AreMany P n xs → length xs ≡ n
many-length P zero [] h = refl
many-length P zero (x ∷ xs) h = absurd h
many-length P (suc n) [] h = absurd h
many-length P (suc n) (x ∷ xs) h = ap suc (many-length P n xs h.1)

-- measures

pub part_format : IsFormat 48 part_bytes part_of IsPart
part_format = is_seen 48 (pair_write signed_coded (pair_write signed_coded signed_coded)) (pair_read 16 signed (pair_read 16 signed signed)) (λ p. SFits w128 p.0 × (SFits w128 p.1.0 × SFits w128 p.1.1))
    (λ p. record { sum = p.0; low = p.1.0; high = p.1.1 }) (λ p. (p.sum, (p.low, p.high))) IsPart
    (is_pair 16 32 signed_coded signed (SFits w128) (pair_write signed_coded signed_coded) (pair_read 16 signed signed) (λ p. SFits w128 p.0 × SFits w128 p.1) is_signed
    (is_pair 16 16 signed_coded signed (SFits w128) signed_coded signed (SFits w128) is_signed is_signed))
    (λ y fits. (fits.sum, (fits.low, fits.high))) (λ y fits. refl) (λ x fits. refl) (λ x fits. record { sum = fits.0; low = fits.1.0; high = fits.1.1 })

-- entries of a leaf

abbrev Fields : Type 0
Fields = List ℕ × (ℕ × List Part)

abbrev made : ℕ → ℕ → Fields → Entry
made arity measures f = record {
  point = record { arity = arity; at = f.0 ++ zeros (8 - arity) };
  cell = record { count = f.1.0; measures = measures; parts = f.1.1 ++ replicate (4 - measures) no_part };
}

abbrev split : ℕ → ℕ → Entry → Fields
split arity measures e = (take arity e.point.at, (e.cell.count, take measures e.cell.parts))

pub entry_format : (arity : ℕ) (shape : Shape) → IsFormat (entry_size arity shape) (entry_bytes arity shape) (entry_of arity shape) (IsStored arity shape)
entry_format arity shape = is_seen (entry_size arity shape)
    (pair_write (flat_map (coded (width shape.wide))) (pair_write (coded 8) (flat_map part_bytes)))
    (pair_read (arity * width shape.wide) (many (number (width shape.wide)) (width shape.wide) arity) (pair_read 8 (number 8) (many part_of 48 shape.measures)))
    (λ f. AreMany (IsCoordinate shape.wide) arity f.0 × ((f.1.0 < 256 ^ 8) × AreMany IsPart shape.measures f.1.1))
    (made arity shape.measures) (split arity shape.measures) (IsStored arity shape)
    (is_pair (arity * width shape.wide) (8 + shape.measures * 48) (flat_map (coded (width shape.wide))) (many (number (width shape.wide)) (width shape.wide) arity) (AreMany (IsCoordinate shape.wide) arity)
    (pair_write (coded 8) (flat_map part_bytes)) (pair_read 8 (number 8) (many part_of 48 shape.measures)) (λ f. (f.0 < 256 ^ 8) × AreMany IsPart shape.measures f.1)
    (is_many (width shape.wide) (coded (width shape.wide)) (number (width shape.wide)) (IsCoordinate shape.wide) (is_number (width shape.wide)) arity)
    (is_pair 8 (shape.measures * 48) (coded 8) (number 8) (λ n. n < 256 ^ 8) (flat_map part_bytes) (many part_of 48 shape.measures) (AreMany IsPart shape.measures)
    (is_number 8) (is_many 48 part_bytes part_of IsPart part_format shape.measures)))
    (λ y fits. (fits.used, (fits.count, fits.parts)))
    (λ y fits. whole y fits)
    (λ x fits. parts x fits)
    (λ x fits. from x fits)
  where
    whole : (y : Entry) → IsStored arity shape y → made arity shape.measures (split arity shape.measures y) ≡ y
    whole y fits =
        let at : take arity y.point.at ++ zeros (8 - arity) ≡ y.point.at = ap (λ (l : List ℕ). take arity y.point.at ++ l) (sym fits.unused) ∙ take-append-drop arity y.point.at in
        let parts : take shape.measures y.cell.parts ++ replicate (4 - shape.measures) no_part ≡ y.cell.parts = ap (λ (l : List Part). take shape.measures y.cell.parts ++ l) (sym fits.no_parts) ∙ take-append-drop shape.measures y.cell.parts in
        λ i. record { point = record { arity = sym fits.arity_is i; at = at i }; cell = record { count = y.cell.count; measures = sym fits.measures_is i; parts = parts i } }

    parts : (x : Fields) → AreMany (IsCoordinate shape.wide) arity x.0 × ((x.1.0 < 256 ^ 8) × AreMany IsPart shape.measures x.1.1) → split arity shape.measures (made arity shape.measures x) ≡ x
    parts x fits =
        let at : take arity (x.0 ++ zeros (8 - arity)) ≡ x.0 = take_at x.0 (zeros (8 - arity)) arity (many-length (IsCoordinate shape.wide) arity x.0 fits.0) in
        let cells : take shape.measures (x.1.1 ++ replicate (4 - shape.measures) no_part) ≡ x.1.1 = take_at x.1.1 (replicate (4 - shape.measures) no_part) shape.measures (many-length IsPart shape.measures x.1.1 fits.1.1) in
        λ i. (at i, (x.1.0, cells i))

    from : (x : Fields) → AreMany (IsCoordinate shape.wide) arity x.0 × ((x.1.0 < 256 ^ 8) × AreMany IsPart shape.measures x.1.1) → IsStored arity shape (made arity shape.measures x)
    from x fits =
        let at : take arity (x.0 ++ zeros (8 - arity)) ≡ x.0 = take_at x.0 (zeros (8 - arity)) arity (many-length (IsCoordinate shape.wide) arity x.0 fits.0) in
        let cells : take shape.measures (x.1.1 ++ replicate (4 - shape.measures) no_part) ≡ x.1.1 = take_at x.1.1 (replicate (4 - shape.measures) no_part) shape.measures (many-length IsPart shape.measures x.1.1 fits.1.1) in
        record {
          arity_is = refl;
          used = rw at fits.0;
          unused = drop_at x.0 (zeros (8 - arity)) arity (many-length (IsCoordinate shape.wide) arity x.0 fits.0);
          count = fits.1.0;
          measures_is = refl;
          parts = rw cells fits.1.1;
          no_parts = drop_at x.1.1 (replicate (4 - shape.measures) no_part) shape.measures (many-length IsPart shape.measures x.1.1 fits.1.1);
        }
