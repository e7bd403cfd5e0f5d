-- The printed rows of a slice, read back, are these rows.
use Rattle.std.proofs.Common.{◌≡◌, ℕ, zero, suc, ◌+◌, ◌<◌, ◌≤◌, Bool, false, cond, List, [], ◌∷◌, ◌++◌, length, get_or, map, Ok, Err, ℤ, pos, negsuc, nat_abs, refl, sym, ◌∙◌, ap, arith, length-append}
use Rattle.std.specs.Prelude.{◌==◌, ◌&&◌, codes, decimal, take}
use Rattle.std.specs.Fmt.{signed_decimal}
use Rattle.std.specs.List.{AllZip, zip}
use Rattle.std.specs.Str.{bytes_eq}
use Rattle.std.proofs.lemmas.Bool.{and_left, eq-eqb, ne_eqb}
use Rattle.std.proofs.Math.Seq.{drop-append_seam}
use Rattle.std.proofs.lemmas.List.{length-map}
use Rattle.cube_schema.specs.Agreeing.{IsOfKind}
use Rattle.cube_schema.specs.Kinds.{kind_at}
use Rattle.cube_schema.specs.Words.{begins}
use Rattle.cube_schema.specs.declared.schema.Kind.{Kind}
use Rattle.cube_schema.specs.declared.schema.Kind.TheVariants as kind
use Rattle.cube_schema.specs.declared.schema.Schema.{Schema}
use Rattle.csv_text.specs.Rows.{row_fields, value_text}
use Rattle.fact_csv.specs.Gathered.{gathered, with_first}
use Rattle.fact_model.specs.declared.fact.Value.{Value}
use Rattle.fact_model.specs.declared.fact.Value.TheVariants.{Word, Number}
use Rattle.fact_model.specs.declared.slice.Row.{Row}
use Rattle.fact_model.specs.declared.slice.Slice.{Slice}
use Rattle.fact_model.specs.Fact.{mass_limit}
use Rattle.fact_model.specs.Value.{Key}
use Rattle.slice_lang.proofs.Decimals.{coordinate-again}
use Rattle.reply_fold.specs.Laws.{IsRow}
use Rattle.reply_fold.specs.Replies.{end_text, first_field, is_end, is_refusal}
use Rattle.reply_fold.specs.Rows.{found_or, number_at, numbers_in, row_from, row_in, value_in, values_in}
use Rattle.reply_fold.specs.declared.fault.Fault.TheVariants.{Record}
use Rattle.reply_fold.proofs.Numerals.{AreDigits, decimal-digits, natural-again, number-again}

module _ (s : Schema) (n : ℕ) where
  value-again : (k : Kind) (v : Value) → IsOfKind k v → value_in k n (value_text v) ≡ Ok v
  value-again (kind.Word max) (Word text) fits = refl
  value-again (kind.Word max) (Number m) fits = absurd fits
  value-again kind.Number (Word text) fits = absurd fits
  value-again kind.Number (Number m) fits = ap (found_or n Number) (coordinate-again (decimal m) m (natural-again m (omega (arith, fits))) fits)

  values-again : (group : List ℕ) (key : Key) (more : List (List ℕ)) → AllZip (λ a v. IsOfKind (kind_at s a) v) group key → values_in s group n (map value_text key ++ more) ≡ Ok key
  values-again [] [] more h = refl
  values-again [] (v ∷ key) more h = absurd h
  values-again (a ∷ group) [] more h = absurd h
  values-again (a ∷ group) (v ∷ key) more h =
      ap (λ r. gathered (r ∷ map (λ (p : ℕ × List ℕ). value_in (kind_at s p.0) n p.1) (zip group (map value_text key ++ more)))) (value-again (kind_at s a) v h.0)
      ∙ ap (with_first v) (values-again group key more h.1)

  numbers-read : (zs : List ℤ) → ((i : ℕ) → nat_abs (get_or zs i (pos 0)) ≤ mass_limit) → gathered (map (number_at n) (map signed_decimal zs)) ≡ Ok zs
  numbers-read [] light = refl
  numbers-read (z ∷ zs) light =
      ap (λ o. gathered (found_or n (λ z. z) o ∷ map (number_at n) (map signed_decimal zs))) (number-again z (light 0)) ∙ ap (with_first z) (numbers-read zs (λ i. light (suc i)))

  key-length : (group : List ℕ) (key : Key) → AllZip (λ a v. IsOfKind (kind_at s a) v) group key → length key ≡ length group
  key-length [] [] h = refl
  key-length [] (v ∷ key) h = absurd h
  key-length (a ∷ group) [] h = absurd h
  key-length (a ∷ group) (v ∷ key) h = ap suc (key-length group key h.1)

  module _ (q : Slice) (row : Row) (is : IsRow s q row) where
    front : length (map value_text row.key) ≡ length q.group
    front = length-map row.key value_text ∙ key-length q.group row.key is.key

    pub fields-length : length (row_fields row) ≡ length q.group + length q.columns
    fields-length =
        (let long = length-append (map value_text row.key) (map signed_decimal row.numbers) in
        let back = length-map row.numbers signed_decimal in
        let here = front in
        let columns = is.numbers in
        omega arith)

    numbers-again : numbers_in (length q.group) n (row_fields row) ≡ Ok row.numbers
    numbers-again =
        ap (λ k. numbers_in k n (row_fields row)) (sym front)
        ∙ (ap (λ fs. gathered (map (number_at n) fs)) (drop-append_seam (map value_text row.key) (map signed_decimal row.numbers)) ∙ numbers-read row.numbers is.light)

    -- a row is read back from what is printed of it
    pub row-again : row_in s q n (row_fields row) ≡ Ok row
    row-again =
        ap (λ b. cond b (row_from (values_in s q.group n (row_fields row)) (numbers_in (length q.group) n (row_fields row))) (Err (Record n)))
        (eq-eqb (length (row_fields row)) (length q.group + length q.columns) fields-length)
        ∙ (λ i. row_from (values-again q.group row.key (map signed_decimal row.numbers) is.key i) (numbers-again i))

-- ---- a row is no end of a reply, and no refusal

-- a number begins with a digit or a minus
letter-first : (text more : List ℕ) (letter : ℕ) → AreDigits text → 57 < letter → bytes_eq text (letter ∷ more) ≡ false
letter-first [] more letter h l = refl
letter-first (b ∷ text) more letter h l = rw (ne_eqb b letter (λ e. omega (arith, e, h.0.1, l))) refl

front-digits : (k : ℕ) (ds : List ℕ) → AreDigits ds → AreDigits (take k ds)
front-digits zero ds h = tt
front-digits (suc k) [] h = tt
front-digits (suc k) (b ∷ ds) h = (h.0, front-digits k ds h.1)

number-end : (z : ℤ) (n : ℕ) → bytes_eq (signed_decimal z) (end_text n) ≡ false
number-end (pos m) n = letter-first (decimal m) _ 114 (decimal-digits m) (omega arith)
number-end (negsuc m) n = refl

number-refusal : (z : ℤ) → begins (signed_decimal z) (codes "refused ") ≡ false
number-refusal (pos m) = letter-first (take 8 (decimal m)) _ 114 (front-digits 8 (decimal m) (decimal-digits m)) (omega arith)
number-refusal (negsuc m) = refl

several : (n : ℕ) → (suc (suc n) == 1) ≡ false
several n = ne_eqb (suc (suc n)) 1 (λ e. omega (arith, e))

-- a record of several fields, or of one number
alone : (P : List ℕ → Bool) → ((z : ℤ) → P (signed_decimal z) ≡ false) → (key : Key) (zs : List ℤ) → 0 < length zs → (length (map value_text key ++ map signed_decimal zs) == 1 && P (first_field (map value_text key ++ map signed_decimal zs))) ≡ false
alone P is-none [] [] l = absurd (omega arith)
alone P is-none [] (z ∷ []) l = is-none z
alone P is-none [] (z ∷ (y ∷ zs)) l = and_left _ _ (several (length (map signed_decimal zs)))
alone P is-none (v ∷ []) [] l = absurd (omega arith)
alone P is-none (v ∷ []) (z ∷ zs) l = and_left _ _ (several (length (map signed_decimal zs)))
alone P is-none (v ∷ (w ∷ key)) zs l = and_left _ _ (several (length (map value_text key ++ map signed_decimal zs)))

module _ (s : Schema) (q : Slice) (row : Row) (is : IsRow s q row) where
  some-number : 0 < length row.numbers
  some-number = (let same = is.numbers in let some = is.some in omega arith)

  pub not-end : (n : ℕ) → is_end n (row_fields row) ≡ false
  not-end n = alone (λ f. bytes_eq f (end_text n)) (λ z. number-end z n) row.key row.numbers some-number

  pub not-refusal : is_refusal (row_fields row) ≡ false
  not-refusal = alone (λ f. begins f (codes "refused ")) number-refusal row.key row.numbers some-number

  pub has-fields : 0 < length (row_fields row)
  has-fields = (let all = fields-length s 0 q row is in let some = is.some in omega arith)
