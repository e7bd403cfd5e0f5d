-- The facts of a batch agree with the schema.
use Rattle.std.proofs.Common.{◌≡◌, ◌≤◌, ℕ, ◌+◌, ◌-◌, ◌==◌, Bool, true, false, List, [], ◌∷◌, length, drop, map, nat_le, ℤ, pos, negsuc, Option, Some, None, Result, Ok, Err, refl, sym, ◌∙◌, ap, subst, arith}
use Rattle.std.proofs.lemmas.Bool.Decides.{nat_tests}
use Rattle.std.proofs.lemmas.List.{length-drop}
use Rattle.std.proofs.lemmas.List.Elements.{All-cons}
use Rattle.std.proofs.lemmas.Slice.Zip.{length-zip}
use Rattle.std.specs.Option.{unwrap_or}
use Rattle.std.specs.Result.{result_ok}
use Rattle.std.specs.List.{All, AllZip, enumerate_from, zip}
use Rattle.cube_schema.specs.declared.schema.Attr.{Attr}
use Rattle.cube_schema.specs.declared.schema.Kind.{Kind}
use Rattle.cube_schema.specs.declared.schema.Kind.TheVariants as kind
use Rattle.cube_schema.specs.declared.schema.Schema.{Schema}
use Rattle.cube_schema.specs.Agreeing.{IsOfKind, Agrees}
use Rattle.fact_model.specs.declared.fact.Fact.{Fact}
use Rattle.fact_model.specs.declared.fact.Value.{Value}
use Rattle.fact_model.specs.declared.fact.Value.TheVariants.{Word, Number}
use Rattle.fact_model.specs.Limits.{number_limit}
use Rattle.fact_model.specs.Number.{number_in}
use Rattle.fact_csv.specs.declared.refusal.RowRefusal.{RowRefusal}
use Rattle.fact_csv.specs.Gathered.{with_first, gathered}
use Rattle.fact_csv.specs.Batch.{coordinate_in, value_in, measure_in, values_in, measures_in, fact_from, fact_in, facts_in}

ok_inj : {A E : Type 0} (x y : A) → (λ (r : Result A E). r) (Ok x) ≡ Ok y → x ≡ y
ok_inj {A} {E} x y e = ap (λ (r : Result A E). unwrap_or (result_ok r) x) e

-- all values are the first and the others
record Split {A E : Type 0} (answer : Result A E) (rest : Result (List A) E) (xs : List A) : Type 0 where
  first : A
  others : List A
  is : answer ≡ Ok first
  are : rest ≡ Ok others
  whole : xs ≡ first ∷ others

split_rest : {A E : Type 0} (x : A) (rest : Result (List A) E) (xs : List A) → with_first x rest ≡ Ok xs → Split (Ok x) rest xs
split_rest x (Ok ys) xs is = record { first = x; others = ys; is = refl; are = refl; whole = sym (ok_inj _ _ is) }
split_rest x (Err e) xs is = cc is

split : {A E : Type 0} (answer : Result A E) (answers : List (Result A E)) (xs : List A) → gathered (answer ∷ answers) ≡ Ok xs → Split answer (gathered answers) xs
split (Ok x) answers xs is = split_rest x (gathered answers) xs is
split (Err e) answers xs is = cc is

number_kind : (row field : ℕ) (n : ℕ) (v : Value) (low : Bool) → nat_le n number_limit ≡ low → coordinate_in row field (Some (pos n)) ≡ Ok v → IsOfKind kind.Number v
number_kind row field n v true low is =
    let same : Number n ≡ v = ok_inj _ _ (rw low at is) in
    subst (IsOfKind kind.Number) same (grind (arith, nat_tests))
number_kind row field n v false low is = let wrong = rw low at is in cc wrong

coordinate_kind : (row field : ℕ) (found : Option ℤ) (v : Value) → coordinate_in row field found ≡ Ok v → IsOfKind kind.Number v
coordinate_kind row field None v is = cc is
coordinate_kind row field (Some (negsuc k)) v is = cc is
coordinate_kind row field (Some (pos n)) v is = number_kind row field n v (nat_le n number_limit) refl is

text_kind : (max row field : ℕ) (bytes : List ℕ) (v : Value) (low : Bool) → nat_le (length bytes) 255 ≡ low → value_in (kind.Word max) row field bytes ≡ Ok v → IsOfKind (kind.Word max) v
text_kind max row field bytes v true low is =
    let same : Word bytes ≡ v = ok_inj _ _ (rw low at is) in
    subst (IsOfKind (kind.Word max)) same (grind (arith, nat_tests))
text_kind max row field bytes v false low is = let wrong = rw low at is in cc wrong

value_kind : (k : Kind) (row field : ℕ) (bytes : List ℕ) (v : Value) → value_in k row field bytes ≡ Ok v → IsOfKind k v
value_kind (kind.Word max) row field bytes v is = text_kind max row field bytes v (nat_le (length bytes) 255) refl is
value_kind kind.Number row field bytes v is = coordinate_kind row field (number_in bytes) v is

values_kinds : (row first : ℕ) (attrs : List Attr) (fields : List (List ℕ)) (values : List Value) → length attrs ≤ length fields
    → gathered (map (λ (p : ℕ × (Attr × List ℕ)). value_in p.1.0.kind row p.0 p.1.1) (enumerate_from first (zip attrs fields))) ≡ Ok values
    → AllZip (λ attr value. IsOfKind attr.kind value) attrs values
values_kinds row first [] fields values short is = subst (AllZip (λ (attr : Attr) value. IsOfKind attr.kind value) []) (ok_inj _ _ is) tt
values_kinds row first (a ∷ attrs) [] values short is = absurd (omega (arith, short))
values_kinds row first (a ∷ attrs) (f ∷ fields) values short is =
    let s = split _ _ values is in
    subst (AllZip (λ (attr : Attr) value. IsOfKind attr.kind value) (a ∷ attrs)) (sym s.whole)
    (value_kind a.kind row first f s.first s.is, values_kinds row (first + 1) attrs fields s.others (omega (arith, short)) s.are)

as_many : {X Y E : Type 0} (f : ℕ → X → Result Y E) (first : ℕ) (xs : List X) (ys : List Y) → gathered (map (λ p. f p.0 p.1) (enumerate_from first xs)) ≡ Ok ys → length ys ≡ length xs
as_many f first [] ys is = sym (ap length (ok_inj _ _ is))
as_many f first (x ∷ xs) ys is =
    let s = split (f first x) (map (λ p. f p.0 p.1) (enumerate_from (first + 1) xs)) ys is in
    let rest = as_many f (first + 1) xs s.others s.are in
    omega (arith, ap length s.whole, rest)

all_hold : {X Y E : Type 0} (f : ℕ → X → Result Y E) (P : Y → Type 0) → ((number : ℕ) (x : X) (y : Y) → f number x ≡ Ok y → P y)
    → (first : ℕ) (xs : List X) (ys : List Y) → gathered (map (λ p. f p.0 p.1) (enumerate_from first xs)) ≡ Ok ys → All P ys
all_hold f P holds first [] ys is = subst (All P) (ok_inj _ _ is) (λ k d low. absurd (omega (arith, low)))
all_hold f P holds first (x ∷ xs) ys is =
    let s = split (f first x) (map (λ p. f p.0 p.1) (enumerate_from (first + 1) xs)) ys is in
    subst (All P) (sym s.whole) (All-cons P s.first s.others (holds first x s.first s.is) (all_hold f P holds (first + 1) xs s.others s.are))

-- there is a value for each attribute
pub values_count : (row : ℕ) (attrs : List Attr) (fields : List (List ℕ)) (values : List Value) → length attrs ≤ length fields → values_in row attrs fields ≡ Ok values → length values ≡ length attrs
values_count row attrs fields values short is =
    as_many (λ number (p : Attr × List ℕ). value_in p.0.kind row number p.1) 1 (zip attrs fields) values is ∙ omega (arith, length-zip attrs fields, short)

-- there is a number for each field behind the first so many
pub numbers_count : (row attrs : ℕ) (fields : List (List ℕ)) (numbers : List ℤ) → measures_in row attrs fields ≡ Ok numbers → length numbers ≡ length fields - attrs
numbers_count row attrs fields numbers is = as_many (measure_in row) (attrs + 1) (drop attrs fields) numbers is ∙ length-drop attrs fields

-- a fact comes of all values and all numbers
record FromBoth (values : Result (List Value) RowRefusal) (numbers : Result (List ℤ) RowRefusal) (fact : Fact) : Type 0 where
  values_are : values ≡ Ok fact.values
  numbers_are : numbers ≡ Ok fact.measures

from_both : (values : Result (List Value) RowRefusal) (numbers : Result (List ℤ) RowRefusal) (fact : Fact) → fact_from values numbers ≡ Ok fact → FromBoth values numbers fact
from_both (Err e) numbers fact is = cc is
from_both (Ok vs) (Err e) fact is = cc is
from_both (Ok vs) (Ok zs) fact is =
    let same = ok_inj _ _ is in
    record { values_are = ap (λ (x : Fact). Ok x.values) same; numbers_are = ap (λ (x : Fact). Ok x.measures) same }

whole_row : (schema : Schema) (row : ℕ) (fields : List (List ℕ)) (fact : Fact) (all : Bool) → (length fields == length schema.attrs + length schema.measures) ≡ all
    → fact_in schema row fields ≡ Ok fact → Agrees schema fact
whole_row schema row fields fact true all is =
    let parts = from_both (values_in row schema.attrs fields) (measures_in row (length schema.attrs) fields) fact (rw all at is) in
    let count : length fields ≡ length schema.attrs + length schema.measures = grind (arith, nat_tests) in
    record {
      values = values_kinds row 1 schema.attrs fields fact.values (omega (arith, count)) parts.values_are;
      measures = numbers_count row (length schema.attrs) fields fact.measures parts.numbers_are ∙ omega (arith, count);
    }
whole_row schema row fields fact false all is = let wrong = rw all at is in cc wrong

-- each fact of a batch agrees with the schema
pub facts_agree : (schema : Schema) (rows : List (List (List ℕ))) (facts : List Fact) → facts_in schema rows ≡ Ok facts → All (Agrees schema) facts
facts_agree schema rows facts is =
    all_hold (fact_in schema) (Agrees schema) (λ number fields fact one. whole_row schema number fields fact (length fields == length schema.attrs + length schema.measures) refl one) 1 rows facts is

-- there is one for each row
pub facts_count : (schema : Schema) (rows : List (List (List ℕ))) (facts : List Fact) → facts_in schema rows ≡ Ok facts → length facts ≡ length rows
facts_count schema rows facts is = as_many (fact_in schema) 1 rows facts is
