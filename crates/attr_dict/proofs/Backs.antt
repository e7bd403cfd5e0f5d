-- The values of codes, and the codes of values.
use Rattle.std.proofs.Common.{◌≡◌, ℕ, zero, suc, Bool, true, false, List, Option, Some, None, refl, sym, ap, ◌∙◌, arith}
use Rattle.std.specs.Prelude.{IfSome, nat_le, option_map, slice_get, unwrap_or, if◌then◌else◌}
use Rattle.std.specs.List.{IsDistinct}
use Rattle.std.specs.Str.{bytes_eq}
use Rattle.std.proofs.lemmas.Bool.{le-leb}
use Rattle.fact_model.specs.declared.fact.Value.{Value}
use Rattle.fact_model.specs.declared.fact.Value.TheVariants.{Word, Number}
use Rattle.cube_schema.specs.declared.Kind.{Kind}
use Rattle.cube_schema.specs.declared.Kind.TheVariants as kind
use Rattle.spec_points.specs.Codes.{Text, value_in}
use Rattle.fact_model.specs.Limits.{IsWithin, number_limit}
use Rattle.spec_points.proofs.Codes.{value-of-code}
use Rattle.attr_dict.specs.Book.{code_for, value_for}
use Rattle.attr_dict.proofs.Columns.{place-of}

-- the text of a code has that code
text-back : (names : List Text) (i : ℕ) (v : Value) (found : Option Text) → IsDistinct bytes_eq names → slice_get names i ≡ found → option_map Word found ≡ Some v
    → (max : ℕ) → code_for (kind.Word max) names v ≡ Some (suc i)
text-back names i v None apart at is max = cc
text-back names i v (Some t) apart at is max =
    let same : Word t ≡ v = ap (λ o. unwrap_or o v) is in
    ap (code_for (kind.Word max) names) (sym same) ∙ ap (option_map suc) (place-of i names t apart at)

number-back : (names : List Text) (i : ℕ) (v : Value) (low : Bool) → (if low then value_in false names (suc i) else None) ≡ Some v → code_for kind.Number names v ≡ Some (suc i)
number-back names i v true is = ap (λ (o : Option Value). code_for kind.Number names (unwrap_or o v)) (sym is)
number-back names i v false is = cc

-- no value has the code 0
none-back : (names : List Text) (v : Value) (low : Bool) → (if low then value_in false names zero else None) ≡ Some v → ⊥
none-back names v true is = cc
none-back names v false is = cc

pub code-back : (k : Kind) (names : List Text) (code : ℕ) (v : Value) → IsDistinct bytes_eq names → value_for k names code ≡ Some v → code_for k names v ≡ Some code
code-back (kind.Word max) names zero v apart is = cc
code-back (kind.Word max) names (suc i) v apart is = text-back names i v (slice_get names i) apart refl is max
code-back kind.Number names zero v apart is = absurd (none-back names v (nat_le zero (suc number_limit)) is)
code-back kind.Number names (suc i) v apart is = number-back names i v (nat_le (suc i) (suc number_limit)) is

-- the value of the code of a value
pub value-back : (k : Kind) (names : List Text) (code : ℕ) (v : Value) → IsWithin number_limit v → code_for k names v ≡ Some code → value_for k names code ≡ Some v
value-back (kind.Word max) names code (Word t) within is = value-of-code names (Word t) code is
value-back (kind.Word max) names code (Number n) within is = cc
value-back kind.Number names code (Word t) within is = cc
value-back kind.Number names code (Number n) within is =
    let same : suc n ≡ code = ap (λ o. unwrap_or o code) is in
    let low : nat_le (suc n) (suc number_limit) ≡ true = le-leb (suc n) (suc number_limit) (omega arith) in
    ap (λ c. value_for kind.Number names c) (sym same) ∙ ap (λ b. if b then value_in false names (suc n) else None) low

-- as the calls have them
pub has-code : (k : Kind) (names : List Text) (code : ℕ) (found : Option Value) → IsDistinct bytes_eq names → found ≡ value_for k names code → IfSome found (λ v. code_for k names v ≡ Some code)
has-code k names code None apart is = tt
has-code k names code (Some v) apart is = code-back k names code v apart (sym is)

pub has-value : (k : Kind) (names : List Text) (v : Value) (found : Option ℕ) → IsWithin number_limit v → found ≡ code_for k names v → IfSome found (λ code. value_for k names code ≡ Some v)
has-value k names v None within is = tt
has-value k names v (Some code) within is = value-back k names code v within (sym is)
