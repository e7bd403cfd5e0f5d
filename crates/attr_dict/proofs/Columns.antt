-- The names of one attribute: none of them twice, and each short.
use Rattle.std.proofs.Common.{◌≡◌, ℕ, zero, suc, ◌<◌, ◌≤◌, ◌==◌, Bool, true, false, cond, List, [], ◌∷◌, ◌++◌, Some, None, length, get_or, take, refl, sym, ap, subst, ◌∙◌, ⊎_elim, arith}
use Rattle.std.specs.Prelude.{option_map, slice_get, unwrap_or}
use Rattle.std.specs.List.{All, AllByRecursion, IsDistinct, cons_option, list_any}
use Rattle.std.specs.Str.{bytes_eq}
use Rattle.std.specs.Cmp.Lexicographic.{bytes_decides}
use Rattle.std.proofs.lemmas.Bool.{cases_lt, eq-eqb, false_from_ne_true, true≢false}
use Rattle.std.proofs.lemmas.List.{get_or_past}
use Rattle.std.proofs.lemmas.List.Elements.{All-nil, All-cons, All-head, All-tail, All-push}
use Rattle.fact_model.specs.declared.fact.Value.{Value}
use Rattle.fact_model.specs.declared.fact.Value.TheVariants.{Word, Number}
use Rattle.fact_model.specs.declared.fact.Fact.{Fact}
use Rattle.fact_model.specs.Fact.{value_at}
use Rattle.cube_schema.specs.declared.Kind.{Kind}
use Rattle.cube_schema.specs.declared.Kind.TheVariants as kind
use Rattle.cube_schema.specs.Agreeing.{IsOfKind}
use Rattle.spec_points.specs.Codes.{Text, admitted, place, text_in, texts_at, names, for_attr}
use Rattle.spec_points.proofs.Names.{names-for}
use Rattle.attr_dict.specs.Admitting.{Agrees}
use Rattle.attr_dict.specs.Book.{IsShort}

-- ---- none twice

every-take : {X : Type 0} (P : X → Type 0) (n : ℕ) (xs : List X) → AllByRecursion P xs → AllByRecursion P (take n xs)
every-take P zero xs each = tt
every-take P (suc n) [] each = tt
every-take P (suc n) (x ∷ xs) each = (each.0, every-take P n xs each.1)

pub distinct-take : (n : ℕ) (ns : List Text) → IsDistinct bytes_eq ns → IsDistinct bytes_eq (take n ns)
unfolding IsDistinct
distinct-take zero ns apart = tt
distinct-take (suc n) [] apart = tt
distinct-take (suc n) (t ∷ ns) apart = (every-take (λ y. bytes_eq t y ≡ false) n ns apart.0, distinct-take n ns apart.1)

pub distinct-none : IsDistinct bytes_eq []
unfolding IsDistinct
distinct-none = tt

-- a text is another than the one in front of it
behind-other : (t n : Text) (ns : List Text) (i : ℕ) → AllByRecursion (λ y. bytes_eq n y ≡ false) ns → slice_get ns i ≡ Some t → bytes_eq t n ≡ false
behind-other t n [] i apart is = cc
behind-other t n (m ∷ ns) zero apart is =
    let same : m ≡ t = ap (λ o. unwrap_or o m) is in
    let other : bytes_eq n t ≡ false = subst (λ y. bytes_eq n y ≡ false) same apart.0 in
    let apart-here : bytes_eq t n ≡ true → ⊥ = λ equal. true≢false (sym ((bytes_decides n t).1 (sym ((bytes_decides t n).0 equal))) ∙ other) in
    false_from_ne_true (bytes_eq t n) apart-here
behind-other t n (m ∷ ns) (suc i) apart is = behind-other t n ns i apart.1 is

-- among distinct names each stands at its own place
pub place-of : (i : ℕ) (ns : List Text) (t : Text) → IsDistinct bytes_eq ns → slice_get ns i ≡ Some t → place bytes_eq t ns ≡ Some i
unfolding IsDistinct
place-of i [] t apart is = cc
place-of zero (n ∷ ns) t apart is =
    let same : n ≡ t = ap (λ o. unwrap_or o n) is in
    ap (λ b. cond b (Some 0) (option_map suc (place bytes_eq t ns))) ((bytes_decides t n).1 (sym same))
place-of (suc i) (n ∷ ns) t apart is =
    ap (λ b. cond b (Some 0) (option_map suc (place bytes_eq t ns))) (behind-other t n ns i apart.0 is) ∙ ap (option_map suc) (place-of i ns t apart.1 is)

-- ---- each short

pub short-admitted : (seen texts : List Text) → All IsShort seen → All IsShort texts → All IsShort (admitted bytes_eq seen texts)
short-admitted seen [] before each = before
short-admitted seen (t ∷ texts) before each = short-admitted (cond (list_any (bytes_eq t) seen) seen (seen ++ t ∷ [])) texts (by (list_any (bytes_eq t) seen)) (All-tail IsShort t texts each)
  where
    by : (b : Bool) → All IsShort (cond b seen (seen ++ t ∷ []))
    by true = before
    by false = All-push IsShort seen t before (All-head IsShort t texts each)

text-short : (k : Kind) (v : Value) (texts : List Text) → IsOfKind k v → All IsShort texts → All IsShort (cons_option (text_in v) texts)
text-short (kind.Word max) (Word t) texts is each = All-cons IsShort t texts is each
text-short (kind.Word max) (Number n) texts is each = each
text-short kind.Number (Word t) texts is each = absurd is
text-short kind.Number (Number n) texts is each = each

-- the texts of facts that agree are short
pub texts-short : (kinds : List Kind) (facts : List Fact) (a : ℕ) → All (Agrees kinds) facts → All IsShort (texts_at a facts)
texts-short kinds [] a agree = All-nil IsShort
texts-short kinds (x ∷ facts) a agree =
    let rest = texts-short kinds facts a (All-tail (Agrees kinds) x facts agree) in
    let here = All-head (Agrees kinds) x facts agree in
    ⊎_elim (λ (lt : a < length kinds). text-short (get_or kinds a kind.Number) (value_at x a) (texts_at a facts) (here.each a lt) rest)
    (λ (le : length kinds ≤ a).
    (let size = here.values in
    subst (λ (v : Value). All IsShort (cons_option (text_in v) (texts_at a facts))) (sym (get_or_past x.values a (Number 0) (omega arith))) rest))
    (cases_lt a (length kinds))

-- the texts of entries are short
abbrev pub AreShort : List (ℕ × Text) → Type 0
AreShort es = AllByRecursion (λ (e : ℕ × Text). IsShort e.1) es

-- where those of each attribute are
short-each : (es : List (ℕ × Text)) → ((a : ℕ) → All IsShort (for_attr a es)) → AreShort es
short-each [] each = tt
short-each (e ∷ es) each =
    let here : All IsShort (e.1 ∷ for_attr e.0 es) = subst (λ (b : Bool). All IsShort (cons_option (cond b (Some e.1) None) (for_attr e.0 es))) (eq-eqb e.0 e.0 refl) (each e.0) in
    (All-head IsShort e.1 (for_attr e.0 es) here, short-each es (λ a. rest a (e.0 == a) (each a)))
  where
    rest : (a : ℕ) (b : Bool) → All IsShort (cons_option (cond b (Some e.1) None) (for_attr a es)) → All IsShort (for_attr a es)
    rest a true all = All-tail IsShort e.1 (for_attr a es) all
    rest a false all = all

-- the texts of the entries of facts that agree are short
pub own-short : (kinds : List Kind) (facts : List Fact) → All (Agrees kinds) facts → AreShort (names facts)
own-short kinds facts agree =
    short-each (names facts) (λ a. subst (All IsShort) (sym (names-for a facts)) (short-admitted [] (texts_at a facts) (All-nil IsShort) (texts-short kinds facts a agree)))
