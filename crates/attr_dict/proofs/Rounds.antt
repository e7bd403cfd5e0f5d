-- The values of facts with their attributes, which go round.
use Rattle.std.proofs.Common.{◌≡◌, ℕ, zero, suc, ◌+◌, ◌*◌, ◌<◌, ◌==◌, cond, List, [], ◌∷◌, ◌++◌, length, get_or, map, refl, sym, ap, ◌∙◌, ⊎_elim, arith, append_assoc}
use Rattle.std.specs.Prelude.{flat_map}
use Rattle.std.specs.List.{All}
use Rattle.std.proofs.lemmas.Bool.{cases_eq, eq-eqb, ne_eqb}
use Rattle.std.proofs.lemmas.List.{length-append, length-map, map-append}
use Rattle.std.proofs.lemmas.List.Concat.{flat_map-append}
use Rattle.std.proofs.lemmas.List.Elements.{All-nil, All-append, All-head, All-map, All-tail}
use Rattle.std.proofs.lemmas.List.FromFn.{fill_by_all, length-map-range_with_len}
use Rattle.fact_model.specs.declared.fact.Value.{Value}
use Rattle.fact_model.specs.declared.fact.Value.TheVariants.{Word, Number}
use Rattle.fact_model.specs.declared.fact.Fact.{Fact}
use Rattle.fact_model.specs.Fact.{value_at}
use Rattle.fact_batch.specs.Batch.{values_in}
use Rattle.fact_batch.specs.Rows.{rows_of}
use Rattle.fact_batch.proofs.Flats.{rows-back}
use Rattle.spec_points.specs.Codes.{Text, texts_from, named}
use Rattle.spec_points.specs.Points.{coord}
use Rattle.attr_dict.specs.Admitting.{codes_of}
use Rattle.attr_dict.specs.Coding.{entry_in}
use Rattle.attr_dict.specs.Sizes.{IsSmall}

-- a value with its attribute
abbrev pub Placed : Type 0
Placed = ℕ × Value

-- the attribute behind this one, or the first behind the last
abbrev pub behind : ℕ → ℕ → ℕ
behind width a = cond (a + 1 == width) 0 (a + 1)

-- values of facts of so many attributes, from an attribute on
abbrev pub around : ℕ → ℕ → List Value → List Placed
around width a [] = []
around width a (v ∷ vs) = (a, v) ∷ around width (behind width a) vs

-- values of one fact, from an attribute on
abbrev pub numbered : ℕ → List Value → List Placed
numbered a [] = []
numbered a (v ∷ vs) = (a, v) ∷ numbered (suc a) vs

-- the entries of the texts among values
abbrev pub texts_in : List Placed → List (ℕ × Text)
texts_in ps = flat_map (λ (p : Placed). entry_in p.0 p.1) ps

-- the codes that names give to values
abbrev pub codes_in : List (List Text) → List Placed → List ℕ
codes_in names ps = map (λ (p : Placed). coord (get_or names p.0 []) p.1) ps

-- ---- what is behind the last attribute

last-behind : (width a : ℕ) → a + 1 ≡ width → behind width a ≡ 0
last-behind width a is = ap (λ b. cond b 0 (a + 1)) (eq-eqb (a + 1) width is)

inner-behind : (width a : ℕ) → (a + 1 ≡ width → ⊥) → behind width a ≡ suc a
inner-behind width a apart = ap (λ b. cond b 0 (a + 1)) (ne_eqb (a + 1) width apart) ∙ (let more : a + 1 ≡ suc a = omega arith in more)

pub behind-under : (width a : ℕ) → a < width → behind width a < width
behind-under width a lt =
    ⊎_elim (λ (last : a + 1 ≡ width). (let first = last-behind width a last in omega arith)) (λ (inner : a + 1 ≡ width → ⊥). (let next = inner-behind width a inner in omega (arith, inner))) (cases_eq (a + 1) width)

rest-around : (width a : ℕ) (v : Value) (vs rest : List Value) → a + suc (length vs) ≡ width → around width a (v ∷ (vs ++ rest)) ≡ numbered a (v ∷ vs) ++ around width 0 rest
rest-around width a v [] rest is = ap (λ k. (a, v) ∷ around width k rest) (last-behind width a (omega arith))
rest-around width a v (w ∷ vs) rest is =
    ap (λ k. (a, v) ∷ around width k (w ∷ (vs ++ rest))) (inner-behind width a (λ last. omega arith)) ∙ ap (λ ps. (a, v) ∷ ps) (rest-around width (suc a) w vs rest (omega arith))

row-around : (width : ℕ) (vs rest : List Value) → length vs ≡ width → around width 0 (vs ++ rest) ≡ numbered 0 vs ++ around width 0 rest
row-around width [] rest is = refl
row-around width (v ∷ vs) rest is = rest-around width 0 v vs rest (omega arith)

abbrev numbered_in : List Fact → List Placed
numbered_in facts = flat_map (λ (x : Fact). numbered 0 x.values) facts

facts-around : (width : ℕ) (facts : List Fact) → All (λ (x : Fact). length x.values ≡ width) facts → around width 0 (values_in facts) ≡ numbered_in facts
facts-around width [] sizes = refl
facts-around width (x ∷ facts) sizes =
    row-around width x.values (values_in facts) (All-head (λ (y : Fact). length y.values ≡ width) x facts sizes)
    ∙ ap (λ ps. numbered 0 x.values ++ ps) (facts-around width facts (All-tail (λ (y : Fact). length y.values ≡ width) x facts sizes))

-- ---- the entries of facts

texts-numbered : (a : ℕ) (vs : List Value) → texts_in (numbered a vs) ≡ texts_from a vs
texts-numbered a [] = refl
texts-numbered a (Word t ∷ vs) = ap (λ es. (a, t) ∷ es) (texts-numbered (suc a) vs)
texts-numbered a (Number n ∷ vs) = texts-numbered (suc a) vs

numbered-named : (facts : List Fact) → texts_in (numbered_in facts) ≡ named facts
numbered-named [] = refl
numbered-named (x ∷ facts) =
    flat_map-append (λ (p : Placed). entry_in p.0 p.1) (numbered 0 x.values) (numbered_in facts) ∙ (λ i. texts-numbered 0 x.values i ++ numbered-named facts i)

pub texts-around : (width : ℕ) (facts : List Fact) → All (λ (x : Fact). length x.values ≡ width) facts → texts_in (around width 0 (values_in facts)) ≡ named facts
texts-around width facts sizes = ap texts_in (facts-around width facts sizes) ∙ numbered-named facts

-- ---- the codes of facts

length-numbered : (a : ℕ) (vs : List Value) → length (numbered a vs) ≡ length vs
length-numbered a [] = refl
length-numbered a (v ∷ vs) = ap suc (length-numbered (suc a) vs)

code-numbered : (names : List (List Text)) (a : ℕ) (vs : List Value) (k : ℕ) → k < length vs → get_or (codes_in names (numbered a vs)) k 0 ≡ coord (get_or names (a + k) []) (get_or vs k (Number 0))
code-numbered names a [] k lt = absurd (omega arith)
code-numbered names a (v ∷ vs) zero lt = ap (λ b. coord (get_or names b []) v) (let same : a ≡ a + 0 = omega arith in same)
code-numbered names a (v ∷ vs) (suc k) lt =
    code-numbered names (suc a) vs k (omega arith) ∙ ap (λ b. coord (get_or names b []) (get_or vs k (Number 0))) (let same : suc a + k ≡ a + suc k = omega arith in same)

codes-numbered : (names : List (List Text)) (x : Fact) → codes_in names (numbered 0 x.values) ≡ codes_of names x
codes-numbered names x =
    fill_by_all (λ a. coord (get_or names a []) (value_at x a)) (codes_in names (numbered 0 x.values)) (length x.values) 0
    (length-map (numbered 0 x.values) (λ (p : Placed). coord (get_or names p.0 []) p.1) ∙ length-numbered 0 x.values)
    (λ k lt. code-numbered names 0 x.values k lt ∙ ap (λ b. coord (get_or names b []) (value_at x k)) (let same : 0 + k ≡ k = omega arith in same))

numbered-coded : (names : List (List Text)) (facts : List Fact) → codes_in names (numbered_in facts) ≡ flat_map (λ (row : List ℕ). row) (map (codes_of names) facts)
numbered-coded names [] = refl
numbered-coded names (x ∷ facts) =
    map-append (λ (p : Placed). coord (get_or names p.0 []) p.1) (numbered 0 x.values) (numbered_in facts) ∙ (λ i. codes-numbered names x i ++ numbered-coded names facts i)

pub codes-around : (names : List (List Text)) (width : ℕ) (facts : List Fact) → All (λ (x : Fact). length x.values ≡ width) facts
    → codes_in names (around width 0 (values_in facts)) ≡ flat_map (λ (row : List ℕ). row) (map (codes_of names) facts)
codes-around names width facts sizes = ap (codes_in names) (facts-around width facts sizes) ∙ numbered-coded names facts

-- one more code
pub codes-step : (names : List (List Text)) (width a b : ℕ) (v : Value) (values rest : List Value) (codes more all : List ℕ) (code : ℕ) → values ≡ v ∷ rest → b ≡ behind width a → more ≡ codes ++ code ∷ [] → code ≡ coord (get_or names a []) v
    → codes ++ codes_in names (around width a values) ≡ all → more ++ codes_in names (around width b rest) ≡ all
codes-step names width a b v values rest codes more all code next turn pushed is so-far =
    (λ i. pushed i ++ codes_in names (around width (turn i) rest)) ∙ append_assoc codes (code ∷ []) (codes_in names (around width (behind width a) rest))
    ∙ ap (λ k. codes ++ k ∷ codes_in names (around width (behind width a) rest)) is ∙ ap (λ vs. codes ++ codes_in names (around width a vs)) (sym next) ∙ so-far

-- as rows of one width
pub rows-coded : (names : List (List Text)) (width rows : ℕ) (facts : List Fact) (codes : List ℕ) → All (λ (x : Fact). length x.values ≡ width) facts → rows ≡ length facts
    → codes ≡ codes_in names (around width 0 (values_in facts)) → rows_of width rows codes ≡ map (codes_of names) facts
rows-coded names width rows facts codes sizes many are =
    (λ i. rows_of width ((many ∙ sym (length-map facts (codes_of names))) i) ((are ∙ codes-around names width facts sizes) i))
    ∙ rows-back width (map (codes_of names) facts)
    (All-map (λ (row : List ℕ). length row ≡ width) (codes_of names) facts (λ k d lt. length-map-range_with_len (λ a. coord (get_or names a []) (value_at (get_or facts k d) a)) 0 (length (get_or facts k d).values) ∙ sizes k d lt))

-- ---- all values of facts

pub values-long : (width : ℕ) (facts : List Fact) → All (λ (x : Fact). length x.values ≡ width) facts → length (values_in facts) ≡ width * length facts
values-long width [] sizes = (let none : 0 ≡ width * 0 = omega arith in none)
values-long width (x ∷ facts) sizes =
    let front : length x.values ≡ width = All-head (λ (y : Fact). length y.values ≡ width) x facts sizes in
    let rest = values-long width facts (All-tail (λ (y : Fact). length y.values ≡ width) x facts sizes) in
    let next : width * suc (length facts) ≡ width + width * length facts = grind arith in
    omega (arith, front, rest, next, length-append x.values (values_in facts))

pub values-small : (facts : List Fact) → All (λ (x : Fact). All IsSmall x.values) facts → All IsSmall (values_in facts)
values-small [] small = All-nil IsSmall
values-small (x ∷ facts) small =
    All-append IsSmall x.values (values_in facts) (All-head (λ (y : Fact). All IsSmall y.values) x facts small) (values-small facts (All-tail (λ (y : Fact). All IsSmall y.values) x facts small))
