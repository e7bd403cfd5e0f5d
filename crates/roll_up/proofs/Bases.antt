-- The base slice keeps what the roll-up needs: the values of lifted facts and the conditions come from its keys.
use Rattle.std.proofs.Common.{◌≡◌, ℕ, ◌<◌, ◌&&◌, Bool, true, false, cond, List, [], ◌∷◌, map, length, filter, refl, sym, ◌∙◌, ap, subst, arith, inl, inr}
use Rattle.std.proofs.lemmas.Bool.{cases_lt}
use Rattle.std.specs.List.{AllByRecursion, list_all}
use Rattle.fact_model.specs.Fact.{value_at, key_of}
use Rattle.fact_model.specs.Slice.{attr_of, meets, holds}
use Rattle.fact_model.specs.declared.fact.Fact.{Fact}
use Rattle.fact_model.specs.declared.slice.Cond.{Cond}
use Rattle.fact_model.specs.declared.slice.Cond.TheVariants.{Equal, Between}
use Rattle.fact_model.specs.declared.slice.Slice.{Slice}
use Rattle.spec_points.specs.Agree.{among}
use Rattle.spec_points.proofs.Members.{every-map, every-filter, every-both}
use Rattle.roll_up.specs.Bases.{source_of, is_on_level, is_on_attr, level_conds, sources, base}
use Rattle.roll_up.specs.Lifted.{value_for, is_met, value_in, rolled, is_kept}
use Rattle.roll_up.specs.Levels.{lift}
use Rattle.roll_up.specs.declared.level.Level.{Level}
use Rattle.roll_up.proofs.Lifts.{lifted-value, lifted-same, low-value, value-of-key, among-range, among-left, among-right, among-cons, among-here, lt-true, lt-false, le-true, le-false}

-- the condition, by the value
meets-value : (c : Cond) (x : Fact) → meets c x ≡ is_met c (value_at x (attr_of c))
meets-value (Equal a v) x = refl
meets-value (Between a low high) x = refl

and-inside : (a b c : Bool) → (a && (b && c)) ≡ ((a && b) && c)
and-inside true b c = refl
and-inside false b c = refl

and-behind : (a b c : Bool) → (a && (b && c)) ≡ (b && (a && c))
and-behind true true c = refl
and-behind true false c = refl
and-behind false true c = refl
and-behind false false c = refl

module _ (n : ℕ) (levels : List Level) (s : Slice) where
  -- the attributes and levels that are asked for come from attributes that there are
  pub record ComeFrom : Type 0 where
    pub group : AllByRecursion (λ a. source_of n levels a < n) s.group
    pub conds : AllByRecursion (λ c. source_of n levels (attr_of c) < n) s.conds

  -- it is grouped in the base slice
  abbrev Has : ℕ → Type 0
  Has a = among (base n levels s).group (source_of n levels a) ≡ true

  has : (a : ℕ) → source_of n levels a < n → among (sources n levels s) (source_of n levels a) ≡ true → Has a
  has a l m = among-range (among (sources n levels s)) 0 n (source_of n levels a) m (omega arith) (omega (arith, l))

  group-has : (vs : List ℕ) → AllByRecursion (λ a. source_of n levels a < n) vs → AllByRecursion (λ a. among (sources n levels s) (source_of n levels a) ≡ true) vs → AllByRecursion Has vs
  group-has [] l m = tt
  group-has (a ∷ vs) l m = (has a l.0 m.0, group-has vs l.1 m.1)

  -- what bound levels come from is among the sources
  bound-sources : (cs : List Cond) → AllByRecursion (λ c. among (map (λ c. source_of n levels (attr_of c)) cs) (source_of n levels (attr_of c)) ≡ true) cs
  bound-sources [] = tt
  bound-sources (c ∷ cs) = (
    among-here (source_of n levels (attr_of c)) (map (λ c. source_of n levels (attr_of c)) cs),
    every-map (λ d. among (map (λ c. source_of n levels (attr_of c)) cs) (source_of n levels (attr_of d)) ≡ true) (λ d. among (map (λ c. source_of n levels (attr_of c)) (c ∷ cs)) (source_of n levels (attr_of d)) ≡ true)
        (λ d m. among-cons (source_of n levels (attr_of c)) (map (λ c. source_of n levels (attr_of c)) cs) (source_of n levels (attr_of d)) m) cs (bound-sources cs),
  )

  conds-have : AllByRecursion (λ c. source_of n levels (attr_of c) < n) s.conds → AllByRecursion (λ c. Has (attr_of c)) (level_conds n s)
  conds-have low = every-map (λ c. (source_of n levels (attr_of c) < n) × (among (map (λ c. source_of n levels (attr_of c)) (level_conds n s)) (source_of n levels (attr_of c)) ≡ true)) (λ c. Has (attr_of c))
      (λ c h. has (attr_of c) h.0 (among-right (map (source_of n levels) s.group) (map (λ c. source_of n levels (attr_of c)) (level_conds n s)) (source_of n levels (attr_of c)) h.1)) (level_conds n s)
      (every-both (λ c. source_of n levels (attr_of c) < n) (λ c. among (map (λ c. source_of n levels (attr_of c)) (level_conds n s)) (source_of n levels (attr_of c)) ≡ true) (level_conds n s)
      (every-filter (λ c. source_of n levels (attr_of c) < n) (is_on_level n) s.conds low) (bound-sources (level_conds n s)))

  module _ (x : Fact) (wide : length x.values ≡ n) where
    -- the lifted value, from the key of the base row
    at-base : (a : ℕ) → Has a → value_in n levels s (key_of (base n levels s).group x) a ≡ value_at (lift levels x) a
    at-base a h = lifted-same n levels (value_for (base n levels s).group (key_of (base n levels s).group x)) (value_at x) a (value-of-key (value_at x) (base n levels s).group (source_of n levels a) h)
        ∙ sym (lifted-value n levels x wide a)

    keys-same : (vs : List ℕ) → AllByRecursion Has vs → map (value_in n levels s (key_of (base n levels s).group x)) vs ≡ map (value_at (lift levels x)) vs
    keys-same [] h = refl
    keys-same (a ∷ vs) h = (λ i. at-base a h.0 i ∷ keys-same vs h.1 i)

    abbrev lower : List Cond → List Cond
    lower ds = filter (is_on_attr n) ds

    abbrev upper : List Cond → List Cond
    upper ds = filter (is_on_level n) ds

    abbrev plain : Cond → Bool
    plain d = meets d x

    abbrev above : Cond → Bool
    above d = is_met d (value_in n levels s (key_of (base n levels s).group x) (attr_of d))

    -- the test of the base slice and that of its keys are the test of the lifted fact
    tests-same : (cs : List Cond) → AllByRecursion (λ c. Has (attr_of c)) (filter (is_on_level n) cs)
        → list_all (λ c. meets c (lift levels x)) cs
        ≡ (list_all (λ c. meets c x) (filter (is_on_attr n) cs) && list_all (λ c. is_met c (value_in n levels s (key_of (base n levels s).group x) (attr_of c))) (filter (is_on_level n) cs))
    tests-same [] h = refl
    tests-same (c ∷ cs) h = elim (cases_lt (attr_of c) n) [
      | inl l ↦
          let up : is_on_attr n c ≡ true = lt-true (attr_of c) n l in
          let down : is_on_level n c ≡ false = le-false n (attr_of c) l in
          let rest = tests-same cs (subst (λ (b : Bool). AllByRecursion (λ c. Has (attr_of c)) (cond b (c ∷ upper cs) (upper cs))) down h) in
          let here : meets c (lift levels x) ≡ meets c x = meets-value c (lift levels x) ∙ (ap (is_met c) (lifted-value n levels x wide (attr_of c) ∙ low-value n levels (value_at x) (attr_of c) l) ∙ sym (meets-value c x)) in
          (λ i. here i && rest i) ∙ (and-inside (meets c x) (list_all plain (lower cs)) (list_all above (upper cs))
          ∙ (λ i. list_all plain (cond (sym up i) (c ∷ lower cs) (lower cs)) && list_all above (cond (sym down i) (c ∷ upper cs) (upper cs))))
      | inr g ↦
          let up : is_on_attr n c ≡ false = lt-false (attr_of c) n g in
          let down : is_on_level n c ≡ true = le-true n (attr_of c) g in
          let both : AllByRecursion (λ c. Has (attr_of c)) (c ∷ upper cs) = subst (λ (b : Bool). AllByRecursion (λ c. Has (attr_of c)) (cond b (c ∷ upper cs) (upper cs))) down h in
          let rest = tests-same cs both.1 in
          let here : meets c (lift levels x) ≡ above c = meets-value c (lift levels x) ∙ ap (is_met c) (sym (at-base (attr_of c) both.0)) in
          (λ i. here i && rest i) ∙ (and-behind (above c) (list_all plain (lower cs)) (list_all above (upper cs))
          ∙ (λ i. list_all plain (cond (sym up i) (c ∷ lower cs) (lower cs)) && list_all above (cond (sym down i) (c ∷ upper cs) (upper cs))))
    ]

  -- ---- the key and the test of a lifted fact, from the base slice

  module _ (from : ComeFrom) (x : Fact) (wide : length x.values ≡ n) where
    pub keys-lifted : rolled n levels s (key_of (base n levels s).group x) ≡ key_of s.group (lift levels x)
    keys-lifted = keys-same x wide s.group (group-has s.group from.group (among-left (source_of n levels) s.group (map (λ c. source_of n levels (attr_of c)) (level_conds n s))))

    pub holds-lifted : (holds (base n levels s) x && is_kept n levels s (key_of (base n levels s).group x)) ≡ holds s (lift levels x)
    holds-lifted = sym (tests-same x wide s.conds (conds-have from.conds))
