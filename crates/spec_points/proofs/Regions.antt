-- A fact's place is inside the region exactly where the fact meets the conditions.
use Rattle.std.proofs.Common.{◌≡◌, ℕ, zero, suc, ◌-◌, ◌≤◌, ◌==◌, ◌&&◌, nat_le, Bool, true, false, cond, List, [], ◌∷◌, ◌++◌, map, length, replicate, Option, Some, None, unwrap_or, is_some, refl, sym, ◌∙◌, ap, subst, arith, true≢false, inl, inr}
use Rattle.std.proofs.lemmas.Bool.{cases_Bool, eqb-true, eq-eqb, leb-true, le-leb, and_parts, and_from}
use Rattle.std.proofs.lemmas.List.{length-map}
use Rattle.std.specs.declared.cmp.Ordering.TheVariants.{Equal}
use Rattle.std.specs.List.{list_all, AllByRecursion}
use Rattle.std.specs.Cmp.{tied_itself, both_ways}
use Rattle.std.specs.Ordering.{is_eq}
use Rattle.fact_model.specs.declared.fact.Value.{Value}
use Rattle.fact_model.specs.declared.fact.Value.TheVariants.{Word, Number}
use Rattle.fact_model.specs.declared.fact.Fact.{Fact}
use Rattle.fact_model.specs.declared.slice.Cond.{Cond}
use Rattle.fact_model.specs.declared.slice.Cond.TheVariants.{Equal, Between}
use Rattle.fact_model.specs.Value.{value_cmp, same_value}
use Rattle.fact_model.specs.Fact.{value_at}
use Rattle.fact_model.specs.Groups.{is}
use Rattle.fact_model.specs.Slice.{attr_of, is_between, meets}
use Rattle.fact_model.proofs.ValueOrder.{value_cmp-IsAntisymmetric, value-total}
use Rattle.spec_points.specs.Codes.{Text, code_in}
use Rattle.spec_points.specs.Points.{Names, coord, place_of, View}
use Rattle.spec_points.specs.Answer.{within, just, codes_of, interval, region, inside, top_coord, nothing}
use Rattle.spec_points.specs.Agree.{is_text, AgreesFact, InRange, among, AgreesCond, Once, HasCode, IsCoded}
use Rattle.row_fold.proofs.Groups.{equal-from_is}
use Rattle.spec_points.proofs.Members.{all-every, list_all-every, every-in, in-every}
use Rattle.spec_points.proofs.Codes.{one-value, code-positive}

inside-zeros : (n : ℕ) → inside (replicate n (0, 0)) (replicate n 0) ≡ true
inside-zeros zero = refl
inside-zeros (suc n) = inside-zeros n

inside-view : (f : ℕ → ℕ) (g : ℕ → (ℕ × ℕ)) (view : View) (is : List (ℕ × ℕ)) (zs : List ℕ) → inside is zs ≡ true → inside (map g view ++ is) (map f view ++ zs) ≡ list_all (λ a. within (g a) (f a)) view
inside-view f g [] is zs h = h
inside-view f g (v ∷ view) is zs h = ap (λ b. within (g v) (f v) && b) (inside-view f g view is zs h)

-- a value is met exactly where its code is within the codes
same-itself : (v : Value) → same_value v v ≡ true
same-itself v = ap is_eq (tied_itself value-total v)

meets-equal : (ts : List Text) (v w : Value) → HasCode ts w → is_text v ≡ is_text w → same_value v w ≡ within (just (code_in ts v)) (coord ts w)
meets-equal ts v w h k = by (code_in ts v) (code_in ts w) refl refl h
  where
    by : (o p : Option ℕ) → code_in ts v ≡ o → code_in ts w ≡ p → is_some p ≡ true → same_value v w ≡ within (just (code_in ts v)) (coord ts w)
    by o None e f q = absurd (true≢false (sym q))
    by None (Some d) e f q = both_ways _ _
        (λ s. let one : v ≡ w = equal-from_is value_cmp value-total value_cmp-IsAntisymmetric v w s in absurd (true≢false (ap is_some (sym f ∙ (ap (code_in ts) (sym one) ∙ e)))))
        (λ s. let parts = and_parts (nat_le 1 (coord ts w)) (nat_le (coord ts w) 0) (ap (λ o. within (just o) (coord ts w)) (sym e) ∙ s) in absurd (omega (arith, leb-true _ _ parts.0, leb-true _ _ parts.1)))
    by (Some c) (Some d) e f q = both_ways _ _
        (λ s. let one : v ≡ w = equal-from_is value_cmp value-total value_cmp-IsAntisymmetric v w s in
        let same : coord ts w ≡ c = ap (λ u. coord ts u) (sym one) ∙ ap (λ o. unwrap_or o 0) e in
        ap (λ o. within (just o) (coord ts w)) e ∙ (ap (λ z. within (c, c) z) same ∙ and_from (nat_le c c) (nat_le c c) (le-leb c c (omega arith)) (le-leb c c (omega arith))))
        (λ s. let parts = and_parts (nat_le c d) (nat_le d c) (sym (λ i. within (just (e i)) (unwrap_or (f i) 0)) ∙ s) in
        let same : c ≡ d = omega (arith, leb-true _ _ parts.0, leb-true _ _ parts.1) in
        ap (λ u. same_value v u) (sym (one-value ts v w c k e (f ∙ ap Some (sym same)))) ∙ same-itself v)

meets-between : (low high n : ℕ) → (nat_le low n && nat_le n high) ≡ within (cond (nat_le low high) (suc low, suc high) nothing) (suc n)
meets-between low high n = both_ways _ _
    (λ s. let parts = and_parts (nat_le low n) (nat_le n high) s in
    let l : low ≤ n = leb-true _ _ parts.0 in let h : n ≤ high = leb-true _ _ parts.1 in
    ap (λ (b : Bool). within (cond b (suc low, suc high) nothing) (suc n)) (le-leb low high (omega arith))
    ∙ and_from (nat_le (suc low) (suc n)) (nat_le (suc n) (suc high)) (le-leb _ _ (omega arith)) (le-leb _ _ (omega arith)))
    (λ s. elim (cases_Bool (nat_le low high)) [
      | inl e ↦ let parts = and_parts (nat_le (suc low) (suc n)) (nat_le (suc n) (suc high)) (ap (λ (b : Bool). within (cond b (suc low, suc high) nothing) (suc n)) (sym e) ∙ s) in
          let l : suc low ≤ suc n = leb-true _ _ parts.0 in let h : suc n ≤ suc high = leb-true _ _ parts.1 in
          and_from (nat_le low n) (nat_le n high) (le-leb _ _ (omega arith)) (le-leb _ _ (omega arith))
      | inr e ↦ let parts = and_parts (nat_le 1 (suc n)) (nat_le (suc n) 0) (ap (λ (b : Bool). within (cond b (suc low, suc high) nothing) (suc n)) (sym e) ∙ s) in
          let h : suc n ≤ 0 = leb-true _ _ parts.1 in absurd (omega arith)
    ])

meets-within : (text : ℕ → Bool) (ns : Names) (c : Cond) (x : Fact) → AgreesCond text c → IsCoded ns x → AgreesFact text x → meets c x ≡ within (codes_of (ns (attr_of c)) c) (coord (ns (attr_of c)) (value_at x (attr_of c)))
meets-within text ns (Equal a v) x k c t = meets-equal (ns a) v (value_at x a) (c a) (k ∙ sym (t a))
meets-within text ns (Between a low high) x k c t = by (value_at x a) refl
  where
    by : (w : Value) → value_at x a ≡ w → is_between low high (value_at x a) ≡ within (codes_of (ns a) (Between a low high)) (coord (ns a) (value_at x a))
    by (Word u) e = absurd (true≢false (ap is_text (sym e) ∙ (t a ∙ k)))
    by (Number n) e = ap (is_between low high) e ∙ (meets-between low high n ∙ ap (λ w. within (codes_of (ns a) (Between a low high)) (coord (ns a) w)) (sym e))

-- one condition on top of others
own-interval : (ns : Names) (c : Cond) (cs : List Cond) → interval ns (c ∷ cs) (attr_of c) ≡ codes_of (ns (attr_of c)) c
own-interval ns c cs = ap (λ (b : Bool). cond b (codes_of (ns (attr_of c)) c) (interval ns cs (attr_of c))) (eq-eqb (attr_of c) (attr_of c) refl)

other-interval : (ns : Names) (c : Cond) (cs : List Cond) (a : ℕ) → (attr_of c == a) ≡ false → interval ns (c ∷ cs) a ≡ interval ns cs a
other-interval ns c cs a e = ap (λ (b : Bool). cond b (codes_of (ns a) c) (interval ns cs a)) e

no-interval : (ns : Names) (cs : List Cond) (a : ℕ) → AllByRecursion (λ d. (attr_of d == a) ≡ false) cs → interval ns cs a ≡ (1, top_coord)
no-interval ns [] a h = refl
no-interval ns (c ∷ cs) a h = other-interval ns c cs a h.0 ∙ no-interval ns cs a h.1

module _ (text : ℕ → Bool) (ns : Names) (x : Fact) (coded : IsCoded ns x) (kinds : AgreesFact text x) (ranges : InRange ns x) where
  abbrev code_at : ℕ → ℕ
  code_at a = coord (ns a) (value_at x a)

  positive : (a : ℕ) → 1 ≤ code_at a
  positive a = by (code_in (ns a) (value_at x a)) refl (coded a)
    where
      by : (o : Option ℕ) → code_in (ns a) (value_at x a) ≡ o → is_some o ≡ true → 1 ≤ unwrap_or (code_in (ns a) (value_at x a)) 0
      by None p q = absurd (true≢false (sym q))
      by (Some c) p q = subst (λ o. 1 ≤ unwrap_or o 0) (sym p) (code-positive (ns a) (value_at x a) c p)

  all-codes : (a : ℕ) → within (1, top_coord) (code_at a) ≡ true
  all-codes a = and_from (nat_le 1 (code_at a)) (nat_le (code_at a) top_coord) (le-leb _ _ (positive a)) (le-leb _ _ (ranges a))

  met-inside : (cs : List Cond) → AllByRecursion (AgreesCond text) cs → list_all (λ c. meets c x) cs ≡ true → (a : ℕ) → within (interval ns cs a) (code_at a) ≡ true
  met-inside [] k h a = all-codes a
  met-inside (c ∷ cs) k h a = let parts = and_parts (meets c x) (list_all (λ c. meets c x) cs) h in elim (cases_Bool (attr_of c == a)) [
    | inl e ↦ let here : attr_of c ≡ a = eqb-true (attr_of c) a e in
        subst (λ b. within (interval ns (c ∷ cs) b) (code_at b) ≡ true) here
        (ap (λ i. within i (code_at (attr_of c))) (own-interval ns c cs) ∙ (sym (meets-within text ns c x k.0 coded kinds) ∙ parts.0))
    | inr e ↦ ap (λ i. within i (code_at a)) (other-interval ns c cs a e) ∙ met-inside cs k.1 parts.1 a
  ]

  inside-met : (view : View) (cs : List Cond) → AllByRecursion (AgreesCond text) cs → Once cs → AllByRecursion (λ c. among view (attr_of c) ≡ true) cs
      → ((a : ℕ) → among view a ≡ true → within (interval ns cs a) (code_at a) ≡ true) → list_all (λ c. meets c x) cs ≡ true
  inside-met view [] k o m h = refl
  inside-met view (c ∷ cs) k o m h = and_from (meets c x) (list_all (λ c. meets c x) cs)
      (meets-within text ns c x k.0 coded kinds ∙ (ap (λ i. within i (code_at (attr_of c))) (sym (own-interval ns c cs)) ∙ h (attr_of c) m.0))
      (inside-met view cs k.1 o.1 m.1 (λ a m2. elim (cases_Bool (attr_of c == a)) [
        | inl e ↦ let here : attr_of c ≡ a = eqb-true (attr_of c) a e in
            subst (λ b. within (interval ns cs b) (code_at b) ≡ true) here (ap (λ i. within i (code_at (attr_of c))) (no-interval ns cs (attr_of c) o.0) ∙ all-codes (attr_of c))
        | inr e ↦ ap (λ i. within i (code_at a)) (sym (other-interval ns c cs a e)) ∙ h a m2
      ]))

  -- the region holds exactly the places of the facts that meet the conditions
  pub inside-holds : (view : View) (cs : List Cond) → AllByRecursion (AgreesCond text) cs → Once cs → AllByRecursion (λ c. among view (attr_of c) ≡ true) cs
      → inside (region ns cs view) (place_of ns view x) ≡ list_all (λ c. meets c x) cs
  inside-holds view cs k o m =
      let zeros : inside (replicate (8 - length view) (0, 0)) (replicate (8 - length (map code_at view)) 0) ≡ true
      = ap (λ n. inside (replicate (8 - length view) (0, 0)) (replicate (8 - n) 0)) (length-map view code_at) ∙ inside-zeros (8 - length view) in
      inside-view code_at (interval ns cs) view (replicate (8 - length view) (0, 0)) (replicate (8 - length (map code_at view)) 0) zeros
      ∙ both_ways _ _
      (λ s. inside-met view cs k o m (λ a m2. in-every (λ a. within (interval ns cs a) (code_at a) ≡ true) view a (all-every (λ a. within (interval ns cs a) (code_at a)) view s) m2))
      (λ s. list_all-every (λ a. within (interval ns cs a) (code_at a)) view (every-in (λ a. within (interval ns cs a) (code_at a) ≡ true) view (λ a m2. met-inside cs k s a)))
