-- How many levels the next leaf closes, by the number of leaves.
use Rattle.std.proofs.Common.{◌≡◌, ◌≤◌, ◌<◌, ◌+◌, ◌*◌, ◌/◌, ◌%◌, ℕ, zero, suc, Bool, true, false, List, [], ◌∷◌, ◌++◌, length, map, refl, ap, sym, ◌∙◌, arith, inl, inr, mul_comm, mod-eq_of_lt, length-append}
use Rattle.std.specs.Prelude.{◌==◌, replicate}
use Rattle.std.proofs.Math.Nat.{div-add-mod, mul-add-mod_self_left, mod-lt}
use Rattle.std.proofs.lemmas.Bool.{cases_Bool, cases_lt, eqb-true, eqb-false, eq-eqb, ne_eqb}
use Rattle.std.proofs.lemmas.Nat.{div-mul-add}
use Rattle.spec_tree.specs.Counts.{reach}
use Rattle.spec_tree.specs.Digits.{digits, settled}
use Rattle.spec_tree.specs.Levels.{closed}
use Rattle.spec_tree.specs.Moves.{carries, closings}
use Rattle.spec_tree.proofs.Closing.{IsFirst, closed-suc, is_full_level}
use Rattle.spec_tree.proofs.Finish.{below_factor}

module _ (k : ℕ) (two : 2 ≤ k) where
  pub closed-yes : (carry n : ℕ) (ns : List ℕ) → (carry + n == k) ≡ true → closings k carry (n ∷ ns) ≡ suc (closings k 1 ns)
  closed-yes carry n ns e = ap (λ (b : Bool). elim b as (λ _. ℕ) [ true ↦ suc (closings k 1 ns) | false ↦ closings k 0 ns ]) e

  pub closed-no : (carry n : ℕ) (ns : List ℕ) → (carry + n == k) ≡ false → closings k carry (n ∷ ns) ≡ closings k 0 ns
  closed-no carry n ns e = ap (λ (b : Bool). elim b as (λ _. ℕ) [ true ↦ suc (closings k 1 ns) | false ↦ closings k 0 ns ]) e

  carried-yes : (d n : ℕ) → (n % k == 0) ≡ true → carries k (suc d) n ≡ suc (carries k d (n / k))
  carried-yes d n e = ap (λ (b : Bool). elim b as (λ _. ℕ) [ true ↦ suc (carries k d (n / k)) | false ↦ 0 ]) e

  carried-no : (d n : ℕ) → (n % k == 0) ≡ false → carries k (suc d) n ≡ 0
  carried-no d n e = ap (λ (b : Bool). elim b as (λ _. ℕ) [ true ↦ suc (carries k d (n / k)) | false ↦ 0 ]) e

  mod-of : (n q r : ℕ) → n ≡ k * q + r → r < k → n % k ≡ r
  mod-of n q r is lt = ap (λ (m : ℕ). m % k) is ∙ (mul-add-mod_self_left k q r ∙ mod-eq_of_lt lt)

  div-of : (n q r : ℕ) → n ≡ k * q + r → r < k → n / k ≡ q
  div-of n q r is lt = ap (λ (m : ℕ). m / k) (is ∙ ap (λ (m : ℕ). m + r) (mul_comm k q)) ∙ div-mul-add q k r lt

  small : (n : ℕ) → n % k < k
  small n = mod-lt n (omega (arith, two))

  -- no level is full by itself
  pub none-due : (d n : ℕ) → closings k 0 (digits k d n) ≡ 0
  none-due zero n = refl
  none-due (suc d) n = closed-no 0 (n % k) (digits k d (n / k)) (ne_eqb (0 + n % k) k (λ e. let lt = small n in omega (arith, e, lt))) ∙ none-due d (n / k)

  -- the next leaf closes as many levels as its number says
  pub next-due : (d n : ℕ) → closings k 1 (digits k d n) ≡ carries k d (suc n)
  next-due zero n = refl
  next-due (suc d) n =
      let q = n / k in
      let r = n % k in
      let whole : k * q + r ≡ n = div-add-mod n k in
      let lt = small n in
      elim (cases_Bool (1 + r == k)) [
        | inl e ↦
            let full : 1 + r ≡ k = eqb-true (1 + r) k e in
            let times : k * suc q ≡ k * q + k = omega arith in
            let is : suc n ≡ k * suc q + 0 = omega (arith, whole, full, times) in
            let zero_left : suc n % k ≡ 0 = mod-of (suc n) (suc q) 0 is (omega (arith, two)) in
            let above : suc n / k ≡ suc q = div-of (suc n) (suc q) 0 is (omega (arith, two)) in
            closed-yes 1 r (digits k d q) e ∙ (ap suc (next-due d q) ∙ (ap (λ (m : ℕ). suc (carries k d m)) (sym above) ∙ sym (carried-yes d (suc n) (eq-eqb (suc n % k) 0 zero_left))))
        | inr e ↦
            let open_ : (1 + r ≡ k) → ⊥ = eqb-false (1 + r) k e in
            let is : suc n ≡ k * q + (1 + r) = omega (arith, whole) in
            let some_left : suc n % k ≡ 1 + r = mod-of (suc n) q (1 + r) is (omega (arith, lt, open_)) in
            closed-no 1 r (digits k d q) e ∙ (none-due d q ∙ sym (carried-no d (suc n) (ne_eqb (suc n % k) 0 (λ z. omega (arith, z, some_left)))))
      ]

-- one level more counts for nothing where the leaves do not reach it
module _ (k : ℕ) (two : 2 ≤ k) where
  factor-some : (n : ℕ) → 0 < n → (n % k == 0) ≡ true → 0 < n / k
  factor-some n some e =
      let whole : k * (n / k) + n % k ≡ n = div-add-mod n k in
      let none : n % k ≡ 0 = eqb-true (n % k) 0 e in
      elim (cases_lt 0 (n / k)) [
        | inl lt ↦ lt
        | inr le ↦ let zero_is : n / k ≡ 0 = omega (arith, le) in let gone : k * (n / k) ≡ k * 0 = ap (λ (m : ℕ). k * m) zero_is in absurd (omega (arith, whole, none, gone, some))
      ]

  pub carries-more : (d n : ℕ) → 0 < n → n < reach k d → carries k (suc d) n ≡ carries k d n
  carries-more zero n some lt = absurd (omega (arith, some, lt))
  carries-more (suc d) n some lt = elim (cases_Bool (n % k == 0)) [
    | inl e ↦ carried-yes k two (suc d) n e ∙ (ap suc (carries-more d (n / k) (factor-some n some e) (below n lt)) ∙ sym (carried-yes k two d n e))
    | inr e ↦ carried-no k two (suc d) n e ∙ sym (carried-no k two d n e)
  ]
    where
      below : (m : ℕ) → m < k * reach k d → m / k < reach k d
      below m le = let whole : k * (m / k) + m % k ≡ m = div-add-mod m k in below_factor k (m / k) (reach k d) (m % k) (omega (arith, whole, le))

-- a full level is the first of those that are closed
module _ {C : Type 0} (k : ℕ) (two : 2 ≤ k) (over : List C → C) where
  abbrev lens : List (List C) → List ℕ
  lens ls = map (λ l. length l) ls

  shifted : (n : ℕ) (ns : List ℕ) (j : ℕ) → j ≡ n + 1 → closings k 0 (j ∷ ns) ≡ closings k 1 (n ∷ ns)
  shifted n ns j is =
      let e : 0 + j ≡ 1 + n = omega (arith, is) in
      ap (λ (s : ℕ). elim (s == k) as (λ _. ℕ) [ true ↦ suc (closings k 1 ns) | false ↦ closings k 0 ns ]) e

  zero-more : (n : ℕ) (b : Bool) → (n == k) ≡ b → (0 + n == k) ≡ b
  zero-more n b e = let same : 0 + n ≡ n = omega arith in ap (λ (s : ℕ). s == k) same ∙ e

  pub full-due : (i : ℕ) (ls : List (List C)) → IsFirst (is_full_level k) i ls → i + 1 < length ls → closings k 0 (lens ls) ≡ suc (closings k 0 (lens (closed over i ls)))
  full-due i [] f lt = absurd f
  full-due zero (l ∷ []) f lt = absurd (omega (arith, lt))
  full-due zero (l ∷ m ∷ ls) f lt =
      closed-yes k two 0 (length l) (lens (m ∷ ls)) (zero-more (length l) true f)
      ∙ ap suc (sym (closed-no k two 0 0 (length (m ++ over l ∷ []) ∷ lens ls) (ne_eqb (0 + 0) k (λ e. omega (arith, e, two)))
      ∙ shifted (length m) (lens ls) (length (m ++ over l ∷ [])) (length-append m (over l ∷ []))))
  full-due (suc i) (l ∷ ls) f lt =
      closed-no k two 0 (length l) (lens ls) (zero-more (length l) false f.0)
      ∙ (full-due i ls f.1 (omega (arith, lt))
      ∙ ap suc (sym (closed-no k two 0 (length l) (lens (closed over i ls)) (zero-more (length l) false f.0)) ∙ ap (λ (q : List (List C)). closings k 0 (lens q)) (sym (closed-suc over i l ls))))

module _ (k : ℕ) (two : 2 ≤ k) where
  settled-yes : (carry n : ℕ) (ns : List ℕ) → (carry + n == k) ≡ true → settled k carry (n ∷ ns) ≡ 0 ∷ settled k 1 ns
  settled-yes carry n ns e = ap (λ (b : Bool). elim b as (λ _. List ℕ) [ true ↦ 0 ∷ settled k 1 ns | false ↦ (carry + n) ∷ settled k 0 ns ]) e

  pub settled-no : (carry n : ℕ) (ns : List ℕ) → (carry + n == k) ≡ false → settled k carry (n ∷ ns) ≡ (carry + n) ∷ settled k 0 ns
  settled-no carry n ns e = ap (λ (b : Bool). elim b as (λ _. List ℕ) [ true ↦ 0 ∷ settled k 1 ns | false ↦ (carry + n) ∷ settled k 0 ns ]) e

  none-settled : (d n : ℕ) → settled k 0 (digits k d n) ≡ digits k d n
  none-settled zero n = refl
  none-settled (suc d) n =
      let same : 0 + n % k ≡ n % k = omega arith in
      settled-no 0 (n % k) (digits k d (n / k)) (ne_eqb (0 + n % k) k (λ e. let lt = small k two n in omega (arith, e, lt)))
      ∙ (λ i. same i ∷ none-settled d (n / k) i)

  -- after the next leaf the levels hold what its number says
  pub next-settled : (d n : ℕ) → settled k 1 (digits k d n) ≡ digits k d (suc n)
  next-settled zero n = refl
  next-settled (suc d) n =
      let q = n / k in
      let r = n % k in
      let whole : k * q + r ≡ n = div-add-mod n k in
      let lt = small k two n in
      elim (cases_Bool (1 + r == k)) [
        | inl e ↦
            let full : 1 + r ≡ k = eqb-true (1 + r) k e in
            let times : k * suc q ≡ k * q + k = omega arith in
            let is : suc n ≡ k * suc q + 0 = omega (arith, whole, full, times) in
            let zero_left : suc n % k ≡ 0 = mod-of k two (suc n) (suc q) 0 is (omega (arith, two)) in
            let above : suc n / k ≡ suc q = div-of k two (suc n) (suc q) 0 is (omega (arith, two)) in
            settled-yes 1 r (digits k d q) e ∙ ((λ i. 0 ∷ next-settled d q i) ∙ (λ i. sym zero_left i ∷ digits k d (sym above i)))
        | inr e ↦
            let open_ : (1 + r ≡ k) → ⊥ = eqb-false (1 + r) k e in
            let is : suc n ≡ k * q + (1 + r) = omega (arith, whole) in
            let some_left : suc n % k ≡ 1 + r = mod-of k two (suc n) q (1 + r) is (omega (arith, lt, open_)) in
            let above : suc n / k ≡ q = div-of k two (suc n) q (1 + r) is (omega (arith, lt, open_)) in
            settled-no 1 r (digits k d q) e ∙ ((λ i. (1 + r) ∷ none-settled d q i) ∙ (λ i. sym some_left i ∷ digits k d (sym above i)))
      ]

  -- levels that hold nothing are those of no leaf, and none of them is due
  pub start-due : (C : Type 0) (d : ℕ) → closings k 0 (map (λ (l : List C). length l) (replicate d [])) ≡ 0
  start-due C zero = refl
  start-due C (suc d) = closed-no k two 0 0 (map (λ (l : List C). length l) (replicate d [])) (ne_eqb (0 + 0) k (λ e. omega (arith, e, two))) ∙ start-due C d

  pub start-settled : (C : Type 0) (d : ℕ) → settled k 0 (map (λ (l : List C). length l) (replicate d [])) ≡ digits k d 0
  start-settled C zero = refl
  start-settled C (suc d) =
      let times : k * 0 ≡ 0 = omega arith in
      let is : 0 ≡ k * 0 + 0 = omega (arith, times) in
      let none : 0 ≡ 0 % k = sym (mod-of k two 0 0 0 is (omega (arith, two))) in
      let above : 0 ≡ 0 / k = sym (div-of k two 0 0 0 is (omega (arith, two))) in
      settled-no 0 0 (map (λ (l : List C). length l) (replicate d [])) (ne_eqb (0 + 0) k (λ e. omega (arith, e, two)))
      ∙ ((λ i. 0 ∷ start-settled C d i) ∙ (λ i. none i ∷ digits k d (above i)))

module _ {C : Type 0} (k : ℕ) (two : 2 ≤ k) (over : List C → C) where
  moved-up : (n : ℕ) (ns : List ℕ) (j : ℕ) → j ≡ n + 1 → settled k 0 (j ∷ ns) ≡ settled k 1 (n ∷ ns)
  moved-up n ns j is =
      let e : 0 + j ≡ 1 + n = omega (arith, is) in
      ap (λ (s : ℕ). elim (s == k) as (λ _. List ℕ) [ true ↦ 0 ∷ settled k 1 ns | false ↦ s ∷ settled k 0 ns ]) e

  -- a level that is closed leaves them as they are
  pub full-settled : (i : ℕ) (ls : List (List C)) → IsFirst (is_full_level k) i ls → i + 1 < length ls → settled k 0 (map (λ l. length l) ls) ≡ settled k 0 (map (λ l. length l) (closed over i ls))
  full-settled i [] f lt = absurd f
  full-settled zero (l ∷ []) f lt = absurd (omega (arith, lt))
  full-settled zero (l ∷ m ∷ ls) f lt =
      let rest = map (λ l. length l) ls in
      let same : 0 ≡ 0 + 0 = omega arith in
      settled-yes k two 0 (length l) (length m ∷ rest) (zero-more k two over (length l) true f)
      ∙ ((λ i. same i ∷ sym (moved-up (length m) rest (length (m ++ over l ∷ [])) (length-append m (over l ∷ []))) i)
      ∙ sym (settled-no k two 0 0 (length (m ++ over l ∷ []) ∷ rest) (ne_eqb (0 + 0) k (λ e. omega (arith, e, two)))))
  full-settled (suc i) (l ∷ ls) f lt =
      settled-no k two 0 (length l) (map (λ l. length l) ls) (zero-more k two over (length l) false f.0)
      ∙ ((λ j. (0 + length l) ∷ full-settled i ls f.1 (omega (arith, lt)) j)
      ∙ (sym (settled-no k two 0 (length l) (map (λ l. length l) (closed over i ls)) (zero-more k two over (length l) false f.0))
      ∙ ap (λ (q : List (List C)). settled k 0 (map (λ l. length l) q)) (sym (closed-suc over i l ls))))

  -- a child more at the lowest level: what is then due, and what is left of it
  pub put-due : (l : List C) (c : C) (ls : List (List C)) → closings k 0 (map (λ l. length l) ((l ++ c ∷ []) ∷ ls)) ≡ closings k 1 (map (λ l. length l) (l ∷ ls))
  put-due l c ls = shifted k two over (length l) (map (λ l. length l) ls) (length (l ++ c ∷ [])) (length-append l (c ∷ []))

  pub put-settled : (l : List C) (c : C) (ls : List (List C)) → settled k 0 (map (λ l. length l) ((l ++ c ∷ []) ∷ ls)) ≡ settled k 1 (map (λ l. length l) (l ∷ ls))
  put-settled l c ls = moved-up (length l) (map (λ l. length l) ls) (length (l ++ c ∷ [])) (length-append l (c ∷ []))
