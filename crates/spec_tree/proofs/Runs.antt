-- Runs of a list: their lengths and number, and what one more element changes.
use Rattle.std.proofs.Common.{◌≡◌, ℕ, suc, Bool, true, false, List, [], ◌∷◌, ◌++◌, length, refl, ap, sym, ◌∙◌, inl, inr, arith, append_assoc, append-nil, ◌<◌, ◌+◌, ◌*◌, ◌/◌, ◌%◌, min, length-append, subst, mul_comm, mod-eq_of_lt}
use Rattle.std.specs.Prelude.{◌==◌}
use Rattle.std.proofs.lemmas.Bool.{cases_Bool, eqb-true, eqb-false}
use Rattle.std.proofs.Math.Nat.{mul-add-mod_self_left}
use Rattle.std.proofs.lemmas.Nat.{div-mul-add}
use Rattle.spec_tree.specs.Runs.{rest_after, full_after, rest, full, short, runs}
use Rattle.spec_tree.specs.Counts.{runs_of}

module _ {A : Type 0} (n : ℕ) where
  -- the clauses of the runs, by the test
  pub rest_after-whole : (held : List A) (x : A) (xs : List A) → (length (held ++ x ∷ []) == n) ≡ true → rest_after n held (x ∷ xs) ≡ rest_after n [] xs
  rest_after-whole held x xs e = ap (λ (b : Bool). elim b as (λ _. List A) [ true ↦ rest_after n [] xs | false ↦ rest_after n (held ++ x ∷ []) xs ]) e

  pub rest_after-more : (held : List A) (x : A) (xs : List A) → (length (held ++ x ∷ []) == n) ≡ false → rest_after n held (x ∷ xs) ≡ rest_after n (held ++ x ∷ []) xs
  rest_after-more held x xs e = ap (λ (b : Bool). elim b as (λ _. List A) [ true ↦ rest_after n [] xs | false ↦ rest_after n (held ++ x ∷ []) xs ]) e

  pub full_after-whole : (held : List A) (x : A) (xs : List A) → (length (held ++ x ∷ []) == n) ≡ true → full_after n held (x ∷ xs) ≡ (held ++ x ∷ []) ∷ full_after n [] xs
  full_after-whole held x xs e = ap (λ (b : Bool). elim b as (λ _. List (List A)) [ true ↦ (held ++ x ∷ []) ∷ full_after n [] xs | false ↦ full_after n (held ++ x ∷ []) xs ]) e

  pub full_after-more : (held : List A) (x : A) (xs : List A) → (length (held ++ x ∷ []) == n) ≡ false → full_after n held (x ∷ xs) ≡ full_after n (held ++ x ∷ []) xs
  full_after-more held x xs e = ap (λ (b : Bool). elim b as (λ _. List (List A)) [ true ↦ (held ++ x ∷ []) ∷ full_after n [] xs | false ↦ full_after n (held ++ x ∷ []) xs ]) e

  -- cut in two: the second part is cut from what the first leaves
  pub rest_after-append : (held xs ys : List A) → rest_after n held (xs ++ ys) ≡ rest_after n (rest_after n held xs) ys
  rest_after-append held [] ys = refl
  rest_after-append held (y ∷ xs) ys = elim (cases_Bool (length (held ++ y ∷ []) == n)) [
    | inl e ↦ rest_after-whole held y (xs ++ ys) e ∙ (rest_after-append [] xs ys ∙ sym (ap (λ h. rest_after n h ys) (rest_after-whole held y xs e)))
    | inr e ↦ rest_after-more held y (xs ++ ys) e ∙ (rest_after-append (held ++ y ∷ []) xs ys ∙ sym (ap (λ h. rest_after n h ys) (rest_after-more held y xs e)))
  ]

  pub full_after-append : (held xs ys : List A) → full_after n held (xs ++ ys) ≡ full_after n held xs ++ full_after n (rest_after n held xs) ys
  full_after-append held [] ys = refl
  full_after-append held (y ∷ xs) ys = elim (cases_Bool (length (held ++ y ∷ []) == n)) [
    | inl e ↦ full_after-whole held y (xs ++ ys) e ∙ (ap (λ r. (held ++ y ∷ []) ∷ r) (full_after-append [] xs ys)
        ∙ sym (ap (λ h. h ++ full_after n (rest_after n held (y ∷ xs)) ys) (full_after-whole held y xs e) ∙ ap (λ h. (held ++ y ∷ []) ∷ (full_after n [] xs ++ full_after n h ys)) (rest_after-whole held y xs e)))
    | inr e ↦ full_after-more held y (xs ++ ys) e ∙ (full_after-append (held ++ y ∷ []) xs ys
        ∙ sym (ap (λ h. h ++ full_after n (rest_after n held (y ∷ xs)) ys) (full_after-more held y xs e) ∙ ap (λ h. full_after n (held ++ y ∷ []) xs ++ full_after n h ys) (rest_after-more held y xs e)))
  ]

module _ {A : Type 0} (n : ℕ) where
  -- the rest is shorter than a run, and the runs and the rest are as long as the list
  pub rest_after-short : (held xs : List A) → length held < n → length (rest_after n held xs) < n
  rest_after-short held [] l = l
  rest_after-short held (x ∷ xs) l = elim (cases_Bool (length (held ++ x ∷ []) == n)) [
    | inl e ↦ subst (λ r. length r < n) (sym (rest_after-whole n held x xs e)) (rest_after-short [] xs (omega arith))
    | inr e ↦ subst (λ r. length r < n) (sym (rest_after-more n held x xs e)) (rest_after-short (held ++ x ∷ []) xs
        (let differ : length (held ++ x ∷ []) ≡ n → ⊥ = eqb-false _ _ e in omega (arith, length-append held (x ∷ []))))
  ]

  pub length-runs : (held xs : List A) → length held + length xs ≡ n * length (full_after n held xs) + length (rest_after n held xs)
  length-runs held [] = omega arith
  length-runs held (x ∷ xs) = elim (cases_Bool (length (held ++ x ∷ []) == n)) [
    | inl e ↦ rw (rest_after-whole n held x xs e, full_after-whole n held x xs e)
        (let whole : length (held ++ x ∷ []) ≡ n = eqb-true _ _ e in
        let h : length {A = A} [] + length xs ≡ n * length (full_after n [] xs) + length (rest_after n [] xs) = length-runs [] xs in
        omega (arith, length-append held (x ∷ [])))
    | inr e ↦ rw (rest_after-more n held x xs e, full_after-more n held x xs e)
        (let h : length (held ++ x ∷ []) + length xs ≡ n * length (full_after n (held ++ x ∷ []) xs) + length (rest_after n (held ++ x ∷ []) xs) = length-runs (held ++ x ∷ []) xs in
        omega (arith, length-append held (x ∷ [])))
  ]

module _ {A : Type 0} (n : ℕ) where
  pub short-snoc : (l : List A) (x : A) → short (l ++ x ∷ []) ≡ (l ++ x ∷ []) ∷ []
  short-snoc [] x = refl
  short-snoc (y ∷ l) x = refl

  -- one more element stands in the last run
  pub runs-snoc : (xs : List A) (x : A) → runs n (xs ++ x ∷ []) ≡ full n xs ++ (rest n xs ++ x ∷ []) ∷ []
  runs-snoc xs x = elim (cases_Bool (length (rest n xs ++ x ∷ []) == n)) [
    | inl e ↦ rw (full_after-append n [] xs (x ∷ []), rest_after-append n [] xs (x ∷ []), full_after-whole n (rest n xs) x [] e, rest_after-whole n (rest n xs) x [] e)
        (append-nil _)
    | inr e ↦ rw (full_after-append n [] xs (x ∷ []), rest_after-append n [] xs (x ∷ []), full_after-more n (rest n xs) x [] e, rest_after-more n (rest n xs) x [] e, append-nil (full n xs), short-snoc (rest n xs) x) refl
  ]

-- with no whole run the rest is all
pub rest-none : {A : Type 0} (n : ℕ) (held xs : List A) → full_after n held xs ≡ [] → rest_after n held xs ≡ held ++ xs
rest-none n held [] e = sym (append-nil held)
rest-none n held (x ∷ xs) e = elim (cases_Bool (length (held ++ x ∷ []) == n)) [
  | inl w ↦ absurd (cons_not_nil (sym (full_after-whole n held x xs w) ∙ e))
  | inr w ↦ rest_after-more n held x xs w ∙ (rest-none n (held ++ x ∷ []) xs (sym (full_after-more n held x xs w) ∙ e) ∙ append_assoc held (x ∷ []) xs)
]
  where
    cons_not_nil : {B : Type 0} {y : B} {ys : List B} → (y ∷ ys) ≡ [] → ⊥
    cons_not_nil f = let g : suc _ ≡ 0 = ap length f in omega (arith, g)

-- what a list with no element, and one with at most one element, is
pub nil_from_length : {A : Type 0} (xs : List A) → length xs ≡ 0 → xs ≡ []
nil_from_length [] e = refl
nil_from_length (x ∷ xs) e = absurd (omega (arith, e))

-- lists end to end
abbrev pub joined : {A : Type 0} → List (List A) → List A
joined [] = []
joined (x ∷ xs) = x ++ joined xs

module _ {A : Type 0} (n : ℕ) (pos : 0 < n) where
  length-short : (l : List A) → length (short l) ≡ min 1 (length l)
  length-short [] = refl
  length-short (x ∷ l) = omega arith

  pub length-runs_of : (xs : List A) → length (runs n xs) ≡ runs_of n (length xs)
  length-runs_of xs = let e : 0 + length xs ≡ n * length (full n xs) + length (rest n xs) = length-runs n [] xs in
      let e' : length xs ≡ n * length (full n xs) + length (rest n xs) = omega arith in
      let s : length (rest n xs) < n = rest_after-short n [] xs pos in
      let m : length xs % n ≡ length (rest n xs) = ap (λ z. z % n) e' ∙ (mul-add-mod_self_left n (length (full n xs)) (length (rest n xs)) ∙ mod-eq_of_lt s) in
      let q : length xs / n ≡ length (full n xs) = ap (λ z. z / n) (e' ∙ ap (λ z. z + length (rest n xs)) (mul_comm n (length (full n xs)))) ∙ div-mul-add (length (full n xs)) n (length (rest n xs)) s in
      omega (arith, length-append (full n xs) (short (rest n xs)), length-short (rest n xs))

module _ {A : Type 0} (n : ℕ) where
  pub joined-append : (a b : List (List A)) → joined (a ++ b) ≡ joined a ++ joined b
  joined-append [] b = refl
  joined-append (x ∷ a) b = ap (λ r. x ++ r) (joined-append a b) ∙ sym (append_assoc x (joined a) (joined b))

  joined-full : (held xs : List A) → joined (full_after n held xs) ++ rest_after n held xs ≡ held ++ xs
  joined-full held [] = sym (append-nil held)
  joined-full held (x ∷ xs) = elim (cases_Bool (length (held ++ x ∷ []) == n)) [
    | inl e ↦ ap (λ f. joined f ++ rest_after n held (x ∷ xs)) (full_after-whole n held x xs e) ∙ (ap (λ r. ((held ++ x ∷ []) ++ joined (full_after n [] xs)) ++ r) (rest_after-whole n held x xs e)
        ∙ (append_assoc (held ++ x ∷ []) (joined (full_after n [] xs)) (rest_after n [] xs) ∙ (ap (λ r. (held ++ x ∷ []) ++ r) (joined-full [] xs) ∙ append_assoc held (x ∷ []) xs)))
    | inr e ↦ ap (λ f. joined f ++ rest_after n held (x ∷ xs)) (full_after-more n held x xs e) ∙ (ap (λ r. joined (full_after n (held ++ x ∷ []) xs) ++ r) (rest_after-more n held x xs e)
        ∙ (joined-full (held ++ x ∷ []) xs ∙ append_assoc held (x ∷ []) xs))
  ]

  joined-short : (l : List A) → joined (short l) ≡ l
  joined-short [] = refl
  joined-short (x ∷ l) = append-nil (x ∷ l)

  -- the runs end to end are the list
  pub joined-runs : (xs : List A) → joined (runs n xs) ≡ xs
  joined-runs xs = joined-append (full n xs) (short (rest n xs)) ∙ (ap (λ r. joined (full n xs) ++ r) (joined-short (rest n xs)) ∙ joined-full [] xs)
