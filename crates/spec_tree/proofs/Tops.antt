-- What holds of all leaves, and of a node over nodes of which it holds, holds of the top.
use Rattle.std.proofs.Common.{ℕ, zero, suc, List, [], ◌∷◌, ◌++◌, length, map, sym, inl, inr, subst}
use Rattle.std.specs.Prelude.{◌==◌}
use Rattle.std.proofs.lemmas.Bool.{cases_Bool}
use Rattle.std.specs.List.{AllByRecursion}
use Rattle.spec_tree.specs.Runs.{rest_after, full_after, rest, full, short, runs, top}
use Rattle.spec_tree.proofs.Runs.{rest_after-whole, rest_after-more, full_after-whole, full_after-more}

module _ {A : Type 0} (P : A → Type 0) where
  pub every-append : (xs ys : List A) → AllByRecursion P xs → AllByRecursion P ys → AllByRecursion P (xs ++ ys)
  every-append [] ys a b = b
  every-append (x ∷ xs) ys a b = (a.0, every-append xs ys a.1 b)

  every-rest : (n : ℕ) (held xs : List A) → AllByRecursion P held → AllByRecursion P xs → AllByRecursion P (rest_after n held xs)
  every-rest n held [] a b = a
  every-rest n held (x ∷ xs) a b = elim (cases_Bool (length (held ++ x ∷ []) == n)) [
    | inl e ↦ subst (AllByRecursion P) (sym (rest_after-whole n held x xs e)) (every-rest n [] xs tt b.1)
    | inr e ↦ subst (AllByRecursion P) (sym (rest_after-more n held x xs e)) (every-rest n (held ++ x ∷ []) xs (every-append held (x ∷ []) a (b.0, tt)) b.1)
  ]

module _ {A : Type 0} (P : A → Type 0) where
  every-full : (n : ℕ) (held xs : List A) → AllByRecursion P held → AllByRecursion P xs → AllByRecursion (AllByRecursion P) (full_after n held xs)
  every-full n held [] a b = tt
  every-full n held (x ∷ xs) a b = elim (cases_Bool (length (held ++ x ∷ []) == n)) [
    | inl e ↦ subst (AllByRecursion (AllByRecursion P)) (sym (full_after-whole n held x xs e)) (every-append P held (x ∷ []) a (b.0, tt), every-full n [] xs tt b.1)
    | inr e ↦ subst (AllByRecursion (AllByRecursion P)) (sym (full_after-more n held x xs e)) (every-full n (held ++ x ∷ []) xs (every-append P held (x ∷ []) a (b.0, tt)) b.1)
  ]

  every-short : (xs : List A) → AllByRecursion P xs → AllByRecursion (AllByRecursion P) (short xs)
  every-short [] a = tt
  every-short (x ∷ xs) a = (a, tt)

  pub every-runs : (n : ℕ) (xs : List A) → AllByRecursion P xs → AllByRecursion (AllByRecursion P) (runs n xs)
  every-runs n xs a = every-append (AllByRecursion P) (full n xs) (short (rest n xs)) (every-full n [] xs tt a) (every-short (rest n xs) (every-rest P n [] xs tt a))

-- the same of a list and of its image
pub every-map : {A B : Type 0} (P : A → Type 0) (Q : B → Type 0) (f : A → B) → ((x : A) → P x → Q (f x)) → (xs : List A) → AllByRecursion P xs → AllByRecursion Q (map f xs)
every-map P Q f g [] a = tt
every-map P Q f g (x ∷ xs) a = (g x a.0, every-map P Q f g xs a.1)

module _ {N : Type 0} (P : N → Type 0) (k : ℕ) (inner : List N → N) (keeps : (ns : List N) → AllByRecursion P ns → P (inner ns)) where
  pub every-top : (d : ℕ) (ns : List N) → AllByRecursion P ns → AllByRecursion P (top k inner d ns)
  every-top zero [] a = tt
  every-top (suc d) [] a = tt
  every-top zero (x ∷ []) a = a
  every-top (suc d) (x ∷ []) a = a
  every-top zero (x ∷ y ∷ ns) a = a
  every-top (suc d) (x ∷ y ∷ ns) a = every-top d (map inner (runs k (x ∷ y ∷ ns))) (every-map (AllByRecursion P) P inner keeps (runs k (x ∷ y ∷ ns)) (every-runs P k (x ∷ y ∷ ns) a))
