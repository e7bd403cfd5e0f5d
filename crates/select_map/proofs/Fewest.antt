-- No valid mapping has fewer trees than there are views of one arity.
use Rattle.std.proofs.Common.{◌≡◌, ℕ, zero, suc, ◌+◌, ◌<◌, ◌≤◌, true, false, eqb, List, [], ◌∷◌, length, refl, sym, ap, ◌∙◌, ⊎_elim, arith}
use Rattle.std.specs.Prelude.{◌==◌, if◌then◌else◌, count_by}
use Rattle.std.specs.List.{IsDistinct, AllByRecursion, list_any}
use Rattle.std.proofs.lemmas.Bool.{or_cases, true≢false, eqb-true, eqb-false, ne_eqb}
use Rattle.std.proofs.lemmas.Map.Steps.{length-le_from_distinct_below}
use Rattle.select_map.specs.Views.{View, has_arity, arity_at}
use Rattle.select_map.specs.Selection.{IsValid}
use Rattle.select_map.proofs.Counts.{count, count-yes, count-no, count-all, suc-more}

module _ (views : List View) (tree : ℕ → ℕ) (arity : ℕ) where
  -- the trees of the first views of the arity
  chosen : ℕ → List ℕ
  chosen zero = []
  chosen (suc k) = if arity_at views k == arity then tree k ∷ chosen k else chosen k

  chosen-all : (P : ℕ → Type 0) (k : ℕ) → ((v : ℕ) → v < k → arity_at views v ≡ arity → P (tree v)) → AllByRecursion P (chosen k)
  unfolding chosen
  chosen-all P zero all = tt
  chosen-all P (suc k) all =
      elim (arity_at views k == arity) as (λ b. (arity_at views k == arity) ≡ b → AllByRecursion P (if b then tree k ∷ chosen k else chosen k)) [
        | true ↦ λ e. (all k (omega arith) (eqb-true (arity_at views k) arity e), chosen-all P k (λ v lt is. all v (omega arith) is))
        | false ↦ λ e. chosen-all P k (λ v lt is. all v (omega arith) is)
      ] refl

  chosen-length : (k : ℕ) → k ≤ length views → length (chosen k) ≡ count views arity k
  unfolding chosen
  chosen-length zero le = refl
  chosen-length (suc k) le =
      let next : count views arity (k + 1) ≡ count views arity (suc k) = ap (count views arity) (sym (suc-more k)) in
      let rest = chosen-length k (omega arith) in
      elim (arity_at views k == arity) as (λ b. (arity_at views k == arity) ≡ b → length (if b then tree k ∷ chosen k else chosen k) ≡ count views arity (suc k)) [
        | true ↦ λ e. (let yes = count-yes views arity k (omega arith) (eqb-true (arity_at views k) arity e) in omega arith)
        | false ↦ λ e. (let no = count-no views arity k (omega arith) (eqb-false (arity_at views k) arity e) in omega arith)
      ] refl

  chosen-distinct : (count : ℕ) → IsValid views tree count → (k : ℕ) → k ≤ length views → IsDistinct eqb (chosen k)
  unfolding chosen IsDistinct
  chosen-distinct count valid zero le = tt
  chosen-distinct count valid (suc k) le =
      elim (arity_at views k == arity) as (λ b. (arity_at views k == arity) ≡ b → IsDistinct eqb (if b then tree k ∷ chosen k else chosen k)) [
        | true ↦ λ e. (
          chosen-all (λ t. eqb (tree k) t ≡ false) k (λ v lt is. ne_eqb (tree k) (tree v) (λ same. valid.apart v k lt (omega arith) (is ∙ sym (eqb-true (arity_at views k) arity e)) (sym same))),
          chosen-distinct count valid k (omega arith),
        )
        | false ↦ λ e. chosen-distinct count valid k (omega arith)
      ] refl

  all-below : (n : ℕ) (ts : List ℕ) → AllByRecursion (λ t. t < n) ts → (q : ℕ) → list_any (eqb q) ts ≡ true → q < n
  all-below n [] all q h = absurd (true≢false (sym h))
  all-below n (t ∷ ts) all q h =
      ⊎_elim (λ (here : eqb q t ≡ true). (let same = eqb-true q t here in let below = all.0 in omega arith)) (λ (there : list_any (eqb q) ts ≡ true). all-below n ts all.1 q there) (or_cases (eqb q t) (list_any (eqb q) ts) h)

  pub arity-fewest : (count : ℕ) → IsValid views tree count → count_by (has_arity arity) views ≤ count
  arity-fewest count valid =
      let ts = chosen (length views) in
      let below = chosen-all (λ t. t < count) (length views) (λ v lt is. valid.within v lt) in
      let few = length-le_from_distinct_below ts count (chosen-distinct count valid (length views) (omega arith)) (all-below count ts below) in
      let size = chosen-length (length views) (omega arith) in
      let all = count-all views arity in
      omega arith
