-- The first number of a range that passes a test.
use Rattle.std.proofs.Common.{◌≡◌, ℕ, zero, suc, ◌+◌, ◌-◌, ◌<◌, ◌≤◌, Bool, true, false, ◌&&◌, cond, List, [], ◌∷◌, Some, length, get_or, refl, sym, ap, subst, ◌∙◌, ⊎_elim, arith}
use Rattle.std.specs.Prelude.{◌==◌, find}
use Rattle.std.specs.List.{range_with_len}
use Rattle.std.proofs.lemmas.Bool.{eqb-true, eq-eqb, ne_eqb, and_parts, and_from, cases_order, cond-true, cond-false, true≢false}
use Rattle.std.proofs.lemmas.List.{get_or_read}
use Rattle.select_map.specs.Views.{View, arity_at, tree_number, goes_into, view_in}
use Rattle.select_map.proofs.Counts.{count, number-strict}

pub find-some : (p : ℕ → Bool) (a n v : ℕ) → find p (range_with_len a n) ≡ Some v → (p v ≡ true) × (a ≤ v) × (v < a + n)
find-some p a zero v e = cc
find-some p a (suc n) v e =
    elim (p a) as (λ b. p a ≡ b → cond b (Some a) (find p (range_with_len (a + 1) n)) ≡ Some v → (p v ≡ true) × (a ≤ v) × (v < a + suc n)) [
      | true ↦ λ pa f. (let is : a ≡ v = cc in (ap p (sym is) ∙ pa, omega arith, omega arith))
      | false ↦ λ pa f. (let rest = find-some p (a + 1) n v f in (rest.0, (let low = rest.1 in omega arith), (let high = rest.2 in omega arith)))
    ] refl e

pub find-is : (p : ℕ → Bool) (a n v : ℕ) → p v ≡ true → a ≤ v → v < a + n → ((w : ℕ) → a ≤ w → w < a + n → p w ≡ true → w ≡ v) → find p (range_with_len a n) ≡ Some v
find-is p a zero v pv low high only = absurd (omega arith)
find-is p a (suc n) v pv low high only =
    elim (p a) as (λ b. p a ≡ b → cond b (Some a) (find p (range_with_len (a + 1) n)) ≡ Some v) [
      | true ↦ λ pa. ap (λ k. Some k) (only a (omega arith) (omega arith) pa)
      | false ↦ λ pa.
          (let apart : a ≡ v → ⊥ = λ e. true≢false (sym pv ∙ ap p (sym e) ∙ pa) in
          find-is p (a + 1) n v pv (omega arith) (omega arith) (λ w l h pw. only w (omega arith) (omega arith) pw))
    ] refl

-- what a view that goes into a tree is
pub goes : (views : List View) (t arity v : ℕ) → goes_into views t arity v ≡ true → (arity_at views v ≡ arity) × (tree_number views v ≡ t)
goes views t arity v h =
    let parts = and_parts (arity_at views v == arity) (tree_number views v == t) h in
    (eqb-true (arity_at views v) arity parts.0, eqb-true (tree_number views v) t parts.1)

pub goes-itself : (views : List View) (v : ℕ) → goes_into views (tree_number views v) (arity_at views v) v ≡ true
goes-itself views v = and_from _ _ (eq-eqb (arity_at views v) (arity_at views v) refl) (eq-eqb (tree_number views v) (tree_number views v) refl)

-- no two views go into one tree with one arity
goes-once : (views : List View) (t arity v w : ℕ) → v < length views → w < length views → goes_into views t arity v ≡ true → goes_into views t arity w ≡ true → w ≡ v
goes-once views t arity v w v-there w-there gv gw =
    let v-is = goes views t arity v gv in
    let w-is = goes views t arity w gw in
    ⊎_elim
    (λ (e : w ≡ v). e)
    (⊎_elim
    (λ (lt : w < v). absurd (let strict = number-strict views w v lt v-there (w-is.0 ∙ sym v-is.0) in let a = w-is.1 in let b = v-is.1 in omega arith))
    (λ (lt : v < w). absurd (let strict = number-strict views v w lt w-there (v-is.0 ∙ sym w-is.0) in let a = w-is.1 in let b = v-is.1 in omega arith)))
    (cases_order w v)

pub view_in-some : (views : List View) (t arity v : ℕ) → view_in views t arity ≡ Some v → (v < length views) × (arity_at views v ≡ arity) × (tree_number views v ≡ t)
view_in-some views t arity v e =
    let found = find-some (goes_into views t arity) 0 (length views) v e in
    let is = goes views t arity v found.0 in
    ((let high = found.2 in omega arith), is.0, is.1)

pub view_in-at : (views : List View) (v : ℕ) → v < length views → view_in views (tree_number views v) (arity_at views v) ≡ Some v
view_in-at views v lt =
    find-is (goes_into views (tree_number views v) (arity_at views v)) 0 (length views) v (goes-itself views v) (omega arith) (omega arith)
    (λ w l h gw. goes-once views (tree_number views v) (arity_at views v) v w lt (omega arith) (goes-itself views v) gw)

-- ---- the loop over the views
range-step : (k n : ℕ) → k < n → range_with_len k (n - k) ≡ k ∷ range_with_len (k + 1) (n - (k + 1))
range-step k n lt =
    let size : n - k ≡ suc (n - (k + 1)) = omega arith in
    ap (range_with_len k) size

goes-value : (views : List View) (t arity k : ℕ) → arity_at views k ≡ arity → goes_into views t arity k ≡ (count views arity k == t)
goes-value views t arity k is =
    (λ i. (is i == arity) && (count views (is i) k == t)) ∙ ap (λ b. b && (count views arity k == t)) (eq-eqb arity arity refl)

find-step : (p : ℕ → Bool) (k n : ℕ) → k < n → find p (range_with_len k (n - k)) ≡ cond (p k) (Some k) (find p (range_with_len (k + 1) (n - (k + 1))))
find-step p k n lt = ap (find p) (range-step k n lt)

-- the view here goes into the tree
pub found-here : (views : List View) (t arity k : ℕ) → k < length views → arity_at views k ≡ arity → count views arity k ≡ t
    → find (goes_into views t arity) (range_with_len k (length views - k)) ≡ find (goes_into views t arity) (range_with_len 0 (length views)) → Some k ≡ view_in views t arity
found-here views t arity k lt is before rest =
    sym (cond-true (goes_into views t arity k) (Some k) _ (goes-value views t arity k is ∙ eq-eqb (count views arity k) t before)) ∙ sym (find-step (goes_into views t arity) k (length views) lt) ∙ rest

-- the view here does not go into the tree
pub passed-other : (views : List View) (t arity k : ℕ) → k < length views → (arity_at views k ≡ arity → ⊥)
    → find (goes_into views t arity) (range_with_len (k + 1) (length views - (k + 1))) ≡ find (goes_into views t arity) (range_with_len k (length views - k))
passed-other views t arity k lt is =
    sym (cond-false (goes_into views t arity k) (Some k) _ (ap (λ b. b && (tree_number views k == t)) (ne_eqb (arity_at views k) arity is))) ∙ sym (find-step (goes_into views t arity) k (length views) lt)

pub passed-same : (views : List View) (t arity k : ℕ) → k < length views → arity_at views k ≡ arity → (count views arity k ≡ t → ⊥)
    → find (goes_into views t arity) (range_with_len (k + 1) (length views - (k + 1))) ≡ find (goes_into views t arity) (range_with_len k (length views - k))
passed-same views t arity k lt is before =
    sym (cond-false (goes_into views t arity k) (Some k) _ (goes-value views t arity k is ∙ ne_eqb (count views arity k) t before)) ∙ sym (find-step (goes_into views t arity) k (length views) lt)

-- the view that a loop reads
pub arity-read : (views items : List View) (k : ℕ) (view attrs : View) → items ≡ views → k < length items → view ≡ get_or items k view → attrs ≡ view → (k < length views) × (arity_at views k ≡ length attrs)
arity-read views items k view attrs same lt is read =
    let there : k < length views = subst (λ (vs : List View). k < length vs) same lt in
    (there, ap length (ap (λ vs. get_or vs k []) (sym same) ∙ sym (get_or_read items k view lt is []) ∙ sym read))
