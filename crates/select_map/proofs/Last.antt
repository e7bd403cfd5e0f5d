-- The last place with a view.
use Rattle.std.proofs.Common.{◌≡◌, ◌⊎◌, ℕ, zero, suc, ◌+◌, ◌≤◌, Bool, true, false, List, [], ◌∷◌, Option, None, get_or, refl, sym, ap, subst, ◌∙◌, ⊎_elim, inl, inr, arith}
use Rattle.std.specs.Prelude.{is_some, if◌then◌else◌}
use Rattle.std.proofs.lemmas.Bool.{true≢false}
use Rattle.select_map.specs.Views.{last_from}

-- there is a view at this place
abbrev pub has : List (Option ℕ) → ℕ → Bool
has slots k = is_some (get_or slots k None)

last-keeps : (slots : List (Option ℕ)) (last n : ℕ) → last ≤ n → last ≤ last_from last n slots
last-keeps [] last n le = omega arith
last-keeps (slot ∷ slots) last n le =
    elim (is_some slot) as (λ b. last ≤ last_from (if b then n else last) (n + 1) slots) [
      | true ↦ (let rest = last-keeps slots n (n + 1) (omega arith) in omega arith)
      | false ↦ last-keeps slots last (n + 1) (omega arith)
    ]

pub last-ge : (slots : List (Option ℕ)) (last n k : ℕ) → last ≤ n → has slots k ≡ true → n + k ≤ last_from last n slots
last-ge [] last n k le h = absurd (true≢false (sym h))
last-ge (slot ∷ slots) last n zero le h =
    subst (λ b. n + 0 ≤ last_from (if b then n else last) (n + 1) slots) (sym h) (let rest = last-keeps slots n (n + 1) (omega arith) in omega arith)
last-ge (slot ∷ slots) last n (suc k) le h =
    elim (is_some slot) as (λ b. n + suc k ≤ last_from (if b then n else last) (n + 1) slots) [
      | true ↦ (let rest = last-ge slots n (n + 1) k (omega arith) h in omega arith)
      | false ↦ (let rest = last-ge slots last (n + 1) k (omega arith) h in omega arith)
    ]

-- the last is the one before, or the place of a view
Found : List (Option ℕ) → ℕ → ℕ → Type 0
Found slots n r = (j : ℕ) × (r ≡ n + j) × (has slots j ≡ true)

last-found : (slots : List (Option ℕ)) (last n : ℕ) → (last_from last n slots ≡ last) ⊎ Found slots n (last_from last n slots)
unfolding Found
last-found [] last n = inl refl
last-found (slot ∷ slots) last n =
    elim (is_some slot) as (λ b. is_some slot ≡ b → (last_from (if b then n else last) (n + 1) slots ≡ last) ⊎ Found (slot ∷ slots) n (last_from (if b then n else last) (n + 1) slots)) [
      | true ↦ λ e.
          ⊎_elim (λ (same : last_from n (n + 1) slots ≡ n). inr (0, omega arith, e)) (λ (there : Found slots (n + 1) (last_from n (n + 1) slots)). inr (suc there.0, (let at = there.1 in omega arith), there.2))
          (last-found slots n (n + 1))
      | false ↦ λ e.
          ⊎_elim (λ (same : last_from last (n + 1) slots ≡ last). inl same) (λ (there : Found slots (n + 1) (last_from last (n + 1) slots)). inr (suc there.0, (let at = there.1 in omega arith), there.2))
          (last-found slots last (n + 1))
    ] refl

-- the last place has a view, where some place has one
pub last-has : (slots : List (Option ℕ)) (k : ℕ) → has slots k ≡ true → has slots (last_from 0 0 slots) ≡ true
unfolding Found
last-has slots k h =
    let above = last-ge slots 0 0 k (omega arith) h in
    ⊎_elim
    (λ (none : last_from 0 0 slots ≡ 0). (let same : k ≡ last_from 0 0 slots = omega arith in ap (has slots) (sym same) ∙ h))
    (λ (there : Found slots 0 (last_from 0 0 slots)). (let at : last_from 0 0 slots ≡ there.0 = (let e = there.1 in omega arith) in ap (has slots) at ∙ there.2))
    (last-found slots 0 0)
