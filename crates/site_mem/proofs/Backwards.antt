-- A walk over the steps, the newest first.
use Rattle.std.proofs.Common.{◌≡◌, ℕ, ◌+◌, ◌<◌, Bool, true, false, ◌&&◌, ◌||◌, not, max, if◌then◌else◌, List, ◌∷◌, length, drop, get_or, refl, sym, ◌∙◌, ap}
use Rattle.std.proofs.lemmas.List.{at_drop_more}
use Rattle.site_mem.specs.declared.step.Step.{Step}
use Rattle.site_mem.specs.Unstable.{is_synced, tears, is_torn, end_in, reach}

-- a function of the steps that are left, at the next one
next_step : {Y : Type 0} (f : List Step → Y) (steps : List Step) (i : ℕ) (step : Step) → (i < length steps) × (step ≡ get_or steps i step) → f (drop i steps) ≡ f (step ∷ drop (i + 1) steps)
next_step f steps i step at = at_drop_more f steps i step at.0 ∙ ap (λ s. f (s ∷ drop (i + 1) steps)) (sym at.1)

or_true : (b : Bool) → b || true ≡ true
or_true true = refl
or_true false = refl

left_false : (a b : Bool) → a || b ≡ false → a ≡ false
left_false true b none = none
left_false false b none = refl

module _ (steps : List Step) (i : ℕ) (step : Step) (at : (i < length steps) × (step ≡ get_or steps i step)) (file : ℕ) where
  module _ (place : ℕ) where
    pub torn_synced : is_synced step ≡ true → is_torn (drop i steps) file place ≡ false
    torn_synced synced = next_step (λ s. is_torn s file place) steps i step at ∙ ap (λ b. not b && (tears step file place || is_torn (drop (i + 1) steps) file place)) synced

    open_at : is_synced step ≡ false → is_torn (drop i steps) file place ≡ tears step file place || is_torn (drop (i + 1) steps) file place
    open_at since = next_step (λ s. is_torn s file place) steps i step at ∙ ap (λ b. not b && (tears step file place || is_torn (drop (i + 1) steps) file place)) since

    pub torn_here : is_synced step ≡ false → tears step file place ≡ true → is_torn (drop i steps) file place ≡ true
    torn_here since torn = open_at since ∙ ap (λ b. b || is_torn (drop (i + 1) steps) file place) torn

    pub torn_more : is_synced step ≡ false → is_torn (drop (i + 1) steps) file place ≡ true → is_torn (drop i steps) file place ≡ true
    torn_more since torn = open_at since ∙ ap (λ b. tears step file place || b) torn ∙ or_true (tears step file place)

    pub torn_earlier : is_synced step ≡ false → tears step file place ≡ false → is_torn (drop i steps) file place ≡ is_torn (drop (i + 1) steps) file place
    torn_earlier since whole = open_at since ∙ ap (λ b. b || is_torn (drop (i + 1) steps) file place) whole

    pub whole_here : is_synced step ≡ false → is_torn (drop i steps) file place ≡ false → tears step file place ≡ false
    whole_here since whole = left_false (tears step file place) (is_torn (drop (i + 1) steps) file place) (sym (open_at since) ∙ whole)

  pub reach_synced : is_synced step ≡ true → reach (drop i steps) file ≡ 0
  reach_synced synced = next_step (λ s. reach s file) steps i step at ∙ ap (λ b. if b then 0 else max (end_in step file) (reach (drop (i + 1) steps) file)) synced

  pub reach_earlier : is_synced step ≡ false → reach (drop i steps) file ≡ max (end_in step file) (reach (drop (i + 1) steps) file)
  reach_earlier since = next_step (λ s. reach s file) steps i step at ∙ ap (λ b. if b then 0 else max (end_in step file) (reach (drop (i + 1) steps) file)) since
