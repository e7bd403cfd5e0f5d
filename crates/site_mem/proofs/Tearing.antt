-- A walk over the steps that finds where a run ends.
use Rattle.std.proofs.Common.{◌≡◌, inl, inr, ℕ, ◌+◌, ◌<◌, ◌≤◌, max, true, false, List, length, drop, get_or, sym, ◌∙◌, arith}
use Rattle.std.proofs.lemmas.Bool.{cases_lt}
use Rattle.site_mem.specs.declared.step.Step.{Step}
use Rattle.site_mem.specs.Unstable.{is_synced, tears, is_torn}
use Rattle.site_mem.proofs.Backwards.{torn_here, torn_more, torn_earlier, whole_here}

-- the steps so far tear all places up to an end, or leave this one to the rest
pub record TornSoFar (all rest : List Step) (file place end : ℕ) : Type 0 where
  pub torn : (i : ℕ) → place ≤ i → i < end → is_torn all file i ≡ true
  pub whole : end ≤ place → is_torn all file place ≡ is_torn rest file place
  pub more : (i : ℕ) → is_torn rest file i ≡ true → is_torn all file i ≡ true

-- they leave all places up to an end to the rest, which leaves this one whole
pub record WholeSoFar (all rest : List Step) (file place end : ℕ) : Type 0 where
  pub here : is_torn rest file place ≡ false
  pub whole : (i : ℕ) → place ≤ i → i < end → is_torn all file i ≡ is_torn rest file i

module _ (all : List Step) (n : ℕ) (step : Step) (at : (n < length all) × (step ≡ get_or all n step)) (file place : ℕ) (since : is_synced step ≡ false) where
  pub torn_on : (end here new : ℕ) → new ≡ max here end → ((i : ℕ) → place ≤ i → i < here → tears step file i ≡ true) → (here ≤ place → tears step file place ≡ false)
      → TornSoFar all (drop n all) file place end → TornSoFar all (drop (n + 1) all) file place new
  torn_on end here new is torn whole so = record {
    torn = λ i from low. elim (cases_lt i end) [
      | inl old ↦ so.torn i from old
      | inr past ↦ so.more i (torn_here all n step at file i since (torn i from (omega arith)))
    ];
    whole = λ high. so.whole (omega arith) ∙ torn_earlier all n step at file place since (whole (omega arith));
    more = λ i later. so.more i (torn_more all n step at file i since later);
  }

  pub whole_on : (end new : ℕ) → new ≤ end → (tears step file place ≡ false → (i : ℕ) → place ≤ i → i < new → tears step file i ≡ false)
      → WholeSoFar all (drop n all) file place end → WholeSoFar all (drop (n + 1) all) file place new
  whole_on end new le whole so =
      let clear = whole_here all n step at file place since so.here in
      record {
        here = sym (torn_earlier all n step at file place since clear) ∙ so.here;
        whole = λ i from low. so.whole i from (omega arith) ∙ torn_earlier all n step at file i since (whole clear i from low);
      }
