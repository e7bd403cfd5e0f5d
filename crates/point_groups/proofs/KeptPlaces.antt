-- The coordinates that are kept, one by one.
use Rattle.std.proofs.Common.{◌≡◌, ℕ, zero, suc, ◌<◌, ◌≤◌, Bool, true, false, cond, List, [], ◌∷◌, length, get_or, refl, sym, ◌∙◌, ap, arith, true≢false}
use Rattle.spec_points.specs.Agree.{among}
use Rattle.spec_points.specs.Points.{View}
use Rattle.point_groups.specs.Kept.{grouped_dims, kept}

-- all coordinates zero, where none is kept
none-kept : (dims : List Bool) (place : List ℕ) → ((k : ℕ) → get_or dims k false ≡ false) → kept dims place ≡ kept [] place
none-kept dims [] none = refl
none-kept [] (c ∷ place) none = refl
none-kept (b ∷ dims) (c ∷ place) none = λ i. cond (none 0 i) c 0 ∷ none-kept dims place (λ k. none (suc k)) i

-- what is told of each attribute of the view decides
pub dims-alike : (group : List ℕ) (view : View) (dims : List Bool) → length view ≤ length dims
    → ((k : ℕ) → k < length view → get_or dims k false ≡ among group (get_or view k 0)) → ((k : ℕ) → length view ≤ k → get_or dims k false ≡ false)
    → (place : List ℕ) → kept dims place ≡ kept (grouped_dims group view) place
dims-alike group view dims few told none [] = refl
dims-alike group [] dims few told none (c ∷ place) = none-kept dims (c ∷ place) (λ k. none k (omega arith))
dims-alike group (v ∷ view) [] few told none (c ∷ place) = absurd (omega (arith, few))
dims-alike group (v ∷ view) (b ∷ dims) few told none (c ∷ place) =
    λ i. cond (told 0 (omega arith) i) c 0 ∷ dims-alike group view dims (omega (arith, few)) (λ k low. told (suc k) (omega (arith, low))) (λ k low. none (suc k) (omega (arith, low))) place i

-- coordinates that are each as kept are those kept
pub kept-each : (dims : List Bool) (place to : List ℕ) → length to ≡ length place → length place ≤ length dims
    → ((k : ℕ) → k < length place → get_or to k 0 ≡ cond (get_or dims k false) (get_or place k 0) 0) → to ≡ kept dims place
kept-each dims [] [] long few each = refl
kept-each dims [] (d ∷ to) long few each = absurd (omega (arith, long))
kept-each dims (c ∷ place) [] long few each = absurd (omega (arith, long))
kept-each [] (c ∷ place) (d ∷ to) long few each = absurd (omega (arith, few))
kept-each (b ∷ dims) (c ∷ place) (d ∷ to) long few each =
    λ i. each 0 (omega arith) i ∷ kept-each dims place to (omega (arith, long)) (omega (arith, few)) (λ k low. each (suc k) (omega (arith, low))) i

-- coordinates that are kept once stay so
pub kept-twice : (dims : List Bool) (place : List ℕ) → kept dims (kept dims place) ≡ kept dims place
kept-twice dims [] = refl
kept-twice [] (c ∷ place) = λ i. 0 ∷ kept-twice [] place i
kept-twice (true ∷ dims) (c ∷ place) = λ i. c ∷ kept-twice dims place i
kept-twice (false ∷ dims) (c ∷ place) = λ i. 0 ∷ kept-twice dims place i

-- places that are alike where coordinates are kept
pub kept-alike : (dims : List Bool) (at place : List ℕ) → length at ≡ length place → length place ≤ length dims
    → ((k : ℕ) → k < length place → get_or dims k false ≡ true → get_or at k 0 ≡ get_or place k 0) → kept dims at ≡ kept dims place
kept-alike dims [] [] long few alike = refl
kept-alike dims [] (d ∷ place) long few alike = absurd (omega (arith, long))
kept-alike dims (c ∷ at) [] long few alike = absurd (omega (arith, long))
kept-alike [] (c ∷ at) (d ∷ place) long few alike = absurd (omega (arith, few))
kept-alike (b ∷ dims) (c ∷ at) (d ∷ place) long few alike =
    λ i. first b (alike 0 (omega arith)) i ∷ kept-alike dims at place (omega (arith, long)) (omega (arith, few)) (λ k low. alike (suc k) (omega (arith, low))) i
  where
    first : (b : Bool) → (b ≡ true → c ≡ d) → cond b c 0 ≡ cond b d 0
    first true is = is refl
    first false is = refl

-- a coordinate that is kept
at-kept : (dims : List Bool) (place : List ℕ) (k : ℕ) → get_or dims k false ≡ true → get_or (kept dims place) k 0 ≡ get_or place k 0
at-kept dims [] k is = refl
at-kept [] (c ∷ place) k is = absurd (true≢false (sym is))
at-kept (b ∷ dims) (c ∷ place) zero is = ap (λ (b : Bool). cond b c 0) is
at-kept (b ∷ dims) (c ∷ place) (suc k) is = at-kept dims place k is

pub alike-kept : (dims : List Bool) (at place : List ℕ) (k : ℕ) → kept dims at ≡ kept dims place → get_or dims k false ≡ true → get_or at k 0 ≡ get_or place k 0
alike-kept dims at place k same is = sym (at-kept dims at k is) ∙ (ap (λ (l : List ℕ). get_or l k 0) same ∙ at-kept dims place k is)
