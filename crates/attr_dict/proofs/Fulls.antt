-- The first attribute that is full.
use Rattle.std.proofs.Common.{◌≡◌, ℕ, zero, suc, ◌+◌, ◌<◌, ◌≤◌, Bool, true, false, cond, List, [], Some, None, length, get_or, refl, sym, ap, ◌∙◌, ⊎_elim, arith}
use Rattle.std.specs.Prelude.{find, nat_lt}
use Rattle.std.specs.List.{range_with_len}
use Rattle.std.proofs.lemmas.Bool.{cases_eq, lt-ltb, le-ltb, ltb-false, cond-true, cond-false}
use Rattle.std.proofs.lemmas.List.{get_or_default, get_or_read}
use Rattle.cube_schema.specs.declared.Kind.{Kind}
use Rattle.cube_schema.specs.declared.Kind.TheVariants as kind
use Rattle.cube_schema.specs.Kinds.{max_of}
use Rattle.spec_points.specs.Codes.{Text}

find-none : (p : ℕ → Bool) (a n : ℕ) → ((k : ℕ) → a ≤ k → k < a + n → p k ≡ false) → find p (range_with_len a n) ≡ None
find-none p a zero none = refl
find-none p a (suc n) none =
    cond-false (p a) (Some a) (find p (range_with_len (a + 1) n)) (none a (omega arith) (omega arith)) ∙ find-none p (a + 1) n (λ k low high. none k (omega arith) (omega arith))

find-first : (p : ℕ → Bool) (a n v : ℕ) → a ≤ v → v < a + n → p v ≡ true → ((k : ℕ) → a ≤ k → k < v → p k ≡ false) → find p (range_with_len a n) ≡ Some v
find-first p a zero v low high is none = absurd (omega arith)
find-first p a (suc n) v low high is none =
    ⊎_elim
    (λ (e : a ≡ v). cond-true (p a) (Some a) (find p (range_with_len (a + 1) n)) (ap p e ∙ is) ∙ ap (λ k. Some k) e)
    (λ (d : a ≡ v → ⊥).
    cond-false (p a) (Some a) (find p (range_with_len (a + 1) n)) (none a (omega arith) (omega arith))
    ∙ find-first p (a + 1) n v (omega arith) (omega arith) is (λ k l h. none k (omega arith) h))
    (cases_eq a v)

pub find-all : (p : ℕ → Bool) (a n : ℕ) → find p (range_with_len a n) ≡ None → (k : ℕ) → a ≤ k → k < a + n → p k ≡ false
find-all p a zero none k low high = absurd (omega arith)
find-all p a (suc n) none k low high =
    elim (p a) as (λ b. p a ≡ b → cond b (Some a) (find p (range_with_len (a + 1) n)) ≡ None → p k ≡ false) [
      | true ↦ λ here e. absurd (cc)
      | false ↦ λ here e. ⊎_elim (λ (q : a ≡ k). ap p (sym q) ∙ here) (λ (q : a ≡ k → ⊥). find-all p (a + 1) n e k (omega arith) (omega arith)) (cases_eq a k)
    ] refl none

pub find-before : (p : ℕ → Bool) (a n v : ℕ) → find p (range_with_len a n) ≡ Some v → (v < a + n) × (p v ≡ true) × ((k : ℕ) → a ≤ k → k < v → p k ≡ false)
find-before p a zero v some = absurd (cc)
find-before p a (suc n) v some =
    elim (p a) as (λ b. p a ≡ b → cond b (Some a) (find p (range_with_len (a + 1) n)) ≡ Some v → (v < a + suc n) × (p v ≡ true) × ((k : ℕ) → a ≤ k → k < v → p k ≡ false)) [
      | true ↦ λ here e. (let is : a ≡ v = cc in (omega arith, ap p (sym is) ∙ here, λ k low high. absurd (omega arith)))
      | false ↦ λ here e.
          (let rest = find-before p (a + 1) n v e in
          let high = rest.0 in
          (omega arith, rest.1, λ k low lt. ⊎_elim (λ (q : a ≡ k). ap p (sym q) ∙ here) (λ (q : a ≡ k → ⊥). rest.2 k (omega arith) lt) (cases_eq a k)))
    ] refl some

module _ (kinds : List Kind) (names : List (List Text)) where
  -- the attribute has more names than its `max`
  abbrev is_full : ℕ → Bool
  is_full a = nat_lt (max_of (get_or kinds a kind.Number)) (length (get_or names a []))

  pub none-full : ((a : ℕ) → a < length kinds → length (get_or names a []) ≤ max_of (get_or kinds a kind.Number)) → find is_full (range_with_len 0 (length kinds)) ≡ None
  none-full within = find-none is_full 0 (length kinds) (λ k low high. le-ltb (max_of (get_or kinds k kind.Number)) (length (get_or names k [])) (within k (omega arith)))

  -- the attribute at which a loop stops
  pub full-here : (here : List Text) (attr most len : ℕ) → attr < length names → length names ≡ length kinds → ((a : ℕ) → a < attr → length (get_or names a []) ≤ max_of (get_or kinds a kind.Number))
      → here ≡ get_or names attr here → len ≡ length here → most ≡ max_of (get_or kinds attr (kind.Word 0)) → most < len → find is_full (range_with_len 0 (length kinds)) ≡ Some attr
  full-here here attr most len lt same within read len-is most-is more =
      let size : length here ≡ length (get_or names attr []) = ap length (get_or_read names attr here lt read []) in
      let bound : most ≡ max_of (get_or kinds attr kind.Number) = most-is ∙ ap max_of (get_or_default kinds attr (kind.Word 0) kind.Number (omega arith)) in
      find-first is_full 0 (length kinds) attr (omega arith) (omega arith) (lt-ltb (max_of (get_or kinds attr kind.Number)) (length (get_or names attr [])) (omega arith))
      (λ k low high. le-ltb (max_of (get_or kinds k kind.Number)) (length (get_or names k [])) (within k high))

  module _ (none : find is_full (range_with_len 0 (length kinds)) ≡ None) where
    pub none-within : (a : ℕ) → a < length kinds → length (get_or names a []) ≤ max_of (get_or kinds a kind.Number)
    none-within a lt = ltb-false (max_of (get_or kinds a kind.Number)) (length (get_or names a [])) (find-all is_full 0 (length kinds) none a (omega arith) (omega arith))
