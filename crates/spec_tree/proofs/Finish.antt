-- To close the levels of a packer from the lowest up is to pack the whole list level by level.
use Rattle.std.proofs.Common.{◌≡◌, ℕ, zero, suc, Bool, true, false, List, [], ◌∷◌, ◌++◌, length, map, refl, ap, sym, ◌∙◌, inl, inr, arith, append-nil, ◌≤◌, ◌<◌, ◌+◌, ◌*◌, length-append}
use Rattle.std.specs.Prelude.{◌==◌}
use Rattle.std.proofs.lemmas.Bool.{cases_Bool, eqb-true, true≢false}
use Rattle.std.proofs.lemmas.List.{map-append, length-map}
use Rattle.spec_tree.specs.Runs.{rest, full, short, runs, top}
use Rattle.spec_tree.specs.Counts.{reach}
use Rattle.spec_tree.specs.Pending.{pending, add, all_empty, pick, finish}
use Rattle.spec_tree.proofs.Runs.{rest_after-whole, rest_after-more, full_after-whole, full_after-more, rest_after-append, full_after-append, length-runs, short-snoc, runs-snoc, rest-none, nil_from_length}

-- a product is below another only where the other factor is
pub below_factor : (k a b r : ℕ) → k * a + r < k * b → a < b
below_factor k a b r l = grind arith

module _ {N : Type 0} (k : ℕ) (inner : List N → N) where
  pub top-many : (d : ℕ) (ns : List N) → 2 ≤ length ns → top k inner (suc d) ns ≡ top k inner d (map inner (runs k ns))
  top-many d [] l = absurd (omega (arith, l))
  top-many d (x ∷ []) l = absurd (omega (arith, l))
  top-many d (x ∷ y ∷ ns) l = refl

  pub top-nil : (d : ℕ) → top k inner d [] ≡ []
  top-nil zero = refl
  top-nil (suc d) = refl

  pub all_empty-pending : (d : ℕ) → all_empty (pending k inner d []) ≡ true
  all_empty-pending zero = refl
  all_empty-pending (suc d) = all_empty-pending d

  -- the next level is shorter than its reach
  pub next-reach : (d : ℕ) (ns : List N) → length ns < reach k (suc d) → length (map inner (full k ns)) < reach k d
  next-reach d ns l = let e : 0 + length ns ≡ k * length (full k ns) + length (rest k ns) = length-runs k [] ns in
      rw (length-map (full k ns) inner) (below_factor k (length (full k ns)) (reach k d) (length (rest k ns)) (omega arith))

  pending-all_empty_at : (d : ℕ) (ns : List N) → (map inner (full k ns) ≡ [] → length (full k ns) ≡ 0) → (r : List N) → rest k ns ≡ r
      → (all_empty (pending k inner d (map inner (full k ns))) ≡ true → map inner (full k ns) ≡ [])
      → all_empty (r ∷ pending k inner d (map inner (full k ns))) ≡ true → ns ≡ []
  pending-all_empty_at d ns none [] is below e = nil_from_length ns (
      let lens : length (full k ns) ≡ 0 = none (below e) in
      let whole : 0 + length ns ≡ k * length (full k ns) + length (rest k ns) = length-runs k [] ns in
      let left : length (rest k ns) ≡ 0 = ap length is in
      let gone : k * length (full k ns) ≡ k * 0 = ap (λ z. k * z) lens in
      omega arith)
  pending-all_empty_at d ns none (x ∷ r) is below e = absurd (true≢false (sym e))

  full-none : (ns : List N) → map inner (full k ns) ≡ [] → length (full k ns) ≡ 0
  full-none ns e = sym (length-map (full k ns) inner) ∙ ap length e

  pub pending-all_empty : (d : ℕ) (ns : List N) → length ns < reach k d → all_empty (pending k inner d ns) ≡ true → ns ≡ []
  pending-all_empty zero ns l e = nil_from_length ns (omega arith)
  pending-all_empty (suc d) ns l e = pending-all_empty_at d ns (full-none ns) (rest k ns) refl (pending-all_empty d (map inner (full k ns)) (next-reach d ns l)) e

  -- the levels over ns and over `carry`, a node at the lowest level or none
  abbrev Packed : ℕ → List N → List N → Type 0
  Packed d ns carry = finish k inner carry (pending k inner d ns) ≡ top k inner d (ns ++ carry)

  -- the level that holds m, the rest and `carry`, is closed
  close_many : (d : ℕ) (ns carry m : List N) → 2 ≤ length (ns ++ carry)
      → runs k (ns ++ carry) ≡ full k ns ++ m ∷ []
      → Packed d (map inner (full k ns)) (inner m ∷ [])
      → finish k inner (inner m ∷ []) (pending k inner d (map inner (full k ns))) ≡ top k inner (suc d) (ns ++ carry)
  close_many d ns carry m many cut below =
      below ∙ sym (top-many d (ns ++ carry) many ∙ ap (top k inner d) (ap (map inner) cut ∙ map-append inner (full k ns) (m ∷ [])))

  close_none : (d : ℕ) (ns carry : List N) (count : ℕ) → length (full k ns) ≡ count → 2 ≤ k
      → runs k (ns ++ carry) ≡ full k ns ++ []
      → length (ns ++ carry) ≡ k * length (full k ns)
      → Packed d (map inner (full k ns)) []
      → finish k inner [] (pending k inner d (map inner (full k ns))) ≡ top k inner (suc d) (ns ++ carry)
  close_none d ns carry zero none two cut lens below =
      below ∙ (ap (λ f. top k inner d (f ++ [])) (ap (map inner) (nil_from_length (full k ns) none)) ∙ (top-nil d
      ∙ sym (ap (top k inner (suc d)) (nil_from_length (ns ++ carry) (lens ∙ (ap (λ z. k * z) none ∙ omega arith))))))
  close_none d ns carry (suc count) some two cut lens below =
      below ∙ sym (top-many d (ns ++ carry) (let e : k * length (full k ns) ≡ k * suc count = ap (λ z. k * z) some in grind arith)
      ∙ ap (top k inner d) (ap (map inner) cut ∙ map-append inner (full k ns) []))

  single : (d : ℕ) (ns carry : List N) (x : N) (b : Bool) → all_empty (pending k inner d (map inner (full k ns))) ≡ b → 2 ≤ k → length ns < reach k (suc d)
      → rest k ns ++ carry ≡ x ∷ []
      → runs k (ns ++ carry) ≡ full k ns ++ (x ∷ []) ∷ []
      → length (ns ++ carry) ≡ k * length (full k ns) + 1
      → Packed d (map inner (full k ns)) (inner (x ∷ []) ∷ [])
      → pick (x ∷ []) b (finish k inner [] (pending k inner d (map inner (full k ns)))) (finish k inner (inner (x ∷ []) ∷ []) (pending k inner d (map inner (full k ns))))
      ≡ top k inner (suc d) (ns ++ carry)
  single d ns carry x true empty two l is cut lens below =
      sym (ap (top k inner (suc d)) (ap (λ r. r ++ carry) (sym (rest-none k [] ns (nil_from_length (full k ns) (full-none ns (pending-all_empty d (map inner (full k ns)) (next-reach d ns l) empty))))) ∙ is))
  single d ns carry x false some two l is cut lens below =
      close_many d ns carry (x ∷ []) (many (length (full k ns)) refl) cut below
    where
      many : (count : ℕ) → length (full k ns) ≡ count → 2 ≤ length (ns ++ carry)
      many zero e = absurd (true≢false (sym (all_empty-pending d) ∙ (ap (λ f. all_empty (pending k inner d (map inner f))) (sym (nil_from_length (full k ns) e)) ∙ some)))
      many (suc count) e = let f : k * length (full k ns) ≡ k * suc count = ap (λ z. k * z) e in grind arith

  -- one level: what the lowest level and `carry` hold is m
  one_level : (d : ℕ) (ns carry m : List N) → 2 ≤ k → length ns < reach k (suc d)
      → rest k ns ++ carry ≡ m
      → runs k (ns ++ carry) ≡ full k ns ++ short m
      → length (ns ++ carry) ≡ k * length (full k ns) + length m
      → ((c : List N) → length c ≤ 1 → Packed d (map inner (full k ns)) c)
      → pick m (all_empty (pending k inner d (map inner (full k ns)))) (finish k inner [] (pending k inner d (map inner (full k ns)))) (finish k inner (inner m ∷ []) (pending k inner d (map inner (full k ns))))
      ≡ top k inner (suc d) (ns ++ carry)
  one_level d ns carry [] two l is cut lens below = close_none d ns carry (length (full k ns)) refl two cut (omega arith) (below [] (omega arith))
  one_level d ns carry (x ∷ []) two l is cut lens below = single d ns carry x (all_empty (pending k inner d (map inner (full k ns)))) refl two l is cut lens (below (inner (x ∷ []) ∷ []) (omega arith))
  one_level d ns carry (x ∷ y ∷ m) two l is cut lens below = close_many d ns carry (x ∷ y ∷ m) (omega arith) cut (below (inner (x ∷ y ∷ m) ∷ []) (omega arith))

  runs-carry : (ns carry : List N) → length carry ≤ 1 → runs k (ns ++ carry) ≡ full k ns ++ short (rest k ns ++ carry)
  runs-carry ns [] l = rw (append-nil ns, append-nil (rest k ns)) refl
  runs-carry ns (x ∷ []) l = runs-snoc k ns x ∙ ap (λ s. full k ns ++ s) (sym (short-snoc k (rest k ns) x))
  runs-carry ns (x ∷ y ∷ c) l = absurd (omega (arith, l))

  -- to close the levels after a list of nodes is to pack the whole list level by level
  pub finish-pending : (d : ℕ) (ns carry : List N) → 2 ≤ k → length ns < reach k d → length carry ≤ 1 → Packed d ns carry
  finish-pending zero ns carry two l one = rw (nil_from_length ns (omega arith)) (small carry)
    where
      small : (c : List N) → c ≡ top k inner zero c
      small [] = refl
      small (x ∷ []) = refl
      small (x ∷ y ∷ c) = refl
  finish-pending (suc d) ns carry two l one = one_level d ns carry (rest k ns ++ carry) two l refl (runs-carry ns carry one)
      (let e : 0 + length ns ≡ k * length (full k ns) + length (rest k ns) = length-runs k [] ns in omega (arith, length-append ns carry, length-append (rest k ns) carry))
      (λ c o. finish-pending d (map inner (full k ns)) c two (next-reach d ns l) o)

module _ {N : Type 0} (k : ℕ) (inner : List N → N) where
  pub add-whole : (x : N) (l : List N) (ls : List (List N)) → (length (l ++ x ∷ []) == k) ≡ true → add k inner x (l ∷ ls) ≡ [] ∷ add k inner (inner (l ++ x ∷ [])) ls
  add-whole x l ls e = ap (λ (b : Bool). elim b as (λ _. List (List N)) [ true ↦ [] ∷ add k inner (inner (l ++ x ∷ [])) ls | false ↦ (l ++ x ∷ []) ∷ ls ]) e

  pub add-more : (x : N) (l : List N) (ls : List (List N)) → (length (l ++ x ∷ []) == k) ≡ false → add k inner x (l ∷ ls) ≡ (l ++ x ∷ []) ∷ ls
  add-more x l ls e = ap (λ (b : Bool). elim b as (λ _. List (List N)) [ true ↦ [] ∷ add k inner (inner (l ++ x ∷ [])) ls | false ↦ (l ++ x ∷ []) ∷ ls ]) e

  room : (d : ℕ) (ns : List N) (x : N) → suc (length ns) < reach k (suc d) → (length (rest k ns ++ x ∷ []) == k) ≡ true → suc (length (map inner (full k ns))) < reach k d
  room d ns x l e = let w : 0 + length ns ≡ k * length (full k ns) + length (rest k ns) = length-runs k [] ns in
      let f : length (rest k ns ++ x ∷ []) ≡ k = eqb-true _ _ e in
      rw (length-map (full k ns) inner) (below_factor k (suc (length (full k ns))) (reach k d) 0 (omega (arith, length-append (rest k ns) (x ∷ []))))

  -- the levels after one more node are those before it, with one more node
  pub pending-snoc : (d : ℕ) (ns : List N) (x : N) → suc (length ns) < reach k d → pending k inner d (ns ++ x ∷ []) ≡ add k inner x (pending k inner d ns)
  pending-snoc zero ns x l = absurd (omega (arith, l))
  pending-snoc (suc d) ns x l = elim (cases_Bool (length (rest k ns ++ x ∷ []) == k)) [
    | inl e ↦ (ap (λ r. r ∷ pending k inner d (map inner (full k (ns ++ x ∷ [])))) (rest_after-append k [] ns (x ∷ []) ∙ rest_after-whole k (rest k ns) x [] e)
        ∙ ap (λ f. [] ∷ pending k inner d f) (ap (map inner) (full_after-append k [] ns (x ∷ []) ∙ ap (λ f. full k ns ++ f) (full_after-whole k (rest k ns) x [] e)) ∙ map-append inner (full k ns) ((rest k ns ++ x ∷ []) ∷ [])))
        ∙ (ap (λ r. [] ∷ r) (pending-snoc d (map inner (full k ns)) (inner (rest k ns ++ x ∷ [])) (room d ns x l e)) ∙ sym (add-whole x (rest k ns) (pending k inner d (map inner (full k ns))) e))
    | inr e ↦ (ap (λ r. r ∷ pending k inner d (map inner (full k (ns ++ x ∷ [])))) (rest_after-append k [] ns (x ∷ []) ∙ rest_after-more k (rest k ns) x [] e)
        ∙ ap (λ f. (rest k ns ++ x ∷ []) ∷ pending k inner d (map inner f)) (full_after-append k [] ns (x ∷ []) ∙ (ap (λ f. full k ns ++ f) (full_after-more k (rest k ns) x [] e) ∙ append-nil (full k ns))))
        ∙ sym (add-more x (rest k ns) (pending k inner d (map inner (full k ns))) e)
  ]
