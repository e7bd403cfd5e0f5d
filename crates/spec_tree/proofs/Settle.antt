-- Each step of the levels keeps what they will be in the end.
use Rattle.std.proofs.Common.{◌≡◌, ℕ, zero, suc, Bool, true, false, List, [], ◌∷◌, ◌++◌, length, refl, ap, sym, ◌∙◌, inl, inr, arith, append_assoc, append-nil, ◌≤◌, ◌<◌, ◌+◌, length-append, Option, Some, None}
use Rattle.std.specs.Prelude.{◌==◌, option_map}
use Rattle.std.proofs.lemmas.Bool.{cases_Bool, eqb-true, ne_eqb, true≢false}
use Rattle.spec_tree.proofs.Options.{none≢some, some_inj}
use Rattle.spec_tree.specs.Runs.{top}
use Rattle.spec_tree.specs.Counts.{reach}
use Rattle.spec_tree.specs.Pending.{pending, add, adds, all_empty, pick, finish, push, close_full, close_rest, settle, flat, total}
use Rattle.spec_tree.proofs.Finish.{add-whole, add-more, pending-snoc, finish-pending}

module _ {N : Type 0} (k : ℕ) (inner : List N → N) (two : 2 ≤ k) where
  pub settle-whole : (c l : List N) (ls : List (List N)) → (length (l ++ c) == k) ≡ true → settle k inner c (l ∷ ls) ≡ [] ∷ settle k inner (inner (l ++ c) ∷ []) ls
  settle-whole c l ls e = ap (λ (b : Bool). elim b as (λ _. List (List N)) [ true ↦ [] ∷ settle k inner (inner (l ++ c) ∷ []) ls | false ↦ (l ++ c) ∷ settle k inner [] ls ]) e

  pub settle-more : (c l : List N) (ls : List (List N)) → (length (l ++ c) == k) ≡ false → settle k inner c (l ∷ ls) ≡ (l ++ c) ∷ settle k inner [] ls
  settle-more c l ls e = ap (λ (b : Bool). elim b as (λ _. List (List N)) [ true ↦ [] ∷ settle k inner (inner (l ++ c) ∷ []) ls | false ↦ (l ++ c) ∷ settle k inner [] ls ]) e

  pub close_full-whole : (l : List N) (ls : List (List N)) → (length l == k) ≡ true → close_full k inner (l ∷ ls) ≡ Some ([] ∷ push (inner l) ls)
  close_full-whole l ls e = ap (λ (b : Bool). elim b as (λ _. Option (List (List N))) [ true ↦ Some ([] ∷ push (inner l) ls) | false ↦ option_map (λ r. l ∷ r) (close_full k inner ls) ]) e

  pub close_full-more : (l : List N) (ls : List (List N)) → (length l == k) ≡ false → close_full k inner (l ∷ ls) ≡ option_map (λ r. l ∷ r) (close_full k inner ls)
  close_full-more l ls e = ap (λ (b : Bool). elim b as (λ _. Option (List (List N))) [ true ↦ Some ([] ∷ push (inner l) ls) | false ↦ option_map (λ r. l ∷ r) (close_full k inner ls) ]) e

  pub nil_not_full : (length {A = N} [] == k) ≡ false
  nil_not_full = ne_eqb 0 k (λ e. omega (arith, e))

  pub one_not_full : (x : N) → (length (x ∷ []) == k) ≡ false
  one_not_full x = ne_eqb 1 k (λ e. omega (arith, e))

  -- a node put at the lowest level, and what is full closed, is a node that comes as a carry
  pub settle-push : (x : N) (ls : List (List N)) → settle k inner [] (push x ls) ≡ settle k inner (x ∷ []) ls
  settle-push x [] = settle-more [] (x ∷ []) [] (one_not_full x)
  settle-push x (l ∷ ls) = elim (cases_Bool (length (l ++ x ∷ []) == k)) [
    | inl e ↦ settle-whole [] (l ++ x ∷ []) ls (rw (append-nil (l ++ x ∷ [])) e) ∙ (ap (λ m. [] ∷ settle k inner (inner m ∷ []) ls) (append-nil (l ++ x ∷ [])) ∙ sym (settle-whole (x ∷ []) l ls e))
    | inr e ↦ settle-more [] (l ++ x ∷ []) ls (rw (append-nil (l ++ x ∷ [])) e) ∙ (ap (λ m. m ∷ settle k inner [] ls) (append-nil (l ++ x ∷ [])) ∙ sym (settle-more (x ∷ []) l ls e))
  ]

  -- none full: nothing is closed
  pub tail-none : (l : List N) (ls : List (List N)) → close_full k inner (l ∷ ls) ≡ None → ((length l == k) ≡ false) × (close_full k inner ls ≡ None)
  tail-none l ls e = elim (cases_Bool (length l == k)) [
    | inl w ↦ absurd (none≢some _ (sym e ∙ close_full-whole l ls w))
    | inr w ↦ (w, tail_is (close_full k inner ls) (sym (close_full-more l ls w) ∙ e))
  ]
    where
      tail_is : (o : Option (List (List N))) → option_map (λ r. l ∷ r) o ≡ None → o ≡ None
      tail_is None f = refl
      tail_is (Some r) f = absurd (none≢some _ (sym f))

  pub settle-none : (ls : List (List N)) → close_full k inner ls ≡ None → settle k inner [] ls ≡ ls
  settle-none [] e = refl
  settle-none (l ∷ ls) e = settle-more [] l ls (rw (append-nil l) (tail-none l ls e).0) ∙ (ap (λ m. m ∷ settle k inner [] ls) (append-nil l) ∙ ap (λ r. l ∷ r) (settle-none ls (tail-none l ls e).1))

  pub settle-add : (x : N) (ls : List (List N)) → close_full k inner ls ≡ None → settle k inner (x ∷ []) ls ≡ add k inner x ls
  settle-add x [] e = refl
  settle-add x (l ∷ ls) e = elim (cases_Bool (length (l ++ x ∷ []) == k)) [
    | inl w ↦ settle-whole (x ∷ []) l ls w ∙ (ap (λ r. [] ∷ r) (settle-add (inner (l ++ x ∷ [])) ls (tail-none l ls e).1) ∙ sym (add-whole k inner x l ls w))
    | inr w ↦ settle-more (x ∷ []) l ls w ∙ (ap (λ r. (l ++ x ∷ []) ∷ r) (settle-none ls (tail-none l ls e).1) ∙ sym (add-more k inner x l ls w))
  ]

  -- closing a full level leaves what the levels settle to
  pub settle-close_full : (ls after : List (List N)) → close_full k inner ls ≡ Some after → settle k inner [] after ≡ settle k inner [] ls
  settle-close_full [] after e = absurd (none≢some _ e)
  settle-close_full (l ∷ ls) after e = elim (cases_Bool (length l == k)) [
    | inl w ↦ ap (settle k inner []) (sym (some_inj ls _ _ (sym (close_full-whole l ls w) ∙ e))) ∙ (settle-more [] [] (push (inner l) ls) nil_not_full
        ∙ (ap (λ r. [] ∷ r) (settle-push (inner l) ls) ∙ sym (settle-whole [] l ls (rw (append-nil l) w) ∙ ap (λ m. [] ∷ settle k inner (inner m ∷ []) ls) (append-nil l))))
    | inr w ↦ later (close_full k inner ls) refl (sym (close_full-more l ls w) ∙ e) (settle-close_full ls) w
  ]
    where
      later : (o : Option (List (List N))) → close_full k inner ls ≡ o → option_map (λ r. l ∷ r) o ≡ Some after
          → ((a : List (List N)) → close_full k inner ls ≡ Some a → settle k inner [] a ≡ settle k inner [] ls) → (length l == k) ≡ false
          → settle k inner [] after ≡ settle k inner [] (l ∷ ls)
      later None is f below w = absurd (none≢some _ f)
      later (Some r) is f below w = ap (settle k inner []) (sym (some_inj ls _ _ f)) ∙ (settle-more [] l r (rw (append-nil l) w)
          ∙ (ap (λ s. (l ++ []) ∷ s) (below r is) ∙ sym (settle-more [] l ls (rw (append-nil l) w))))

  -- finishing after one more node is finishing with that node as the carry
  pub finish-add : (x : N) (ls : List (List N)) → finish k inner [] (add k inner x ls) ≡ finish k inner (x ∷ []) ls
  finish-add x [] = refl
  finish-add x (l ∷ ls) = elim (cases_Bool (length (l ++ x ∷ []) == k)) [
    | inl w ↦ ap (finish k inner []) (add-whole k inner x l ls w) ∙ (finish-add (inner (l ++ x ∷ [])) ls
        ∙ sym (pick-many (l ++ x ∷ []) (all_empty ls) (finish k inner [] ls) (finish k inner (inner (l ++ x ∷ []) ∷ []) ls) (let f : length (l ++ x ∷ []) ≡ k = eqb-true _ _ w in omega arith)))
    | inr w ↦ ap (finish k inner []) (add-more k inner x l ls w) ∙ ap (λ m. pick m (all_empty ls) (finish k inner [] ls) (finish k inner (inner m ∷ []) ls)) (append-nil (l ++ x ∷ []))
  ]
    where
      pick-many : (m : List N) (b : Bool) (p c : List N) → 2 ≤ length m → pick m b p c ≡ c
      pick-many [] b p c h = absurd (omega (arith, h))
      pick-many (y ∷ []) b p c h = absurd (omega (arith, h))
      pick-many (y ∷ z ∷ m) b p c h = refl

  -- the level of l is closed under levels of which none is full
  close_level : (l : List N) (ls : List (List N)) → close_full k inner ls ≡ None
      → finish k inner [] (settle k inner [] ([] ∷ push (inner l) ls)) ≡ finish k inner (inner l ∷ []) ls
  close_level l ls none = ap (finish k inner []) (settle-more [] [] (push (inner l) ls) nil_not_full) ∙ (ap (finish k inner []) (settle-push (inner l) ls ∙ settle-add (inner l) ls none) ∙ finish-add (inner l) ls)

  -- closing a level after the last leaf leaves what the finish will be
  pub finish-close_rest : (ls after : List (List N)) → close_full k inner ls ≡ None → close_rest k inner ls ≡ Some after
      → finish k inner [] (settle k inner [] after) ≡ finish k inner [] ls
  finish-close_rest [] after none e = absurd (none≢some _ e)
  finish-close_rest ([] ∷ ls) after none e = later (close_rest k inner ls) refl e (λ a. finish-close_rest ls a (tail-none [] ls none).1)
    where
      later : (o : Option (List (List N))) → close_rest k inner ls ≡ o → option_map (λ r. [] ∷ r) o ≡ Some after
          → ((a : List (List N)) → close_rest k inner ls ≡ Some a → finish k inner [] (settle k inner [] a) ≡ finish k inner [] ls)
          → finish k inner [] (settle k inner [] after) ≡ finish k inner [] ([] ∷ ls)
      later None is f below = absurd (none≢some _ f)
      later (Some r) is f below = ap (λ a. finish k inner [] (settle k inner [] a)) (sym (some_inj ls _ _ f)) ∙ (ap (finish k inner []) (settle-more [] [] r nil_not_full) ∙ below r is)
  finish-close_rest ((x ∷ []) ∷ ls) after none e = by_rest (all_empty ls) refl e
    where
      by_rest : (b : Bool) → all_empty ls ≡ b → elim b as (λ _. Option (List (List N))) [ true ↦ None | false ↦ Some ([] ∷ push (inner (x ∷ [])) ls) ] ≡ Some after
          → finish k inner [] (settle k inner [] after) ≡ finish k inner [] ((x ∷ []) ∷ ls)
      by_rest true is f = absurd (none≢some _ f)
      by_rest false is f = ap (λ a. finish k inner [] (settle k inner [] a)) (sym (some_inj ls _ _ f)) ∙ (close_level (x ∷ []) ls (tail-none (x ∷ []) ls none).1
          ∙ sym (ap (λ b. pick (x ∷ []) b (finish k inner [] ls) (finish k inner (inner (x ∷ []) ∷ []) ls)) is))
  finish-close_rest ((x ∷ y ∷ m) ∷ ls) after none e = ap (λ a. finish k inner [] (settle k inner [] a)) (sym (some_inj ls _ _ e))
      ∙ (close_level (x ∷ y ∷ m) ls (tail-none (x ∷ y ∷ m) ls none).1 ∙ ap (λ n. finish k inner (inner n ∷ []) ls) (sym (append-nil (x ∷ y ∷ m))))

  -- nothing is left to close: the levels hold the top, or nothing
  pub flat-empty : (ls : List (List N)) → all_empty ls ≡ true → flat ls ≡ []
  flat-empty [] e = refl
  flat-empty ([] ∷ ls) e = ap (λ f. f ++ []) (flat-empty ls e)
  flat-empty ((x ∷ l) ∷ ls) e = absurd (true≢false (sym e))

  pub finish-done : (ls : List (List N)) → close_rest k inner ls ≡ None → finish k inner [] ls ≡ flat ls
  finish-done [] e = refl
  finish-done ([] ∷ ls) e = later (close_rest k inner ls) refl e (finish-done ls)
    where
      later : (o : Option (List (List N))) → close_rest k inner ls ≡ o → option_map (λ r. [] ∷ r) o ≡ None → (close_rest k inner ls ≡ None → finish k inner [] ls ≡ flat ls) → finish k inner [] ls ≡ flat ls ++ []
      later None is f below = below is ∙ sym (append-nil (flat ls))
      later (Some r) is f below = absurd (none≢some _ (sym f))
  finish-done ((x ∷ []) ∷ ls) e = by_rest (all_empty ls) refl e
    where
      by_rest : (b : Bool) → all_empty ls ≡ b → elim b as (λ _. Option (List (List N))) [ true ↦ None | false ↦ Some ([] ∷ push (inner (x ∷ [])) ls) ] ≡ None
          → pick (x ∷ []) (all_empty ls) (finish k inner [] ls) (finish k inner (inner (x ∷ []) ∷ []) ls) ≡ flat ls ++ x ∷ []
      by_rest true is f = ap (λ b. pick (x ∷ []) b (finish k inner [] ls) (finish k inner (inner (x ∷ []) ∷ []) ls)) is ∙ ap (λ g. g ++ x ∷ []) (sym (flat-empty ls is))
      by_rest false is f = absurd (none≢some _ (sym f))
  finish-done ((x ∷ y ∷ m) ∷ ls) e = absurd (none≢some _ (sym e))

  -- ---- what the levels will be in the end stays the same when

  -- a full level is closed
  pub total-full : (ls after : List (List N)) (leaves : List N) → close_full k inner ls ≡ Some after → total k inner after leaves ≡ total k inner ls leaves
  total-full ls after leaves e = ap (λ s. finish k inner [] (adds k inner leaves s)) (settle-close_full ls after e)

  -- a leaf is written, which was the next of the leaves to come
  pub total-leaf : (ls : List (List N)) (x : N) (leaves : List N) → close_full k inner ls ≡ None → total k inner (push x ls) leaves ≡ total k inner ls (x ∷ leaves)
  total-leaf ls x leaves none = ap (λ s. finish k inner [] (adds k inner leaves s)) (settle-push x ls ∙ (settle-add x ls none ∙ ap (add k inner x) (sym (settle-none ls none))))

  -- after the last leaf a level is closed
  pub total-rest : (ls after : List (List N)) → close_full k inner ls ≡ None → close_rest k inner ls ≡ Some after → total k inner after [] ≡ total k inner ls []
  total-rest ls after none e = finish-close_rest ls after none e ∙ ap (finish k inner []) (sym (settle-none ls none))

  -- where nothing is left to be closed, it is what the levels hold
  pub total-done : (ls : List (List N)) → close_full k inner ls ≡ None → close_rest k inner ls ≡ None → total k inner ls [] ≡ flat ls
  total-done ls none e = ap (finish k inner []) (settle-none ls none) ∙ finish-done ls e

  -- at the start it is the whole packing
  adds-pending : (d : ℕ) (ns xs : List N) → length ns + length xs < reach k d → adds k inner xs (pending k inner d ns) ≡ pending k inner d (ns ++ xs)
  adds-pending d ns [] l = ap (pending k inner d) (sym (append-nil ns))
  adds-pending d ns (x ∷ xs) l = ap (adds k inner xs) (sym (pending-snoc k inner d ns x (omega arith)))
      ∙ (adds-pending d (ns ++ x ∷ []) xs (omega (arith, length-append ns (x ∷ []))) ∙ ap (pending k inner d) (append_assoc ns (x ∷ []) xs))

  pending-none : (d : ℕ) → close_full k inner (pending k inner d []) ≡ None
  pending-none zero = refl
  pending-none (suc d) = close_full-more [] (pending k inner d []) nil_not_full ∙ ap (option_map (λ r. [] ∷ r)) (pending-none d)

  -- before the first leaf it is the top over all leaves
  pub total-start : (d : ℕ) (leaves : List N) → length leaves < reach k d → total k inner (pending k inner d []) leaves ≡ top k inner d leaves
  total-start d leaves l = ap (λ s. finish k inner [] (adds k inner leaves s)) (settle-none (pending k inner d []) (pending-none d))
      ∙ (ap (finish k inner []) (adds-pending d [] leaves (omega arith)) ∙ (finish-pending k inner d leaves [] two l (omega arith) ∙ ap (top k inner d) (append-nil leaves)))
