-- What is written at any moment begins the pages of the whole tree.
use Rattle.std.proofs.Common.{◌≡◌, ℕ, Bool, true, false, List, [], ◌∷◌, ◌++◌, length, refl, ap, sym, ◌∙◌, inl, inr, arith, append_assoc, append-nil, ◌≤◌, ◌+◌}
use Rattle.std.specs.Prelude.{◌==◌, option_map}
use Rattle.std.proofs.lemmas.Bool.{cases_Bool, ne_eqb}
use Rattle.spec_tree.specs.Pending.{add, adds, all_empty, pick, finish, settle, flat, total, Orderly}
use Rattle.spec_tree.specs.Tree.{Page, Inner, Node, size, laid, placed, inner}
use Rattle.spec_tree.proofs.Finish.{add-whole, add-more}
use Rattle.spec_tree.proofs.Settle.{settle-whole, settle-more, settle-none, settle-add, flat-empty, close_full-more}
use Rattle.spec_tree.proofs.Pages.{laid-append, laid-close}
use Rattle.spec_tree.proofs.Closing.{below-closed}

-- the pages of the second nodes begin with those of the first
pub record Begins {E C : Type 0} (f : ℕ) (a b : List (Node E C)) : Type 0 where
  pub more : List (Page E C)
  pub is : laid f b ≡ laid f a ++ more

module _ {E C : Type 0} (child : List E → ℕ → C) (k : ℕ) (two : 2 ≤ k) where
  begins-same : (f : ℕ) {a b : List (Node E C)} → a ≡ b → Begins f a b
  begins-same f {a} {b} e = record { more = []; is = ap (laid f) (sym e) ∙ sym (append-nil (laid f a)) }

  begins-then : (f : ℕ) {a b c : List (Node E C)} → Begins f a b → Begins f b c → Begins f a c
  begins-then f {a} {b} {c} p q = record { more = p.more ++ q.more; is = q.is ∙ (ap (λ y. y ++ q.more) p.is ∙ append_assoc (laid f a) p.more q.more) }

  begins-one : (f : ℕ) (a : List (Node E C)) (x : Node E C) → Begins f a (a ++ x ∷ [])
  begins-one f a x = record { more = laid (f + size a) (x ∷ []); is = laid-append f a (x ∷ []) }

  begins-close : (f : ℕ) (a m : List (Node E C)) → Begins f (a ++ m) (a ++ inner child m ∷ [])
  begins-close f a m = record { more = Inner (placed child (f + size a) m) ∷ []; is = laid-close child f a m }

  -- each way on only adds pages
  begins-add : (f : ℕ) (x : Node E C) (ls : List (List (Node E C))) → Begins f (flat ls ++ x ∷ []) (flat (add k (inner child) x ls))
  begins-add f x [] = begins-same f refl
  begins-add f x (l ∷ ls) = elim (cases_Bool (length (l ++ x ∷ []) == k)) [
    | inl w ↦ begins-then f
        (begins-then f (begins-same f (append_assoc (flat ls) l (x ∷ []))) (begins-close f (flat ls) (l ++ x ∷ [])))
        (begins-then f (begins-add f (inner child (l ++ x ∷ [])) ls)
        (begins-same f (sym (append-nil _) ∙ ap flat (sym (add-whole k (inner child) x l ls w)))))
    | inr w ↦ begins-same f (append_assoc (flat ls) l (x ∷ []) ∙ ap flat (sym (add-more k (inner child) x l ls w)))
  ]

  begins-adds : (f : ℕ) (xs : List (Node E C)) (ls : List (List (Node E C))) → Begins f (flat ls) (flat (adds k (inner child) xs ls))
  begins-adds f [] ls = begins-same f refl
  begins-adds f (x ∷ xs) ls = begins-then f (begins-one f (flat ls) x) (begins-then f (begins-add f x ls) (begins-adds f xs (add k (inner child) x ls)))

  begins-finish : (f : ℕ) (c : List (Node E C)) (ls : List (List (Node E C))) → Begins f (flat ls ++ c) (finish k (inner child) c ls)
  begins-finish f c [] = begins-same f refl
  begins-finish f c (l ∷ ls) = begins-then f (begins-same f (append_assoc (flat ls) l c)) (go (l ++ c) (all_empty ls) refl (begins-finish f [] ls) (begins-finish f (inner child (l ++ c) ∷ []) ls))
    where
      go : (m : List (Node E C)) (b : Bool) → all_empty ls ≡ b → Begins f (flat ls ++ []) (finish k (inner child) [] ls) → Begins f (flat ls ++ inner child m ∷ []) (finish k (inner child) (inner child m ∷ []) ls)
          → Begins f (flat ls ++ m) (pick m b (finish k (inner child) [] ls) (finish k (inner child) (inner child m ∷ []) ls))
      go [] b is pass closed = pass
      go (x ∷ []) true is pass closed = begins-same f (ap (λ g. g ++ x ∷ []) (flat-empty k (inner child) two ls is))
      go (x ∷ []) false is pass closed = begins-then f (begins-close f (flat ls) (x ∷ [])) closed
      go (x ∷ y ∷ m) b is pass closed = begins-then f (begins-close f (flat ls) (x ∷ y ∷ m)) closed

  begins-settle : (f : ℕ) (ls : List (List (Node E C))) → Orderly k ls → Begins f (flat ls) (flat (settle k (inner child) [] ls))
  begins-settle f [] o = begins-same f refl
  begins-settle f ([] ∷ ls) o = begins-then f (begins-same f (append-nil (flat ls))) (begins-then f (begins-settle f ls o)
      (begins-same f (sym (append-nil _) ∙ ap flat (sym (settle-more k (inner child) two [] [] ls (ne_eqb 0 k (λ z. omega (arith, z))))))))
  begins-settle f ((x ∷ l) ∷ ls) o = elim (cases_Bool (length (x ∷ l) == k)) [
    | inl w ↦ begins-then f (begins-close f (flat ls) (x ∷ l)) (begins-then f (begins-add f (inner child (x ∷ l)) ls)
        (begins-same f (ap flat (sym (settle-add k (inner child) two (inner child (x ∷ l)) ls (below-closed k two (inner child) ls o.1))) ∙ (sym (append-nil _) ∙ ap flat (sym (settle-whole k (inner child) two [] (x ∷ l) ls (rw (append-nil l) w) ∙ ap (λ m. [] ∷ settle k (inner child) (inner child m ∷ []) ls) (append-nil (x ∷ l))))))))
    | inr w ↦ begins-same f (ap flat (sym (settle-none k (inner child) two ((x ∷ l) ∷ ls) (close_full-more k (inner child) two (x ∷ l) ls w ∙ ap (option_map (λ r. (x ∷ l) ∷ r)) (below-closed k two (inner child) ls o.1)))))
  ]

  -- what is written at any moment begins what will be written in the end
  pub begins-settled : (f : ℕ) (ls : List (List (Node E C))) (leaves : List (Node E C)) → Begins f (flat (settle k (inner child) [] ls)) (total k (inner child) ls leaves)
  begins-settled f ls leaves = begins-then f (begins-adds f leaves (settle k (inner child) [] ls))
      (begins-then f (begins-same f (sym (append-nil _))) (begins-finish f [] (adds k (inner child) leaves (settle k (inner child) [] ls))))

  -- so does what is written before the full levels are closed
  pub begins-total : (f : ℕ) (ls : List (List (Node E C))) (leaves : List (Node E C)) → Orderly k ls → Begins f (flat ls) (total k (inner child) ls leaves)
  begins-total f ls leaves o = begins-then f (begins-settle f ls o) (begins-settled f ls leaves)
