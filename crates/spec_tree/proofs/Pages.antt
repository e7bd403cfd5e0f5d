-- The pages of nodes side by side, and what one more node or a closed level adds to them.
use Rattle.std.proofs.Common.{◌≡◌, ℕ, suc, List, [], ◌∷◌, ◌++◌, length, refl, ap, sym, ◌∙◌, arith, append_assoc, append-nil, ◌+◌, add-zero}
use Rattle.spec_tree.specs.Pending.{push, flat}
use Rattle.std.proofs.lemmas.List.Sums.{sum_by-append, sum_by-cons}
use Rattle.spec_tree.specs.Tree.{Leaf, Inner, Node, size, laid, placed, leaf, inner}

pub size-cons : {E C : Type 0} (n : Node E C) (ns : List (Node E C)) → size (n ∷ ns) ≡ suc n.below + size ns
size-cons n ns = sum_by-cons (λ n. suc n.below) n ns

pub size-append : {E C : Type 0} (a b : List (Node E C)) → size (a ++ b) ≡ size a + size b
size-append a b = sum_by-append (λ n. suc n.below) a b

-- the nodes of the levels, with one more at the end of the lowest
pub flat-push : {N : Type 0} (x : N) (ls : List (List N)) → flat (push x ls) ≡ flat ls ++ x ∷ []
flat-push x [] = refl
flat-push x (l ∷ ls) = sym (append_assoc (flat ls) l (x ∷ []))

module _ {E C : Type 0} where
  pub laid-append : (f : ℕ) (a b : List (Node E C)) → laid f (a ++ b) ≡ laid f a ++ laid (f + size a) b
  laid-append f [] b = ap (λ g. laid g b) (sym (add-zero f))
  laid-append f (n ∷ a) b = ap (λ r. n.pages f ++ r) (laid-append (f + suc n.below) a b ∙ ap (λ g. laid (f + suc n.below) a ++ laid g b) (omega (arith, size-cons n a)))
      ∙ sym (append_assoc (n.pages f) (laid (f + suc n.below) a) (laid (f + size (n ∷ a)) b))

  -- a leaf is one page
  pub laid-leaf : (f : ℕ) (a : List (Node E C)) (es : List E) → laid f (a ++ leaf es ∷ []) ≡ laid f a ++ Leaf es ∷ []
  laid-leaf f a es = laid-append f a (leaf es ∷ [])

module _ {E C : Type 0} (child : List E → ℕ → C) where
  -- a closed level is one page more
  pub size-close : (a m : List (Node E C)) → size (a ++ inner child m ∷ []) ≡ suc (size (a ++ m))
  size-close a m = omega (arith, size-append a (inner child m ∷ []), size-append a m)

  pub placed-append : (f : ℕ) (a b : List (Node E C)) → placed child f (a ++ b) ≡ placed child f a ++ placed child (f + size a) b
  placed-append f [] b = ap (λ g. placed child g b) (sym (add-zero f))
  placed-append f (n ∷ a) b = ap (λ r. child n.points (f + n.below) ∷ r) (placed-append (f + suc n.below) a b ∙ ap (λ g. placed child (f + suc n.below) a ++ placed child g b) (omega (arith, size-cons n a)))

  pub length-placed : (f : ℕ) (a : List (Node E C)) → length (placed child f a) ≡ length a
  length-placed f [] = refl
  length-placed f (n ∷ a) = ap suc (length-placed (f + suc n.below) a)

  -- the page of a closed level comes after all below it
  pub laid-close : (f : ℕ) (a m : List (Node E C)) → laid f (a ++ inner child m ∷ []) ≡ laid f (a ++ m) ++ Inner (placed child (f + size a) m) ∷ []
  laid-close f a m = laid-append f a (inner child m ∷ []) ∙ (ap (λ r. laid f a ++ r) (append-nil _)
      ∙ (sym (append_assoc (laid f a) (laid (f + size a) m) (Inner (placed child (f + size a) m) ∷ [])) ∙ ap (λ r. r ++ Inner (placed child (f + size a) m) ∷ []) (sym (laid-append f a m))))
