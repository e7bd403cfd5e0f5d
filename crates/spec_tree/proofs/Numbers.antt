-- The page numbers of the children that a packer holds: they rise within a level, and all come before the next page.
use Rattle.std.proofs.Common.{◌≡◌, ℕ, zero, suc, List, [], ◌∷◌, length, sym, arith, ◌≤◌, ◌<◌, ◌+◌, subst, le_of_eq}
use Rattle.spec_tree.specs.Pending.{flat}
use Rattle.std.specs.List.{AllByRecursion}
use Rattle.spec_tree.specs.Tree.{Page, Node, size, placed}
use Rattle.spec_tree.specs.Children.{places, IsChildOver, Ascend}
use Rattle.spec_tree.specs.Levels.{children_at}
use Rattle.spec_tree.specs.Packing.{State}
use Rattle.spec_tree.proofs.Pages.{size-cons, size-append}
use Rattle.spec_tree.proofs.Children.{Hold}
use Rattle.spec_tree.proofs.Packing.{StandsAt}

module _ {E C : Type 0} (child : List E → ℕ → C) (page : C → ℕ) (numbers : (es : List E) (n : ℕ) → page (child es n) ≡ n) where
  placed-below : (f m : ℕ) (ns : List (Node E C)) → f + size ns ≤ m → AllByRecursion (λ c. page c < m) (placed child f ns)
  placed-below f m [] l = tt
  placed-below f m (n ∷ ns) l = (omega (arith, l, size-cons n ns, numbers n.points (f + n.below)), placed-below (f + suc n.below) m ns (omega (arith, l, size-cons n ns)))

  placed-rises : (f : ℕ) (ns : List (Node E C)) → Ascend page (placed child f ns)
  placed-rises f [] = tt
  placed-rises f (n ∷ []) = tt
  placed-rises f (n ∷ m ∷ ns) = (omega (arith, numbers n.points (f + n.below), numbers m.points (f + suc n.below + m.below)), placed-rises (f + suc n.below) (m ∷ ns))

  level-below : (f m j : ℕ) (ls : List (List (Node E C))) → f + size (flat ls) ≤ m → AllByRecursion (λ c. page c < m) (children_at j (places child f ls))
  level-below f m j [] l = tt
  level-below f m zero (x ∷ ls) l = placed-below (f + size (flat ls)) m x (omega (arith, l, size-append (flat ls) x))
  level-below f m (suc j) (x ∷ ls) l = level-below f m j ls (omega (arith, l, size-append (flat ls) x))

  level-rises : (f j : ℕ) (ls : List (List (Node E C))) → Ascend page (children_at j (places child f ls))
  level-rises f j [] = tt
  level-rises f zero (x ∷ ls) = placed-rises (f + size (flat ls)) x
  level-rises f (suc j) (x ∷ ls) = level-rises f j ls

module _ {E C : Type 0} (child : List E → ℕ → C) (P : C → Type 0) (good : (es : List E) (n : ℕ) → 0 < length es → P (child es n)) where
  placed-good : (f : ℕ) (ns : List (Node E C)) → Hold ns → AllByRecursion P (placed child f ns)
  placed-good f [] h = tt
  placed-good f (n ∷ ns) h = (good n.points (f + n.below) h.0, placed-good (f + suc n.below) ns h.1)

  level-good : (f j : ℕ) (ls : List (List (Node E C))) → AllByRecursion Hold ls → AllByRecursion P (children_at j (places child f ls))
  level-good f j [] h = tt
  level-good f zero (x ∷ ls) h = placed-good (f + size (flat ls)) x h.0
  level-good f (suc j) (x ∷ ls) h = level-good f j ls h.1

module _ {E C : Type 0} (arity : E → ℕ) (room : ℕ → ℕ) (k : ℕ) (two : 2 ≤ k) (child : List E → ℕ → C) (over : List C → ℕ → C) (law : IsChildOver child over) (first : ℕ) (entries : List E) where
  abbrev AtLevel : State E C → (List C → Type 0) → Type 0
  AtLevel t P = (j : ℕ) → P (children_at j t.levels)

  -- no child has the number of the next page or a later one
  pub packs-below : (page : C → ℕ) → ((es : List E) (n : ℕ) → page (child es n) ≡ n) → {pages : List (Page E C)} {t : State E C}
      → StandsAt arity room k two child over law first entries pages t → AtLevel t (λ cs. AllByRecursion (λ c. page c < t.next_page) cs)
  packs-below page numbers {t = t} s j = subst (λ ls. AllByRecursion (λ c. page c < t.next_page) (children_at j ls)) (sym s.levels) (level-below child page numbers first t.next_page j s.nodes (le_of_eq (sym s.next)))

  -- within a level the numbers rise
  pub packs-rises : (page : C → ℕ) → ((es : List E) (n : ℕ) → page (child es n) ≡ n) → {pages : List (Page E C)} {t : State E C}
      → StandsAt arity room k two child over law first entries pages t → AtLevel t (Ascend page)
  packs-rises page numbers s j = subst (λ ls. Ascend page (children_at j ls)) (sym s.levels) (level-rises child page numbers first j s.nodes)

  -- what holds of the child of any points holds of all children
  pub packs-good : (P : C → Type 0) → ((es : List E) (n : ℕ) → 0 < length es → P (child es n)) → {pages : List (Page E C)} {t : State E C}
      → StandsAt arity room k two child over law first entries pages t → AtLevel t (AllByRecursion P)
  packs-good P good s j = subst (λ ls. AllByRecursion P (children_at j ls)) (sym s.levels) (level-good child P good first j s.nodes s.hold)
