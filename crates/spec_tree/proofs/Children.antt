-- Levels of children go as the levels of the nodes that they stand for.
use Rattle.std.proofs.Common.{◌≡◌, ℕ, zero, suc, Bool, List, [], ◌∷◌, ◌++◌, length, map, refl, ap, sym, ◌∙◌, arith, append-nil, ◌<◌, ◌+◌, length-append, subst, None, replicate}
use Rattle.std.specs.Prelude.{nat_lt, if◌then◌else◌, ◌==◌, flat_map, set}
use Rattle.std.proofs.lemmas.Bool.{true≢false}
use Rattle.spec_tree.specs.Pending.{push, flat}
use Rattle.std.specs.List.{AllByRecursion}
use Rattle.std.proofs.lemmas.List.{length-set}
use Rattle.spec_tree.specs.Tree.{Inner, Node, size, laid, placed, inner}
use Rattle.spec_tree.specs.Children.{places, IsChildOver}
use Rattle.spec_tree.specs.Levels.{full_level, held_from, count_children, rest_level, children_at, closed}
use Rattle.spec_tree.proofs.Closing.{lowest_from, has_children, full-from, held-from, IsFirst, lowest-same, is_full_level, closed-suc}
use Rattle.spec_tree.proofs.Pages.{size-append, size-close, laid-close, placed-append, length-placed, flat-push}

-- all nodes have points below them
abbrev pub Hold : {E C : Type 0} → List (Node E C) → Type 0
Hold ns = AllByRecursion (λ n. 0 < length n.points) ns

module _ {E C : Type 0} (child : List E → ℕ → C) where
  -- ---- the same levels are found

  pub length-places : (f : ℕ) (ls : List (List (Node E C))) → length (places child f ls) ≡ length ls
  length-places f [] = refl
  length-places f (l ∷ ls) = ap suc (length-places f ls)

  lowest-places : (p : List C → Bool) (q : List (Node E C) → Bool) → ((g : ℕ) (l : List (Node E C)) → p (placed child g l) ≡ q l)
      → (f i : ℕ) (ls : List (List (Node E C))) → lowest_from p i (places child f ls) ≡ lowest_from q i ls
  lowest-places p q same f i [] = refl
  lowest-places p q same f i (l ∷ ls) = lowest-same p q i (places child f ls) ls (placed child (f + size (flat ls)) l) l (same (f + size (flat ls)) l) (lowest-places p q same f (i + 1) ls)

  -- the same level is full
  pub full-places : (k f : ℕ) (ls : List (List (Node E C))) → full_level k (places child f ls) ≡ full_level k ls
  full-places k f ls =
      full-from k 0 (places child f ls)
      ∙ (lowest-places (is_full_level k) (is_full_level k) (λ g l. ap (λ n. n == k) (length-placed child g l)) f 0 ls ∙ sym (full-from k 0 ls))

  has-placed : (g : ℕ) (l : List (Node E C)) → has_children (placed child g l) ≡ has_children l
  has-placed g [] = refl
  has-placed g (n ∷ l) = refl

  held-places : (f : ℕ) (ls : List (List (Node E C))) → held_from 0 (places child f ls) ≡ held_from 0 ls
  held-places f ls = held-from 0 (places child f ls) ∙ (lowest-places has_children has_children has-placed f 0 ls ∙ sym (held-from 0 ls))

  count-places : (f : ℕ) (ls : List (List (Node E C))) → count_children (places child f ls) ≡ count_children ls
  count-places f [] = refl
  count-places f (l ∷ ls) = (λ i. length-placed child (f + size (flat ls)) l i + count-places f ls i)

  -- the same level is closed after the last leaf
  pub rest-places : (f : ℕ) (ls : List (List (Node E C))) → rest_level (places child f ls) ≡ rest_level ls
  rest-places f ls = (λ i. if nat_lt (count-places f ls i) 2 then None else held-places f ls i)

  pub children-places : (f j : ℕ) (ls : List (List (Node E C))) → length (children_at j (places child f ls)) ≡ length (children_at j ls)
  children-places f j [] = refl
  children-places f zero (l ∷ ls) = length-placed child (f + size (flat ls)) l
  children-places f (suc j) (l ∷ ls) = children-places f j ls

  -- ---- one node more

  pub push-places : (f : ℕ) (x : Node E C) (ls : List (List (Node E C))) → places child f (push x ls) ≡ push (child x.points (f + size (flat ls) + x.below)) (places child f ls)
  push-places f x [] = refl
  push-places f x (l ∷ ls) = ap (λ c. c ∷ places child f ls) (placed-append child (f + size (flat ls)) l (x ∷ [])
      ∙ ap (λ z. placed child (f + size (flat ls)) l ++ child x.points z ∷ []) (omega (arith, size-append (flat ls) l)))

  -- ---- a level closed

  -- the points and the page number of each node
  abbrev parts : ℕ → List (Node E C) → List (List E × ℕ)
  parts f [] = []
  parts f (n ∷ ns) = (n.points, f + n.below) ∷ parts (f + suc n.below) ns

  placed-parts : (f : ℕ) (ns : List (Node E C)) → placed child f ns ≡ map (λ p. child p.0 p.1) (parts f ns)
  placed-parts f [] = refl
  placed-parts f (n ∷ ns) = ap (λ r. child n.points (f + n.below) ∷ r) (placed-parts (f + suc n.below) ns)

  points-parts : (f : ℕ) (ns : List (Node E C)) → flat_map (λ p. p.0) (parts f ns) ≡ flat_map (λ n. n.points) ns
  points-parts f [] = refl
  points-parts f (n ∷ ns) = ap (λ r. n.points ++ r) (points-parts (f + suc n.below) ns)

  parts-hold : (f : ℕ) (ns : List (Node E C)) → Hold ns → AllByRecursion (λ p. 0 < length p.0) (parts f ns)
  parts-hold f [] h = tt
  parts-hold f (n ∷ ns) h = (h.0, parts-hold (f + suc n.below) ns h.1)

  over-placed : (over : List C → ℕ → C) → IsChildOver child over → (f number : ℕ) (x : Node E C) (l : List (Node E C)) → Hold (x ∷ l)
      → over (placed child f (x ∷ l)) number ≡ child (flat_map (λ n. n.points) (x ∷ l)) number
  over-placed over law f number x l h = ap (λ cs. over cs number) (placed-parts f (x ∷ l))
      ∙ (law.joins (parts f (x ∷ l)) number (omega arith) (parts-hold f (x ∷ l) h) ∙ ap (λ es. child es number) (points-parts f (x ∷ l)))

  abbrev After : (List C → ℕ → C) → ℕ → ℕ → ℕ → List (List (Node E C)) → Type 0
  After over f number i ls = closed (λ cs. over cs number) i (places child f ls) ≡ places child f (closed (inner child) i ls)

  -- closing a level of children is closing that of the nodes, where the page is the next one
  pub closed-places : (over : List C → ℕ → C) → IsChildOver child over → (f number i : ℕ) (ls : List (List (Node E C))) → number ≡ f + size (flat ls)
      → IsFirst has_children i ls → i + 1 < length ls → AllByRecursion Hold ls → After over f number i ls
  closed-places over law f number i [] e p l h = absurd p
  closed-places over law f number zero (m ∷ []) e p l h = absurd (omega (arith, l))
  closed-places over law f number zero ([] ∷ m ∷ ls) e p l h = absurd (true≢false (sym p))
  closed-places over law f number zero ((x ∷ n) ∷ m ∷ ls) e p l h =
      ap (λ c. [] ∷ (placed child (f + size (flat ls)) m ++ c ∷ []) ∷ places child f ls) (over-placed over law (f + size (flat (m ∷ ls))) number x n h.0 ∙ ap (child (flat_map (λ n. n.points) (x ∷ n))) (e ∙ at))
      ∙ ap (λ r. [] ∷ r) (sym (push-places f (inner child (x ∷ n)) (m ∷ ls)))
    where
      at : f + size (flat ((x ∷ n) ∷ m ∷ ls)) ≡ f + size (flat (m ∷ ls)) + size (x ∷ n)
      at = omega (arith, size-append (flat (m ∷ ls)) (x ∷ n))
  closed-places over law f number (suc i) ([] ∷ ls) e p l h = closed-suc (λ cs. over cs number) i [] (places child f ls)
      ∙ (ap (λ r. [] ∷ r) (closed-places over law f number i ls (e ∙ ap (λ z. f + size z) (append-nil (flat ls))) p.1 (omega (arith, l)) h.1) ∙ ap (places child f) (sym (closed-suc (inner child) i [] ls)))
  closed-places over law f number (suc i) ((x ∷ m) ∷ ls) e p l h = absurd (true≢false p.0)

  -- the page of the level comes after those that are written
  pub closed-laid : (f i : ℕ) (ls : List (List (Node E C))) → IsFirst has_children i ls → i + 1 < length ls
      → laid f (flat (closed (inner child) i ls)) ≡ laid f (flat ls) ++ Inner (children_at i (places child f ls)) ∷ []
  closed-laid f i [] p l = absurd p
  closed-laid f zero (m ∷ []) p l = absurd (omega (arith, l))
  closed-laid f zero (n ∷ m ∷ ls) p l = ap (laid f) (append-nil (flat (push (inner child n) (m ∷ ls))) ∙ flat-push (inner child n) (m ∷ ls)) ∙ laid-close child f (flat (m ∷ ls)) n
  closed-laid f (suc i) ([] ∷ ls) p l = ap (λ r. laid f (flat r)) (closed-suc (inner child) i [] ls) ∙ (ap (laid f) (append-nil (flat (closed (inner child) i ls)))
      ∙ (closed-laid f i ls p.1 (omega (arith, l)) ∙ ap (λ z. laid f z ++ Inner (children_at i (places child f ls)) ∷ []) (sym (append-nil (flat ls)))))
  closed-laid f (suc i) ((x ∷ m) ∷ ls) p l = absurd (true≢false p.0)

  pub closed-size : (i : ℕ) (ls : List (List (Node E C))) → IsFirst has_children i ls → i + 1 < length ls → size (flat (closed (inner child) i ls)) ≡ suc (size (flat ls))
  closed-size i [] p l = absurd p
  closed-size zero (m ∷ []) p l = absurd (omega (arith, l))
  closed-size zero (n ∷ m ∷ ls) p l = ap size (append-nil (flat (push (inner child n) (m ∷ ls))) ∙ flat-push (inner child n) (m ∷ ls)) ∙ size-close child (flat (m ∷ ls)) n
  closed-size (suc i) ([] ∷ ls) p l = ap (λ r. size (flat r)) (closed-suc (inner child) i [] ls) ∙ (ap size (append-nil (flat (closed (inner child) i ls)))
      ∙ (closed-size i ls p.1 (omega (arith, l)) ∙ ap (λ z. suc (size z)) (sym (append-nil (flat ls)))))
  closed-size (suc i) ((x ∷ m) ∷ ls) p l = absurd (true≢false p.0)

  pub hold-none : (d : ℕ) → AllByRecursion (Hold {E = E} {C = C}) (replicate d [])
  hold-none zero = tt
  hold-none (suc d) = (tt, hold-none d)

  hold-more : (l : List (Node E C)) (x : Node E C) → Hold l → 0 < length x.points → Hold (l ++ x ∷ [])
  hold-more [] x h p = (p, tt)
  hold-more (y ∷ l) x h p = (h.0, hold-more l x h.1 p)

  pub hold-push : (x : Node E C) (ls : List (List (Node E C))) → 0 < length x.points → AllByRecursion Hold ls → AllByRecursion Hold (push x ls)
  hold-push x [] p h = ((p, tt), tt)
  hold-push x (l ∷ ls) p h = (hold-more l x h.0 p, h.1)

  pub hold-closed : (i : ℕ) (ls : List (List (Node E C))) → IsFirst has_children i ls → i + 1 < length ls → AllByRecursion Hold ls → AllByRecursion Hold (closed (inner child) i ls)
  hold-closed i [] p l h = absurd p
  hold-closed zero (m ∷ []) p l h = absurd (omega (arith, l))
  hold-closed zero ([] ∷ m ∷ ls) p l h = absurd (true≢false (sym p))
  hold-closed zero ((x ∷ n) ∷ m ∷ ls) p l h = (tt, hold-push (inner child (x ∷ n)) (m ∷ ls) (let z : 0 < length x.points = h.0.0 in omega (arith, z, length-append x.points (flat_map (λ n. n.points) n))) h.1)
  hold-closed (suc i) ([] ∷ ls) p l h = subst (AllByRecursion Hold) (sym (closed-suc (inner child) i [] ls)) (tt, hold-closed i ls p.1 (omega (arith, l)) h.1)
  hold-closed (suc i) ((x ∷ m) ∷ ls) p l h = absurd (true≢false p.0)

-- levels are neither added nor taken away
pub length-closed : {N : Type 0} (over : List N → N) (i : ℕ) (ls : List (List N)) → length (closed over i ls) ≡ length ls
length-closed over i ls = length-set (set ls i []) (i + 1) _ ∙ length-set ls i []

pub length-push : {N : Type 0} (x : N) (ls : List (List N)) → 0 < length ls → length (push x ls) ≡ length ls
length-push x [] l = absurd (omega (arith, l))
length-push x (l ∷ ls) h = refl
