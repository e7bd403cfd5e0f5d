-- The children for the nodes of levels, and the law of a child over children.
use Rattle.std.specs.Prelude.{ℕ, ◌+◌, ◌≡◌, ◌<◌, List, [], ◌∷◌, length, map, flat_map}
use Rattle.std.specs.List.{AllByRecursion}
use Rattle.spec_tree.specs.Tree.{Node, size, placed}
use Rattle.spec_tree.specs.Pending.{flat}

-- the children of each level; the pages of the highest level come first, from the given number on
abbrev pub places : {E C : Type 0} → (List E → ℕ → C) → ℕ → List (List (Node E C)) → List (List C)
places child first [] = []
places child first (l ∷ ls) = placed child (first + size (flat ls)) l ∷ places child first ls

-- the child over the children of several parts is the child of all their points
pub record IsChildOver {E C : Type 0} (child : List E → ℕ → C) (over : List C → ℕ → C) : Type 0 where
  pub joins : (parts : List (List E × ℕ)) (number : ℕ) → 0 < length parts → AllByRecursion (λ p. 0 < length p.0) parts
      → over (map (λ p. child p.0 p.1) parts) number ≡ child (flat_map (λ p. p.0) parts) number

-- the box joined with those of the children, one after another
abbrev pub joined_boxes : {B C : Type 0} → (B → B → B) → (C → B) → B → List C → B
joined_boxes join bounds b [] = b
joined_boxes join bounds b (c ∷ cs) = joined_boxes join bounds (join b (bounds c)) cs

-- the child over some children, from the join of their boxes; without children its box is `none`
abbrev pub over_boxes : {B C : Type 0} → B → (B → B → B) → (B → ℕ → C) → (C → B) → List C → ℕ → C
over_boxes none join at bounds [] number = at none number
over_boxes none join at bounds (c ∷ cs) number = at (joined_boxes join bounds (bounds c) cs) number

-- the page numbers of the children rise
abbrev pub Ascend : {C : Type 0} → (C → ℕ) → List C → Type 0
Ascend page [] = Unit {0}
Ascend page (c ∷ []) = Unit {0}
Ascend page (c ∷ d ∷ cs) = (page c < page d) × Ascend page (d ∷ cs)
