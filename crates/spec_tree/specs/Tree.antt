-- The pages of a tree: the points of its views, packed whole.
use Rattle.std.specs.Prelude.{ℕ, suc, ◌+◌, List, [], ◌∷◌, ◌++◌, map, flat_map, sum_by}
use Rattle.spec_tree.specs.Runs.{runs, top}

-- a page before it is coded: the entries of a leaf, or the children of an inner page
pub data Page (E C : Type 0) : Type 0 where
  Leaf : List E → Page E C
  Inner : List C → Page E C

-- a node: all points below it, the number of pages below its own, and the pages of its subtree from a first page number on
pub record Node (E C : Type 0) : Type 0 where
  pub points : List E
  pub below : ℕ
  pub pages : ℕ → List (Page E C)

-- how many pages the nodes have, with those below them
abbrev pub size : {E C : Type 0} → List (Node E C) → ℕ
size ns = sum_by (λ n. suc n.below) ns

-- the pages of nodes side by side, each page after all below it; the first page has the given number
abbrev pub laid : {E C : Type 0} → ℕ → List (Node E C) → List (Page E C)
laid first [] = []
laid first (n ∷ ns) = n.pages first ++ laid (first + suc n.below) ns

-- the node of a leaf
abbrev pub leaf : {E C : Type 0} → List E → Node E C
leaf entries = record { points = entries; below = 0; pages = λ first. Leaf entries ∷ [] }

-- `child` is what an inner page says of a page below it, given all points below that one and its number
module _ {E C : Type 0} (child : List E → ℕ → C) where
  -- the children for nodes side by side; the first page of all has the given number
  abbrev pub placed : ℕ → List (Node E C) → List C
  placed first [] = []
  placed first (n ∷ ns) = child n.points (first + n.below) ∷ placed (first + suc n.below) ns

  -- the node of an inner page: its own page comes last
  abbrev pub inner : List (Node E C) → Node E C
  inner ns = record {
    points = flat_map (λ n. n.points) ns;
    below = size ns;
    pages = λ first. laid first ns ++ Inner (placed first ns) ∷ [];
  }

-- the leaves of a tree: the points of each view, in runs that fill the room for entries of the view's arity
abbrev pub leaves : {E C : Type 0} → (ℕ → ℕ) → List (ℕ × List E) → List (Node E C)
leaves room views = map leaf (flat_map (λ v. runs (room v.0) v.1) views)

-- the pages of a tree of at most twelve levels, from the given page number on; k children fill an inner page
abbrev pub tree : {E C : Type 0} → (List E → ℕ → C) → (ℕ → ℕ) → ℕ → ℕ → List (ℕ × List E) → List (Page E C)
tree child room k first views = laid first (top k (inner child) 11 (leaves room views))

-- the entries of the leaves among these pages, in order
abbrev pub entries_in : {E C : Type 0} → List (Page E C) → List E
entries_in [] = []
entries_in (Leaf es ∷ pages) = es ++ entries_in pages
entries_in (Inner cs ∷ pages) = entries_in pages
