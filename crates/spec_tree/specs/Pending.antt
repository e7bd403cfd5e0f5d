-- What the levels of a packer hold after a list of nodes, as a function of that list, and what becomes of them: definitions for the proofs.
use Rattle.std.specs.Prelude.{ℕ, zero, suc, Bool, true, false, ◌==◌, List, [], ◌∷◌, ◌++◌, length, map, Option, Some, None, option_map, ◌≤◌, ◌<◌, ◌+◌, ◌*◌}
use Rattle.spec_tree.specs.Runs.{rest, full, short}

-- the nodes of all levels in the order of their pages: the highest level first
abbrev pub flat : {N : Type 0} → List (List N) → List N
flat [] = []
flat (l ∷ ls) = flat ls ++ l

-- no level holds a node
abbrev pub all_empty : {N : Type 0} → List (List N) → Bool
all_empty [] = true
all_empty ([] ∷ ls) = all_empty ls
all_empty ((x ∷ l) ∷ ls) = false

-- a node appended to the lowest level
abbrev pub push : {N : Type 0} → N → List (List N) → List (List N)
push x [] = (x ∷ []) ∷ []
push x (l ∷ ls) = (l ++ x ∷ []) ∷ ls

-- what becomes of a level that holds these nodes: go on past it, stop at its only node, or go on after it is closed
abbrev pub pick : {N : Type 0} → List N → Bool → List N → List N → List N
pick [] empty_above past closed = past
pick (x ∷ []) true past closed = x ∷ []
pick (x ∷ []) false past closed = closed
pick (x ∷ y ∷ m) empty_above past closed = closed

module _ {N : Type 0} (k : ℕ) (inner : List N → N) where
  -- the levels after these nodes: at each level, lowest first, the nodes that are under no other node yet
  abbrev pub pending : ℕ → List N → List (List N)
  pending zero ns = []
  pending (suc d) ns = rest k ns ∷ pending d (map inner (full k ns))

  -- one more node at the lowest level; each level that it makes full is closed
  abbrev pub add : N → List (List N) → List (List N)
  add x [] = (x ∷ []) ∷ []
  add x (l ∷ ls) = elim (length (l ++ x ∷ []) == k) [
    | true ↦ [] ∷ add (inner (l ++ x ∷ [])) ls
    | false ↦ (l ++ x ∷ []) ∷ ls
  ]

  -- more nodes, one after another
  abbrev pub adds : List N → List (List N) → List (List N)
  adds [] ls = ls
  adds (x ∷ xs) ls = adds xs (add x ls)

  -- the levels closed from the lowest up, until one node is left; `carry` is the node of the level below
  abbrev pub finish : List N → List (List N) → List N
  finish carry [] = carry
  finish carry (l ∷ ls) = pick (l ++ carry) (all_empty ls) (finish [] ls) (finish (inner (l ++ carry) ∷ []) ls)

  -- the lowest full level closed
  abbrev pub close_full : List (List N) → Option (List (List N))
  close_full [] = None
  close_full (l ∷ ls) = elim (length l == k) [
    | true ↦ Some ([] ∷ push (inner l) ls)
    | false ↦ option_map (λ r. l ∷ r) (close_full ls)
  ]

  -- the lowest level that holds a node closed, unless that node is the only one
  abbrev pub close_rest : List (List N) → Option (List (List N))
  close_rest [] = None
  close_rest ([] ∷ ls) = option_map (λ r. [] ∷ r) (close_rest ls)
  close_rest ((x ∷ []) ∷ ls) = elim (all_empty ls) [ true ↦ None | false ↦ Some ([] ∷ push (inner (x ∷ [])) ls) ]
  close_rest ((x ∷ y ∷ m) ∷ ls) = Some ([] ∷ push (inner (x ∷ y ∷ m)) ls)

  -- all full levels closed, from the lowest up, after `carry` came to the lowest
  abbrev pub settle : List N → List (List N) → List (List N)
  settle carry [] = short carry
  settle carry (l ∷ ls) = elim (length (l ++ carry) == k) [
    | true ↦ [] ∷ settle (inner (l ++ carry) ∷ []) ls
    | false ↦ (l ++ carry) ∷ settle [] ls
  ]

  -- what the levels become in the end: full levels are closed, the leaves to come are added, and all is closed
  abbrev pub total : List (List N) → List N → List N
  total ls leaves = finish [] (adds leaves (settle [] ls))

-- room for c more children at the lowest of these levels, such that the last level holds at most one in the end
pub data Roomy {N : Type 0} (k : ℕ) : ℕ → List (List N) → Type 0 where
  at_last : {c : ℕ} {l : List N} → length l + c ≤ 1 → Roomy k c (l ∷ [])
  at_more : {c q : ℕ} {l : List N} {ls : List (List N)} → length l + c ≤ q * k → Roomy k q ls → Roomy k c (l ∷ ls)

-- no level is full
abbrev pub NoneFull : {N : Type 0} → ℕ → List (List N) → Type 0
NoneFull k [] = Unit {0}
NoneFull k (l ∷ ls) = (length l < k) × NoneFull k ls

-- the lowest level with a node has at most k nodes, and no level above it is full
abbrev pub Orderly : {N : Type 0} → ℕ → List (List N) → Type 0
Orderly k [] = Unit {0}
Orderly k ([] ∷ ls) = Orderly k ls
Orderly k ((x ∷ l) ∷ ls) = (length (x ∷ l) ≤ k) × NoneFull k ls
