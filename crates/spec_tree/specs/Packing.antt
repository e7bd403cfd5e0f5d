-- The packer: each step writes the next page of a tree.
use Rattle.std.specs.Prelude.{ℕ, ◌+◌, ◌≡◌, ◌≤◌, true, false, List, [], ◌∷◌, ◌++◌, flat_map, Some, None}
use Rattle.spec_tree.specs.Tree.{Page, Leaf, Inner}
use Rattle.spec_tree.specs.Counts.{tree_leaves, counts_of, reach}
use Rattle.spec_tree.specs.Leaves.{leaf_ends, AreViews}
use Rattle.spec_tree.specs.Levels.{no_levels, full_level, rest_level, children_at, put_at, closed}

-- what a packer holds between two pages
pub record State (E C : Type 0) : Type 0 where
  pub to_come : List E  -- the entries still to come, in order
  pub buffer : List E  -- the entries of the next leaf
  pub levels : List (List C)  -- the children that are in no page yet, lowest level first
  pub next_page : ℕ  -- the number of the next page

-- a tree that fits in twelve levels, by its number of leaves, and whose inner pages have room for two children
pub record IsPackable {E : Type 0} (arity : E → ℕ) (room : ℕ → ℕ) (k : ℕ) (views : List (ℕ × List E)) : Type 0 where
  pub views_fit : AreViews arity room views
  pub fanout : 2 ≤ k
  pub few : tree_leaves room (counts_of views) ≤ reach k 11

-- the entries of a tree's views, one view after another
abbrev pub all_entries : {E : Type 0} → List (ℕ × List E) → List E
all_entries views = flat_map (λ v. v.1) views

-- before the first page of a tree
abbrev pub start : {E C : Type 0} → ℕ → List E → State E C
start first entries = record { to_come = entries; buffer = []; levels = no_levels; next_page = first }

-- nothing is left to be written
pub record IsDone {E C : Type 0} (k : ℕ) (s : State E C) : Type 0 where
  pub to_come : s.to_come ≡ []
  pub buffer : s.buffer ≡ []
  pub full : full_level k s.levels ≡ None
  pub rest : rest_level s.levels ≡ None

-- `child` gives the child for a leaf, and `over` that for an inner page with these children; both take the page's number
module _ {E C : Type 0} (arity : E → ℕ) (room : ℕ → ℕ) (k : ℕ) (child : List E → ℕ → C) (over : List C → ℕ → C) where
  -- the page is written from the first state, and the second state is left
  pub data Packs : State E C → Page E C → State E C → Type 0 where
    -- an entry goes into the buffer first, if no level is full and the leaf has not ended
    takes_entry : {e : E} {es b : List E} {ls : List (List C)} {n : ℕ} {page : Page E C} {t : State E C}
        → full_level k ls ≡ None → leaf_ends arity room b (e ∷ es) ≡ false
        → Packs (record { to_come = es; buffer = b ++ e ∷ []; levels = ls; next_page = n }) page t
        → Packs (record { to_come = e ∷ es; buffer = b; levels = ls; next_page = n }) page t
    -- the buffer is written as a leaf, which is the next child of the lowest level
    writes_leaf : {es b : List E} {ls : List (List C)} {n : ℕ}
        → full_level k ls ≡ None → leaf_ends arity room b es ≡ true
        → Packs (record { to_come = es; buffer = b; levels = ls; next_page = n }) (Leaf b)
        (record { to_come = es; buffer = []; levels = put_at 0 (child b n) ls; next_page = n + 1 })
    -- the lowest full level is written as an inner page
    closes_full : {es b : List E} {ls : List (List C)} {n i : ℕ}
        → full_level k ls ≡ Some i
        → Packs (record { to_come = es; buffer = b; levels = ls; next_page = n }) (Inner (children_at i ls))
        (record { to_come = es; buffer = b; levels = closed (λ cs. over cs n) i ls; next_page = n + 1 })
    -- after the last leaf the lowest level that holds a child is written, until one child is left
    closes_rest : {ls : List (List C)} {n i : ℕ}
        → full_level k ls ≡ None → rest_level ls ≡ Some i
        → Packs (record { to_come = []; buffer = []; levels = ls; next_page = n }) (Inner (children_at i ls))
        (record { to_come = []; buffer = []; levels = closed (λ cs. over cs n) i ls; next_page = n + 1 })

  -- any number of pages, one after another
  pub data PacksMany (s : State E C) : List (Page E C) → State E C → Type 0 where
    none_yet : PacksMany s [] s
    one_more : {pages : List (Page E C)} {page : Page E C} {t u : State E C}
        → PacksMany s pages t → Packs t page u → PacksMany s (pages ++ page ∷ []) u
