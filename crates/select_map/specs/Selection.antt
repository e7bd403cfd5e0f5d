-- What a mapping of views promises.
use Rattle.std.specs.Prelude.{◌≡◌, ◌≢◌, ℕ, ◌<◌, ◌≤◌, List, length, get_or, replicate, Option, Some, None, IsSome}
use Rattle.select_map.specs.declared.mapping.Tree.{Tree}
use Rattle.select_map.specs.declared.mapping.Mapping.{Mapping}
use Rattle.select_map.specs.declared.mapping.TheConstants.{ARITIES}
use Rattle.select_map.specs.Views.{View, arity_at, tree_number}

-- what stands in the place of a tree that there is not
abbrev pub no_tree : Tree
no_tree = record { dims = 0; view_of = replicate ARITIES None }

abbrev pub tree_of : Mapping → ℕ → Tree
tree_of m t = get_or m.trees t no_tree

-- the view of an arity in a tree
abbrev pub view_at : Mapping → ℕ → ℕ → Option ℕ
view_at m t arity = get_or (tree_of m t).view_of arity None

-- each view in one of `count` trees, and no two of one arity in one tree
pub record IsValid (views : List View) (tree : ℕ → ℕ) (count : ℕ) : Type 0 where
  pub within : (v : ℕ) → v < length views → tree v < count
  pub apart : (v w : ℕ) → v < w → w < length views → arity_at views v ≡ arity_at views w → tree v ≢ tree w

pub record IsSelection (views : List View) (m : Mapping) : Type 0 where
  -- each view stands in the tree of its number, at its arity
  pub placed : (v : ℕ) → v < length views → view_at m (tree_number views v) (arity_at views v) ≡ Some v
  -- and nowhere else
  pub alone : (t arity v : ℕ) → view_at m t arity ≡ Some v → (v < length views) × (arity_at views v ≡ arity) × (tree_number views v ≡ t)
  -- a tree's dimensions are the arity of a view in it
  pub dims : (t : ℕ) → t < length m.trees → IsSome (view_at m t (tree_of m t).dims)
  -- and no view in it has more
  pub largest : (t arity v : ℕ) → view_at m t arity ≡ Some v → arity ≤ (tree_of m t).dims
  -- the trees make a valid mapping
  pub valid : IsValid views (tree_number views) (length m.trees)
  -- and no valid mapping has fewer
  pub fewest : (tree : ℕ → ℕ) (count : ℕ) → IsValid views tree count → length m.trees ≤ count
