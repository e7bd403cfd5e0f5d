-- The next page of a tree, by what the pages before it fix.
use Rattle.std.specs.Prelude.{◌≡◌, ◌<◌, ◌-◌, ℕ, List, [], length, min, set, slice_index, Some, None}
use Rattle.std.specs.List.{All}
use Rattle.cube_point.specs.declared.point.Shape.{Shape}
use Rattle.leaf_pack.specs.Leaf.{arity_of}
use Rattle.spec_tree.specs.Levels.{children_at, full_level, rest_level}
use Rattle.page_fmt.specs.Pages.{inner_bytes, leaf_bytes}
use Rattle.page_entry.specs.Entries.{HasEntries, entries, page_count}
use Rattle.page_fmt.specs.Writing.{AreEntries, leaf_arity}
use Rattle.page_fmt.specs.Trees.{fanout_of, room_of}
use Rattle.tree_pack.specs.Moving.{Moving, with_inner, with_leaf}
use Rattle.tree_scan.specs.Scanning.{leaf_entries}
use Rattle.audit_tree.specs.Numbers.{arities}
use Rattle.audit_tree.specs.Packed.{IsWithin}

-- the least arity of which points are to come
pub record IsNextArity (left : List ℕ) (arity : ℕ) : Type 0 where
  pub nine : arity < 9
  pub some : 0 < slice_index left arity
  pub first : (other : ℕ) → other < arity → slice_index left other ≡ 0

-- as many points as the next leaf has
abbrev pub due : Shape → List ℕ → ℕ → ℕ
due shape left arity = min (room_of shape arity) (slice_index left arity)

-- the numbers behind this leaf
abbrev pub behind_leaf : Shape → List ℕ → ℕ → List ℕ
behind_leaf shape left arity = set left arity (slice_index left arity - due shape left arity)

-- the points of the page are a whole leaf of this arity
pub record IsLeafOf (shape : Shape) (left page : List ℕ) (arity : ℕ) : Type 0 where
  pub next : IsNextArity left arity
  pub written : page ≡ leaf_bytes arity shape (leaf_entries shape page)
  pub arities : All (λ e. arity_of e ≡ arity) (leaf_entries shape page)
  pub many : length (leaf_entries shape page) ≡ due shape left arity

-- and within the limits
pub record IsLeafDue (shape : Shape) (limits : List (List ℕ)) (left page : List ℕ) (arity : ℕ) : Type 0 where
  pub whole : IsLeafOf shape left page arity
  pub within : All (IsWithin limits) (leaf_entries shape page)

-- what is known of a page that was accepted: how many points it has, and that they are a leaf
pub record IsFound (shape : Shape) (page : List ℕ) (count : ℕ) : Type 0 where
  pub many : count ≡ length (leaf_entries shape page)
  pub leaf : 0 < count → HasEntries shape page
  pub all : 0 < count → count ≡ page_count page
  pub are : 0 < count → leaf_entries shape page ≡ entries shape page
  pub holds : 0 < count → AreEntries shape (entries shape page)
  pub written : 0 < count → page ≡ leaf_bytes (leaf_arity (entries shape page)) shape (entries shape page)

-- the page is that of the lowest level that is left, which is closed
pub record IsRest (m : Moving) (page : List ℕ) (w : Moving) : Type 0 where
  pub level : ℕ
  pub due : rest_level m.levels ≡ Some level
  pub written : page ≡ inner_bytes m.shape (children_at level m.levels)
  pub behind : w ≡ with_inner level m

-- where so many points of each arity are left, the page is the next of the tree; on with these numbers
pub data Fits (shape : Shape) (limits : List (List ℕ)) (left : List ℕ) (m : Moving) (page : List ℕ) : List ℕ → Moving → Type 0 where
  -- the lowest full level is due
  fits_full : {i : ℕ} → full_level (fanout_of shape) m.levels ≡ Some i → page ≡ inner_bytes shape (children_at i m.levels) → Fits shape limits left m page left (with_inner i m)
  -- a leaf is due
  fits_leaf : {arity : ℕ} → full_level (fanout_of shape) m.levels ≡ None → IsLeafDue shape limits left page arity
      → Fits shape limits left m page (behind_leaf shape left arity) (with_leaf (record m { buffer = leaf_entries shape page }))
  -- behind the last leaf a level is due
  fits_rest : {i : ℕ} → full_level (fanout_of shape) m.levels ≡ None → arities left ≡ [] → rest_level m.levels ≡ Some i
      → page ≡ inner_bytes shape (children_at i m.levels) → Fits shape limits left m page left (with_inner i m)
