-- Old points that are moved at once.
use Rattle.std.specs.Prelude.{◌≡◌, ◌≤◌, ◌<◌, ◌+◌, ℕ, List, drop, length, set, slice_index, take}
use Rattle.page_fmt.specs.Writing.{leaf_arity}
use Rattle.leaf_pack.specs.Leaf.{MayAddAll}
use Rattle.tree_pack.specs.Moving.{with_points}
use Rattle.merge_pack.specs.Merging.{Merger}
use Rattle.merge_pack.specs.Safe.{MayCount}

-- so many more of this arity
abbrev pub many_more : ℕ → ℕ → List ℕ → List ℕ
many_more count arity counts = set counts arity (slice_index counts arity + count)

-- what moving the first so many old points at once asks
pub record MayMoveRun (count : ℕ) (v : Merger) : Type 0 where
  pub some : 0 < count
  pub shape : v.scan.shape ≡ v.at.shape
  pub held : count ≤ length v.scan.held
  pub arity : leaf_arity v.scan.held ≤ 8
  pub counts : MayCount count v.old_counts × MayCount count v.new_counts
  pub may : MayAddAll v.at.shape v.at.buffer (take count v.scan.held)

-- they were moved, and are counted
pub record HasMovedRun (count : ℕ) (v w : Merger) : Type 0 where
  pub scan : w.scan ≡ record v.scan { held = drop count v.scan.held }
  pub taken : w.taken ≡ v.taken
  pub file : w.file ≡ v.file
  pub at : w.at ≡ with_points (take count v.scan.held) v.at
  pub old_counts : w.old_counts ≡ many_more count (leaf_arity v.scan.held) v.old_counts
  pub new_counts : w.new_counts ≡ many_more count (leaf_arity v.scan.held) v.new_counts
