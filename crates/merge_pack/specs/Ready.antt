-- What a merge knows of the next old points.
use Rattle.std.specs.Prelude.{◌≡◌, ◌≤◌, ◌<◌, ◌+◌, ℕ, false, Option, Some, None, List, drop, length, take}
use Rattle.std.specs.List.{All}
use Rattle.cube_point.specs.declared.point.Entry.{Entry}
use Rattle.cube_point.specs.declared.point.Point.{Point}
use Rattle.spec_tree.specs.Levels.{full_level}
use Rattle.page_entry.specs.Runs.{Precedes}
use Rattle.page_fmt.specs.Trees.{fanout_of, room_of}
use Rattle.page_fmt.specs.Writing.{leaf_arity}
use Rattle.tree_pack.specs.Moving.{Moving}
use Rattle.tree_scan.specs.Streaming.{Scanned}
use Rattle.merge_pack.specs.Merging.{Merger, first_point, turns_at}

-- each comes before this point, if there is one
abbrev pub ComeBefore : Option Point → List Entry → Type 0
ComeBefore None es = Unit {0}
ComeBefore (Some p) es = All (Precedes p) es

-- as far as the tree and the leaf let them, the first so many old points may be moved at once
pub record HasRoomFor (count : ℕ) (scan : Scanned) (at : Moving) : Type 0 where
  pub none : full_level (fanout_of at.shape) at.levels ≡ None
  pub shape : scan.shape ≡ at.shape
  pub held : count ≤ length scan.held
  pub arities : All (λ e. e.point.arity ≡ leaf_arity scan.held) scan.held
  pub turn : turns_at at.buffer (leaf_arity scan.held) ≡ false
  pub room : length at.buffer + count ≤ room_of at.shape (leaf_arity scan.held)

-- they are the next points, where this is the point of the next new one
pub record MayMoveAtOnce (count : ℕ) (next : Option Point) (scan : Scanned) (at : Moving) : Type 0 where
  pub room : HasRoomFor count scan at
  pub before : ComeBefore next (take count scan.held)

-- those that the merge knows of, if any, may be moved at once
abbrev pub KnowsReady : List Entry → Merger → Type 0
KnowsReady new v = 0 < v.ready → MayMoveAtOnce v.ready (first_point (drop v.taken new)) v.scan v.at
