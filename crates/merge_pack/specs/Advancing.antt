-- What a move in memory needs, and what it gives.
use Rattle.std.specs.Prelude.{◌≡◌, ◌≤◌, ℕ, List, Some, None, Result, Ok, Err, drop, length}
use Rattle.std.specs.List.{All}
use Rattle.cube_point.specs.declared.point.Entry.{Entry}
use Rattle.delta_agg.specs.declared.join.DoesNotJoin.{DoesNotJoin}
use Rattle.spec_tree.specs.Levels.{full_level, rest_level}
use Rattle.page_fmt.specs.Trees.{fanout_of}
use Rattle.tree_pack.specs.Moving.{HasPageIn, HasRoomIn}
use Rattle.merge_pack.specs.declared.side.Advance.{Advance}
use Rattle.merge_pack.specs.declared.side.Side.{Side}
use Rattle.merge_pack.specs.Merging.{Goes, IsApart, IsNext, Keeps, KeepsOn, Lends, MayTake, MayTakeNext, Merger, MovesPoint, merging_of, side_of}
use Rattle.merge_pack.specs.Safe.{MayCount}

-- the next point, which is on this side, may be moved
pub record MayMovePoint (side : Side) (new : List Entry) (v : Merger) : Type 0 where
  pub within : v.taken ≤ length new
  pub next : side_of v.scan.held (drop v.taken new) ≡ Some side
  -- old and new cells have as many measures
  pub measures : All (λ o. All (λ d. o.cell.measures ≡ d.cell.measures) new) v.scan.held
  -- the buffer may take the point
  pub may : (e : Entry) (held delta : List Entry) → IsNext v.scan.held (drop v.taken new) e held delta → MayTake v.at e

-- the next point was moved, and is not counted yet
pub record HasMovedPoint (new : List Entry) (v w : Merger) : Type 0 where
  pub moved : MovesPoint (merging_of v new) (merging_of w new)
  pub kept : Keeps None new v w
  pub within : w.taken ≤ length new

-- the next point was moved, or is on both sides with cells that do not join
abbrev pub PointMoved : List Entry → Merger → Merger → Result (Unit {0}) DoesNotJoin → Type 0
PointMoved new v w (Ok done) = HasMovedPoint new v w
PointMoved new v w (Err apart) = IsApart v.scan.held (drop v.taken new)

-- the next move may be made
pub record MayAdvance (new : List Entry) (v : Merger) : Type 0 where
  pub within : v.taken ≤ length new
  -- old and new cells have as many measures
  pub measures : All (λ o. All (λ d. o.cell.measures ≡ d.cell.measures) new) v.scan.held
  -- a level that is due has an inner page
  pub full_page : (i : ℕ) → full_level (fanout_of v.at.shape) v.at.levels ≡ Some i → HasPageIn i v.at
  pub rest_page : (i : ℕ) → rest_level v.at.levels ≡ Some i → HasPageIn i v.at
  -- where none is full there is room for one more leaf
  pub leaf_room : full_level (fanout_of v.at.shape) v.at.levels ≡ None → HasRoomIn 0 v.at
  pub dims : v.at.shape.dims ≤ 8
  -- one point more may be counted
  pub counts : MayCount 0 v.old_counts × MayCount 0 v.new_counts
  pub may : MayTakeNext (merging_of v new)

-- the next move was made, where so many old pages are unread
pub record HasAdvanced (left : ℕ) (new : List Entry) (v : Merger) (advance : Advance) (w : Merger) : Type 0 where
  pub goes : Goes left (merging_of v new) advance (merging_of w new)
  pub kept : KeepsOn advance new v w
  pub within : w.taken ≤ length new
  pub makes : Lends advance v w

-- the next move was made, or is that of a point on both sides with cells that do not join
abbrev pub Advances : ℕ → List Entry → Merger → Merger → Result Advance DoesNotJoin → Type 0
Advances left new v w (Ok advance) = HasAdvanced left new v advance w
Advances left new v w (Err apart) = IsApart v.scan.held (drop v.taken new)
