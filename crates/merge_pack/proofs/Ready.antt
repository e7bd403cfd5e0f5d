-- The old points that are known to be movable at once.
use Rattle.std.proofs.Common.{◌≡◌, ◌≤◌, ℕ, Option, Some, None, List, [], ◌∷◌, take, subst, arith}
use Rattle.std.proofs.lemmas.List.{take-take}
use Rattle.std.proofs.lemmas.List.Elements.{All-take}
use Rattle.std.specs.List.{All}
use Rattle.std.specs.Prelude.{Result, Ok, Err}
use Rattle.cube_point.specs.declared.point.Entry.{Entry}
use Rattle.cube_point.specs.declared.point.Point.{Point}
use Rattle.cube_point.specs.declared.point.Shape.{Shape}
use Rattle.delta_agg.specs.declared.join.DoesNotJoin.{DoesNotJoin}
use Rattle.page_entry.specs.Runs.{Precedes}
use Rattle.page_fmt.specs.Writing.{leaf_arity}
use Rattle.tree_pack.specs.Moving.{Moving}
use Rattle.tree_scan.specs.Streaming.{Scanned}
use Rattle.merge_pack.specs.declared.side.Advance.{Advance}
use Rattle.merge_pack.specs.Advancing.{Advances}
use Rattle.merge_pack.specs.Merging.{Merger}
use Rattle.merge_pack.specs.Ready.{ComeBefore, HasRoomFor, MayMoveAtOnce}
use Rattle.merge_pack.specs.Safe.{IsSafe}

-- fewer come before the next new point too
pub fewer-before : (next : Option Point) (count most : ℕ) (held : List Entry) → count ≤ most → ComeBefore next (take most held) → ComeBefore next (take count held)
fewer-before None count most held few before = tt
fewer-before (Some p) count most held few before = subst (All (Precedes p)) (take-take count most held few) (All-take (Precedes p) count (take most held) before)

-- there is room for fewer
pub fewer-room : (count most : ℕ) (scan : Scanned) (at : Moving) → count ≤ most → HasRoomFor most scan at → HasRoomFor count scan at
fewer-room count most scan at few room = record {
  none = room.none;
  shape = room.shape;
  held = omega (arith, room.held, few);
  arities = room.arities;
  turn = room.turn;
  room = omega (arith, room.room, few);
}

-- and they may be moved
pub fewer-may : (count most : ℕ) (next : Option Point) (scan : Scanned) (at : Moving) → count ≤ most → MayMoveAtOnce most next scan at → MayMoveAtOnce count next scan at
fewer-may count most next scan at few may = record { room = fewer-room count most scan at few may.room; before = fewer-before next count most scan.held few may.before }

-- their arity is low
low-arity : (shape : Shape) (es : List Entry) → shape.dims ≤ 8 → All (λ (e : Entry). e.point.arity ≤ shape.dims) es → leaf_arity es ≤ 8
low-arity shape [] dims all = omega arith
low-arity shape (e ∷ es) dims all = omega (arith, dims, all 0 e (omega arith))

pub safe-arity : (v : Merger) (new : List Entry) → IsSafe v new → leaf_arity v.scan.held ≤ 8
safe-arity v new safe = low-arity v.at.shape v.scan.held safe.sound.shape.dims safe.led.held.arities

-- what is known of them is no part of a move
pub forgotten : (left : ℕ) (new : List Entry) (v w : Merger) (result : Result Advance DoesNotJoin) → Advances left new v w result → Advances left new v (record w { ready = 0 }) result
forgotten left new v w (Ok advance) is = record {
  goes = is.goes;
  kept = record { scan = is.kept.scan; file = is.kept.file; old_counts = is.kept.old_counts; new_counts = is.kept.new_counts };
  within = is.within;
  makes = record { leaf = is.makes.leaf; inner = is.makes.inner };
}
forgotten left new v w (Err apart) is = is
