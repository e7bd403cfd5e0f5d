use Rattle.std.proofs.Common.{◌≡◌, ◌<◌, ℕ, Option, Some, get_or, length}
use Rattle.cube_point.specs.declared.point.Entry.{Entry}
use Rattle.fact_model.specs.declared.cell.Cell.{Cell}
use Rattle.audit_points.specs.Kept.{points_of}
use Rattle.audit_view.specs.Rolling.{AreRead}
use Rattle.audit_view.specs.declared.total.Total.{Total}
use Rattle.audit_view.specs.Totals.{HoldsSum}
use Rattle.audit_view.proofs.rolling.are_all.Given as goal

-- what came at the first points are their cells
abbrev pub invariant-loop-index : goal.invariant-loop-index
invariant-loop-index l = (sums : ℕ → Option Cell) → AreRead l.coarse
    → ((i : ℕ) (t : Total) → i < length (points_of l.coarse) → HoldsSum l.coarse.shape.measures (sums i) (get_or l.totals.items i t))
    → (i : ℕ) (c : Entry) → i < l.index → sums i ≡ Some (get_or (points_of l.coarse) i c).cell
