use Rattle.std.proofs.Common.{◌≡◌, ◌≤◌, length, take}
use Rattle.audit_points.specs.Kept.{points_of}
use Rattle.spec_points.specs.Points.{View}
use Rattle.spec_points.specs.RollUp.{projected}
use Rattle.audit_view.specs.Rolling.{AreDims, AreRead}
use Rattle.audit_view.specs.Totals.{AllFound, AllSteady, HoldsAll}
use Rattle.audit_view.proofs.rolling.is_roll_up.Given as goal

-- the first points are joined where their points of the coarser view stand
abbrev pub invariant-loop-index : goal.invariant-loop-index
invariant-loop-index l = record {
  near : l.near ≤ length (points_of l.coarse);
  many : length l.totals.items ≡ length (points_of l.coarse);
  steady : AllSteady l.totals.items;
  holds : (fine_view coarse_view : View) → AreDims fine_view coarse_view l.dims → AreRead l.coarse
      → HoldsAll (projected fine_view coarse_view) l.coarse.shape.measures (points_of l.coarse) (take l.index (points_of l.fine)) l.totals.items;
  found : (fine_view coarse_view : View) → AreDims fine_view coarse_view l.dims → AllFound (projected fine_view coarse_view) (points_of l.coarse) (take l.index (points_of l.fine));
}
