use Rattle.std.proofs.Common.{◌≡◌, take}
use Rattle.spec_points.specs.Answer.{Interval, interval}
use Rattle.attr_dict.specs.Book.{shown_names}
use Rattle.view_region.specs.Regions.{clamped}
use Rattle.view_region.proofs.RegionEnds.{ends}
use Rattle.view_region.proofs.regions.region.Given as goal

-- the ends for the attributes passed
abbrev pub invariant-loop-i : goal.invariant-loop-i
invariant-loop-i l = record {
  low : l.low ≡ ends (λ (i : Interval). (clamped i).0) (interval (shown_names l.names l.shown.at) l.conds) (take l.i l.view);
  high : l.high ≡ ends (λ (i : Interval). (clamped i).1) (interval (shown_names l.names l.shown.at) l.conds) (take l.i l.view);
}
