use Rattle.std.proofs.Common.{◌≡◌, map, take}
use Rattle.spec_points.specs.Entries.{pair_of}
use Rattle.point_groups.specs.Folded.{AllApart}
use Rattle.point_groups.specs.Kept.{place_of, same_place}
use Rattle.point_groups.proofs.place_index.index_of.Given as goal

-- the places of the points passed, where no two of all points have one place
abbrev pub invariant-loop-number : goal.invariant-loop-number
invariant-loop-number l = AllApart same_place (map pair_of l.groups) → l.index.keys ≡ map place_of (take l.number l.groups)
