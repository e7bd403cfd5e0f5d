use Rattle.std.proofs.Common.{◌≡◌, ◌<◌, ◌+◌, ℕ, true, get_or}
use Rattle.point_groups.specs.Bare.{nowhere}
use Rattle.slice_rows.specs.Grouped.{is_before}
use Rattle.slice_rows.proofs.key_order.do_ascend.Given as goal

-- the key of each point passed comes after that of the one in front of it
abbrev pub invariant-loop-i : goal.invariant-loop-i
invariant-loop-i l = (k : ℕ) → k + 1 < l.i → is_before l.names l.view l.group (get_or l.points k nowhere) (get_or l.points (k + 1) nowhere) ≡ true
