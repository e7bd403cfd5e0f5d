use Rattle.std.proofs.Common.{get_or, ◌≡◌, drop}
use Rattle.point_groups.specs.Bare.{nowhere}
use Rattle.slice_rows.specs.Grouped.{has_values}
use Rattle.slice_rows.proofs.keys.has_values.Given as goal

-- the attributes passed have values
abbrev pub invariant-loop-attr : goal.invariant-loop-attr
invariant-loop-attr l = has_values l.names l.view (drop l.attr-index l.group) (get_or l.points l.number nowhere) ≡ has_values l.names l.view l.group (get_or l.points l.number nowhere)
