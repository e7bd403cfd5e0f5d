use Rattle.std.proofs.Common.{◌≡◌, drop}
use Rattle.std.specs.List.{list_all}
use Rattle.slice_rows.specs.Grouped.{has_values}
use Rattle.slice_rows.proofs.group_rows.all_known.Given as goal

-- the points passed have values
abbrev pub invariant-loop-number : goal.invariant-loop-number
invariant-loop-number l = list_all (has_values l.names l.view l.group) (drop l.number l.points) ≡ list_all (has_values l.names l.view l.group) l.points
