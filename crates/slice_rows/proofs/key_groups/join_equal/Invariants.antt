use Rattle.std.proofs.Common.{◌≡◌, ◌∷◌, ◌++◌, map, drop, get_or}
use Rattle.point_groups.specs.Bare.{nowhere}
use Rattle.slice_rows.specs.Grouped.{NeighboursJoin, NeighboursJoinTo, key_of_entry, keyed, picked}
use Rattle.slice_rows.proofs.KeyTurns.{squeezed_keys}
use Rattle.slice_rows.proofs.key_groups.join_equal.Given as goal

-- the points so far and those of what is left are those of the whole, and what is left joins where the whole does
abbrev pub invariant-loop-number : goal.invariant-loop-number
invariant-loop-number l = record {
  first : key_of_entry l.names l.view l.group l.last ≡ key_of_entry l.names l.view l.group (get_or l.points l.key nowhere);
  whole : map (keyed l.names l.view l.group) l.joined ++ squeezed_keys l.names l.view l.group (l.last ∷ picked l.points (drop l.number-index l.rest))
      ≡ squeezed_keys l.names l.view l.group (picked l.points l.fn.sorted);
  so_far : NeighboursJoinTo (keyed l.names l.view l.group l.last) (map (keyed l.names l.view l.group) (picked l.points (drop l.number-index l.rest)))
      → NeighboursJoin (map (keyed l.names l.view l.group) (picked l.points l.fn.sorted));
  left : NeighboursJoin (map (keyed l.names l.view l.group) (picked l.points l.fn.sorted))
      → NeighboursJoinTo (keyed l.names l.view l.group l.last) (map (keyed l.names l.view l.group) (picked l.points (drop l.number-index l.rest)));
}
