use Rattle.std.proofs.Common.{◌≡◌, ◌<◌, ◌^◌, All, length, map, take}
use Rattle.cube_point.specs.declared.point.Entry.{Entry}
use Rattle.slice_rows.specs.Ranks.{IsBelow, KeepsRanks, TellOrder, room}
use Rattle.slice_rows.specs.declared.value_ranks.Ranks.{Ranks}
use Rattle.slice_rows.proofs.rank_sort.ranks_of_group.Given as goal

-- the ranks of the attributes passed, and how many numbers they make
abbrev pub invariant-loop-attr : goal.invariant-loop-attr
invariant-loop-attr l = record {
  long : length l.ranks.items ≡ l.attr-index;
  attrs : map (λ (r : Ranks). r.attr) l.ranks.items ≡ take l.attr-index l.group;
  tell : All (λ (r : Ranks). TellOrder l.names l.view r l.points) l.ranks.items;
  below : All (λ (r : Ranks). All (λ (e : Entry). IsBelow l.names l.view e r) l.points) l.ranks.items;
  kept : All (KeepsRanks l.names) l.ranks.items;
  room : l.numbers ≡ room l.ranks.items;
  fits : l.numbers < 2 ^ 64;
}
