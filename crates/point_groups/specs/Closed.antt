-- Points, held small.
use Rattle.std.specs.Prelude.{ℕ, List, map, get_or, length}
use Rattle.std.specs.List.{range_with_len}
use Rattle.cube_point.specs.declared.point.Entry.{Entry}
use Rattle.point_groups.specs.Columns.{numbers_at, parts_at}
use Rattle.point_groups.specs.declared.columns.ClosedPoints.TheInside.{Inside}

-- the point of a number: what the lists have at its place
abbrev pub closed_at : Inside → ℕ → Entry
closed_at c number = record {
  point = record { arity = 0; at = numbers_at number c.coordinates };
  cell = record { count = get_or c.counts.items number 0; measures = get_or c.measures.items number 0; parts = parts_at number c.parts };
}

-- all of them
abbrev pub closed_points : Inside → List Entry
closed_points c = map (closed_at c) (range_with_len 0 (length c.measures.items))
