-- When points give rows.
use Rattle.std.specs.Prelude.{List, map, ℕ}
use Rattle.cube_point.specs.declared.point.Entry.{Entry}
use Rattle.spec_points.specs.Entries.{entry_of}
use Rattle.spec_points.specs.Points.{View}
use Rattle.attr_dict.specs.Book.{Book}
use Rattle.point_groups.specs.Kept.{AllGather, gathered, grouped_dims}
use Rattle.slice_rows.specs.Grouped.{AreSound}

-- the points of each place of grouped coordinates join as they come; each of these places has values, and those of one key join
pub record GiveRows (b : Book) (view : View) (group : List ℕ) (es : List Entry) : Type 0 where
  pub gather : AllGather (grouped_dims group view) es
  pub sound : AreSound b view group (map entry_of (gathered (grouped_dims group view) es))
