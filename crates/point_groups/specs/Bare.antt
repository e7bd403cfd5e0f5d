-- Points without their arity.
use Rattle.std.specs.Prelude.{[]}
use Rattle.cube_point.specs.declared.point.Entry.{Entry}
use Rattle.fact_model.specs.declared.cell.Cell.{Cell}

-- a point without its arity
abbrev pub bare : Entry → Entry
bare e = record { point = record { arity = 0; at = e.point.at }; cell = e.cell }

-- a point with another cell
abbrev pub with_cell : Entry → Cell → Entry
with_cell e c = record { point = e.point; cell = c }

-- what stands for the point of a number that no point has
abbrev pub nowhere : Entry
nowhere = record { point = record { arity = 0; at = [] }; cell = record { count = 0; measures = 0; parts = [] } }
