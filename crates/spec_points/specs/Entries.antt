-- Points as pairs of a place and a cell, and as the entries that the code holds.
use Rattle.fact_model.specs.Cell.{join}
use Rattle.cube_point.specs.declared.point.Entry.{Entry}
use Rattle.spec_points.specs.Points.{PlacedCell}
use Rattle.spec_points.specs.Arity.{arity_of}

-- the entry of a place and a cell; its arity is that of the place
abbrev pub entry_of : PlacedCell → Entry
entry_of e = record { point = record { arity = arity_of e.0; at = e.0 }; cell = e.1 }

-- the place and the cell of an entry
abbrev pub pair_of : Entry → PlacedCell
pair_of entry = (entry.point.at, entry.cell)

-- the first entry, with its cell joined to that of the second
abbrev pub both : Entry → Entry → Entry
both o d = record { point = o.point; cell = join o.cell d.cell }
