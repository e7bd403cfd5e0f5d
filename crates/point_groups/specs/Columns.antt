-- Lists that stand for points together: each has one number, or one part, of each point.
use Rattle.std.specs.Prelude.{ℕ, List, [], map, get_or}
use Rattle.std.specs.declared.alloc.Global.{Global}
use Rattle.std.specs.declared.vec.Vec.{Vec}
use Rattle.fact_model.specs.Cell.{part_of}
use Rattle.fact_model.specs.declared.cell.Part.{Part}

-- the number of each list at this place, and 0 past its end
abbrev pub numbers_at : ℕ → List (Vec ℕ Global) → List ℕ
numbers_at place lists = map (λ (l : Vec ℕ Global). get_or l.items place 0) lists

-- the part of each list at this place, and that of no facts past its end
abbrev pub parts_at : ℕ → List (Vec Part Global) → List Part
parts_at place lists = map (λ (l : Vec Part Global). get_or l.items place (part_of [])) lists
