-- When a coarser view is the roll-up of a finer one.
use Rattle.std.specs.Prelude.{◌≡◌, ◌<◌, ◌≤◌, ℕ, true, List, length, map, slice_index}
use Rattle.std.specs.List.{All}
use Rattle.cube_point.specs.declared.point.Entry.{Entry}
use Rattle.audit_points.specs.Kept.{Kept, points_of}
use Rattle.page_entry.specs.Entries.{ascend, entry_before}
use Rattle.page_entry.specs.Stored.{FitsLeaf}
use Rattle.spec_points.specs.Entries.{pair_of}
use Rattle.spec_points.specs.Points.{View, padded}
use Rattle.spec_points.specs.RollUp.{projected, rolled_up}
use Rattle.spec_points.specs.Weights.{count_in, weight}

-- the coarser view's points are the finer view's, grouped by its attributes, with their cells joined
abbrev pub RollsUp : View → View → List Entry → List Entry → Type 0
RollsUp fine coarse es cs = rolled_up fine coarse (map pair_of es) ≡ map pair_of cs

-- the counts of the points add up to this number of facts
abbrev pub AddUp : ℕ → List Entry → Type 0
AddUp facts es = weight count_in (map pair_of es) ≡ facts

-- the coordinates in these dimensions, in this order, as a place
abbrev pub projected_at : List ℕ → List ℕ → List ℕ
projected_at dims place = padded (map (λ d. slice_index place d) dims)

-- the dimensions of the finer view that hold the attributes of the coarser one, in the coarser view's order
pub record AreDims (fine coarse : View) (dims : List ℕ) : Type 0 where
  pub few : length dims ≤ 8
  pub place : (place : List ℕ) → length place ≡ 8 → projected fine coarse place ≡ projected_at dims place

-- points of a view as read from accepted pages: in order, and each one that a leaf may hold
pub record AreRead (kept : Kept) : Type 0 where
  pub order : ascend entry_before (points_of kept) ≡ true
  pub good : All (FitsLeaf kept.shape) (points_of kept)
