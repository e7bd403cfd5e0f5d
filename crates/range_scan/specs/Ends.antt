-- What the first and the last point of a leaf show about those between them.
use Rattle.std.specs.Prelude.{◌≡◌, ℕ, Bool, ◌<◌, ◌≤◌, ◌-◌, List, get_or, length, slice_index}
use Rattle.cube_point.specs.Boxes.{IsInside}
use Rattle.cube_point.specs.declared.bounds.Region.{Region}
use Rattle.cube_point.specs.declared.point.Entry.{Entry}
use Rattle.cube_point.specs.declared.point.Point.{Point}
use Rattle.page_entry.specs.Stored.{IsCoordinate}

-- in each dimension before this one the region holds every used coordinate of a page of this width
abbrev pub IsOpenBefore : Bool → ℕ → Region → Type 0
IsOpenBefore wide dimension region = (i : ℕ) → i < dimension
    → (slice_index region.bounds.low i ≤ 1) × ((c : ℕ) → IsCoordinate wide c → c ≤ slice_index region.bounds.high i)

-- both lie in the region, are equal past a dimension, and before it the region is open: so all points between them lie in it
pub record TellAll (wide : Bool) (first last : Point) (region : Region) : Type 0 where
  pub first_inside : IsInside first region
  pub last_inside : IsInside last region
  pub apart : ℕ
  pub few : apart < 8
  pub same : (i : ℕ) → apart < i → i < 8 → slice_index first.at i ≡ slice_index last.at i
  pub before : IsOpenBefore wide apart region

-- the first and the last of these entries show that all lie in the region
abbrev pub DoEndsTellAll : Bool → List Entry → Region → Type 0
DoEndsTellAll wide es region = (d : Entry) → TellAll wide (get_or es 0 d).point (get_or es (length es - 1) d).point region
