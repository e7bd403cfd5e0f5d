-- The tests of a search: which points lie in a region, and which boxes meet it.
use Rattle.std.specs.Prelude.{◌≡◌, ◌≤◌, ◌<◌, ℕ, Bool, ◌&&◌, ◌==◌, nat_le, min, max, slice_index}
use Rattle.std.specs.List.{list_all, range_with_len}
use Rattle.cube_point.specs.declared.bounds.Bounds.{Bounds}
use Rattle.cube_point.specs.declared.bounds.Region.{Region}
use Rattle.cube_point.specs.declared.point.Entry.{Entry}

-- the number lies between the ends, both included
abbrev pub lies_between : ℕ → ℕ → ℕ → Bool
lies_between low high n = nat_le low n && nat_le n high

-- each of the eight coordinates lies between the region's ends
abbrev pub lies_within : Region → Entry → Bool
lies_within region e = list_all (λ i. lies_between (slice_index region.bounds.low i) (slice_index region.bounds.high i) (slice_index e.point.at i)) (range_with_len 0 8)

-- the point lies in the region, and has its arity
unfoldable pub is_inside : Region → Entry → Bool
is_inside region e = (e.point.arity == region.arity) && lies_within region e

-- in each of the eight dimensions the greater low end is at most the lesser high end
unfoldable pub is_met : Region → Bounds → Bool
is_met region b = list_all (λ i. nat_le (max (slice_index b.low i) (slice_index region.bounds.low i)) (min (slice_index b.high i) (slice_index region.bounds.high i))) (range_with_len 0 8)

-- some place that is zero past `dims` dimensions lies between the region's ends
pub record HoldsSome (dims : ℕ) (region : Region) : Type 0 where
  pub used : (i : ℕ) → i < dims → slice_index region.bounds.low i ≤ slice_index region.bounds.high i
  pub unused : (i : ℕ) → dims ≤ i → i < 8 → slice_index region.bounds.low i ≡ 0
