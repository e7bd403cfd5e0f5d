-- The leaves among the pages that a search goes to.
use Rattle.std.specs.Prelude.{◌≡◌, ℕ, suc, ◌+◌, ◌-◌, ◌/◌, ◌<◌, ◌≤◌, Bool, true, false, List, filter, slice_index}
use Rattle.cube_point.specs.declared.bounds.Region.{Region}
use Rattle.spec_tree.specs.Tree.{Leaf, Inner}
use Rattle.page_fmt.specs.declared.page.Place.{Place}
use Rattle.tree_pack.specs.Pages.{PointPage}
use Rattle.range_scan.specs.Ends.{IsOpenBefore}
use Rattle.range_scan.specs.Visits.{page_of}

abbrev pub is_leaf : PointPage → Bool
is_leaf (Leaf es) = true
is_leaf (Inner cs) = false

-- those of these pages that are leaves
abbrev pub leaves_among : Place → List ℕ → List ℕ → List ℕ
leaves_among tree bytes numbers = filter (λ n. is_leaf (page_of tree.shape bytes n)) numbers

-- points that stand next to one another, in leaves of this capacity, are in no more leaves than this
abbrev pub most_leaves : ℕ → ℕ → ℕ
most_leaves found capacity = (found + capacity - 2) / capacity + 1

-- a region of the arity j + 1 in which dimension j alone, the last one, is bound, for points of this width
pub record IsLastBound (wide : Bool) (j : ℕ) (region : Region) : Type 0 where
  pub few : j < 8
  pub arity : region.arity ≡ suc j
  pub before : IsOpenBefore wide j region
  pub last : 1 ≤ slice_index region.bounds.low j
  pub past : (i : ℕ) → j < i → i < 8 → (slice_index region.bounds.low i ≡ 0) × (slice_index region.bounds.high i ≡ 0)
