-- A tree that was packed into the pages of a place.
use Rattle.std.specs.Prelude.{◌≡◌, ℕ, ◌*◌, List, length, take, drop, flat_map}
use Rattle.cube_point.specs.declared.point.Entry.{Entry}
use Rattle.page_fmt.specs.declared.page.Place.{Place}
use Rattle.page_entry.specs.declared.size.TheConstants.{PAGE}
use Rattle.tree_pack.specs.Packing.{AreTreeViews}
use Rattle.tree_pack.specs.Pages.{Views, page_bytes, pages_of}
use Rattle.range_scan.specs.declared.walk.SearchStop.{SearchStop}
use Rattle.range_scan.specs.declared.walk.SearchStop.TheVariants as stops

-- the place has the pages of the tree of these views, which have these points
pub record HoldsTree (tree : Place) (bytes : List ℕ) (points : List Entry) : Type 0 where
  pub views : Views
  pub are_views : AreTreeViews tree.shape views points
  pub count : length (pages_of tree.shape tree.first views) ≡ tree.pages
  pub bytes_are : take (PAGE * tree.pages) (drop (PAGE * tree.first) bytes) ≡ flat_map (page_bytes tree.shape) (pages_of tree.shape tree.first views)

-- no damage is reported
abbrev pub IsUndamaged : SearchStop → Type 0
IsUndamaged (stops.Damaged page) = ⊥
IsUndamaged stops.Disk = Unit {0}
IsUndamaged stops.Memory = Unit {0}
