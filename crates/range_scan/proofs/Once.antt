-- A search of a packed tree goes to no page twice.
use Rattle.std.proofs.Common.{◌≤◌, ℕ, List, nat_eq}
use Rattle.std.specs.List.{IsDistinct}
use Rattle.cube_point.specs.declared.bounds.Region.{Region}
use Rattle.cube_point.specs.declared.point.Entry.{Entry}
use Rattle.page_fmt.specs.declared.page.Place.{Place}
use Rattle.page_fmt.specs.Writing.{IsShape}
use Rattle.tree_pack.specs.Packing.{max_first}
use Rattle.range_scan.specs.Packed.{HoldsTree}
use Rattle.range_scan.specs.Visits.{visits}
use Rattle.range_scan.proofs.Packed.{packed-found}

-- in a packed tree the search goes to no page twice
pub visits-once : (tree : Place) (shape : IsShape tree.shape) (low : tree.first ≤ max_first) (region : Region) (bytes : List ℕ) (points : List Entry)
    → HoldsTree tree bytes points → IsDistinct nat_eq (visits tree region bytes)
visits-once tree shape low region bytes points holds = (packed-found tree shape low region bytes points holds).once.distinct
