-- A tree between two of its pages.
use Rattle.std.specs.Prelude.{◌≡◌, ℕ, List, [], ◌++◌, length, map, Option, None}
use Rattle.std.specs.List.{All}
use Rattle.cube_point.specs.declared.point.Entry.{Entry}
use Rattle.cube_point.specs.declared.point.Point.{Point}
use Rattle.cube_point.specs.declared.point.Shape.{Shape}
use Rattle.leaf_pack.specs.Leaf.{arity_of}
use Rattle.page_fmt.specs.declared.page.Place.{Place}
use Rattle.tree_pack.specs.Moving.{IsMoving, Moving}
use Rattle.tree_pack.specs.Pages.{PointPage, page_bytes}
use Rattle.tree_pack.specs.Sound.{IsSound}
use Rattle.tree_scan.specs.Scanning.{AreGood}
use Rattle.tree_scan.specs.Streaming.{last_point}
use Rattle.audit_tree.specs.Numbers.{arities}
use Rattle.audit_tree.specs.Packed.{IsWithin, pages_in, points_in}

-- whatever was read, the packer has room for the pages of the points that are left
pub record IsSafe (shape : Shape) (left : List ℕ) (m : Moving) : Type 0 where
  pub shape_is : m.shape ≡ shape
  pub empty : m.buffer ≡ []
  pub sound : IsSound (length (arities left)) m
  pub nine : length left ≡ 9

-- the first n pages are audited, these points are left, and this was the last point
pub record IsAuditing (place : Place) (counts : List ℕ) (limits : List (List ℕ)) (bytes : List ℕ) (n : ℕ) (left : List ℕ) (last : Option Point) (m : Moving) : Type 0 where
  pub good : AreGood place.shape bytes place.first n
  pub last_is : last ≡ last_point None (points_in place bytes n)
  pub within : All (IsWithin limits) (points_in place bytes n)
  pub numbers : map arity_of (points_in place bytes n) ++ arities left ≡ arities counts
  pub pages : List PointPage
  pub many : length pages ≡ n
  pub bytes_are : pages_in place bytes n ≡ map (page_bytes place.shape) pages
  -- whatever points of these arities are to come
  pub moving : (more : List Entry) → map arity_of more ≡ arities left → IsMoving place.first (points_in place bytes n ++ more) pages more m
