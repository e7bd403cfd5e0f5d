-- What an audit keeps of a tree: of each arity its points, and the page of its first leaf.
use Rattle.std.specs.Prelude.{◌≡◌, ◌≤◌, ◌<◌, ◌+◌, ◌^◌, ◌==◌, ℕ, Bool, true, false, List, [], ◌∷◌, ◌++◌, Option, filter, get_or, length, slice_index}
use Rattle.std.specs.List.{All, range_with_len}
use Rattle.cube_point.specs.declared.point.Entry.{Entry}
use Rattle.cube_point.specs.declared.point.Shape.{Shape}
use Rattle.audit_points.specs.Kept.{AreFull, Kept, first_or, points_of}
use Rattle.leaf_pack.specs.Leaf.{arity_of}
use Rattle.page_fmt.specs.declared.page.Place.{Place}
use Rattle.page_fmt.specs.InFiles.{page_at}
use Rattle.page_entry.specs.Stored.{FitsLeaf}
use Rattle.tree_scan.specs.Scanning.{leaf_entries}
use Rattle.tree_scan.specs.Streaming.{first_of}
use Rattle.audit_tree.specs.Packed.{points_in}

-- the point has this arity
abbrev pub has_arity : ℕ → Entry → Bool
has_arity arity e = arity_of e == arity

-- of the first n pages of a tree the points of an arity
abbrev pub view_points : Place → List ℕ → ℕ → ℕ → List Entry
view_points place bytes n arity = filter (has_arity arity) (points_in place bytes n)

-- the points are those of a leaf of this arity
abbrev pub is_leaf_of : ℕ → List Entry → Bool
is_leaf_of arity [] = false
is_leaf_of arity (e ∷ es) = has_arity arity e

-- of the first n pages of a tree the first that is a leaf of an arity
abbrev pub first_leaf : Place → List ℕ → ℕ → ℕ → Option ℕ
first_leaf place bytes n arity = first_of (filter (λ number. is_leaf_of arity (leaf_entries place.shape (page_at bytes number))) (range_with_len place.first n))

-- what is kept of the first n pages for an arity
pub record IsKept (place : Place) (bytes : List ℕ) (n arity : ℕ) (kept : Kept) : Type 0 where
  pub points : points_of kept ≡ view_points place bytes n arity
  pub first : kept.first ≡ first_leaf place bytes n arity

-- for each arity
abbrev pub AreKept : Place → List ℕ → ℕ → List Kept → Type 0
AreKept place bytes n views = (arity : ℕ) (d : Kept) → arity < 9 → IsKept place bytes n arity (get_or views arity d)

-- it is a view of this arity of a tree of this shape, and a leaf may hold each of its points
pub record IsViewOf (shape : Shape) (arity : ℕ) (kept : Kept) : Type 0 where
  pub shape_is : kept.shape ≡ shape
  pub arity_is : kept.arity ≡ arity
  pub good : All (FitsLeaf shape) (points_of kept)

abbrev pub AreViewsOf : Shape → List Kept → Type 0
AreViewsOf shape views = (arity : ℕ) (d : Kept) → arity < 9 → IsViewOf shape arity (get_or views arity d)

-- ON THE WAY THERE

-- where so many points of an arity are to come, there is room for the next leaf
pub record IsOpen (shape : Shape) (arity left : ℕ) (kept : Kept) : Type 0 where
  pub view : IsViewOf shape arity kept
  pub full : 0 < left → AreFull kept
  pub few : length (points_of kept) + left ≤ 2 ^ 40

abbrev pub AreOpen : Shape → List ℕ → List Kept → Type 0
AreOpen shape left views = (arity : ℕ) (d : Kept) → arity < 9 → IsOpen shape arity (slice_index left arity) (get_or views arity d)

-- the page, where it is the first leaf of the arity
abbrev pub first_with : Option ℕ → Bool → ℕ → Option ℕ
first_with first true number = first_or first number
first_with first false number = first

-- a page with these points is kept too
pub record IsKeptWith (es : List Entry) (number arity : ℕ) (kept next : Kept) : Type 0 where
  pub points : points_of next ≡ points_of kept ++ filter (has_arity arity) es
  pub first : next.first ≡ first_with kept.first (is_leaf_of arity es) number

abbrev pub AreKeptWith : List Entry → ℕ → List Kept → List Kept → Type 0
AreKeptWith es number views next = (arity : ℕ) (d : Kept) → arity < 9 → IsKeptWith es number arity (get_or views arity d) (get_or next arity d)

-- so that there is room for the next leaf again
pub record Keeps (shape : Shape) (left : List ℕ) (es : List Entry) (number : ℕ) (views next : List Kept) : Type 0 where
  pub kept : AreKeptWith es number views next
  pub open_again : AreOpen shape left next
