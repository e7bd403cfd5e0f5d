-- Pages that are the packing of the points read from them.
use Rattle.std.specs.Prelude.{◌≡◌, ◌≤◌, ◌<◌, ℕ, List, [], ◌++◌, get_or, map, slice_index, take}
use Rattle.std.specs.List.{All, range_with_len}
use Rattle.cube_point.specs.declared.point.Entry.{Entry}
use Rattle.leaf_pack.specs.Leaf.{arity_of}
use Rattle.page_fmt.specs.declared.page.Place.{Place}
use Rattle.page_fmt.specs.InFiles.{page_at}
use Rattle.tree_pack.specs.Pages.{page_bytes, pages_of}
use Rattle.tree_scan.specs.Scanning.{AreGood, entries_of}
use Rattle.audit_tree.specs.Numbers.{arities, views_of}

-- the points read from the first pages of a tree, so many
abbrev pub points_in : Place → List ℕ → ℕ → List Entry
points_in place bytes n = entries_of place.shape bytes place.first n

-- the bytes of its first pages, page by page
abbrev pub pages_in : Place → List ℕ → ℕ → List (List ℕ)
pages_in place bytes n = map (λ number. page_at bytes number) (range_with_len place.first n)

-- the pages that a tree of these points has, packed, in bytes
abbrev pub packed_pages : Place → List ℕ → List Entry → List (List ℕ)
packed_pages place counts es = map (page_bytes place.shape) (pages_of place.shape place.first (views_of counts es))

-- no used coordinate of the point is above the limit of its arity
abbrev pub IsWithin : List (List ℕ) → Entry → Type 0
IsWithin limits e = (i : ℕ) → i < e.point.arity → slice_index e.point.at i ≤ slice_index (get_or limits e.point.arity []) i

-- the first n pages are the first of the packing of the points read from them, with more behind these that make up the numbers
pub record ArePacked (place : Place) (counts bytes : List ℕ) (n : ℕ) : Type 0 where
  pub more : List Entry
  pub numbers : map arity_of (points_in place bytes n ++ more) ≡ arities counts
  pub pages : pages_in place bytes n ≡ take n (packed_pages place counts (points_in place bytes n ++ more))

-- the first n pages keep the rules: each is there and is accepted, its points come behind those before it and are within the limits, and
-- all of them are packed
pub record AreAudited (place : Place) (counts : List ℕ) (limits : List (List ℕ)) (bytes : List ℕ) (n : ℕ) : Type 0 where
  pub good : AreGood place.shape bytes place.first n
  pub within : All (IsWithin limits) (points_in place bytes n)
  pub packed : ArePacked place counts bytes n

-- all pages of the tree are the packing of the points read from them, which are as many as the numbers say; each is accepted, the points ascend,
-- and they are within the limits
pub record IsAuditedTree (place : Place) (counts : List ℕ) (limits : List (List ℕ)) (bytes : List ℕ) : Type 0 where
  pub good : AreGood place.shape bytes place.first place.pages
  pub within : All (IsWithin limits) (points_in place bytes place.pages)
  pub numbers : map arity_of (points_in place bytes place.pages) ≡ arities counts
  pub pages : pages_in place bytes place.pages ≡ packed_pages place counts (points_in place bytes place.pages)
