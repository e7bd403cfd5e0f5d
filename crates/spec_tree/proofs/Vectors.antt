-- A worked example: the four pages of a tree of three views, the leaves of a view of 64 points, and the pages of large trees.
use Rattle.std.specs.Prelude.{◌≡◌, ℕ, zero, suc, ◌+◌, List, [], ◌∷◌, length, refl, min, max, Some, None}
use Rattle.spec_tree.specs.Tree.{Page, Leaf, Inner, tree, entries_in}
use Rattle.spec_tree.specs.Counts.{tree_pages}
use Rattle.spec_tree.specs.Levels.{no_levels, full_level, rest_level, put_at, closed}

-- a point of two coordinates, and a box by its lowest and its highest ones
abbrev Spot : Type 0
Spot = ℕ × ℕ

abbrev Box : Type 0
Box = Spot × Spot

abbrev lows : List Spot → Spot
lows [] = (0, 0)
lows (p ∷ []) = p
lows (p ∷ q ∷ ps) = (min p.0 (lows (q ∷ ps)).0, min p.1 (lows (q ∷ ps)).1)

abbrev highs : List Spot → Spot
highs [] = (0, 0)
highs (p ∷ ps) = (max p.0 (highs ps).0, max p.1 (highs ps).1)

-- a child is the box of its points with its page number
abbrev child : List Spot → ℕ → (Box × ℕ)
child ps n = ((lows ps, highs ps), n)

-- the room of a leaf, by arity, where there is one measure
abbrev room : ℕ → ℕ
room zero = 73
room (suc zero) = 68
room (suc (suc a)) = 63

-- ---- three views in four pages

-- one point of all facts, two years, and three pairs of a part and a year
abbrev views : List (ℕ × List Spot)
views = (0, (0, 0) ∷ []) ∷ (1, (1998, 0) ∷ (1999, 0) ∷ []) ∷ (2, (1, 1998) ∷ (2, 1998) ∷ (1, 1999) ∷ []) ∷ []

-- each view has one leaf, and the page above all comes last
pub four_pages : tree child room 170 0 views
    ≡ Leaf ((0, 0) ∷ [])
    ∷ Leaf ((1998, 0) ∷ (1999, 0) ∷ [])
    ∷ Leaf ((1, 1998) ∷ (2, 1998) ∷ (1, 1999) ∷ [])
    ∷ Inner ((((0, 0), (0, 0)), 0) ∷ (((1998, 0), (1999, 0)), 1) ∷ (((1, 1998), (2, 1999)), 2) ∷ [])
    ∷ []
four_pages = refl

-- its entries, page by page, are those of the views
pub its_entries : entries_in (tree child room 170 0 views) ≡ (0, 0) ∷ (1998, 0) ∷ (1999, 0) ∷ (1, 1998) ∷ (2, 1998) ∷ (1, 1999) ∷ []
its_entries = refl

-- in another place of the file only the page numbers differ
pub from_page_7 : tree child room 170 7 ((2, (1, 1998) ∷ []) ∷ (3, (2, 1998) ∷ []) ∷ [])
    ≡ Leaf ((1, 1998) ∷ [])
    ∷ Leaf ((2, 1998) ∷ [])
    ∷ Inner ((((1, 1998), (1, 1998)), 7) ∷ (((2, 1998), (2, 1998)), 8) ∷ [])
    ∷ []
from_page_7 = refl

-- no points have no pages, and one leaf has no page above it
pub no_pages : tree child room 170 0 ((0, []) ∷ (1, []) ∷ []) ≡ []
no_pages = refl

pub one_page : tree child room 170 5 ((0, []) ∷ (1, (3, 0) ∷ []) ∷ []) ≡ Leaf ((3, 0) ∷ []) ∷ []
one_page = refl

-- ---- a view of one point more than a leaf has room for

-- so many points of part 1, one a year
abbrev years : ℕ → ℕ → List Spot
years zero y = []
years (suc n) y = (1, y) ∷ years n (suc y)

-- how many entries or children each page has
abbrev sizes : List (Page Spot (Box × ℕ)) → List ℕ
sizes [] = []
sizes (Leaf es ∷ ps) = length es ∷ sizes ps
sizes (Inner cs ∷ ps) = length cs ∷ sizes ps

pub two_leaves : sizes (tree child room 170 0 ((0, []) ∷ (1, []) ∷ (2, years 64 1900) ∷ [])) ≡ 63 ∷ 1 ∷ 2 ∷ []
two_leaves = refl

-- ---- numbers of pages

pub four : tree_pages room 170 ((0, 1) ∷ (1, 2) ∷ (2, 3) ∷ []) ≡ 4
four = refl

pub three : tree_pages room 170 ((0, 0) ∷ (1, 0) ∷ (2, 64) ∷ []) ≡ 3
three = refl

pub many : tree_pages room 170 ((0, 1) ∷ (1, 1000000) ∷ (2, 1099511627776) ∷ []) ≡ 17555849936
many = refl

-- ---- the levels

-- the sum of numbers, for a child over children
abbrev total : List ℕ → ℕ
total [] = 0
total (n ∷ ns) = n + total ns

-- a level of two children of a page of two: the lowest of those is the one to close
pub lowest_full : full_level {C = ℕ} 2 ((1 ∷ []) ∷ (2 ∷ 3 ∷ []) ∷ (4 ∷ 5 ∷ []) ∷ []) ≡ Some 1
lowest_full = refl

-- one child alone is the top of the tree, at whatever level
pub top_alone : rest_level {C = ℕ} ([] ∷ (7 ∷ []) ∷ []) ≡ None
top_alone = refl

-- nothing is packed where no level holds a child
pub nothing_held : rest_level (no_levels {C = ℕ}) ≡ None
nothing_held = refl

-- the lowest level that holds a child, where there is another child
pub lowest_rest : rest_level {C = ℕ} ([] ∷ (7 ∷ []) ∷ (8 ∷ []) ∷ []) ≡ Some 1
lowest_rest = refl

-- a child comes to the end of its level
pub put_last : put_at {C = ℕ} 1 9 ([] ∷ (7 ∷ []) ∷ (8 ∷ []) ∷ []) ≡ [] ∷ (7 ∷ 9 ∷ []) ∷ (8 ∷ []) ∷ []
put_last = refl

-- the closed level is empty, and the sum of its children stands above
pub closed_up : closed total 0 ((3 ∷ 4 ∷ []) ∷ (1 ∷ []) ∷ (8 ∷ []) ∷ []) ≡ [] ∷ (1 ∷ 7 ∷ []) ∷ (8 ∷ []) ∷ []
closed_up = refl
