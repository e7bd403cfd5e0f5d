-- The pages that a search of a tree visits, and the points that it finds there, for any bytes in the file.
use Rattle.std.specs.Prelude.{ℕ, zero, suc, ◌+◌, List, [], ◌∷◌, map, flat_map, filter, Result, Ok, Err}
use Rattle.cube_point.specs.declared.bounds.Region.{Region}
use Rattle.cube_point.specs.declared.point.Entry.{Entry}
use Rattle.cube_point.specs.declared.point.Shape.{Shape}
use Rattle.spec_tree.specs.Tree.{Leaf, Inner}
use Rattle.page_fmt.specs.declared.page.BadPage.{BadPage}
use Rattle.page_fmt.specs.declared.page.Child.{Child}
use Rattle.page_fmt.specs.declared.page.Head.{Head}
use Rattle.page_fmt.specs.declared.page.Node.{Node}
use Rattle.page_fmt.specs.declared.page.Node.TheVariants as nodes
use Rattle.page_fmt.specs.declared.page.Place.{Place}
use Rattle.page_entry.specs.Entries.{entries}
use Rattle.page_fmt.specs.Taking.{children, taken}
use Rattle.tree_pack.specs.Pages.{PointPage}
use Rattle.page_fmt.specs.InFiles.{page_at}
use Rattle.range_scan.specs.Meeting.{is_inside, is_met}

-- the entries or the children that a page of this kind holds
abbrev pub held : Shape → List ℕ → Node → PointPage
held shape page nodes.Leaf = Leaf (entries shape page)
held shape page nodes.Inner = Inner (children shape page)

-- a page that is refused holds nothing
abbrev pub held_if : Shape → List ℕ → Result Head BadPage → PointPage
held_if shape page (Ok head) = held shape page head.node
held_if shape page (Err bad) = Leaf []

-- what the page with this number of a file holds
unfoldable pub page_of : Shape → List ℕ → ℕ → PointPage
page_of shape bytes number = held_if shape (page_at bytes number) (taken shape number (page_at bytes number))

-- the pages of the children whose boxes meet the region, in order
abbrev pub met : Region → List Child → List ℕ
met region cs = map (λ c. c.page) (filter (λ c. is_met region c.bounds) cs)

-- the pages below a page that the search visits
abbrev pub below : Region → PointPage → List ℕ
below region (Leaf es) = []
below region (Inner cs) = met region cs

-- the ends of the paths of at most this many pages from a page down, over boxes that meet the region: each page before those below it
abbrev pub ways : Region → (ℕ → PointPage) → ℕ → ℕ → List ℕ
ways region pages zero number = []
ways region pages (suc most) number = number ∷ flat_map (ways region pages most) (below region (pages number))

-- the ends of all paths from this page down: children come before their page, so no path has more pages than the page's number plus 1
abbrev pub all_ways : Region → (ℕ → PointPage) → ℕ → List ℕ
all_ways region pages number = ways region pages (suc number) number

-- the top page: the last one of a tree
abbrev pub top_page : ℕ → ℕ → List ℕ
top_page first zero = []
top_page first (suc pages) = (first + pages) ∷ []

-- the pages that the search visits, in order: the end of each path from the top page down
unfoldable pub visits : Place → Region → List ℕ → List ℕ
visits tree region bytes = flat_map (all_ways region (page_of tree.shape bytes)) (top_page tree.first tree.pages)

-- the points of a page that lie in the region
abbrev pub hits : Region → PointPage → List Entry
hits region (Leaf es) = filter (is_inside region) es
hits region (Inner cs) = []

-- the points of these pages that lie in the region
abbrev pub found_in : Place → Region → List ℕ → List ℕ → List Entry
found_in tree region bytes numbers = flat_map (λ number. hits region (page_of tree.shape bytes number)) numbers
