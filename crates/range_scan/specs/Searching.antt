-- What a search of a tree answers, for any bytes in the file.
use Rattle.std.specs.Prelude.{◌≡◌, ℕ, ◌+◌, ◌*◌, ◌<◌, ◌≤◌, List, [], ◌∷◌, ◌++◌, length, Result, Ok, Err, IsOk}
use Rattle.std.specs.List.{All}
use Rattle.cube_point.specs.declared.bounds.Region.{Region}
use Rattle.cube_point.specs.declared.point.Entry.{Entry}
use Rattle.spec_tree.specs.Tree.{Leaf, Inner}
use Rattle.page_fmt.specs.declared.page.Child.{Child}
use Rattle.page_fmt.specs.declared.page.Place.{Place}
use Rattle.page_entry.specs.declared.size.TheConstants.{PAGE}
use Rattle.page_fmt.specs.Taking.{taken}
use Rattle.tree_pack.specs.Pages.{PointPage}
use Rattle.page_fmt.specs.InFiles.{page_at}
use Rattle.range_scan.specs.Visits.{found_in, page_of, visits}
use Rattle.range_scan.specs.declared.walk.SearchStop.{SearchStop}
use Rattle.range_scan.specs.declared.walk.SearchStop.TheVariants as stops

-- the children of an inner page; a leaf has none
abbrev pub children_in : PointPage → List Child
children_in (Leaf es) = []
children_in (Inner cs) = cs

-- the page is there and lawful, and no child comes before the tree's first page
pub record IsSound (tree : Place) (bytes : List ℕ) (number : ℕ) : Type 0 where
  pub whole : PAGE * (number + 1) ≤ length bytes
  pub lawful : IsOk (taken tree.shape number (page_at bytes number))
  pub within : All (λ (c : Child). tree.first ≤ c.page) (children_in (page_of tree.shape bytes number))

-- each page that the search visits is sound, and there are no more of these than the tree has; their points in the region are found
pub record IsAnswer (tree : Place) (region : Region) (bytes : List ℕ) (found : List Entry) : Type 0 where
  pub sound : All (IsSound tree bytes) (visits tree region bytes)
  pub few : length (visits tree region bytes) ≤ tree.pages
  pub points : found ≡ found_in tree region bytes (visits tree region bytes)

-- of the pages that the search visits, this is the first that is not sound, or the first that is one more than the tree has
pub record IsFirstBad (tree : Place) (region : Region) (bytes : List ℕ) (number : ℕ) : Type 0 where
  pub before : List ℕ
  pub after : List ℕ
  pub split : visits tree region bytes ≡ before ++ number ∷ after
  pub sound : All (IsSound tree bytes) before
  pub few : length before ≤ tree.pages
  pub bad : length before < tree.pages → IsSound tree bytes number → ⊥

-- all pages that the search visits are sound, and their points in the region are found; or this is the first bad page
abbrev pub IsSearched : Place → Region → List ℕ → Result (Unit {0}) SearchStop → Type 0
IsSearched tree region bytes (Ok done) = IsAnswer tree region bytes (found_in tree region bytes (visits tree region bytes))
IsSearched tree region bytes (Err (stops.Damaged page)) = IsFirstBad tree region bytes page
IsSearched tree region bytes (Err stops.Disk) = Unit {0}
IsSearched tree region bytes (Err stops.Memory) = Unit {0}

-- the damage reported is in one of these pages
abbrev pub NamesPage : ℕ → ℕ → SearchStop → Type 0
NamesPage first count (stops.Damaged page) = (first ≤ page) × (page < first + count)
NamesPage first count stops.Disk = Unit {0}
NamesPage first count stops.Memory = Unit {0}
