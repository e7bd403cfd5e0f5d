-- One more page of a search.
use Rattle.std.specs.Prelude.{◌≡◌, ℕ, ◌+◌, ◌<◌, ◌≤◌, List, ◌++◌, reverse}
use Rattle.std.specs.List.{All}
use Rattle.cube_point.specs.declared.bounds.Region.{Region}
use Rattle.page_fmt.specs.declared.page.Place.{Place}
use Rattle.range_scan.specs.Visits.{below, page_of}
use Rattle.range_scan.specs.Searching.{IsSound}
use Rattle.page_cache.specs.declared.cache.CacheStop.{CacheStop}
use Rattle.page_cache.specs.declared.cache.CacheStop.TheVariants as caches
use Rattle.range_scan.specs.declared.walk.SearchStop.{SearchStop}
use Rattle.range_scan.specs.declared.walk.SearchStop.TheVariants as stops

-- these are pages of the tree
abbrev pub AreAhead : Place → List ℕ → Type 0
AreAhead tree ahead = All (λ number. (tree.first ≤ number) × (number < tree.first + tree.pages)) ahead

-- the page is sound, and the pages below it are visited next; the list is visited from its end
pub record IsVisited (tree : Place) (region : Region) (bytes : List ℕ) (number : ℕ) (ahead next : List ℕ) : Type 0 where
  pub sound : IsSound tree bytes number
  pub goes_on : reverse next ≡ below region (page_of tree.shape bytes number) ++ reverse ahead

-- the damage reported is that the page is not sound
abbrev pub ExplainsStop : Place → List ℕ → ℕ → SearchStop → Type 0
ExplainsStop tree bytes number (stops.Damaged page) = IsSound tree bytes number → ⊥
ExplainsStop tree bytes number stops.Disk = Unit {0}
ExplainsStop tree bytes number stops.Memory = Unit {0}

-- a page that the cache does not give, as an error of the search
abbrev pub stop_at : ℕ → CacheStop → SearchStop
stop_at number caches.Disk = stops.Disk
stop_at number caches.Short = stops.Damaged number
stop_at number caches.Unlawful = stops.Damaged number
stop_at number caches.Memory = stops.Memory
