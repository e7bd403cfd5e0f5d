-- The pages that a session caches between slices.
use Rattle.std.specs.Prelude.{◌≡◌, ◌==◌, ◌+◌, ◌≤◌, ℕ, List, [], cond, length, Option, Some, None}
use Rattle.site_core.specs.Disk.{Files}
use Rattle.forest_root.specs.declared.body.Body.{Body}
use Rattle.spec_store.specs.Sides.{side_of}
use Rattle.page_cache.specs.Giving.{Cache}
use Rattle.page_cache.specs.Keeping.{Agrees, HasRoom, Keeps, LiesIn, unkept}
use Rattle.cube_state.specs.declared.state.State.{State}
use Rattle.cube_state.specs.declared.state.State.TheVariants.{Empty, Idle, Hollow, Pending}

-- the live body; none without a schema
abbrev pub live_of : State → Option Body
live_of Empty = None
live_of (Idle store) = Some store.forest.body
live_of (Hollow store) = Some store.forest.body
live_of (Pending refresh) = Some refresh.store.forest.body

-- the file of the live side; without a schema no page is read
abbrev pub live_file : Option Body → ℕ
live_file None = 2
live_file (Some body) = side_of body

abbrev pub generation : Option Body → ℕ
generation None = 0
generation (Some body) = body.generation

-- the live side is unchanged
abbrev pub SideStays : Option Body → Files → Files → Type 0
SideStays live old new = new (live_file live) ≡ old (live_file live)

-- ---- kept pages

-- each cached page is a page of the live side, as a read gives it
pub record AreLive (live : Body) (files : Files) (cache : Cache) : Type 0 where
  pub lie : LiesIn (side_of live) cache
  pub agree : Agrees files cache

-- the cached pages fit the live side in these files; without a schema there are none
abbrev pub FitsLive : Option Body → Files → Cache → Type 0
FitsLive None files cache = cache.kept ≡ []
FitsLive (Some body) files cache = AreLive body files cache

abbrev pub Fits : State → Files → Cache → Type 0
Fits state files cache = FitsLive (live_of state) files cache

-- the cache without pages
abbrev pub emptied : Cache → Cache
emptied cache = record { capacity = cache.capacity; kept = [] }

-- the cache when the live body changes: it is emptied if the generation is new
abbrev pub kept_over : Option Body → Option Body → Cache → Cache
kept_over old new cache = cond (generation old == generation new) cache (emptied cache)

-- if there is room for all pages visited in a file, only those not cached are read
abbrev pub Saves : Cache → ℕ → List ℕ → ℕ → ℕ → Type 0
Saves cache file numbers before after = HasRoom cache file numbers → after ≤ before + length (unkept cache file numbers)

-- and all of them are cached afterwards
abbrev pub KeepsUp : Cache → Cache → ℕ → List ℕ → Type 0
KeepsUp old new file numbers = HasRoom old file numbers → Keeps old new file numbers
