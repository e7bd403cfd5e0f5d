-- The pages that are kept, in the places of a map.
use Rattle.std.specs.Prelude.{◌≡◌, ℕ, List, map, take, Option, Some, Ok}
use Rattle.std.specs.Map.{lookup}
use Rattle.std.specs.declared.alloc.Global.{Global}
use Rattle.std.specs.declared.boxed.Box.{Box}
use Rattle.cube_point.specs.declared.point.Shape.{Shape}
use Rattle.page_fmt.specs.declared.page.Head.{Head}
use Rattle.page_fmt.specs.InFiles.{IsPageOf}
use Rattle.page_fmt.specs.Taking.{taken}
use Rattle.page_cache.specs.declared.kept.Kept.{Kept}
use Rattle.page_cache.specs.declared.slots.Slots.{Slots}
use Rattle.page_cache.specs.Giving.{Cache, Name, same_name, used}

-- the page in a place, with its name
abbrev pub unboxed : Name × Kept → Name × List ℕ
unboxed place = (place.0, place.1.page.value)

-- as many as may be kept, the one last used first
abbrev pub kept_in : ℕ → List (Name × Kept) → List (Name × List ℕ)
kept_in capacity places = take capacity (map unboxed places)

-- what a contract sees of them
abbrev pub cache_in : Slots → Cache
cache_in slots = record { capacity = slots.capacity; kept = kept_in slots.capacity slots.map.entries }

-- the page with this name is in the map, as the one last used; where it was kept, it is as it was kept
pub record IsGiven (name : Name) (old new : Slots) : Type 0 where
  pub place : Kept
  pub there : lookup (same_name name) new.map.entries ≡ Some place
  pub kept : cache_in new ≡ record { capacity = old.capacity; kept = used old.capacity name place.page.value (cache_in old).kept }
  pub same : (page : List ℕ) → lookup (same_name name) (cache_in old).kept ≡ Some page → place.page.value ≡ page

-- the page with this name is in the map, as a read of its file gives it
abbrev pub IsFound : List ℕ → Name → Slots → Type 0
IsFound bytes name slots = (place : Kept) × (lookup (same_name name) slots.map.entries ≡ Some place) × IsPageOf bytes name.1 place.page.value

-- the page with this name in the map is accepted under this shape, with this head
abbrev pub HasHead : Shape → Name → Slots → Head → Type 0
HasHead shape name slots head = (place : Kept) → lookup (same_name name) slots.map.entries ≡ Some place → Ok head ≡ taken shape name.1 place.page.value

-- this page is in the map by this name
abbrev pub IsIn : Option (Box (List ℕ) Global) → Name → Slots → Type 0
IsIn page name slots = (place : Kept) × (lookup (same_name name) slots.map.entries ≡ Some place) × (page ≡ Some place.page)
