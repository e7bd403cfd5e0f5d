-- What a cache of pages keeps and gives.
use Rattle.std.specs.Prelude.{◌==◌, ◌&&◌, ◌≡◌, ℕ, ◌+◌, ◌*◌, ◌<◌, ◌≤◌, Bool, List, ◌∷◌, length, take, Some, is_some, IsOk}
use Rattle.std.specs.Map.{lookup, remove_entry}
use Rattle.cube_point.specs.declared.point.Shape.{Shape}
use Rattle.page_entry.specs.declared.size.TheConstants.{PAGE}
use Rattle.page_fmt.specs.InFiles.{page_at}
use Rattle.page_fmt.specs.Taking.{taken}
use Rattle.page_cache.specs.declared.cache.CacheStop.{CacheStop}
use Rattle.page_cache.specs.declared.cache.CacheStop.TheVariants as stops

-- a page's file and number
abbrev pub Name : Type 0
Name = ℕ × ℕ

-- the same file and the same number
abbrev pub same_name : Name → Name → Bool
same_name a b = (a.0 == b.0) && (a.1 == b.1)

-- what a contract sees of a cache: how many pages it may keep, and the pages that it keeps by their names, the one last used first
pub record Cache : Type 0 where
  pub capacity : ℕ
  pub kept : List (Name × List ℕ)

-- whether the page with this name is kept
abbrev pub is_kept : Cache → Name → Bool
is_kept cache name = is_some (lookup (same_name name) cache.kept)

-- what is kept once this page was used: it goes first, and the last of the others goes out where they are too many
abbrev pub used : ℕ → Name → List ℕ → List (Name × List ℕ) → List (Name × List ℕ)
used capacity name page kept = take capacity ((name, page) ∷ remove_entry (same_name name) kept)

-- the file ends before the page's end; or it has the page, and there was no memory for it
abbrev pub ExplainsStop : List ℕ → ℕ → CacheStop → Type 0
ExplainsStop bytes number stops.Short = length bytes < PAGE * (number + 1)
ExplainsStop bytes number stops.Memory = PAGE * (number + 1) ≤ length bytes
ExplainsStop bytes number stops.Unlawful = Unit {0}
ExplainsStop bytes number stops.Disk = Unit {0}

-- the page is there, and breaks a rule of pages of this shape
pub record IsBroken (shape : Shape) (bytes : List ℕ) (number : ℕ) : Type 0 where
  pub whole : PAGE * (number + 1) ≤ length bytes
  pub unlawful : IsOk (taken shape number (page_at bytes number)) → ⊥

-- a page that is told to break a rule does so
abbrev pub IsUnlawful : Shape → List ℕ → ℕ → CacheStop → Type 0
IsUnlawful shape bytes number stops.Unlawful = IsBroken shape bytes number
IsUnlawful shape bytes number stops.Short = Unit {0}
IsUnlawful shape bytes number stops.Memory = Unit {0}
IsUnlawful shape bytes number stops.Disk = Unit {0}

-- a page that is kept is refused, as it is none of this shape
pub record IsRefused (shape : Shape) (cache : Cache) (name : Name) (stop : CacheStop) : Type 0 where
  pub page : List ℕ
  pub kept : lookup (same_name name) cache.kept ≡ Some page
  pub unlawful : IsOk (taken shape name.1 page) → ⊥
  pub told : stop ≡ stops.Unlawful
