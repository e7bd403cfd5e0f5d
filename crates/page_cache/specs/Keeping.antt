-- The kept pages beside the files, and over several pages that are asked for.
use Rattle.std.specs.Prelude.{◌≡◌, ℕ, ◌+◌, ◌≤◌, List, IsTrue, filter, length, not}
use Rattle.std.specs.List.{All}
use Rattle.site_core.specs.Disk.{Files}
use Rattle.page_fmt.specs.InFiles.{IsPageOf}
use Rattle.page_cache.specs.Giving.{Cache, Name, is_kept}

-- each kept page is as a read of its file gives it
abbrev pub Agrees : Files → Cache → Type 0
Agrees files cache = All (λ (page : Name × List ℕ). IsPageOf (files page.0.0) page.0.1 page.1) cache.kept

-- each kept page is one of this file
abbrev pub LiesIn : ℕ → Cache → Type 0
LiesIn file cache = All (λ (page : Name × List ℕ). page.0.0 ≡ file) cache.kept

-- of these pages of a file those that are not kept
abbrev pub unkept : Cache → ℕ → List ℕ → List ℕ
unkept cache file numbers = filter (λ number. not (is_kept cache (file, number))) numbers

-- the cache may keep them beside the pages that it keeps
abbrev pub HasRoom : Cache → ℕ → List ℕ → Type 0
HasRoom cache file numbers = length cache.kept + length (unkept cache file numbers) ≤ cache.capacity

-- each of these pages of the file is kept, and each that was kept before
pub record Keeps (old new : Cache) (file : ℕ) (numbers : List ℕ) : Type 0 where
  pub asked : All (λ (number : ℕ). IsTrue (is_kept new (file, number))) numbers
  pub before : (name : Name) → IsTrue (is_kept old name) → IsTrue (is_kept new name)
