-- Points kept in the leaves that held them.
use Rattle.std.specs.Prelude.{◌≡◌, ◌≤◌, ◌<◌, ℕ, List, [], ◌∷◌, Option, Some, None, flat_map, length, get_or}
use Rattle.std.specs.List.{All}
use Rattle.std.specs.declared.alloc.Global.{Global}
use Rattle.std.specs.declared.boxed.Box.{Box}
use Rattle.cube_point.specs.declared.point.Entry.{Entry}
use Rattle.cube_point.specs.declared.point.Shape.{Shape}
use Rattle.page_entry.specs.Entries.{HasEntries, entries, page_count}
use Rattle.page_fmt.specs.Trees.{room_of}

-- what is kept of a view
pub record Kept : Type 0 where
  pub shape : Shape
  pub arity : ℕ
  -- its leaves, each as its bytes
  pub leaves : List (List ℕ)
  -- the page number of the first leaf
  pub first : Option ℕ

-- the points of leaves of this shape
abbrev pub entries_in : Shape → List (List ℕ) → List Entry
entries_in shape leaves = flat_map (entries shape) leaves

-- the points in the kept leaves
abbrev pub points_of : Kept → List Entry
points_of kept = entries_in kept.shape kept.leaves

-- before the first leaf
abbrev pub no_points : Shape → ℕ → Kept
no_points shape arity = record { shape = shape; arity = arity; leaves = []; first = None }

-- no leaf has room for another point
abbrev pub AreFull : Kept → Type 0
AreFull kept = All (λ p. page_count p ≡ room_of kept.shape kept.arity) kept.leaves

-- the first page if there was one, otherwise this one
abbrev pub first_or : Option ℕ → ℕ → Option ℕ
first_or None number = Some number
first_or (Some page) number = Some page

-- no points of the arities from 0 to 8
abbrev pub AreFresh : Shape → List Kept → Type 0
AreFresh shape views = (arity : ℕ) (d : Kept) → arity < 9 → get_or views arity d ≡ no_points shape arity

-- AUXILIARY

-- the bytes in a box
abbrev pub bytes_of : Box (List ℕ) Global → List ℕ
bytes_of page = page.value

-- a leaf of at most `room` points, and of exactly `room` if leaves follow
pub record IsLeafBefore (shape : Shape) (room : ℕ) (page : List ℕ) (later : ℕ) : Type 0 where
  pub fits : HasEntries shape page
  pub few : page_count page ≤ room
  pub full : 0 < later → page_count page ≡ room

-- leaves, all full but the last
abbrev pub AreLeaves : Shape → ℕ → List (List ℕ) → Type 0
AreLeaves shape room [] = Unit {0}
AreLeaves shape room (p ∷ ps) = IsLeafBefore shape room p (length ps) × AreLeaves shape room ps
