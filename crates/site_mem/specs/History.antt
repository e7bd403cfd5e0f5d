-- The files, the output and the moments of a site, from its files at the start and the steps of its calls, the newest first.
use Rattle.std.specs.Prelude.{◌≡◌, ◌⊎◌, ℕ, zero, suc, ◌+◌, ◌≤◌, List, [], ◌∷◌, ◌++◌, length, Vec}
use Rattle.std.proofs.Common.{inl, inr, le_trans}
use Rattle.std.specs.declared.alloc.Global.{Global}
use Rattle.site_core.specs.Disk.{Files, Disk, Torn, with_file, overwritten}
use Rattle.site_core.specs.Calls.{TellsFront}
use Rattle.site_mem.specs.declared.step.Range.{Range}
use Rattle.site_mem.specs.declared.step.Step.{Step}
use Rattle.site_mem.specs.declared.step.Step.TheVariants.{Wrote, Tore, Synced, Told, Untold}

-- the files by their numbers, and no bytes past the last
abbrev pub files_of : List (Vec ℕ Global) → Files
files_of [] file = []
files_of (v ∷ vs) zero = v.items
files_of (v ∷ vs) (suc file) = files_of vs file

-- the same of texts
abbrev pub texts_of : List (List ℕ) → Files
texts_of [] file = []
texts_of (text ∷ texts) zero = text
texts_of (text ∷ texts) (suc file) = texts_of texts file

-- the files as a read gives them
abbrev pub read_after : Files → List Step → Files
read_after first [] = first
read_after first (Wrote r ∷ earlier) =
    let read = read_after first earlier in
    with_file read r.file (overwritten (read r.file) r.at r.bytes)
read_after first (_ ∷ earlier) = read_after first earlier

-- the bytes told
abbrev pub told_after : List Step → List ℕ
told_after [] = []
told_after (Told bytes ∷ earlier) = told_after earlier ++ bytes
told_after (_ ∷ earlier) = told_after earlier

-- the range of a write is torn
abbrev pub TornBy : Range → Files → Files → Files → Type 0
TornBy r read old new = Torn r.file r.at (length r.bytes) (length (read r.file)) old new

-- the files that a stop now may leave
abbrev pub MayLeave : Files → List Step → Files → Type 0
MayLeave first [] files = files ≡ first
MayLeave first (Wrote r ∷ earlier) files =
    (d : Files) × MayLeave first earlier d × TornBy r (read_after first earlier) d files
MayLeave first (Tore r ∷ earlier) files =
    (d : Files) × MayLeave first earlier d × TornBy r (read_after first earlier) d files
MayLeave first (Synced ∷ earlier) files = files ≡ read_after first earlier
MayLeave first (_ ∷ earlier) files = MayLeave first earlier files

-- a first part of these bytes is told, and the files are as a stop before might have left them
abbrev pub TellsPart : Files → List ℕ → List Step → List ℕ → Files → Type 0
TellsPart first bytes earlier told files =
    TellsFront bytes (told_after earlier) told × MayLeave first earlier files

-- What a stop inside a call may leave and one before or after it may not: a part of the bytes told.
abbrev pub Inside : Files → Step → List Step → List ℕ → Files → Type 0
Inside first (Told bytes) earlier told files = TellsPart first bytes earlier told files
Inside first (Untold bytes) earlier told files = TellsPart first bytes earlier told files
Inside first _ earlier told files = ⊥

-- what a stop after the first t steps, or later, may have left
abbrev pub LeftSince : Files → List Step → ℕ → List ℕ → Files → Type 0
LeftSince first [] t told files = (t ≤ 0) × (told ≡ []) × (files ≡ first)
LeftSince first (step ∷ earlier) t told files =
    LeftSince first earlier t told files
    ⊎ (((t ≤ length earlier) × Inside first step earlier told files)
    ⊎ ((t ≤ length earlier + 1) × (told ≡ told_after (step ∷ earlier)) × MayLeave first (step ∷ earlier) files))

-- which it left after each fewer steps, or later, too
pub left_earlier : (first : Files) (steps : List Step) (t u : ℕ) (told : List ℕ) (files : Files) → t ≤ u
    → LeftSince first steps u told files → LeftSince first steps t told files
left_earlier first [] t u told files le left = (le_trans le left.0, left.1, left.2)
left_earlier first (step ∷ earlier) t u told files le (inl past) = inl (left_earlier first earlier t u told files le past)
left_earlier first (step ∷ earlier) t u told files le (inr (inl inside)) = inr (inl (le_trans le inside.0, inside.1))
left_earlier first (step ∷ earlier) t u told files le (inr (inr now)) = inr (inr (le_trans le now.0, now.1, now.2))

-- the clock is the number of steps
abbrev pub disk_of : Files → List Step → Disk
disk_of first steps = record {
  files = read_after first steps;
  told = told_after steps;
  may_leave = MayLeave first steps;
  clock = length steps;
  left_since = LeftSince first steps;
  earlier = left_earlier first steps;
}
