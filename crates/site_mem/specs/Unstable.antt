-- What a stop may change, by places and lengths.
use Rattle.std.specs.Prelude.{◌≡◌, ℕ, ◌+◌, ◌≤◌, max, Bool, true, false, ◌&&◌, ◌||◌, not, nat_lt, nat_le, List, [], ◌∷◌, length, slice_index, if◌then◌else◌, ◌==◌}
use Rattle.site_core.specs.Disk.{Files}
use Rattle.site_mem.specs.declared.step.Range.{Range}
use Rattle.site_mem.specs.declared.step.Step.{Step}
use Rattle.site_mem.specs.declared.step.Step.TheVariants.{Wrote, Tore, Synced}
use Rattle.site_mem.specs.History.{read_after}

-- the files as the last sync made them stable
abbrev pub stable_after : Files → List Step → Files
stable_after first [] = first
stable_after first (Synced ∷ earlier) = read_after first earlier
stable_after first (_ ∷ earlier) = stable_after first earlier

-- a sync that succeeded
abbrev pub is_synced : Step → Bool
is_synced Synced = true
is_synced _ = false

-- the place of the file lies in the range
abbrev pub covers : Range → ℕ → ℕ → Bool
covers r file i = file == r.file && (nat_le r.at i && nat_lt i (r.at + length r.bytes))

-- the step wrote there, or failed to
abbrev pub tears : Step → ℕ → ℕ → Bool
tears (Wrote r) file i = covers r file i
tears (Tore r) file i = covers r file i
tears _ file i = false

-- a step since the last sync did
abbrev pub is_torn : List Step → ℕ → ℕ → Bool
is_torn [] file i = false
is_torn (step ∷ earlier) file i = not (is_synced step) && (tears step file i || is_torn earlier file i)

-- the end of the range in the file, and zero for a range of another file
abbrev pub range_end : Range → ℕ → ℕ
range_end r file = if file == r.file then r.at + length r.bytes else 0

-- the end of the range that the step wrote in the file, or failed to, and zero where there is none
abbrev pub end_in : Step → ℕ → ℕ
end_in (Wrote r) file = range_end r file
end_in (Tore r) file = range_end r file
end_in _ file = 0

-- the greatest of these ends since the last sync
abbrev pub reach : List Step → ℕ → ℕ
reach [] file = 0
reach (step ∷ earlier) file = if is_synced step then 0 else max (end_in step file) (reach earlier file)

module _ (first : Files) (steps : List Step) (file : ℕ) where
  -- the bytes that the last sync made stable
  abbrev pub stable : List ℕ
  stable = stable_after first steps file

  -- a stop now may leave any byte at this place
  abbrev pub is_unstable : ℕ → Bool
  is_unstable i = nat_le (length stable) i || is_torn steps file i

  -- the greatest length that a stop now may leave
  abbrev pub full_length : ℕ
  full_length = max (length stable) (reach steps file)

-- any length from the stable one to the full one, the stable bytes at stable places, and any bytes elsewhere
pub record IsOutcome (first : Files) (steps : List Step) (files : Files) : Type 0 where
  pub no_shorter : (file : ℕ) → length (stable first steps file) ≤ length (files file)
  pub no_longer : (file : ℕ) → length (files file) ≤ full_length first steps file
  pub kept : (file i : ℕ) → is_unstable first steps file i ≡ false
      → slice_index (files file) i ≡ slice_index (stable first steps file) i
