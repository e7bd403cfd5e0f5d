-- The moments of a site of which each change is stable at once, from what is there now and from its changes, the newest first.
use Rattle.std.specs.Prelude.{◌≡◌, ◌⊎◌, ℕ, ◌+◌, ◌≤◌, List, [], ◌∷◌, length, take}
use Rattle.std.proofs.Common.{inl, inr, le_trans}
use Rattle.site_core.specs.Disk.{Files, Disk, with_file}
use Rattle.test_sites.specs.declared.sure_site.Change.{Change}
use Rattle.test_sites.specs.declared.sure_site.Change.TheVariants.{Wrote, Told}

-- the files before a change
abbrev pub files_before : Change → Files → Files
files_before (Wrote file bytes) files = with_file files file bytes
files_before (Told count) files = files

-- and the bytes told before it
abbrev pub told_before : Change → List ℕ → List ℕ
told_before (Wrote file bytes) told = told
told_before (Told count) told = take count told

-- what a stop at the moment t or later may have left: what is there now, or what was there before some of the changes
abbrev pub SureSince : Files → List ℕ → List Change → ℕ → List ℕ → Files → Type 0
SureSince now out [] t told files = (t ≤ 0) × (told ≡ out) × (files ≡ now)
SureSince now out (change ∷ earlier) t told files =
    SureSince (files_before change now) (told_before change out) earlier t told files
    ⊎ ((t ≤ length earlier + 1) × (told ≡ out) × (files ≡ now))

-- which it left at each earlier moment or later, too
pub sure_earlier : (now : Files) (out : List ℕ) (changes : List Change) (t u : ℕ) (told : List ℕ) (files : Files) → t ≤ u
    → SureSince now out changes u told files → SureSince now out changes t told files
sure_earlier now out [] t u told files le left = (le_trans le left.0, left.1, left.2)
sure_earlier now out (change ∷ earlier) t u told files le (inl past) =
    inl (sure_earlier (files_before change now) (told_before change out) earlier t u told files le past)
sure_earlier now out (change ∷ earlier) t u told files le (inr here) = inr (le_trans le here.0, here.1, here.2)

-- a stop leaves what a read gives, and the clock is the number of changes
abbrev pub changed_disk : Files → List ℕ → List Change → Disk
changed_disk now out changes = record {
  files = now;
  told = out;
  may_leave = λ files. files ≡ now;
  clock = length changes;
  left_since = SureSince now out changes;
  earlier = sure_earlier now out changes;
}
