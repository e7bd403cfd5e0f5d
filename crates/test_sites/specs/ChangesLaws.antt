-- The laws of a site that hold of every list of changes.
use Rattle.std.proofs.Common.{◌≡◌, inl, inr, ℕ, suc, ◌≤◌, List, [], ◌∷◌, length, refl, arith}
use Rattle.site_core.specs.Disk.{Files}
use Rattle.test_sites.specs.declared.sure_site.Change.{Change}
use Rattle.test_sites.specs.Changes.{files_before, told_before, SureSince}

pub sure_counts_now : (now : Files) (out : List ℕ) (changes : List Change) (t : ℕ) (files : Files) → t ≤ length changes
    → files ≡ now → SureSince now out changes t out files
sure_counts_now now out [] t files le is = (le, refl, is)
sure_counts_now now out (change ∷ earlier) t files le is = inr (omega arith, refl, is)

none_later : (now : Files) (out : List ℕ) (changes : List Change) (t : ℕ) (told : List ℕ) (files : Files)
    → SureSince now out changes t told files → t ≤ length changes
none_later now out [] t told files left = left.0
none_later now out (change ∷ earlier) t told files (inl past) =
    let le = none_later (files_before change now) (told_before change out) earlier t told files past in omega arith
none_later now out (change ∷ earlier) t told files (inr here) = let le = here.0 in omega arith

pub sure_only_now : (now : Files) (out : List ℕ) (changes : List Change) (told : List ℕ) (files : Files)
    → SureSince now out changes (length changes) told files → (told ≡ out) × (files ≡ now)
sure_only_now now out [] told files left = (left.1, left.2)
sure_only_now now out (change ∷ earlier) told files (inl past) =
    let le = none_later (files_before change now) (told_before change out) earlier (suc (length earlier)) told files past in
    absurd (omega arith)
sure_only_now now out (change ∷ earlier) told files (inr here) = (here.1, here.2)
