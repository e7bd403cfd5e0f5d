-- What becomes of the fields of a site of which no call fails.
use Rattle.std.specs.Prelude.{◌≡◌, ℕ, List, [], ◌∷◌, ◌++◌, length}
use Rattle.site_core.specs.Disk.{with_file, overwritten}
use Rattle.test_sites.specs.declared.sure_site.Change.{Change}
use Rattle.test_sites.specs.declared.sure_site.Change.TheVariants.{Wrote, Told}
use Rattle.site_mem.specs.History.{texts_of}

-- one of the files has these bytes over its old ones, and its old ones are kept
pub record IsPut (file at : ℕ) (bytes : List ℕ) (old new : List (List ℕ)) (past now : List Change) : Type 0 where
  pub files : texts_of new ≡ with_file (texts_of old) file (overwritten (texts_of old file) at bytes)
  pub noted : now ≡ past ++ Wrote file (texts_of old file) ∷ []

-- these bytes are told behind the others, and the number of the others is kept
pub record IsSaid (bytes old new : List ℕ) (past now : List Change) : Type 0 where
  pub told : new ≡ old ++ bytes
  pub noted : now ≡ past ++ Told (length old) ∷ []
