-- What has to stand before a commit.
use Rattle.std.specs.Prelude.{◌≡◌, ℕ, ◌+◌, ◌++◌, List, length, take}
use Rattle.site_core.specs.Disk.{Disk}
use Rattle.fact_model.specs.declared.fact.Fact.{Fact}
use Rattle.forest_root.specs.declared.body.Body.{Body}
use Rattle.forest_root.specs.declared.forest.Forest.{Forest}
use Rattle.forest_root.specs.Keeps.{IsBodyOf}
use Rattle.forest_commit.specs.Commit.{IsLiveNow, slot_of}
use Rattle.spec_forest.specs.Forest.{forest as forest_bytes}
use Rattle.spec_store.specs.Held.{FitsFormat, held, names_text}

-- the accepted facts are live, and all of them may be behind this body, with these entries of new names
pub record MayCommit (forest : Forest) (entries : List ℕ) (next : Body) (accepted all : List Fact) (disk : Disk) : Type 0 where
  pub slot : ℕ
  pub live : IsLiveNow (held forest.body.format forest.schema accepted forest.body.last) slot forest.body disk
  pub fits : FitsFormat next.format all
  pub counted : IsBodyOf (held next.format forest.schema all next.last) next
  pub named : names_text forest.schema all ≡ names_text forest.schema accepted ++ entries
  -- their forest stands on the other side
  pub pages : take (length (forest_bytes next.format forest.schema all)) (disk.files (2 + slot_of next)) ≡ forest_bytes next.format forest.schema all
