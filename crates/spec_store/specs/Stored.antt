-- A store that belongs to accepted facts.
use Rattle.std.specs.Prelude.{◌≡◌, ℕ, List, length, slice_index}
use Rattle.site_core.specs.Disk.{Files}
use Rattle.fact_model.specs.declared.fact.Fact.{Fact}
use Rattle.spec_points.specs.Codes.{names_of}
use Rattle.attr_dict.specs.Book.{names_at, shown_names}
use Rattle.forest_root.specs.declared.forest.Store.{Store}
use Rattle.spec_store.specs.Held.{AreAccepted, IsLive}

-- the files keep these facts, the store has their live body, and slices know exactly their names
pub record IsStoreOf (store : Store) (facts : List Fact) (files : Files) : Type 0 where
  pub accepted : AreAccepted store.forest.schema facts
  pub live : IsLive store.forest.schema store.forest.body facts files
  pub names : (a : ℕ) → shown_names store.dicts store.shown.at a ≡ names_of facts a

-- no batch is pending: slices know all names
abbrev pub IsWhole : Store → Type 0
IsWhole store = (a : ℕ) → slice_index store.shown.at a ≡ length (names_at store.dicts a)
