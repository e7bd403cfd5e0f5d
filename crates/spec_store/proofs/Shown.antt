-- The names that slices know, where no batch is pending.
use Rattle.std.proofs.Common.{◌≡◌, ℕ, List, sym, ◌∙◌, arith}
use Rattle.std.specs.Prelude.{slice_index}
use Rattle.std.proofs.lemmas.List.{take_all}
use Rattle.site_core.specs.Disk.{Files}
use Rattle.fact_model.specs.declared.fact.Fact.{Fact}
use Rattle.spec_points.specs.Codes.{names_of}
use Rattle.attr_dict.specs.Book.{HoldsNamesOf, names_at, shown_names}
use Rattle.forest_root.specs.declared.forest.Store.{Store}
use Rattle.spec_store.specs.Stored.{IsStoreOf, IsWhole}

-- they are all names
pub shown_all : (store : Store) → IsWhole store → (a : ℕ) → shown_names store.dicts store.shown.at a ≡ names_at store.dicts a
shown_all store whole a = take_all (slice_index store.shown.at a) (names_at store.dicts a) (omega (arith, whole a))

-- so all names are those of the accepted facts
pub whole_named : (store : Store) (facts : List Fact) (files : Files) → IsWhole store → IsStoreOf store facts files → HoldsNamesOf store.dicts facts
whole_named store facts files whole is = λ a. sym (shown_all store whole a) ∙ is.names a

pub named_shown : (store : Store) (facts : List Fact) → IsWhole store → HoldsNamesOf store.dicts facts → (a : ℕ) → shown_names store.dicts store.shown.at a ≡ names_of facts a
named_shown store facts whole named a = shown_all store whole a ∙ named a
