-- What calls on a host leave unchanged, apart from what they are for.
use Rattle.std.specs.Prelude.{IsTrue, Result}
use Rattle.site_core.specs.Calls.{Rests}
use Rattle.site_folder.specs.Faults.{FaultsOf}
use Rattle.site_folder.specs.Ledger.{Keeps}
use Rattle.site_folder.specs.declared.host.Host.{Ghosts}

-- calls that read files: nothing changes, for any answer; the output is not called, and what is open and synced stays so
pub record LooksOnly {S A E : Type 0} (H : Ghosts S) (old new : S) (result : Result A E) : Type 0 where
  pub faults : FaultsOf H.disk_faults H.told_faults old new result
  pub keeps : Keeps (H.ledger old) (H.ledger new)
  pub disk : IsTrue H.tells → Rests (H.disk old) (H.disk new)
