-- How a file is found.
use Rattle.std.specs.Prelude.{ℕ, Bool, true, false, IsTrue}
use Rattle.site_folder.specs.Ledger.{Ledger}

-- it is open, or has nothing that is not synced
abbrev pub IsFound : ℕ → Ledger → Bool → Type 0
IsFound file ledger true = IsTrue (ledger.opened file)
IsFound file ledger false = IsTrue (ledger.synced file)
