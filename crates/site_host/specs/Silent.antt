-- A host that reports which files are open, and nothing about their bytes or its output.
use Rattle.std.specs.Prelude.{true, List, Option, is_some}
use Rattle.site_folder.specs.Ledger.{Ledger}
use Rattle.site_host.specs.declared.data_file.DataFile.{DataFile}
use Rattle.site_host.specs.Slots.{file_in}

-- what is open; the other fields have the values at which nothing is said about syncs, and no sync is counted
abbrev pub ledger_of : List (Option DataFile) → Ledger
ledger_of files = record { opened = λ file. is_some (file_in files file); synced = λ file. true; listed = true; flushed = true; asked = λ file. 0 }
