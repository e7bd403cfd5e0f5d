use Rattle.std.proofs.Common.{◌≡◌, ◌≤◌, ◌-◌, IsTrue, length, take}
use Rattle.site_core.specs.Calls.{Writes}
use Rattle.site_core.specs.Disk.{with_file, overwritten}
use Rattle.site_folder.specs.Ledger.{KeepsOthers}
use Rattle.site_folder.proofs.calls.put.Given as goal

abbrev pub invariant-loop-count : goal.invariant-loop-count
invariant-loop-count g l = record {
  within : l.count ≤ length l.bytes;
  written : IsTrue g.H.Host.tells → (g.H.Host.disk l.host).files
      ≡ with_file (g.H.Host.disk l.fn.host).files l.file (overwritten ((g.H.Host.disk l.fn.host).files l.file) l.at (take l.count l.bytes));
  disk : IsTrue g.H.Host.tells → Writes l.file l.at l.bytes (g.H.Host.disk l.fn.host) (g.H.Host.disk l.host);
  keeps : KeepsOthers l.file (g.H.Host.ledger l.fn.host) (g.H.Host.ledger l.host);
  faults : g.H.Host.disk_faults l.host ≡ g.H.Host.disk_faults l.fn.host;
  others : g.H.Host.told_faults l.host ≡ g.H.Host.told_faults l.fn.host;
}

abbrev pub decreases-loop-count : goal.decreases-loop-count
decreases-loop-count g l = length l.bytes - l.count
