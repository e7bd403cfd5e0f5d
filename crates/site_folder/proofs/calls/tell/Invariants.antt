use Rattle.std.proofs.Common.{◌≡◌, ◌≤◌, ◌-◌, ◌++◌, IsTrue, length, take}
use Rattle.site_core.specs.Calls.{Emits}
use Rattle.site_folder.specs.Ledger.{Keeps}
use Rattle.site_folder.proofs.calls.tell.Given as goal

abbrev pub invariant-loop-count : goal.invariant-loop-count
invariant-loop-count g l = record {
  within : l.count ≤ length l.bytes;
  told : IsTrue g.H.Host.tells → (g.H.Host.disk l.host).told ≡ (g.H.Host.disk l.fn.host).told ++ take l.count l.bytes;
  disk : IsTrue g.H.Host.tells → Emits l.bytes (g.H.Host.disk l.fn.host) (g.H.Host.disk l.host);
  keeps : Keeps (g.H.Host.ledger l.fn.host) (g.H.Host.ledger l.host);
  faults : g.H.Host.told_faults l.host ≡ g.H.Host.told_faults l.fn.host;
  others : g.H.Host.disk_faults l.host ≡ g.H.Host.disk_faults l.fn.host;
}

abbrev pub decreases-loop-count : goal.decreases-loop-count
decreases-loop-count g l = length l.bytes - l.count
