use Rattle.std.proofs.Common.{◌≡◌, ◌≤◌, ◌-◌, IsTrue, length, take, drop}
use Rattle.site_core.specs.Calls.{Rests}
use Rattle.site_folder.specs.Ledger.{Keeps}
use Rattle.site_folder.proofs.calls.fill.Given as goal

abbrev pub invariant-loop-count : goal.invariant-loop-count
invariant-loop-count g l = record {
  within : l.count ≤ length l.into;
  few : IsTrue g.H.Host.tells → l.count ≤ length ((g.H.Host.disk l.fn.host).files l.file) - l.at;
  bytes : IsTrue g.H.Host.tells → take l.count l.into ≡ take l.count (drop l.at ((g.H.Host.disk l.fn.host).files l.file));
  disk : IsTrue g.H.Host.tells → Rests (g.H.Host.disk l.fn.host) (g.H.Host.disk l.host);
  keeps : Keeps (g.H.Host.ledger l.fn.host) (g.H.Host.ledger l.host);
  faults : g.H.Host.disk_faults l.host ≡ g.H.Host.disk_faults l.fn.host;
  others : g.H.Host.told_faults l.host ≡ g.H.Host.told_faults l.fn.host;
}

abbrev pub decreases-loop-count : goal.decreases-loop-count
decreases-loop-count g l = length l.initial.into - l.count
