use Rattle.std.proofs.Common.{◌≡◌, ◌≤◌, ℕ, IsTrue}
use Rattle.site_core.specs.Calls.{Rests}
use Rattle.site_folder.specs.Notes.{AreNotedTo, AreSynced, AsksDue, IsNoted}
use Rattle.site_folder.proofs.calls.sync_files.Given as goal

abbrev pub invariant-loop-file : goal.invariant-loop-file
invariant-loop-file g l = record {
  noted : AreNotedTo l.file l.is_synced;
  notes : AreSynced l.is_synced (g.H.Host.ledger l.host);
  asks : AsksDue l.fn.is_synced (g.H.Host.ledger l.fn.host) (g.H.Host.ledger l.host);
  later : (k : ℕ) → l.file ≤ k → (g.H.Host.ledger l.host).asked k ≡ (g.H.Host.ledger l.fn.host).asked k;
  kept : (k : ℕ) → IsNoted l.fn.is_synced k → IsNoted l.is_synced k;
  disk : IsTrue g.H.Host.tells → Rests (g.H.Host.disk l.fn.host) (g.H.Host.disk l.host);
  faults : g.H.Host.disk_faults l.host ≡ g.H.Host.disk_faults l.fn.host;
  others : g.H.Host.told_faults l.host ≡ g.H.Host.told_faults l.fn.host;
}
