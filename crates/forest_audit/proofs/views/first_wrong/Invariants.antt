use Rattle.std.proofs.Common.{◌<◌, ℕ, length}
use Rattle.site_core.specs.Disk.{Files}
use Rattle.forest_audit.specs.Audited.{ViewAgrees, trees_of}
use Rattle.forest_audit.specs.Reading.{AreRead}
use Rattle.forest_audit.proofs.views.first_wrong.Given as goal

-- the views before this one agree
abbrev pub invariant-loop-view : goal.invariant-loop-view
invariant-loop-view l = (files : Files) → AreRead files l.store.forest.body l.store.forest.schema l.store.dicts (length (trees_of l.store.forest.schema)) l.trees
    → (v : ℕ) → v < l.view → ViewAgrees files l.store.forest.body l.store.forest.schema l.store.dicts v
