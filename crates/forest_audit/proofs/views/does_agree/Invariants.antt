use Rattle.std.proofs.Common.{◌<◌, ℕ, length}
use Rattle.site_core.specs.Disk.{Files}
use Rattle.forest_audit.specs.Audited.{trees_of}
use Rattle.forest_audit.specs.Agreeing.{Pairs}
use Rattle.forest_audit.specs.Reading.{AreRead}
use Rattle.forest_audit.proofs.views.does_agree.Given as goal

-- the view is the roll-up of those before this one
abbrev pub invariant-loop-other : goal.invariant-loop-other
invariant-loop-other l = (files : Files) → AreRead files l.store.forest.body l.store.forest.schema l.store.dicts (length (trees_of l.store.forest.schema)) l.trees
    → (w : ℕ) → w < l.other → Pairs files l.store.forest.body l.store.forest.schema l.store.dicts w l.view
