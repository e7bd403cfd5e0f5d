-- What a refresh has done at its end, whether a store is the answer or a body.
use Rattle.std.specs.Prelude.{◌≡◌, ◌≢◌, ◌+◌, ◌++◌, ◌^◌, List, length, Result, IsTrue, IfErr, OnOk}
use Rattle.site_core.specs.Causes.{HasCauseWhere}
use Rattle.site_core.specs.Disk.{Disk}
use Rattle.site_core.specs.Frames.{Calls}
use Rattle.site_core.specs.Moments.{HoldsNow, IsStable, LeavesOnly}
use Rattle.site_core.specs.declared.site.Site.{Ghosts}
use Rattle.fact_model.specs.declared.fact.Fact.{Fact}
use Rattle.spec_store.specs.Sides.{page_total}
use Rattle.spec_tree.specs.Moves.{KeepsTo}
use Rattle.merge_pack.specs.Stepping.{MakesAtMost}
use Rattle.forest_refresh.specs.Begun.{Begun, IsRefreshOf, moves_of}
use Rattle.forest_refresh.specs.Refreshed.{IsNoDamage, KeepsEither, NamesPageIn, SparesLive}
use Rattle.forest_refresh.specs.Trees.{AreAllWhole, TellsFirstDamage}
use Rattle.forest_refresh.specs.declared.stop.RefreshStop.{RefreshStop}
use Rattle.forest_refresh.specs.declared.stop.RefreshStop.TheVariants as stops

-- a stop at any moment leaves the facts without the batch, or all of them
abbrev pub LeavesEither : Begun → List Fact → List Fact → Disk → Disk → Type 0
LeavesEither r accepted batch old new = LeavesOnly old new (λ told files.
    (told ≡ old.told) × KeepsEither r.store.forest.body.format r.store.forest.schema accepted r.store.forest.body.last r.next.format (accepted ++ batch) r.next.last files)

-- it adds a batch to these facts, which the files keep
pub record FinishesFor {S A : Type 0} (T : Ghosts S) (refresh : Begun) (accepted batch : List Fact) (old new : S) (result : Result A RefreshStop) : Type 0 where
  pub any_moment : HoldsNow (IsRefreshOf refresh accepted batch) (T.disk old) → LeavesEither refresh accepted batch (T.disk old) (T.disk new)
  pub undamaged : IsRefreshOf refresh accepted batch (T.disk old).files → IfErr result IsNoDamage
  -- it keeps to the moves that are left, and three writes
  pub cost : IsRefreshOf refresh accepted batch (T.disk old).files → KeepsTo (moves_of refresh accepted batch) refresh.progress.taken (length (moves_of refresh accepted batch))
      (T.reads old, T.writes old + 3) (T.reads new, T.writes new)

-- the files hold what they may
pub record FinishesOver {S A : Type 0} (T : Ghosts S) (refresh : Begun) (old new : S) (result : Result A RefreshStop) : Type 0 where
  -- where it ends, all trees of the live side were whole, and damage that is told is that of the first one that was not
  pub joined : OnOk result (AreAllWhole refresh.store.forest (T.disk old).files refresh.deltas)
  pub damaged : IfErr result (TellsFirstDamage refresh.store.forest (T.disk old).files refresh.deltas)
  -- damage leaves the live side
  pub spared : IfErr result (λ stop. stop ≢ stops.Disk → SparesLive refresh.store.forest.body (T.disk old) (T.disk new))
  pub stable : OnOk result (IsStable (T.disk new))
  pub told : (T.disk new).told ≡ (T.disk old).told

-- it makes the moves that are left, and commits
pub record Finishes {S A : Type 0} (T : Ghosts S) (refresh : Begun) (old new : S) (result : Result A RefreshStop) : Type 0 where
  pub by_facts : IsTrue T.tells → (accepted batch : List Fact) → FinishesFor T refresh accepted batch old new result
  pub any_files : IsTrue T.tells → FinishesOver T refresh old new result
  -- whatever the site tells
  pub place : IfErr result (NamesPageIn refresh.store.forest.body refresh.store.forest.schema)
  pub calls : Calls T (HasCauseWhere stops.Disk) (page_total refresh.store.forest.body refresh.store.forest.schema) old new result
  -- one call a move, and three writes of the commit
  pub once : MakesAtMost (2 ^ 60 + 3) (T.reads old, T.writes old) (T.reads new, T.writes new)
