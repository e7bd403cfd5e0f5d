-- What some moves of a refresh have done.
use Rattle.std.specs.Prelude.{◌≡◌, ℕ, ◌+◌, ◌-◌, ◌<◌, ◌≤◌, List, length, min, Result, IsTrue, IfErr, IfOk}
use Rattle.site_core.specs.Causes.{HasCauseWhere}
use Rattle.site_core.specs.Frames.{Calls}
use Rattle.site_core.specs.Moments.{HoldsNow}
use Rattle.site_core.specs.declared.site.Site.{Ghosts}
use Rattle.fact_model.specs.declared.fact.Fact.{Fact}
use Rattle.cube_point.specs.declared.point.Entry.{Entry}
use Rattle.forest_root.specs.declared.forest.Forest.{Forest}
use Rattle.spec_store.specs.Sides.{page_total}
use Rattle.spec_tree.specs.Moves.{KeepsTo}
use Rattle.merge_pack.specs.Standing.{moves_tried}
use Rattle.merge_pack.specs.Stepping.{MakesAtMost}
use Rattle.forest_refresh.specs.Begun.{Begun, IsRefreshOf, StandsAt, moves_of}
use Rattle.forest_refresh.specs.Progress.{Progress}
use Rattle.forest_refresh.specs.Refreshed.{IsNoDamage, LeavesFacts, NamesPageIn, SparesLive}
use Rattle.forest_refresh.specs.Trees.{TellsFirstDamage}
use Rattle.forest_refresh.specs.declared.stop.RefreshStop.{RefreshStop}
use Rattle.forest_refresh.specs.declared.stop.RefreshStop.TheVariants as stops

-- whatever the files hold, so many moves are made with the trees of a forest, or all that are left
pub record MovesOn {S : Type 0} (T : Ghosts S) (forest : Forest) (deltas : List (List Entry)) (most : ℕ) (before after : Progress) (old new : S) (result : Result ℕ RefreshStop) : Type 0 where
  pub limit : IfOk result (λ made. (made ≤ most) × (made < most → length after.rows ≡ length forest.mapping.trees))
  pub taken : IfOk result (λ made. after.taken ≡ before.taken + made)
  pub damaged : IsTrue T.tells → IfErr result (TellsFirstDamage forest (T.disk old).files deltas)
  pub place : IfErr result (NamesPageIn forest.body forest.schema)
  pub calls : Calls T (HasCauseWhere stops.Disk) (page_total forest.body forest.schema) old new result
  -- one call a move
  pub once : MakesAtMost (moves_tried most result) (T.reads old, T.writes old) (T.reads new, T.writes new)

-- it adds a batch to these facts, which the files keep
pub record StepsFor {S : Type 0} (T : Ghosts S) (refresh now : Begun) (accepted batch : List Fact) (most : ℕ) (old new : S) (result : Result ℕ RefreshStop) : Type 0 where
  pub stands : IsRefreshOf refresh accepted batch (T.disk old).files
      → IfOk result (λ made. StandsAt now accepted batch (T.disk new).files × (made ≡ min most (length (moves_of refresh accepted batch) - refresh.progress.taken)))
  pub live : HoldsNow (IsRefreshOf refresh accepted batch) (T.disk old) → HoldsNow (IsRefreshOf now accepted batch) (T.disk new)
  pub any_moment : HoldsNow (IsRefreshOf refresh accepted batch) (T.disk old) → LeavesFacts refresh.store accepted (T.disk old) (T.disk new)
  pub undamaged : IsRefreshOf refresh accepted batch (T.disk old).files → IfErr result IsNoDamage
  pub cost : IsRefreshOf refresh accepted batch (T.disk old).files
      → KeepsTo (moves_of refresh accepted batch) refresh.progress.taken (refresh.progress.taken + moves_tried most result) (T.reads old, T.writes old) (T.reads new, T.writes new)

-- it makes so many moves, or all that are left
pub record Steps {S : Type 0} (T : Ghosts S) (refresh now : Begun) (most : ℕ) (old new : S) (result : Result ℕ RefreshStop) : Type 0 where
  pub by_facts : IsTrue T.tells → (accepted batch : List Fact) → StepsFor T refresh now accepted batch most old new result
  pub moves : MovesOn T refresh.store.forest refresh.deltas most refresh.progress now.progress old new result
  -- no move touches the live side
  pub spares : IsTrue T.tells → SparesLive refresh.store.forest.body (T.disk old) (T.disk new)
