-- The pages that a command visits for a slice, and what they cost.
use Rattle.std.specs.Prelude.{◌≡◌, ℕ, Bool, true, false, List, length, Option, Some, None}
use Rattle.fact_model.specs.declared.fact.Fact.{Fact}
use Rattle.fact_model.specs.declared.slice.Slice.{Slice}
use Rattle.cube_schema.specs.declared.schema.Schema.{Schema}
use Rattle.view_route.specs.Counts.{body_counts}
use Rattle.forest_root.specs.declared.forest.Store.{Store}
use Rattle.roll_up.specs.declared.level.Level.{Level}
use Rattle.script_lang.specs.declared.command.Command.{Command}
use Rattle.slice_exec.specs.Costs.{visits_over}
use Rattle.replica_route.specs.Picked.{IsPicked}
use Rattle.spec_machine.specs.Machine.{asked_by, asked_slice}
use Rattle.spec_machine.specs.World.{Kept, World}
use Rattle.cube_state.specs.declared.state.State.{State}
use Rattle.cube_state.specs.declared.state.State.TheVariants.{Empty, Idle, Hollow, Pending}
use Rattle.cube_state.specs.Costs.{Cost, free}

-- the store of a session, if a schema is declared
abbrev pub store_of : State → Option Store
store_of Empty = None
store_of (Idle store) = Some store
store_of (Hollow store) = Some store
store_of (Pending refresh) = Some refresh.store

-- its schema
abbrev pub schema_from : Option Store → Option Schema
schema_from None = None
schema_from (Some store) = Some store.forest.schema

abbrev pub schema_of : State → Option Schema
schema_of state = schema_from (store_of state)

-- ---- over a world

-- the slice visits these pages of the picked view, over these facts in pages of this format
abbrev pub GoesOver : ℕ → Schema → List Fact → Option Slice → List ℕ → Type 0
GoesOver format schema facts None numbers = ⊥
GoesOver format schema facts (Some s) numbers = (view : ℕ) × IsPicked schema.views (body_counts schema facts) s view × (numbers ≡ visits_over format schema facts s view)

abbrev pub GoesFrom : ℕ → Kept → Option Slice → List ℕ → Type 0
GoesFrom format None asked numbers = ⊥
GoesFrom format (Some warehouse) asked numbers = GoesOver format warehouse.schema warehouse.facts asked numbers

-- the slice that the command answers visits these pages; false without one
abbrev pub GoesTo : ℕ → World → Command → List ℕ → Type 0
GoesTo format world command numbers = GoesFrom format world.kept (asked_slice world command) numbers

-- a read for each page that the slice visits, and nothing without a slice
abbrev pub ReadsFrom : ℕ → Kept → Option Slice → Cost → Type 0
ReadsFrom format kept None cost = cost ≡ free
ReadsFrom format kept (Some s) cost = (numbers : List ℕ) × GoesFrom format kept (Some s) numbers × (cost ≡ record { reads = length numbers; writes = 0 })

abbrev pub ReadsFor : ℕ → World → Command → Cost → Type 0
ReadsFor format world command cost = ReadsFrom format world.kept (asked_slice world command) cost

-- ---- over the state of a session

-- the slice that the command answers with these levels, if there is one
abbrev pub asked_from : List Level → Option Store → Command → Option Slice
asked_from levels None command = None
asked_from levels (Some store) command = asked_by store.forest.schema levels command

abbrev pub asked_for : List Level → State → Command → Option Slice
asked_for levels state command = asked_from levels (store_of state) command

abbrev pub is_asked : Option Slice → Bool
is_asked None = false
is_asked (Some s) = true

-- whether the command visits pages
abbrev pub asks_pages : List Level → State → Command → Bool
asks_pages levels state command = is_asked (asked_for levels state command)
