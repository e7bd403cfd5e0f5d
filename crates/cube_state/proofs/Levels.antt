-- The levels of a session fit its schema, behind each command.
use Rattle.std.proofs.Common.{◌≡◌, ◌∙◌, ◌++◌, ℕ, List, [], Option, Some, None, Result, Ok, Err, ap, append-nil, refl, subst, sym}
use Rattle.cube_schema.specs.Lawful.{IsSchema}
use Rattle.cube_schema.specs.declared.schema.Schema.{Schema}
use Rattle.forest_root.specs.declared.forest.Store.{Store}
use Rattle.roll_up.proofs.Lawful.{fits-none, level-fits}
use Rattle.roll_up.specs.Levels.{Fit}
use Rattle.roll_up.specs.Reading.{level_of}
use Rattle.roll_up.specs.declared.level.Level.{Level}
use Rattle.roll_up.specs.declared.refusal.LevelRefusal.{LevelRefusal}
use Rattle.script_lang.specs.declared.command.Block.{Block}
use Rattle.script_lang.specs.declared.command.Block.TheVariants.{Whole, Long}
use Rattle.script_lang.specs.declared.command.Command.{Command}
use Rattle.script_lang.specs.declared.command.Command.TheVariants as says
use Rattle.spec_machine.specs.Machine.{level_by, level_read, levels_behind, schema_in}
use Rattle.spec_machine.specs.World.{World}
use Rattle.site_core.specs.Disk.{Disk}
use Rattle.cube_state.specs.Levels.{FitSchema}
use Rattle.cube_state.specs.Visits.{schema_from, schema_of, store_of}
use Rattle.cube_state.specs.Session.{Stands}
use Rattle.cube_state.specs.declared.state.State.{State}
use Rattle.cube_state.specs.declared.state.State.TheVariants.{Empty, Idle, Hollow, Pending}

-- one level more, where one was read
module _ (schema : Schema) (levels : List Level) (fit : Fit schema levels) where
  read_fits : (name attr bytes : List ℕ) (read : Result Level LevelRefusal) → level_of schema levels name attr bytes ≡ read → Fit schema (levels ++ level_read read)
  read_fits name attr bytes (Err refusal) is = subst (Fit schema) (sym (append-nil levels)) fit
  read_fits name attr bytes (Ok l) is = level-fits schema levels name attr bytes l fit is

  level_fits : (name attr : List ℕ) (block : Block) → Fit schema (levels ++ level_by (Some schema) levels name attr block)
  level_fits name attr Long = subst (Fit schema) (sym (append-nil levels)) fit
  level_fits name attr (Whole bytes) = read_fits name attr bytes (level_of schema levels name attr bytes) refl

-- what holds of the levels where they stay, and where one is added, holds behind each command
each_behind : (P : List Level → Type 0) (schema : Option Schema) (levels : List Level) → P levels → ((name attr : List ℕ) (block : Block) → P (levels ++ level_by schema levels name attr block)) → (command : Command)
    → P (levels_behind schema levels command)
each_behind P schema levels stays more (says.Level name attr block) = more name attr block
each_behind P schema levels stays more (says.Schema block) = stays
each_behind P schema levels stays more (says.Load block) = stays
each_behind P schema levels stays more (says.LoadNumbered number block) = stays
each_behind P schema levels stays more (says.Generate start rows) = stays
each_behind P schema levels stays more (says.Begin block) = stays
each_behind P schema levels stays more (says.Step n) = stays
each_behind P schema levels stays more says.Finish = stays
each_behind P schema levels stays more says.Abandon = stays
each_behind P schema levels stays more (says.Slice text) = stays
each_behind P schema levels stays more (says.Explain text) = stays
each_behind P schema levels stays more (says.Sql text) = stays
each_behind P schema levels stays more (says.Rollup text) = stays
each_behind P schema levels stays more says.Status = stays
each_behind P schema levels stays more says.Upgrade = stays
each_behind P schema levels stays more says.Audit = stays
each_behind P schema levels stays more says.LongLine = stays
each_behind P schema levels stays more says.OpenBlock = stays
each_behind P schema levels stays more says.Unknown = stays

-- the schema of a session is a lawful one
store_lawful : (store : Option Store) (schema : Schema) → schema_from store ≡ Some schema → IsSchema schema
store_lawful None schema is = absurd (none_some is)
  where
    none_some : {A : Type 0} {x : A} → None ≡ Some x → ⊥
    none_some same = cc
store_lawful (Some store) schema is = subst IsSchema (some_same is) store.forest.lawful
  where
    some_same : {A : Type 0} {x y : A} → Some x ≡ Some y → x ≡ y
    some_same same = cc

-- a schema that is declared stays, so levels that fit it go on to fit; where one is declared now there are none
pub fit_behind : (state next : State) (levels : List Level) (command : Command) → ((schema : Schema) → schema_of state ≡ Some schema → schema_of next ≡ Some schema)
    → FitSchema (schema_of state) levels → FitSchema (schema_of next) (levels_behind (schema_of state) levels command)
fit_behind state next levels command stays fit = by (schema_of state) refl fit
  where
    bare : (then : Option Schema) → schema_of next ≡ then → (ls : List Level) → ls ≡ [] → FitSchema then ls
    bare None is ls none = none
    bare (Some schema) is ls none = fits-none schema ls none (store_lawful (store_of next) schema is)

    by : (schema : Option Schema) → schema_of state ≡ schema → FitSchema schema levels → FitSchema (schema_of next) (levels_behind schema levels command)
    by None is none = bare (schema_of next) refl (levels_behind None levels command)
        (each_behind (λ ls. ls ≡ []) None levels none (λ name attr block. append-nil levels ∙ none) command)
    by (Some schema) is fits = subst (λ (s : Option Schema). FitSchema s (levels_behind (Some schema) levels command)) (sym (stays schema is))
        (each_behind (Fit schema) (Some schema) levels fits (level_fits schema levels fits) command)

-- the schema of a session is that of the world that it stands for
pub schema_stands : (state : State) (disk : Disk) (world : World) → Stands state disk world → schema_in world.kept ≡ schema_of state
schema_stands Empty disk world is = ap schema_in is.0.kept
schema_stands (Idle store) disk world is = ap schema_in is.1.kept ∙ ap Some (sym is.2.schema)
schema_stands (Hollow store) disk world is = ap schema_in is.1.kept ∙ ap Some (sym is.2.schema)
schema_stands (Pending r) disk world is = ap schema_in is.2.kept ∙ ap Some (sym is.3.attends.schema)
