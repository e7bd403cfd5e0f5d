-- What files keep of the state of the plain machine: the accepted facts, and nothing of a pending batch.
use Rattle.std.specs.Prelude.{◌≡◌, ◌≤◌, ℕ, length, Some, None}
use Rattle.site_core.specs.Disk.{Files}
use Rattle.cube_schema.specs.Lawful.{IsSchema}
use Rattle.forest_root.specs.Keeps.{KeepsNothing}
use Rattle.forest_root.specs.Live.{IsLiveBody}
use Rattle.forest_root.specs.declared.body.Body.{Body}
use Rattle.spec_store.specs.Held.{AreAccepted, KeepsFacts}
use Rattle.spec_machine.specs.World.{Kept, Warehouse}

-- a schema that some block declares, facts that agree with it and keep its limits, and no more numbered batches than facts
pub record IsLawful (warehouse : Warehouse) : Type 0 where
  pub schema : IsSchema warehouse.schema
  pub accepted : AreAccepted warehouse.schema warehouse.facts
  pub last : warehouse.last ≤ length warehouse.facts

-- the files keep the schema, its facts and the last number, in some format
pub record KeepsWarehouse (files : Files) (warehouse : Warehouse) : Type 0 where
  pub lawful : IsLawful warehouse
  pub kept : KeepsFacts warehouse.schema warehouse.facts warehouse.last files

-- the files keep this
abbrev pub Keeps : Files → Kept → Type 0
Keeps files None = KeepsNothing files
Keeps files (Some warehouse) = KeepsWarehouse files warehouse

-- the live pages in these files, if there are any, have this format or a later one
abbrev pub IsFrom : ℕ → Files → Type 0
IsFrom format files = (live : Body) → IsLiveBody live (files 0) → format ≤ live.format

-- the format of the live pages in these files; it is 1 without a schema
abbrev pub HasFormat : Files → Kept → ℕ → Type 0
HasFormat files None format = format ≡ 1
HasFormat files (Some warehouse) format = (live : Body) × IsLiveBody live (files 0) × (format ≡ live.format)
