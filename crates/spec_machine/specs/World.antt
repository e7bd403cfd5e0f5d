-- What the plain machine knows: a schema with the facts that it has accepted, a batch that is pending, and levels.
use Rattle.std.specs.Prelude.{◌≡◌, ℕ, List, [], Option, None}
use Rattle.cube_schema.specs.declared.schema.Schema.{Schema}
use Rattle.fact_model.specs.declared.fact.Fact.{Fact}
use Rattle.roll_up.specs.declared.level.Level.{Level}

pub record Warehouse : Type 0 where
  pub schema : Schema
  -- the accepted facts
  pub facts : List Fact
  -- the number of the last numbered batch that was accepted; 0 where none was
  pub last : ℕ

-- what files keep: no schema is declared, or one is
abbrev pub Kept : Type 0
Kept = Option Warehouse

pub record World : Type 0 where
  pub kept : Kept
  -- the facts of a batch that has begun, and is neither committed nor dropped
  pub pending : Option (List Fact)
  -- the levels that were declared in this script, in their order
  pub levels : List Level

-- these are kept and pending, whatever else it has
pub record Knows (warehouse : Kept) (batch : Option (List Fact)) (world : World) : Type 0 where
  pub kept : world.kept ≡ warehouse
  pub pending : world.pending ≡ batch

-- no batch is pending, and there are no levels
abbrev pub bare : Kept → World
bare kept = record { kept = kept; pending = None; levels = [] }
