-- What a command does to the levels: `level` alone adds one.
use Rattle.std.proofs.Common.{◌≡◌, ℕ, List, Option, Some, None, Result, Ok, Err, refl}
use Rattle.cube_schema.specs.Reading.{schema_of}
use Rattle.cube_schema.specs.declared.schema.Schema.{Schema}
use Rattle.cube_schema.specs.declared.schema.SchemaRefusal.{SchemaRefusal}
use Rattle.fact_model.specs.declared.fact.Fact.{Fact}
use Rattle.script_lang.specs.declared.command.Block.{Block}
use Rattle.script_lang.specs.declared.command.Block.TheVariants.{Whole, Long}
use Rattle.script_lang.specs.declared.command.Command.{Command}
use Rattle.script_lang.specs.declared.command.Command.TheVariants as says
use Rattle.spec_machine.specs.declared.batch_source.BatchSource.{BatchSource}
use Rattle.spec_machine.specs.declared.batch_source.BatchSource.TheVariants.{Rows, Numbered, Generator}
use Rattle.spec_machine.specs.Machine.{Answer, Given, accepted, act, batch_from, begun, begun_or_refused, committed, declare_over, declared, levels_behind, pending_over, read_by, refusal_of, schema_in, take_over, unless}
use Rattle.spec_machine.specs.World.{Kept, Warehouse, World}

-- an answer leaves the levels
abbrev Leaves : World → Answer → Type 0
Leaves world answer = answer.0.levels ≡ world.levels

read_leaves : (world : World) (read : Result Schema SchemaRefusal) → Leaves world (declared world read)
read_leaves world (Err refusal) = refl
read_leaves world (Ok schema) = refl

declare_leaves : (world : World) (kept : Kept) (block : Block) → Leaves world (declare_over world kept block)
declare_leaves world (Some warehouse) block = refl
declare_leaves world None Long = refl
declare_leaves world None (Whole bytes) = read_leaves world (schema_of bytes)

unless_leaves : (world : World) (answer : Answer) (refusal : Option (List ℕ)) → Leaves world answer → Leaves world (unless world answer refusal)
unless_leaves world answer None is = is
unless_leaves world answer (Some text) is = refl

given_leaves : (world : World) (taken : List Fact → ℕ → Answer) (given : Given) → ((batch : List Fact) (last : ℕ) → Leaves world (taken batch last)) → Leaves world (read_by world taken given)
given_leaves world taken (Err text) each = refl
given_leaves world taken (Ok given) each = each given.0 given.1

take_leaves : (world : World) (taken : Warehouse → List Fact → ℕ → Answer) (kept : Kept) (pending : Option (List Fact)) (source : BatchSource)
    → ((warehouse : Warehouse) (batch : List Fact) (last : ℕ) → Leaves world (taken warehouse batch last)) → Leaves world (take_over world taken kept pending source)
take_leaves world taken None pending source each = refl
take_leaves world taken (Some warehouse) (Some batch) source each = refl
take_leaves world taken (Some warehouse) None source each = given_leaves world (taken warehouse) (batch_from warehouse.schema warehouse.last source) (each warehouse)

load_leaves : (world : World) (source : BatchSource) → Leaves world (take_over world (accepted world) world.kept world.pending source)
load_leaves world source = take_leaves world (accepted world) world.kept world.pending source
    (λ warehouse batch last. unless_leaves world (committed world warehouse batch last) (refusal_of warehouse.schema _) refl)

begin_leaves : (world : World) (block : Block) → Leaves world (take_over world (begun_or_refused world) world.kept world.pending (Rows block))
begin_leaves world block = take_leaves world (begun_or_refused world) world.kept world.pending (Rows block)
    (λ warehouse batch last. unless_leaves world (begun world batch) (refusal_of warehouse.schema _) refl)

pending_leaves : (world : World) (answer : Warehouse → List Fact → Answer) → ((warehouse : Warehouse) (batch : List Fact) → Leaves world (answer warehouse batch))
    → (kept : Kept) (pending : Option (List Fact)) → Leaves world (pending_over world answer kept pending)
pending_leaves world answer each None pending = refl
pending_leaves world answer each (Some warehouse) None = refl
pending_leaves world answer each (Some warehouse) (Some batch) = each warehouse batch

pub act_levels : (world : World) (command : Command) → (act world command).0.levels ≡ levels_behind (schema_in world.kept) world.levels command
unfolding act
act_levels world (says.Schema block) = declare_leaves world world.kept block
act_levels world (says.Load block) = load_leaves world (Rows block)
act_levels world (says.LoadNumbered number block) = load_leaves world (Numbered number block)
act_levels world (says.Generate start rows) = load_leaves world (Generator start rows)
act_levels world (says.Begin block) = begin_leaves world block
act_levels world (says.Step n) = pending_leaves world _ (λ warehouse batch. refl) world.kept world.pending
act_levels world says.Finish = pending_leaves world _ (λ warehouse batch. refl) world.kept world.pending
act_levels world says.Abandon = pending_leaves world _ (λ warehouse batch. refl) world.kept world.pending
act_levels world (says.Level name attr block) = refl
act_levels world (says.Slice text) = refl
act_levels world (says.Explain text) = refl
act_levels world (says.Sql text) = refl
act_levels world (says.Rollup text) = refl
act_levels world says.Status = refl
act_levels world says.Upgrade = refl
act_levels world says.Audit = refl
act_levels world says.LongLine = refl
act_levels world says.OpenBlock = refl
act_levels world says.Unknown = refl
