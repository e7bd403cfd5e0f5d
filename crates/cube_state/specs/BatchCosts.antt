-- What `schema` and the commands for batches cost.
use Rattle.std.specs.Prelude.{◌+◌, ◌-◌, ℕ, Bool, false, cond, List, [], ◌∷◌, length, nat_lt, Option, Some, None}
use Rattle.fact_model.specs.declared.fact.Fact.{Fact}
use Rattle.spec_tree.specs.Moves.{Move, reads_in, written}
use Rattle.page_fmt.specs.Formats.{wide_format}
use Rattle.spec_moves.specs.Forest.{forest_moves}
use Rattle.spec_store.specs.Sides.{page_count}
use Rattle.script_lang.specs.declared.command.Block.{Block}
use Rattle.script_lang.specs.declared.command.Command.{Command}
use Rattle.script_lang.specs.declared.command.Command.TheVariants as says
use Rattle.spec_machine.specs.Histories.{Batch, batch_by}
use Rattle.spec_machine.specs.Machine.{begin}
use Rattle.spec_machine.specs.Stages.{makes_stage}
use Rattle.spec_machine.specs.World.{Kept, World}
use Rattle.cube_state.specs.Costs.{Cost, both, free}
use Rattle.cube_state.specs.Moves.{Reached, moves_over, pending_moves}

-- if a schema is declared: the gates are read; two gates, the names, the bodies and a gate are written
abbrev pub schema_cost : World → Command → Cost
schema_cost world command = cond (makes_stage world command) (record { reads = 1; writes = 5 }) free

-- ---- begin

-- 1 if no batch was pending and one that is not empty is pending now; otherwise 0
abbrev pub begins_over : Option (List Fact) → Option (List Fact) → ℕ
begins_over (Some batch) next = 0
begins_over None None = 0
begins_over None (Some []) = 0
begins_over None (Some (x ∷ xs)) = 1

-- 1 if a batch that is not empty begins; otherwise 0
abbrev pub begins : World → Block → ℕ
begins world block = begins_over world.pending (begin world block).0.pending

-- if a batch begins, the gate of the next generation is read and written
abbrev pub begin_cost : World → Block → Cost
begin_cost world block = record { reads = begins world block; writes = begins world block }

-- ---- step and finish

-- the reads and writes among the moves after the first m, up to the first n
abbrev pub moves_cost : List Move → ℕ → ℕ → Cost
moves_cost moves m n = record { reads = reads_in n moves - reads_in m moves; writes = written n moves - written m moves }

-- n more moves
abbrev pub step_cost : World → Reached → ℕ → Cost
step_cost world reached n = moves_cost (pending_moves reached.format world) reached.made (reached.made + n)

-- the remaining moves, and a write each of the names, the body and its gate
abbrev pub commit_cost : List Move → ℕ → Cost
commit_cost moves made = both (moves_cost moves made (length moves)) (record { reads = 0; writes = 3 })

-- if the pending batch is accepted: the commit, after the moves already made
abbrev pub finish_cost : World → Reached → Cost
finish_cost world reached = cond (makes_stage world says.Finish) (commit_cost (pending_moves reached.format world) reached.made) free

-- ---- load

-- the number of pages that the trees have in this format
abbrev pub pages_over : ℕ → Kept → ℕ
pages_over format None = 0
pages_over format (Some warehouse) = page_count format warehouse.schema warehouse.facts

-- the moves of a batch over what the files keep
abbrev pub moves_of : ℕ → Kept → Option Batch → List Move
moves_of format kept None = []
moves_of format kept (Some batch) = moves_over format kept (Some batch.facts)

-- a batch accepted at once: reads of the gate and each old page; writes of a page per write in the moves, of the gate (twice), the names and the body
abbrev pub load_cost_of : ℕ → Kept → List Move → Cost
load_cost_of format kept moves = record { reads = 1 + pages_over format kept; writes = 4 + written (length moves) moves }

-- the cost of the command that sends the batch
abbrev pub load_cost : ℕ → World → Command → Cost
load_cost format world command = cond (makes_stage world command) (load_cost_of format world.kept (moves_of format world.kept (batch_by world command))) free

-- ---- upgrade

-- pages of an earlier format are rewritten; refused without a schema and while a batch is pending
abbrev pub remakes_over : Kept → Option (List Fact) → ℕ → Bool
remakes_over None pending format = false
remakes_over (Some warehouse) (Some batch) format = false
remakes_over (Some warehouse) None format = nat_lt format wide_format

abbrev pub remakes : World → ℕ → Bool
remakes world format = remakes_over world.kept world.pending format

-- the moves that rewrite all points into pages of the greatest format
abbrev pub upgrade_moves : ℕ → Kept → List Move
upgrade_moves format None = []
upgrade_moves format (Some warehouse) = forest_moves format wide_format warehouse.schema warehouse.facts []

-- the cost of a batch that is accepted at once; free if the pages already have the greatest format
abbrev pub upgrade_cost : ℕ → World → Cost
upgrade_cost format world = cond (remakes world format) (load_cost_of format world.kept (upgrade_moves format world.kept)) free
