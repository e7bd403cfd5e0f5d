-- Histories of runs: the batches that were accepted in them, and that each numbered one was accepted once.
use Rattle.std.specs.Prelude.{◌≡◌, ℕ, ◌+◌, ◌-◌, ◌≤◌, cond, List, [], ◌∷◌, ◌++◌, length, take, Option, Some, None, option_to_list, slice_get, Ok, Err}
use Rattle.std.specs.List.{flat_map, range_with_len}
use Rattle.fact_model.specs.declared.fact.Fact.{Fact}
use Rattle.script_lang.specs.Script.{commands}
use Rattle.script_lang.specs.declared.command.Command.{Command}
use Rattle.script_lang.specs.declared.command.Command.TheVariants as says
use Rattle.spec_machine.specs.World.{Kept, World, bare}
use Rattle.spec_machine.specs.Machine.{Given, act, batch_from}
use Rattle.spec_machine.specs.declared.batch_source.BatchSource.{BatchSource}
use Rattle.spec_machine.specs.declared.batch_source.BatchSource.TheVariants.{Rows, Numbered, Generator}
use Rattle.spec_machine.specs.Stages.{makes_stage, stages}

-- the accepted facts: none where no schema is declared
abbrev pub facts_of : Kept → List Fact
facts_of None = []
facts_of (Some warehouse) = warehouse.facts

-- the number of the last numbered batch: 0 where no schema is declared
abbrev pub last_of : Kept → ℕ
last_of None = 0
last_of (Some warehouse) = warehouse.last

-- ---- batches

-- a batch that was accepted
pub record Batch : Type 0 where
  pub number : Option ℕ
  pub facts : List Fact

-- the numbers of those that have one
abbrev pub numbers_of : List Batch → List ℕ
numbers_of batches = flat_map (λ batch. option_to_list batch.number) batches

-- the facts of all
abbrev pub facts_in : List Batch → List Fact
facts_in batches = flat_map (λ batch. batch.facts) batches

-- these facts are a batch, unless there are none
abbrev pub batch_with : Option ℕ → List Fact → Option Batch
batch_with number [] = None
batch_with number (x ∷ xs) = Some (record { number = number; facts = x ∷ xs })

-- the batch that was read, if one was
abbrev pub batch_given : Option ℕ → Given → Option Batch
batch_given number (Err text) = None
batch_given number (Ok given) = batch_with number given.0

-- the number that a source gives its batch
abbrev pub number_of : BatchSource → Option ℕ
number_of (Rows block) = None
number_of (Numbered number block) = Some number
number_of (Generator start rows) = None

-- the batch that a source sends to what is kept
abbrev pub batch_sent : Kept → BatchSource → Option Batch
batch_sent None source = None
batch_sent (Some warehouse) source = batch_given (number_of source) (batch_from warehouse.schema warehouse.last source)

-- the batch that is pending
abbrev pub batch_pending : Option (List Fact) → Option Batch
batch_pending None = None
batch_pending (Some facts) = batch_with None facts

-- the batch that a command commits, where it commits one: that of its source, or the pending one
abbrev pub batch_by : World → Command → Option Batch
batch_by world (says.Load block) = batch_sent world.kept (Rows block)
batch_by world (says.LoadNumbered number block) = batch_sent world.kept (Numbered number block)
batch_by world (says.Generate start rows) = batch_sent world.kept (Generator start rows)
batch_by world says.Finish = batch_pending world.pending
batch_by world (says.Schema block) = None
batch_by world (says.Begin block) = None
batch_by world (says.Step n) = None
batch_by world says.Abandon = None
batch_by world (says.Slice text) = None
batch_by world (says.Explain text) = None
batch_by world (says.Sql text) = None
batch_by world (says.Level name attr block) = None
batch_by world (says.Rollup text) = None
batch_by world says.Status = None
batch_by world says.Upgrade = None
batch_by world says.Audit = None
batch_by world says.LongLine = None
batch_by world says.OpenBlock = None
batch_by world says.Unknown = None

-- of each command that makes a stage its batch; the one that declares the schema has none
abbrev pub batches_after : World → List Command → List (Option Batch)
batches_after world [] = []
batches_after world (command ∷ rest) =
    cond (makes_stage world command) (batch_by world command ∷ []) [] ++ batches_after (act world command).0 rest

-- the batches of the commands that lead to the stage of this number: of the first so many that make one
abbrev pub batches_to : ℕ → World → List Command → List Batch
batches_to stage world commands = flat_map option_to_list (take stage (batches_after world commands))

-- ---- histories

-- a run of a history: the script, and the stage of it that was kept
pub record Run : Type 0 where
  pub script : List ℕ
  pub stage : ℕ
  pub kept : Kept

-- a run from this state keeps a stage of its script
abbrev pub IsRun : Kept → Run → Type 0
IsRun before run = slice_get (stages (bare before) (commands run.script)) run.stage ≡ Some run.kept

-- from the first state on each run goes on from what the one before it kept, and the last state is kept in the end
abbrev pub IsHistory : Kept → List Run → Kept → Type 0
IsHistory first [] last = first ≡ last
IsHistory first (run ∷ rest) last = IsRun first run × IsHistory run.kept rest last

-- the batches accepted in a history, in order: those that lead to the kept stages
abbrev pub accepted_in : Kept → List Run → List Batch
accepted_in first [] = []
accepted_in first (run ∷ rest) = batches_to run.stage (bare first) (commands run.script) ++ accepted_in run.kept rest

-- from the first state to the last these batches are accepted, each numbered one once
pub record IsEachOnce (first last : Kept) (batches : List Batch) : Type 0 where
  pub onward : last_of first ≤ last_of last
  -- the numbers go from the first state's last one plus 1 to the last state's, in order
  pub numbers : numbers_of batches ≡ range_with_len (last_of first + 1) (last_of last - last_of first)
  -- the facts are the first ones, followed by those of all batches in order
  pub facts : facts_of last ≡ facts_of first ++ facts_in batches

-- the runs of a history, and one more
abbrev pub with_run : List Run → Run → List Run
with_run runs run = runs ++ run ∷ []
