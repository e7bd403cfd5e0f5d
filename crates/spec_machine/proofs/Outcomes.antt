-- What a command does to what files keep: nothing, or it declares a schema, commits a batch, or commits the numbered batch whose turn it is.
use Rattle.std.proofs.Common.{◌≡◌, ℕ, ◌+◌, Bool, true, false, cond, List, ◌∷◌, [], ◌++◌, codes, append-nil, ap, Option, Some, None, Result, Ok, Err, refl, sym, subst, arith, nat_lt, nat_le}
use Rattle.std.proofs.lemmas.Bool.Decides.{nat_tests}
use Rattle.cube_schema.specs.declared.schema.Schema.{Schema}
use Rattle.cube_schema.specs.declared.schema.SchemaRefusal.{SchemaRefusal}
use Rattle.cube_schema.specs.Reading.{schema_of}
use Rattle.fact_model.specs.declared.fact.Fact.{Fact}
use Rattle.script_lang.specs.declared.command.Block.{Block}
use Rattle.script_lang.specs.declared.command.Block.TheVariants.{Whole, Long}
use Rattle.script_lang.specs.declared.command.Command.{Command}
use Rattle.script_lang.specs.declared.command.Command.TheVariants as says
use Rattle.reply_text.specs.Replies.{line, already_text, gap_text}
use Rattle.spec_machine.specs.declared.batch_source.BatchSource.{BatchSource}
use Rattle.spec_machine.specs.declared.batch_source.BatchSource.TheVariants.{Rows, Numbered, Generator}
use Rattle.spec_machine.specs.World.{Kept, World, Warehouse}
use Rattle.spec_machine.specs.Machine.{Answer, Given, accepted, act, batch_from, begun, begun_or_refused, block_read, committed, declare_over, declared, empty, generated_within, in_turn, pending_over, read_by, refusal_of, replies_with, take_over, unless, with_last, with_number}
use Rattle.spec_machine.specs.Histories.{Batch, batch_by, batch_given, batch_pending, batch_sent, batch_with}

-- with the batch that the command commits, where it commits one
pub data Outcome : Option Batch → Kept → Kept → Type 0 where
  stays : {batch : Option Batch} {kept : Kept} → Outcome batch kept kept
  declares : (schema : Schema) → Outcome None None (Some (empty schema))
  commits : (warehouse : Warehouse) (x : Fact) (xs : List Fact)
      → Outcome (Some (record { number = None; facts = x ∷ xs })) (Some warehouse) (Some (record warehouse { facts = warehouse.facts ++ x ∷ xs; last = warehouse.last }))
  counts : {number : ℕ} (warehouse : Warehouse) (x : Fact) (xs : List Fact) → number ≡ warehouse.last + 1
      → Outcome (Some (record { number = Some number; facts = x ∷ xs })) (Some warehouse) (Some (record warehouse { facts = warehouse.facts ++ x ∷ xs; last = number }))

-- of an answer to a command, where this was kept
abbrev Gives : Option Batch → Kept → Answer → Type 0
Gives batch kept answer = Outcome batch kept answer.0.kept

same_kept : (batch : Option Batch) (world : World) (kept : Kept) → world.kept ≡ kept → Outcome batch kept world.kept
same_kept batch world kept is = subst (λ (k : Kept). Outcome batch kept k) (sym is) stays

declared_gives : (world : World) → world.kept ≡ None → (read : Result Schema SchemaRefusal) → Gives None None (declared world read)
declared_gives world is (Err refusal) = same_kept None world None is
declared_gives world is (Ok schema) = declares schema

declare_gives : (world : World) (kept : Kept) → world.kept ≡ kept → (block : Block) → Gives None kept (declare_over world kept block)
declare_gives world (Some warehouse) is block = same_kept None world (Some warehouse) is
declare_gives world None is Long = same_kept None world None is
declare_gives world None is (Whole bytes) = declared_gives world is (schema_of bytes)

-- no fact is added
none_added : (warehouse : Warehouse) → Some (record warehouse { facts = warehouse.facts ++ []; last = warehouse.last }) ≡ Some warehouse
none_added warehouse = ap (λ (l : List Fact). Some (record { schema = warehouse.schema; facts = l; last = warehouse.last })) (append-nil warehouse.facts)

-- a batch without a number
commits_all : (warehouse : Warehouse) (batch : List Fact)
    → Outcome (batch_with None batch) (Some warehouse) (Some (record warehouse { facts = warehouse.facts ++ batch; last = warehouse.last }))
commits_all warehouse [] = subst (λ (k : Kept). Outcome None (Some warehouse) k) (sym (none_added warehouse)) stays
commits_all warehouse (x ∷ xs) = commits warehouse x xs

module _ (world : World) (warehouse : Warehouse) (is : world.kept ≡ Some warehouse) where
  unless_gives : (batch : Option Batch) (answer : Answer) (refusal : Option (List ℕ)) → Gives batch (Some warehouse) answer
      → Gives batch (Some warehouse) (unless world answer refusal)
  unless_gives batch answer None gives = gives
  unless_gives batch answer (Some text) gives = same_kept batch world (Some warehouse) is

  abbrev accepts : List Fact → ℕ → Answer
  accepts = accepted world warehouse

  -- a batch without a number
  plain_gives : (read : Result (List Fact) (List ℕ)) → Gives (batch_given None (with_last warehouse.last read)) (Some warehouse) (read_by world accepts (with_last warehouse.last read))
  plain_gives (Err text) = same_kept None world (Some warehouse) is
  plain_gives (Ok batch) =
      unless_gives (batch_with None batch) (committed world warehouse batch warehouse.last) (refusal_of warehouse.schema (warehouse.facts ++ batch)) (commits_all warehouse batch)

  -- a numbered one whose turn it is
  numbered_gives : (number : ℕ) → number ≡ warehouse.last + 1 → (read : Result (List Fact) (List ℕ))
      → Gives (batch_given (Some number) (with_number number read)) (Some warehouse) (read_by world accepts (with_number number read))
  numbered_gives number turn (Err text) = same_kept None world (Some warehouse) is
  numbered_gives number turn (Ok []) = same_kept None world (Some warehouse) is
  numbered_gives number turn (Ok (x ∷ xs)) =
      unless_gives (Some (record { number = Some number; facts = x ∷ xs })) (committed world warehouse (x ∷ xs) number) (refusal_of warehouse.schema (warehouse.facts ++ x ∷ xs))
      (counts warehouse x xs turn)

  -- what a number's turn gives, by the two tests
  abbrev by_turn : ℕ → Result (List Fact) (List ℕ) → Bool → Bool → Given
  by_turn number read over early = cond over (Err (already_text number)) (cond early (Err (gap_text (warehouse.last + 1))) (with_number number read))

  turn_gives : (number : ℕ) (read : Result (List Fact) (List ℕ))
      → Gives (batch_given (Some number) (in_turn warehouse.last number (with_number number read))) (Some warehouse)
      (read_by world accepts (in_turn warehouse.last number (with_number number read)))
  turn_gives number read = by (nat_le number warehouse.last) refl (nat_lt (warehouse.last + 1) number) refl
    where
      by : (over : Bool) → nat_le number warehouse.last ≡ over → (early : Bool) → nat_lt (warehouse.last + 1) number ≡ early
          → Gives (batch_given (Some number) (by_turn number read over early)) (Some warehouse) (read_by world accepts (by_turn number read over early))
      by true old early later = same_kept None world (Some warehouse) is
      by false old true later = same_kept None world (Some warehouse) is
      by false old false later = numbered_gives number (grind (arith, nat_tests, old, later)) read

  source_gives : (source : BatchSource) → Gives (batch_sent (Some warehouse) source) (Some warehouse) (read_by world accepts (batch_from warehouse.schema warehouse.last source))
  source_gives (Rows block) = plain_gives (block_read warehouse.schema block)
  source_gives (Numbered number block) = turn_gives number (block_read warehouse.schema block)
  source_gives (Generator start rows) = plain_gives (generated_within warehouse.schema start rows)

load_gives : (world : World) (source : BatchSource) (kept : Kept) (pending : Option (List Fact)) → world.kept ≡ kept
    → Gives (batch_sent kept source) kept (take_over world (accepted world) kept pending source)
load_gives world source None pending is = same_kept None world None is
load_gives world source (Some warehouse) (Some batch) is = same_kept (batch_sent (Some warehouse) source) world (Some warehouse) is
load_gives world source (Some warehouse) None is = source_gives world warehouse is source

begin_read : (world : World) (kept : Kept) → world.kept ≡ kept → (warehouse : Warehouse) (given : Given) → Gives None kept (read_by world (begun_or_refused world warehouse) given)
begin_read world kept is warehouse (Err text) = same_kept None world kept is
begin_read world kept is warehouse (Ok given) = by (refusal_of warehouse.schema (warehouse.facts ++ given.0))
  where
    by : (refusal : Option (List ℕ)) → Gives None kept (unless world (begun world given.0) refusal)
    by None = same_kept None world kept is
    by (Some text) = same_kept None world kept is

begin_gives : (world : World) (block : Block) (kept : Kept) (pending : Option (List Fact)) → world.kept ≡ kept
    → Gives None kept (take_over world (begun_or_refused world) kept pending (Rows block))
begin_gives world block None pending is = same_kept None world None is
begin_gives world block (Some warehouse) (Some batch) is = same_kept None world (Some warehouse) is
begin_gives world block (Some warehouse) None is = begin_read world (Some warehouse) is warehouse (batch_from warehouse.schema warehouse.last (Rows block))

-- what leaves the facts that were kept
pending_stays : (world : World) (answer : Warehouse → List Fact → Answer) → ((warehouse : Warehouse) (batch : List Fact) → (answer warehouse batch).0.kept ≡ world.kept)
    → (kept : Kept) (pending : Option (List Fact)) → Gives None world.kept (pending_over world answer kept pending)
pending_stays world answer same None pending = stays
pending_stays world answer same (Some warehouse) None = stays
pending_stays world answer same (Some warehouse) (Some batch) = subst (λ (k : Kept). Outcome None world.kept k) (sym (same warehouse batch)) stays

finish_gives : (world : World) (kept : Kept) (pending : Option (List Fact)) → world.kept ≡ kept
    → Gives (batch_pending pending) kept (pending_over world (λ warehouse batch. committed world warehouse batch warehouse.last) kept pending)
finish_gives world None pending is = same_kept (batch_pending pending) world None is
finish_gives world (Some warehouse) None is = same_kept None world (Some warehouse) is
finish_gives world (Some warehouse) (Some batch) is = commits_all warehouse batch

pub outcome : (world : World) (command : Command) → Outcome (batch_by world command) world.kept (act world command).0.kept
unfolding act
outcome world (says.Schema block) = declare_gives world world.kept refl block
outcome world (says.Load block) = load_gives world (Rows block) world.kept world.pending refl
outcome world (says.LoadNumbered number block) = load_gives world (Numbered number block) world.kept world.pending refl
outcome world (says.Generate start rows) = load_gives world (Generator start rows) world.kept world.pending refl
outcome world (says.Begin block) = begin_gives world block world.kept world.pending refl
outcome world (says.Step n) = pending_stays world (λ warehouse batch. replies_with world (codes "stepped")) (λ warehouse batch. refl) world.kept world.pending
outcome world says.Finish = finish_gives world world.kept world.pending refl
outcome world says.Abandon =
    pending_stays world (λ warehouse batch. (record world { pending = None }, line (codes "abandoned"))) (λ warehouse batch. refl) world.kept world.pending
outcome world (says.Slice text) = stays
outcome world (says.Explain text) = stays
outcome world (says.Sql text) = stays
outcome world (says.Level name attr block) = stays
outcome world (says.Rollup text) = stays
outcome world says.Status = stays
outcome world says.Upgrade = stays
outcome world says.Audit = stays
outcome world says.LongLine = stays
outcome world says.OpenBlock = stays
outcome world says.Unknown = stays
