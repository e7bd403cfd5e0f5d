-- The plain machine: the reply to each command, and what is known behind it.
use Rattle.std.specs.Prelude.{ℕ, suc, ◌+◌, Bool, cond, List, [], ◌∷◌, ◌++◌, length, map, nat_le, nat_lt, Option, Some, None, Result, Ok, Err}
use Rattle.std.specs.List.{list_any}
use Rattle.cube_schema.specs.declared.schema.Attr.{Attr}
use Rattle.cube_schema.specs.declared.schema.Schema.{Schema}
use Rattle.cube_schema.specs.declared.schema.SchemaRefusal.{SchemaRefusal}
use Rattle.cube_schema.specs.Kinds.{arity, max_of}
use Rattle.cube_schema.specs.Reading.{schema_of}
use Rattle.spec_points.specs.Codes.{names_of}
use Rattle.fact_csv.specs.Batch.{batch_of}
use Rattle.fact_csv.specs.declared.refusal.RowRefusal.{RowRefusal}
use Rattle.fact_csv.specs.declared.refusal.RowRefusal.TheVariants as refusals
use Rattle.fact_gen.specs.Generated.{generated}
use Rattle.fact_model.specs.declared.fact.Fact.{Fact}
use Rattle.fact_model.specs.declared.slice.Slice.{Slice}
use Rattle.fact_model.specs.Fact.{mass, mass_limit}
use Rattle.fact_model.specs.Rows.{rows}
use Rattle.script_lang.specs.declared.command.Block.{Block}
use Rattle.script_lang.specs.declared.command.Block.TheVariants.{Whole, Long}
use Rattle.script_lang.specs.declared.command.Command.{Command}
use Rattle.script_lang.specs.declared.command.Command.TheVariants as says
use Rattle.view_route.specs.Counts.{body_counts}
use Rattle.replica_route.specs.Picked.{picked}
use Rattle.replica_route.specs.declared.picking.Choice.{Choice}
use Rattle.reply_text.specs.Replies.{line, already_text, audited_text, choice_text, committed_text, facts_text, gap_text, leveled_text, pending_text, schema_text, batch_text, full_text, level_text, mass_text, query_text, slice_text, answer_text, unopened, no_schema, is_declared, long_schema, long_block, is_pending, none_pending, too_many_facts, is_empty, not_covered, long_line, open_block, is_unknown, declared_text, begun_text, stepped_text, abandoned_text, upgraded_text}
use Rattle.roll_up.specs.Bases.{base}
use Rattle.roll_up.specs.Levels.{extended, lift}
use Rattle.roll_up.specs.Reading.{level_of}
use Rattle.roll_up.specs.declared.level.Level.{Level}
use Rattle.roll_up.specs.declared.refusal.LevelRefusal.{LevelRefusal}
use Rattle.slice_lang.specs.declared.refusal.SliceRefusal.{SliceRefusal}
use Rattle.sql_lang.specs.Reading.{query_of}
use Rattle.sql_lang.specs.declared.query.Query.{Query}
use Rattle.sql_lang.specs.declared.refusal.SqlRefusal.{SqlRefusal}
use Rattle.sql_slice.specs.Plans.{plan_of}
use Rattle.sql_slice.specs.SqlRows.{sql_reply}
use Rattle.slice_lang.specs.Reading.{slice_of}
use Rattle.view_route.specs.Routes.{covers}
use Rattle.spec_machine.specs.declared.batch_source.BatchSource.{BatchSource}
use Rattle.spec_machine.specs.declared.batch_source.BatchSource.TheVariants.{Rows, Numbered, Generator}
use Rattle.spec_machine.specs.World.{Kept, World, Warehouse}

-- what is known behind a command, and the reply
abbrev pub Answer : Type 0
Answer = World × List ℕ

-- a command that only answers with a line
abbrev pub replies_with : World → List ℕ → Answer
replies_with world text = (world, line text)

-- the most facts
abbrev pub fact_limit : ℕ
fact_limit = 1099511627776

-- ---- schema

-- a schema without facts
abbrev pub empty : Schema → Warehouse
empty schema = record { schema = schema; facts = []; last = 0 }

-- the schema of a block is declared, or the block is refused
abbrev pub declared : World → Result Schema SchemaRefusal → Answer
declared world (Err refusal) = (world, schema_text refusal)
declared world (Ok schema) = (record world { kept = Some (empty schema) }, line declared_text)

abbrev pub declare_over : World → Kept → Block → Answer
declare_over world (Some warehouse) block = replies_with world is_declared
declare_over world None Long = replies_with world long_schema
declare_over world None (Whole bytes) = declared world (schema_of bytes)

abbrev pub declare : World → Block → Answer
declare world block = declare_over world world.kept block

-- ---- load, generate and begin

-- the name of the first of these measures, the first of which is measure m, whose mass passes the limit
abbrev pub first_heavy : ℕ → List (List ℕ) → List Fact → Option (List ℕ)
first_heavy m [] facts = None
first_heavy m (name ∷ names) facts = cond (nat_le (mass m facts) mass_limit) (first_heavy (suc m) names facts) (Some name)

-- the name of the first of these attributes, the first of which is attribute a, that has more distinct texts than its `max`
abbrev pub first_full : ℕ → List Attr → List Fact → Option (List ℕ)
first_full a [] facts = None
first_full a (attr ∷ attrs) facts = cond (nat_le (length (names_of facts a)) (max_of attr.kind)) (first_full (suc a) attrs facts) (Some attr.name)

-- the refusal where a mass passes the limit
abbrev pub heavy_refusal : Option (List ℕ) → Option (List ℕ)
heavy_refusal (Some name) = Some (mass_text name)
heavy_refusal None = None

-- the refusal where an attribute has too many distinct texts, and otherwise that of the masses
abbrev pub full_refusal : Schema → List Fact → Option (List ℕ) → Option (List ℕ)
full_refusal schema all (Some name) = Some (full_text name)
full_refusal schema all None = heavy_refusal (first_heavy 0 schema.measures all)

-- the refusal by the first limit that all facts pass, if they pass one
abbrev pub refusal_of : Schema → List Fact → Option (List ℕ)
refusal_of schema all =
    cond (nat_le (length all) fact_limit) (full_refusal schema all (first_full 0 schema.attrs all)) (Some (line too_many_facts))

-- this answer, or a refusal
abbrev pub unless : World → Answer → Option (List ℕ) → Answer
unless world answer None = answer
unless world answer (Some text) = (world, text)

-- the facts of a batch are accepted, this is the last number, and nothing is pending
abbrev pub committed : World → Warehouse → List Fact → ℕ → Answer
committed world warehouse batch last = (
  record world { kept = Some (record warehouse { facts = warehouse.facts ++ batch; last = last }); pending = None },
  committed_text (length (warehouse.facts ++ batch)),
)

-- the batch is pending
abbrev pub begun : World → List Fact → Answer
begun world batch = (record world { pending = Some batch }, line begun_text)

-- a batch is accepted, or made pending, where all facts then keep the limits
abbrev pub accepted : World → Warehouse → List Fact → ℕ → Answer
accepted world warehouse batch last = unless world (committed world warehouse batch last) (refusal_of warehouse.schema (warehouse.facts ++ batch))

abbrev pub begun_or_refused : World → Warehouse → List Fact → ℕ → Answer
begun_or_refused world warehouse batch last = unless world (begun world batch) (refusal_of warehouse.schema (warehouse.facts ++ batch))

-- the facts of a block, or the refusal
abbrev pub facts_or_refusal : Result (List Fact) RowRefusal → Result (List Fact) (List ℕ)
facts_or_refusal (Err refusal) = Err (batch_text refusal)
facts_or_refusal (Ok batch) = Ok batch

abbrev pub block_read : Schema → Block → Result (List Fact) (List ℕ)
block_read schema Long = Err (line long_block)
block_read schema (Whole bytes) = facts_or_refusal (batch_of schema bytes)

-- so many facts are made from a start, unless they are too many for a batch
abbrev pub generated_within : Schema → ℕ → ℕ → Result (List Fact) (List ℕ)
generated_within schema start rows = cond (nat_le rows 262144) (Ok (generated schema start rows)) (Err (batch_text refusals.Rows))

-- what a source gives: the facts of a batch and the last number behind it, or the reply where there is none
abbrev pub Given : Type 0
Given = Result (List Fact × ℕ) (List ℕ)

-- a batch without a number leaves the last one
abbrev pub with_last : ℕ → Result (List Fact) (List ℕ) → Given
with_last last (Err text) = Err text
with_last last (Ok batch) = Ok (batch, last)

-- a numbered batch has a fact
abbrev pub with_number : ℕ → Result (List Fact) (List ℕ) → Given
with_number number (Err text) = Err text
with_number number (Ok []) = Err (line is_empty)
with_number number (Ok (x ∷ xs)) = Ok (x ∷ xs, number)

-- a batch whose number is not above the last one was accepted before; another has to have the next number
abbrev pub in_turn : ℕ → ℕ → Given → Given
in_turn last number given =
    cond (nat_le number last) (Err (already_text number)) (cond (nat_lt (last + 1) number) (Err (gap_text (last + 1))) given)

-- the facts of a batch, by the schema and the last number
abbrev pub batch_from : Schema → ℕ → BatchSource → Given
batch_from schema last (Rows block) = with_last last (block_read schema block)
batch_from schema last (Numbered number block) = in_turn last number (with_number number (block_read schema block))
batch_from schema last (Generator start rows) = with_last last (generated_within schema start rows)

-- the facts are taken so
abbrev pub read_by : World → (List Fact → ℕ → Answer) → Given → Answer
read_by world taken (Err text) = (world, text)
read_by world taken (Ok given) = taken given.0 given.1

-- a batch is taken so, where a schema is declared and no batch is pending
abbrev pub take_over : World → (Warehouse → List Fact → ℕ → Answer) → Kept → Option (List Fact) → BatchSource → Answer
take_over world taken None pending source = replies_with world no_schema
take_over world taken (Some warehouse) (Some batch) source = replies_with world is_pending
take_over world taken (Some warehouse) None source = read_by world (taken warehouse) (batch_from warehouse.schema warehouse.last source)

-- the batch of a source is accepted at once
abbrev pub load : World → BatchSource → Answer
load world source = take_over world (accepted world) world.kept world.pending source

-- or made pending
abbrev pub begin : World → Block → Answer
begin world block = take_over world (begun_or_refused world) world.kept world.pending (Rows block)

-- ---- step, finish and abandon

-- the pending batch is answered so, where there is one
abbrev pub pending_over : World → (Warehouse → List Fact → Answer) → Kept → Option (List Fact) → Answer
pending_over world answer None pending = replies_with world none_pending
pending_over world answer (Some warehouse) None = replies_with world none_pending
pending_over world answer (Some warehouse) (Some batch) = answer warehouse batch

abbrev pub step : World → Answer
step world = pending_over world (λ warehouse batch. replies_with world stepped_text) world.kept world.pending

abbrev pub finish : World → Answer
finish world = pending_over world (λ warehouse batch. committed world warehouse batch warehouse.last) world.kept world.pending

abbrev pub abandon : World → Answer
abandon world = pending_over world (λ warehouse batch. (record world { pending = None }, line abandoned_text)) world.kept world.pending

-- ---- upgrade

abbrev pub upgrade_over : Kept → Option (List Fact) → List ℕ
upgrade_over None pending = line no_schema
upgrade_over (Some warehouse) (Some batch) = line is_pending
upgrade_over (Some warehouse) None = line upgraded_text

-- nothing that is known changes
abbrev pub upgrade : World → Answer
upgrade world = (world, upgrade_over world.kept world.pending)

-- ---- slice

-- some view has all grouped and bound attributes of the slice
abbrev pub is_covered : Schema → Slice → Bool
is_covered schema s = list_any (λ view. covers view s) schema.views

-- the rows of the facts, or the refusal where no view covers the slice
abbrev pub rows_reply : Schema → List Fact → Slice → List ℕ
rows_reply schema facts s = cond (is_covered schema s) (answer_text (rows facts s)) (line not_covered)

-- the reply to a slice that was read, or to a text that is none
abbrev pub slice_reply : Schema → List Fact → Result Slice SliceRefusal → List ℕ
slice_reply schema facts (Err refusal) = slice_text refusal
slice_reply schema facts (Ok s) = rows_reply schema facts s

-- the rows of the accepted facts, also while a batch is pending
abbrev pub slice_over : Kept → List ℕ → List ℕ
slice_over None text = line no_schema
slice_over (Some warehouse) text = slice_reply warehouse.schema warehouse.facts (slice_of warehouse.schema text)

abbrev pub slice : World → List ℕ → Answer
slice world text = (world, slice_over world.kept text)

-- the slice that was read, where some view covers it
abbrev pub covered : Schema → Result Slice SliceRefusal → Option Slice
covered schema (Err refusal) = None
covered schema (Ok s) = cond (is_covered schema s) (Some s) None

-- ---- explain

-- the view picked and how its points lie, or the refusal where no view covers the slice
abbrev pub picked_reply : Option Choice → List ℕ
picked_reply (Some choice) = choice_text choice
picked_reply None = line not_covered

-- the reply for a slice that was read, or for a text that is none, by how many points each view has
abbrev pub explain_reply : Schema → List ℕ → Result Slice SliceRefusal → List ℕ
explain_reply schema counts (Err refusal) = slice_text refusal
explain_reply schema counts (Ok s) = picked_reply (picked schema.views counts s)

abbrev pub explain_over : Kept → List ℕ → List ℕ
explain_over None text = line no_schema
explain_over (Some warehouse) text = explain_reply warehouse.schema (body_counts warehouse.schema warehouse.facts) (slice_of warehouse.schema text)

abbrev pub explain : World → List ℕ → Answer
explain world text = (world, explain_over world.kept text)

-- ---- sql

-- the slice that a query is answered from, where a fact may meet its tests and some view covers it
abbrev pub queried : Schema → Result Query SqlRefusal → Option Slice
queried schema (Err refusal) = None
queried schema (Ok q) = cond (plan_of schema q).empty None (covered schema (Ok (plan_of schema q).slice))

-- the records of the facts, or the refusal where no view has all attributes of the tests and groups
abbrev pub query_reply : Schema → List Fact → Result Query SqlRefusal → List ℕ
query_reply schema facts (Err refusal) = query_text refusal
query_reply schema facts (Ok q) = cond (is_covered schema (plan_of schema q).slice) (sql_reply facts q) (line not_covered)

abbrev pub query_over : Kept → List ℕ → List ℕ
query_over None text = line no_schema
query_over (Some warehouse) text = query_reply warehouse.schema warehouse.facts (query_of warehouse.schema text)

abbrev pub query : World → List ℕ → Answer
query world text = (world, query_over world.kept text)

-- ---- level

-- the reply to a level that was read, or to one that is refused
abbrev pub read_reply : Result Level LevelRefusal → List ℕ
read_reply (Err refusal) = level_text refusal
read_reply (Ok l) = leveled_text (length l.parents)

-- a block that is too long is refused where the name and the attribute are not
abbrev pub unread_reply : Result Level LevelRefusal → List ℕ
unread_reply (Err refusal) = level_text refusal
unread_reply (Ok l) = line long_block

abbrev pub level_reply : Schema → List Level → List ℕ → List ℕ → Block → List ℕ
level_reply schema levels name attr (Whole bytes) = read_reply (level_of schema levels name attr bytes)
level_reply schema levels name attr Long = unread_reply (level_of schema levels name attr [])

-- the level, where it was read
abbrev pub level_read : Result Level LevelRefusal → List Level
level_read (Err refusal) = []
level_read (Ok l) = l ∷ []

abbrev pub level_by : Option Schema → List Level → List ℕ → List ℕ → Block → List Level
level_by None levels name attr block = []
level_by (Some schema) levels name attr Long = []
level_by (Some schema) levels name attr (Whole bytes) = level_read (level_of schema levels name attr bytes)

-- the levels behind a command, by the schema that is declared: `level` alone adds one
abbrev pub levels_behind : Option Schema → List Level → Command → List Level
levels_behind schema levels (says.Level name attr block) = levels ++ level_by schema levels name attr block
levels_behind schema levels (says.Schema block) = levels
levels_behind schema levels (says.Load block) = levels
levels_behind schema levels (says.LoadNumbered number block) = levels
levels_behind schema levels (says.Generate start rows) = levels
levels_behind schema levels (says.Begin block) = levels
levels_behind schema levels (says.Step n) = levels
levels_behind schema levels says.Finish = levels
levels_behind schema levels says.Abandon = levels
levels_behind schema levels (says.Slice text) = levels
levels_behind schema levels (says.Explain text) = levels
levels_behind schema levels (says.Sql text) = levels
levels_behind schema levels (says.Rollup text) = levels
levels_behind schema levels says.Status = levels
levels_behind schema levels says.Upgrade = levels
levels_behind schema levels says.Audit = levels
levels_behind schema levels says.LongLine = levels
levels_behind schema levels says.OpenBlock = levels
levels_behind schema levels says.Unknown = levels

-- the schema that is declared
abbrev pub schema_in : Kept → Option Schema
schema_in None = None
schema_in (Some warehouse) = Some warehouse.schema

abbrev pub level_over : Kept → List Level → List ℕ → List ℕ → Block → List ℕ
level_over None levels name attr block = line no_schema
level_over (Some warehouse) levels name attr block = level_reply warehouse.schema levels name attr block

abbrev pub level : World → List ℕ → List ℕ → Block → Answer
level world name attr block = (
  record world { levels = levels_behind (schema_in world.kept) world.levels (says.Level name attr block) },
  level_over world.kept world.levels name attr block,
)

-- ---- rollup

-- the slice that a roll-up is answered from
abbrev pub base_slice : Schema → List Level → Slice → Slice
base_slice schema levels s = base (arity schema) levels s

-- the base slice, where some view covers it
abbrev pub rolled_from : Schema → List Level → Result Slice SliceRefusal → Option Slice
rolled_from schema levels (Err refusal) = None
rolled_from schema levels (Ok s) = covered schema (Ok (base_slice schema levels s))

-- the rows of the facts with their parents, or the refusal where no view has all attributes that are grouped or bound, or whose level is
abbrev pub lifted_reply : Schema → List Level → List Fact → Slice → List ℕ
lifted_reply schema levels facts s = cond (is_covered schema (base_slice schema levels s)) (answer_text (rows (map (lift levels) facts) s)) (line not_covered)

-- the reply to a slice that was read, or to a text that is none
abbrev pub rollup_reply : Schema → List Level → List Fact → Result Slice SliceRefusal → List ℕ
rollup_reply schema levels facts (Err refusal) = slice_text refusal
rollup_reply schema levels facts (Ok s) = lifted_reply schema levels facts s

-- in the text a level may stand wherever a text attribute may
abbrev pub rollup_over : Kept → List Level → List ℕ → List ℕ
rollup_over None levels text = line no_schema
rollup_over (Some warehouse) levels text = rollup_reply warehouse.schema levels warehouse.facts (slice_of (extended warehouse.schema levels) text)

abbrev pub rollup : World → List ℕ → Answer
rollup world text = (world, rollup_over world.kept world.levels text)

-- ---- what is answered from pages

-- the slice that a command has answered from pages by this schema and these levels, if it has one answered
abbrev pub asked_by : Schema → List Level → Command → Option Slice
asked_by schema levels (says.Slice text) = covered schema (slice_of schema text)
asked_by schema levels (says.Rollup text) = rolled_from schema levels (slice_of (extended schema levels) text)
asked_by schema levels (says.Level name attr block) = None
asked_by schema levels (says.Schema block) = None
asked_by schema levels (says.Load block) = None
asked_by schema levels (says.LoadNumbered number block) = None
asked_by schema levels (says.Generate start rows) = None
asked_by schema levels (says.Begin block) = None
asked_by schema levels (says.Step n) = None
asked_by schema levels says.Finish = None
asked_by schema levels says.Abandon = None
asked_by schema levels (says.Explain text) = None
asked_by schema levels (says.Sql text) = queried schema (query_of schema text)
asked_by schema levels says.Status = None
asked_by schema levels says.Upgrade = None
asked_by schema levels says.Audit = None
asked_by schema levels says.LongLine = None
asked_by schema levels says.OpenBlock = None
asked_by schema levels says.Unknown = None

abbrev pub asked_over : Kept → List Level → Command → Option Slice
asked_over None levels command = None
asked_over (Some warehouse) levels command = asked_by warehouse.schema levels command

abbrev pub asked_slice : World → Command → Option Slice
asked_slice world command = asked_over world.kept world.levels command

-- ---- status

abbrev pub status_over : Kept → Option (List Fact) → List ℕ
status_over None pending = line unopened
status_over (Some warehouse) None = facts_text (length warehouse.facts)
status_over (Some warehouse) (Some batch) = pending_text (length warehouse.facts) (length batch)

abbrev pub status_text : World → List ℕ
status_text world = status_over world.kept world.pending

-- ---- audit

-- files that keep facts keep all rules
abbrev pub audit_over : Kept → List ℕ
audit_over None = line unopened
audit_over (Some warehouse) = line audited_text

-- ---- all commands

-- what is known behind a command, and the reply
unfoldable pub act : World → Command → Answer
act world (says.Schema block) = declare world block
act world (says.Load block) = load world (Rows block)
act world (says.LoadNumbered number block) = load world (Numbered number block)
act world (says.Generate start rows) = load world (Generator start rows)
act world (says.Begin block) = begin world block
act world (says.Step n) = step world
act world says.Finish = finish world
act world says.Abandon = abandon world
act world (says.Slice text) = slice world text
act world (says.Explain text) = explain world text
act world (says.Sql text) = query world text
act world (says.Level name attr block) = level world name attr block
act world (says.Rollup text) = rollup world text
act world says.Status = (world, status_text world)
act world says.Upgrade = upgrade world
act world says.Audit = (world, audit_over world.kept)
act world says.LongLine = replies_with world long_line
act world says.OpenBlock = replies_with world open_block
act world says.Unknown = replies_with world is_unknown
