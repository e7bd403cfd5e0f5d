-- Two laws of the plain machine: each reply has a byte, and a command that makes no stage leaves what is known.
use Rattle.std.proofs.Common.{◌≡◌, ◌<◌, ℕ, ◌+◌, Bool, true, false, cond, List, [], ◌∷◌, ◌++◌, length, map, Option, Some, None, Result, Ok, Err, refl, arith, length-append, codes, decimal, nat_lt, nat_le}
use Rattle.std.proofs.lemmas.Bool.Decides.{nat_tests}
use Rattle.cube_schema.specs.declared.schema.Schema.{Schema}
use Rattle.cube_schema.specs.declared.schema.SchemaRefusal.{SchemaRefusal}
use Rattle.cube_schema.specs.declared.schema.SchemaRefusal.TheVariants as schemas
use Rattle.cube_schema.specs.Reading.{schema_of}
use Rattle.fact_csv.specs.Batch.{batch_of}
use Rattle.fact_csv.specs.declared.refusal.RowRefusal.{RowRefusal}
use Rattle.fact_csv.specs.declared.refusal.RowRefusal.TheVariants as refusals
use Rattle.fact_gen.specs.Generated.{generated}
use Rattle.fact_model.specs.declared.fact.Fact.{Fact}
use Rattle.fact_model.specs.declared.slice.Row.{Row}
use Rattle.fact_model.specs.declared.slice.Slice.{Slice}
use Rattle.fact_model.specs.Rows.{rows as rows_of}
use Rattle.csv_text.specs.Rows.{row_fields, rows_text}
use Rattle.script_lang.specs.declared.command.Block.{Block}
use Rattle.script_lang.specs.declared.command.Block.TheVariants.{Whole, Long}
use Rattle.script_lang.specs.declared.command.Command.{Command}
use Rattle.script_lang.specs.declared.command.Command.TheVariants as says
use Rattle.view_route.specs.Counts.{body_counts}
use Rattle.replica_route.specs.Picked.{picked}
use Rattle.replica_route.specs.declared.picking.Choice.{Choice}
use Rattle.reply_text.specs.Replies.{line, already_text, gap_text, level_text, numbered, query_text, run_text, schema_text, batch_text, slice_text, answer_text}
use Rattle.roll_up.specs.Levels.{extended, lift}
use Rattle.roll_up.specs.Reading.{level_of}
use Rattle.roll_up.specs.declared.level.Level.{Level}
use Rattle.roll_up.specs.declared.refusal.LevelRefusal.{LevelRefusal}
use Rattle.roll_up.specs.declared.refusal.LevelRefusal.TheVariants as levels
use Rattle.slice_lang.specs.declared.refusal.SliceRefusal.{SliceRefusal}
use Rattle.slice_lang.specs.declared.refusal.SliceRefusal.TheVariants as slices
use Rattle.slice_lang.specs.Reading.{slice_of}
use Rattle.sql_lang.specs.Reading.{query_of}
use Rattle.sql_lang.specs.declared.query.Query.{Query}
use Rattle.sql_lang.specs.declared.refusal.SqlRefusal.{SqlRefusal}
use Rattle.sql_lang.specs.declared.refusal.SqlRefusal.TheVariants as queries
use Rattle.sql_slice.specs.Plans.{plan_of}
use Rattle.sql_slice.specs.SqlRows.{records_text, sql_reply, sqlrows}
use Rattle.spec_machine.specs.declared.batch_source.BatchSource.{BatchSource}
use Rattle.spec_machine.specs.declared.batch_source.BatchSource.TheVariants.{Rows, Numbered, Generator}
use Rattle.spec_machine.specs.World.{Kept, World, Warehouse}
use Rattle.spec_machine.specs.Machine.{Answer, Given, abandon, accepted, act, audit_over, batch_from, begin, begun, begun_or_refused, block_read, committed, declare, declare_over, declared, explain, explain_over, explain_reply, fact_limit, facts_or_refusal, finish, first_full, first_heavy, full_refusal, base_slice, heavy_refusal, is_covered, level, level_over, level_reply, lifted_reply, load, pending_over, picked_reply, query, query_over, query_reply, read_by, refusal_of, replies_with, read_reply, rollup, rollup_over, rollup_reply, rows_reply, slice, slice_over, slice_reply, status_over, status_text, step, take_over, unless, unread_reply, upgrade, upgrade_over, with_last, with_number}
use Rattle.spec_machine.specs.Stages.{size, makes_stage}
use Rattle.spec_machine.specs.Histories.{Batch, batch_by}
use Rattle.spec_machine.proofs.Outcomes.{Outcome, stays, declares, commits, counts, outcome}

-- ---- replies have a byte

pub some_line : (text : List ℕ) → 0 < length (line text)
some_line text = omega (arith, length-append text (10 ∷ []))

pub behind : (text more : List ℕ) → 0 < length more → 0 < length (text ++ more)
behind text more some = omega (arith, some, length-append text more)

pub some_number : (text : List ℕ) (n : ℕ) → 0 < length (numbered text n)
some_number text n = behind text (line (decimal n)) (some_line (decimal n))

schema_some : (refusal : SchemaRefusal) → 0 < length (schema_text refusal)
schema_some (schemas.Line n) = some_number (codes "refused schema line ") n
schema_some (schemas.Name n) = some_number (codes "refused schema name ") n
schema_some (schemas.Repeated n) = some_number (codes "refused schema repeated ") n
schema_some (schemas.UnknownAttr n) = some_number (codes "refused schema attribute ") n
schema_some (schemas.TooMany n) = some_number (codes "refused schema many ") n
schema_some (schemas.Range n) = some_number (codes "refused schema range ") n
schema_some schemas.NoAttribute = some_line (codes "refused schema no attribute")
schema_some schemas.NoMeasure = some_line (codes "refused schema no measure")
schema_some schemas.NoView = some_line (codes "refused schema no view")
schema_some schemas.Memory = some_line []

batch_some : (refusal : RowRefusal) → 0 < length (batch_text refusal)
batch_some refusals.Rows = some_line (codes "refused rows")
batch_some (refusals.Fields row) = behind (codes "refused row ") _ (behind (decimal row) _ (some_line (codes " fields")))
batch_some (refusals.Number row field) = behind (codes "refused row ") _ (behind (decimal row) _ (some_number (codes " number ") field))
batch_some (refusals.Long row field) = behind (codes "refused row ") _ (behind (decimal row) _ (some_number (codes " long ") field))
batch_some refusals.Memory = some_line []

declared_some : (world : World) (read : Result Schema SchemaRefusal) → 0 < length (declared world read).1
declared_some world (Err refusal) = schema_some refusal
declared_some world (Ok schema) = some_line (codes "declared")

pub declare_some : (world : World) (kept : Kept) (block : Block) → 0 < length (declare_over world kept block).1
declare_some world (Some warehouse) block = some_line (codes "refused declared")
declare_some world None Long = some_line (codes "refused schema block")
declare_some world None (Whole bytes) = declared_some world (schema_of bytes)

-- each refusal has a byte
abbrev pub HasByte : Option (List ℕ) → Type 0
HasByte None = Unit {0}
HasByte (Some text) = 0 < length text

heavy_some : (heavy : Option (List ℕ)) → HasByte (heavy_refusal heavy)
heavy_some (Some name) = behind (codes "refused mass ") _ (some_line name)
heavy_some None = tt

full_some : (schema : Schema) (all : List Fact) (full : Option (List ℕ)) → HasByte (full_refusal schema all full)
full_some schema all (Some name) = behind (codes "refused names ") _ (some_line name)
full_some schema all None = heavy_some (first_heavy 0 schema.measures all)

refusal_some : (schema : Schema) (all : List Fact) → HasByte (refusal_of schema all)
refusal_some schema all = by (nat_le (length all) fact_limit)
  where
    by : (b : Bool) → HasByte (cond b (full_refusal schema all (first_full 0 schema.attrs all)) (Some (line (codes "refused facts"))))
    by true = full_some schema all (first_full 0 schema.attrs all)
    by false = some_line (codes "refused facts")

unless_some : (world : World) (answer : Answer) (refusal : Option (List ℕ)) → 0 < length answer.1 → HasByte refusal → 0 < length (unless world answer refusal).1
unless_some world answer None some byte = some
unless_some world answer (Some text) some byte = byte

committed_some : (world : World) (warehouse : Warehouse) (batch : List Fact) (last : ℕ) → 0 < length (committed world warehouse batch last).1
committed_some world warehouse batch last = some_number (codes "committed ") (length (warehouse.facts ++ batch))

accepted_some : (world : World) (warehouse : Warehouse) (batch : List Fact) (last : ℕ) → 0 < length (accepted world warehouse batch last).1
accepted_some world warehouse batch last =
    unless_some world (committed world warehouse batch last) (refusal_of warehouse.schema (warehouse.facts ++ batch)) (committed_some world warehouse batch last)
    (refusal_some warehouse.schema (warehouse.facts ++ batch))

begun_some : (world : World) (warehouse : Warehouse) (batch : List Fact) (last : ℕ) → 0 < length (begun_or_refused world warehouse batch last).1
begun_some world warehouse batch last =
    unless_some world (begun world batch) (refusal_of warehouse.schema (warehouse.facts ++ batch)) (some_line (codes "begun"))
    (refusal_some warehouse.schema (warehouse.facts ++ batch))

-- each reply of a source that gives no batch has a byte
abbrev pub HasReply : Given → Type 0
HasReply (Err text) = 0 < length text
HasReply (Ok given) = Unit {0}

batch_has : (read : Result (List Fact) RowRefusal) (last : ℕ) → HasReply (with_last last (facts_or_refusal read))
batch_has (Err refusal) last = batch_some refusal
batch_has (Ok batch) last = tt

block_has : (schema : Schema) (block : Block) (last : ℕ) → HasReply (with_last last (block_read schema block))
block_has schema Long last = some_line (codes "refused block")
block_has schema (Whole bytes) last = batch_has (batch_of schema bytes) last

number_has : (read : Result (List Fact) (List ℕ)) (number last : ℕ) → HasReply (with_last last read) → HasReply (with_number number read)
number_has (Err text) number last some = some
number_has (Ok []) number last some = some_line (codes "refused empty")
number_has (Ok (x ∷ xs)) number last some = tt

turn_has : (over early : Bool) (number last : ℕ) (given : Given) → HasReply given → HasReply (cond over (Err (already_text number)) (cond early (Err (gap_text (last + 1))) given))
turn_has true early number last given some = some_number (codes "already ") number
turn_has false true number last given some = some_number (codes "refused gap ") (last + 1)
turn_has false false number last given some = some

generated_has : (within : Bool) (schema : Schema) (start rows last : ℕ) → HasReply (with_last last (cond within (Ok (generated schema start rows)) (Err (batch_text refusals.Rows))))
generated_has true schema start rows last = tt
generated_has false schema start rows last = batch_some refusals.Rows

pub source_has : (schema : Schema) (last : ℕ) (source : BatchSource) → HasReply (batch_from schema last source)
source_has schema last (Rows block) = block_has schema block last
source_has schema last (Numbered number block) =
    turn_has (nat_le number last) (nat_lt (last + 1) number) number last (with_number number (block_read schema block))
    (number_has (block_read schema block) number last (block_has schema block last))
source_has schema last (Generator start rows) = generated_has (nat_le rows 262144) schema start rows last

read_some : (world : World) (taken : List Fact → ℕ → Answer) (given : Given) → HasReply given → ((batch : List Fact) (last : ℕ) → 0 < length (taken batch last).1)
    → 0 < length (read_by world taken given).1
read_some world taken (Err text) some each = some
read_some world taken (Ok given) some each = each given.0 given.1

take_some : (world : World) (taken : Warehouse → List Fact → ℕ → Answer) (kept : Kept) (pending : Option (List Fact)) (source : BatchSource)
    → ((warehouse : Warehouse) (batch : List Fact) (last : ℕ) → 0 < length (taken warehouse batch last).1) → 0 < length (take_over world taken kept pending source).1
take_some world taken None pending source each = some_line (codes "refused no schema")
take_some world taken (Some warehouse) (Some batch) source each = some_line (codes "refused pending")
take_some world taken (Some warehouse) None source each =
    read_some world (taken warehouse) (batch_from warehouse.schema warehouse.last source) (source_has warehouse.schema warehouse.last source) (each warehouse)

pending_some : (world : World) (answer : Warehouse → List Fact → Answer) (kept : Kept) (pending : Option (List Fact))
    → ((warehouse : Warehouse) (batch : List Fact) → 0 < length (answer warehouse batch).1) → 0 < length (pending_over world answer kept pending).1
pending_some world answer None pending each = some_line (codes "refused nothing pending")
pending_some world answer (Some warehouse) None each = some_line (codes "refused nothing pending")
pending_some world answer (Some warehouse) (Some batch) each = each warehouse batch

pub answer_some : (found : List Row) → 0 < length (answer_text found)
answer_some found = behind (rows_text (map row_fields found)) _ (some_number (codes "rows ") (length found))

rows_some : (schema : Schema) (facts : List Fact) (s : Slice) → 0 < length (rows_reply schema facts s)
rows_some schema facts s = by (is_covered schema s)
  where
    by : (b : Bool) → 0 < length (cond b (answer_text (rows_of facts s)) (line (codes "refused notcovered")))
    by true = answer_some (rows_of facts s)
    by false = some_line (codes "refused notcovered")

pub refused_some : (refusal : SliceRefusal) → 0 < length (slice_text refusal)
refused_some (slices.Syntax byte) = some_number (codes "refused syntax ") byte
refused_some (slices.UnknownAttr byte) = some_number (codes "refused attribute ") byte
refused_some (slices.UnknownMeasure byte) = some_number (codes "refused measure ") byte
refused_some (slices.Repeated byte) = some_number (codes "refused repeated ") byte
refused_some (slices.BadValue byte) = some_number (codes "refused value ") byte
refused_some slices.Memory = some_line []

slice_reply_some : (schema : Schema) (facts : List Fact) (read : Result Slice SliceRefusal) → 0 < length (slice_reply schema facts read)
slice_reply_some schema facts (Err refusal) = refused_some refusal
slice_reply_some schema facts (Ok s) = rows_some schema facts s

slice_some : (kept : Kept) (text : List ℕ) → 0 < length (slice_over kept text)
slice_some None text = some_line (codes "refused no schema")
slice_some (Some warehouse) text = slice_reply_some warehouse.schema warehouse.facts (slice_of warehouse.schema text)

choice_some : (choice : Option Choice) → 0 < length (picked_reply choice)
choice_some None = some_line (codes "refused notcovered")
choice_some (Some choice) =
    behind (codes "view ") _ (behind (decimal (choice.view + 1)) _ (behind (codes " suffix ") _ (behind (decimal choice.suffix) _ (some_line (run_text choice.run)))))

pub explained_some : (schema : Schema) (points : List ℕ) (read : Result Slice SliceRefusal) → 0 < length (explain_reply schema points read)
explained_some schema points (Err refusal) = refused_some refusal
explained_some schema points (Ok s) = choice_some (picked schema.views points s)

explain_some : (kept : Kept) (text : List ℕ) → 0 < length (explain_over kept text)
explain_some None text = some_line (codes "refused no schema")
explain_some (Some warehouse) text = explained_some warehouse.schema (body_counts warehouse.schema warehouse.facts) (slice_of warehouse.schema text)

pub query_refused_some : (refusal : SqlRefusal) → 0 < length (query_text refusal)
query_refused_some (queries.Syntax byte) = some_number (codes "refused sql syntax ") byte
query_refused_some (queries.Table byte) = some_number (codes "refused sql table ") byte
query_refused_some (queries.Name byte) = some_number (codes "refused sql name ") byte
query_refused_some (queries.Group byte) = some_number (codes "refused sql group ") byte
query_refused_some (queries.Value byte) = some_number (codes "refused sql value ") byte
query_refused_some queries.Memory = some_line []

pub records_some : (records : List (List (List ℕ))) → 0 < length (records_text records)
records_some records = behind (rows_text records) _ (some_number (codes "rows ") (length records))

query_reply_some : (schema : Schema) (facts : List Fact) (read : Result Query SqlRefusal) → 0 < length (query_reply schema facts read)
unfolding sql_reply
query_reply_some schema facts (Err refusal) = query_refused_some refusal
query_reply_some schema facts (Ok q) = by (is_covered schema (plan_of schema q).slice)
  where
    by : (b : Bool) → 0 < length (cond b (records_text (sqlrows facts q)) (line (codes "refused notcovered")))
    by true = records_some (sqlrows facts q)
    by false = some_line (codes "refused notcovered")

query_some : (kept : Kept) (text : List ℕ) → 0 < length (query_over kept text)
query_some None text = some_line (codes "refused no schema")
query_some (Some warehouse) text = query_reply_some warehouse.schema warehouse.facts (query_of warehouse.schema text)

level_refused_some : (refusal : LevelRefusal) → 0 < length (level_text refusal)
level_refused_some levels.Name = some_line (codes "refused level name")
level_refused_some levels.Attribute = some_line (codes "refused level attribute")
level_refused_some levels.Many = some_line (codes "refused level many")
level_refused_some levels.Rows = batch_some refusals.Rows
level_refused_some (levels.Fields row) = batch_some (refusals.Fields row)
level_refused_some (levels.Number row) = batch_some (refusals.Number row 1)
level_refused_some (levels.Long row field) = batch_some (refusals.Long row field)
level_refused_some (levels.Repeated row) = behind (codes "refused row ") _ (behind (decimal row) _ (some_line (codes " repeated")))
level_refused_some levels.Memory = some_line []

read_reply_some : (read : Result Level LevelRefusal) → 0 < length (read_reply read)
read_reply_some (Err refusal) = level_refused_some refusal
read_reply_some (Ok l) = some_number (codes "leveled ") (length l.parents)

unread_reply_some : (read : Result Level LevelRefusal) → 0 < length (unread_reply read)
unread_reply_some (Err refusal) = level_refused_some refusal
unread_reply_some (Ok l) = some_line (codes "refused block")

pub level_reply_some : (schema : Schema) (known : List Level) (name attr : List ℕ) (block : Block) → 0 < length (level_reply schema known name attr block)
level_reply_some schema known name attr (Whole bytes) = read_reply_some (level_of schema known name attr bytes)
level_reply_some schema known name attr Long = unread_reply_some (level_of schema known name attr [])

level_some : (kept : Kept) (known : List Level) (name attr : List ℕ) (block : Block) → 0 < length (level_over kept known name attr block)
level_some None known name attr block = some_line (codes "refused no schema")
level_some (Some warehouse) known name attr block = level_reply_some warehouse.schema known name attr block

lifted_some : (schema : Schema) (known : List Level) (facts : List Fact) (s : Slice) → 0 < length (lifted_reply schema known facts s)
lifted_some schema known facts s = by (is_covered schema (base_slice schema known s))
  where
    by : (b : Bool) → 0 < length (cond b (answer_text (rows_of (map (lift known) facts) s)) (line (codes "refused notcovered")))
    by true = answer_some (rows_of (map (lift known) facts) s)
    by false = some_line (codes "refused notcovered")

rollup_reply_some : (schema : Schema) (known : List Level) (facts : List Fact) (read : Result Slice SliceRefusal) → 0 < length (rollup_reply schema known facts read)
rollup_reply_some schema known facts (Err refusal) = refused_some refusal
rollup_reply_some schema known facts (Ok s) = lifted_some schema known facts s

rollup_some : (kept : Kept) (known : List Level) (text : List ℕ) → 0 < length (rollup_over kept known text)
rollup_some None known text = some_line (codes "refused no schema")
rollup_some (Some warehouse) known text = rollup_reply_some warehouse.schema known warehouse.facts (slice_of (extended warehouse.schema known) text)

status_some : (kept : Kept) (pending : Option (List Fact)) → 0 < length (status_over kept pending)
status_some None pending = some_line (codes "no schema")
status_some (Some warehouse) None = some_number (codes "facts ") (length warehouse.facts)
status_some (Some warehouse) (Some batch) =
    behind (codes "facts ") _ (behind (decimal (length warehouse.facts)) _ (some_number (codes " pending ") (length batch)))

upgrade_some : (kept : Kept) (pending : Option (List Fact)) → 0 < length (upgrade_over kept pending)
upgrade_some None pending = some_line (codes "refused no schema")
upgrade_some (Some warehouse) None = some_line (codes "upgraded")
upgrade_some (Some warehouse) (Some batch) = some_line (codes "refused pending")

audit_some : (kept : Kept) → 0 < length (audit_over kept)
audit_some None = some_line (codes "no schema")
audit_some (Some warehouse) = some_line (codes "audit yes")

pub reply_some : (world : World) (command : Command) → 0 < length (act world command).1
unfolding act
reply_some world (says.Schema block) = declare_some world world.kept block
reply_some world (says.Load block) = take_some world (accepted world) world.kept world.pending (Rows block) (accepted_some world)
reply_some world (says.LoadNumbered number block) = take_some world (accepted world) world.kept world.pending (Numbered number block) (accepted_some world)
reply_some world (says.Generate start rows) = take_some world (accepted world) world.kept world.pending (Generator start rows) (accepted_some world)
reply_some world (says.Begin block) = take_some world (begun_or_refused world) world.kept world.pending (Rows block) (begun_some world)
reply_some world (says.Step n) = pending_some world _ world.kept world.pending (λ warehouse batch. some_line (codes "stepped"))
reply_some world says.Finish =
    pending_some world (λ warehouse batch. committed world warehouse batch warehouse.last) world.kept world.pending (λ warehouse batch. committed_some world warehouse batch warehouse.last)
reply_some world says.Abandon = pending_some world _ world.kept world.pending (λ warehouse batch. some_line (codes "abandoned"))
reply_some world (says.Slice text) = slice_some world.kept text
reply_some world (says.Explain text) = explain_some world.kept text
reply_some world (says.Sql text) = query_some world.kept text
reply_some world (says.Level name attr block) = level_some world.kept world.levels name attr block
reply_some world (says.Rollup text) = rollup_some world.kept world.levels text
reply_some world says.Status = status_some world.kept world.pending
reply_some world says.Upgrade = upgrade_some world.kept world.pending
reply_some world says.Audit = audit_some world.kept
reply_some world says.LongLine = some_line (codes "refused long line")
reply_some world says.OpenBlock = some_line (codes "refused open block")
reply_some world says.Unknown = some_line (codes "refused unknown")

-- ---- stages

pub nothing_added : (batch : List Fact) → length batch ≡ 0 → batch ≡ []
nothing_added [] h = refl
nothing_added (x ∷ xs) h = absurd (omega arith)

grows : (facts : List Fact) (x : Fact) (xs : List Fact) → nat_lt (length facts + 1) (length (facts ++ x ∷ xs) + 1) ≡ false → ⊥
grows facts x xs h = grind (arith, nat_tests, length-append facts (x ∷ xs))

-- where what is accepted does not grow, it stays
stays_or_grows : (batch : Option Batch) (before after : Kept) → Outcome batch before after → nat_lt (size before) (size after) ≡ false → after ≡ before
stays_or_grows batch before after stays h = refl
stays_or_grows batch before after (declares schema) h = absurd (cc)
stays_or_grows batch before after (commits warehouse x xs) h = absurd (grows warehouse.facts x xs h)
stays_or_grows batch before after (counts warehouse x xs turn) h = absurd (grows warehouse.facts x xs h)

pub no_stage : (world : World) (command : Command) → makes_stage world command ≡ false → (act world command).0.kept ≡ world.kept
no_stage world command = stays_or_grows (batch_by world command) world.kept (act world command).0.kept (outcome world command)

-- ---- what each command does

pub act_schema : (world : World) (block : Block) → act world (says.Schema block) ≡ declare world block
unfolding act
act_schema world block = refl

pub act_load : (world : World) (block : Block) → act world (says.Load block) ≡ load world (Rows block)
unfolding act
act_load world block = refl

pub act_load_numbered : (world : World) (number : ℕ) (block : Block) → act world (says.LoadNumbered number block) ≡ load world (Numbered number block)
unfolding act
act_load_numbered world number block = refl

pub act_generate : (world : World) (start rows : ℕ) → act world (says.Generate start rows) ≡ load world (Generator start rows)
unfolding act
act_generate world start rows = refl

pub act_slice : (world : World) (text : List ℕ) → act world (says.Slice text) ≡ slice world text
unfolding act
act_slice world text = refl

pub act_explain : (world : World) (text : List ℕ) → act world (says.Explain text) ≡ explain world text
unfolding act
act_explain world text = refl

pub act_sql : (world : World) (text : List ℕ) → act world (says.Sql text) ≡ query world text
unfolding act
act_sql world text = refl

pub act_level : (world : World) (name attr : List ℕ) (block : Block) → act world (says.Level name attr block) ≡ level world name attr block
unfolding act
act_level world name attr block = refl

pub act_rollup : (world : World) (text : List ℕ) → act world (says.Rollup text) ≡ rollup world text
unfolding act
act_rollup world text = refl

pub act_status : (world : World) → act world says.Status ≡ (world, status_text world)
unfolding act
act_status world = refl

pub act_upgrade : (world : World) → act world says.Upgrade ≡ upgrade world
unfolding act
act_upgrade world = refl

pub act_audit : (world : World) → act world says.Audit ≡ (world, audit_over world.kept)
unfolding act
act_audit world = refl

pub act_long_line : (world : World) → act world says.LongLine ≡ replies_with world (codes "refused long line")
unfolding act
act_long_line world = refl

pub act_open_block : (world : World) → act world says.OpenBlock ≡ replies_with world (codes "refused open block")
unfolding act
act_open_block world = refl

pub act_begin : (world : World) (block : Block) → act world (says.Begin block) ≡ begin world block
unfolding act
act_begin world block = refl

pub act_step : (world : World) (n : ℕ) → act world (says.Step n) ≡ step world
unfolding act
act_step world n = refl

pub act_finish : (world : World) → act world says.Finish ≡ finish world
unfolding act
act_finish world = refl

pub act_abandon : (world : World) → act world says.Abandon ≡ abandon world
unfolding act
act_abandon world = refl

pub act_unknown : (world : World) → act world says.Unknown ≡ replies_with world (codes "refused unknown")
unfolding act
act_unknown world = refl
