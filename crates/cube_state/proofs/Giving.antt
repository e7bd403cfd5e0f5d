-- Each reply that a command gives has a byte.
use Rattle.cube_state.specs.declared.state.State.{State}
use Rattle.spec_machine.specs.World.{bare}
use Rattle.script_lang.specs.declared.command.Command.{Command}
use Rattle.site_core.specs.Disk.{Files}
use Rattle.std.proofs.Common.{◌≡◌, ◌<◌, ℕ, inl, inr, List, [], ◌∷◌, length, map, Option, Some, None, Result, Ok, Err, codes, decimal, sym, subst}
use Rattle.cube_schema.specs.declared.schema.Schema.{Schema}
use Rattle.cube_schema.specs.Kinds.{name_at, measure_name_at}
use Rattle.fact_model.specs.declared.fact.Fact.{Fact}
use Rattle.fact_model.specs.declared.slice.Slice.{Slice}
use Rattle.forest_refresh.specs.Begun.{batch_size}
use Rattle.forest_refresh.specs.declared.stop.BeginStop.{BeginStop}
use Rattle.forest_refresh.specs.declared.stop.BeginStop.TheVariants as begins
use Rattle.forest_root.specs.declared.forest.Store.{Store}
use Rattle.forest_audit.specs.declared.verdict.Verdict.{Verdict}
use Rattle.forest_audit.specs.declared.verdict.Verdict.TheVariants as verdicts
use Rattle.cube_state.specs.Audits.{verdict_text}
use Rattle.reply_text.specs.Replies.{abandoned_text, audited_text, begun_text, is_declared, is_pending, is_unknown, line, long_line, no_schema, none_pending, not_covered, open_block, stepped_text, too_many_facts, unopened, upgraded_text}
use Rattle.script_lang.specs.declared.command.Command.TheVariants as says
use Rattle.slice_lang.specs.declared.refusal.SliceRefusal.{SliceRefusal}
use Rattle.slice_lang.specs.Reading.{slice_of}
use Rattle.spec_machine.specs.declared.batch_source.BatchSource.{BatchSource}
use Rattle.spec_machine.specs.declared.batch_source.BatchSource.TheVariants.{Rows, Numbered, Generator}
use Rattle.spec_machine.specs.Machine.{Given}
use Rattle.spec_machine.proofs.Acts.{HasByte, HasReply, answer_some, behind, declare_some, explained_some, level_reply_some, query_refused_some, records_some, refused_some, some_line, some_number, source_has}
use Rattle.cube_state.specs.declared.state.State.TheVariants.{Empty, Idle, Hollow, Pending}
use Rattle.cube_state.specs.Batches.{GivesBatch, GivesBegun, GivesGiven, IsRefused, LoadGives, given_to, pending_line, refusal_text}
use Rattle.cube_state.specs.Commands.{Gives}
use Rattle.cube_state.specs.Folds.{GivesQuery, GivesRolled, QueryGives, RollupGives, records_found, rolled_found}
use Rattle.cube_state.specs.Levels.{leveled_by}
use Rattle.cube_schema.specs.Kinds.{arity}
use Rattle.roll_up.specs.Levels.{extended}
use Rattle.roll_up.specs.Lifted.{rolled_up}
use Rattle.roll_up.specs.declared.level.Level.{Level}
use Rattle.script_lang.specs.declared.command.Block.{Block}
use Rattle.cube_state.specs.Slices.{GivesRead, SliceGives, explain_text}
use Rattle.fact_model.specs.declared.slice.Row.{Row}
use Rattle.sql_lang.specs.Reading.{query_of}
use Rattle.sql_lang.specs.declared.query.Query.{Query}
use Rattle.sql_lang.specs.declared.refusal.SqlRefusal.{SqlRefusal}
use Rattle.sql_slice.specs.Plans.{plan_of}
use Rattle.sql_slice.specs.RowFold.{joined_rows, laid_entry}
use Rattle.sql_slice.specs.declared.planned.Plan.{Plan}
use Rattle.cube_state.specs.Visits.{store_of}

-- by the text that it is
as_text : (text reply : List ℕ) → reply ≡ text → 0 < length text → 0 < length reply
as_text text reply is some = subst (λ (l : List ℕ). 0 < length l) (sym is) some

as_line : (text reply : List ℕ) → reply ≡ line text → 0 < length reply
as_line text reply is = as_text (line text) reply is (some_line text)

limit_byte : (schema : Schema) (why : BeginStop) → HasByte (refusal_text schema why)
limit_byte schema begins.FactsFull = some_line too_many_facts
limit_byte schema (begins.NamesFull a) = behind (codes "refused names ") _ (some_line (name_at schema a))
limit_byte schema (begins.Mass m) = behind (codes "refused mass ") _ (some_line (measure_name_at schema m))
limit_byte schema begins.Memory = tt
limit_byte schema begins.Disk = tt

limit_some : (store : Store) (reply : List ℕ) → IsRefused store reply → 0 < length reply
limit_some store reply is = subst HasByte is.1 (limit_byte store.forest.schema is.0)

read_some : (store : Store) (files : Files) (read : Result Slice SliceRefusal) (reply : List ℕ) → GivesRead store files read reply → 0 < length reply
read_some store files (Err refusal) reply is = as_text _ reply is (refused_some refusal)
read_some store files (Ok s) reply (Some rows, right, said) = as_text _ reply said (answer_some rows)
read_some store files (Ok s) reply (None, right, said) = as_text _ reply said (some_line not_covered)

slice_some : (store : Option Store) (files : Files) (text reply : List ℕ) → SliceGives store files text reply → 0 < length reply
slice_some None files text reply is = as_line no_schema reply is
slice_some (Some store) files text reply is = read_some store files (slice_of store.forest.schema text) reply is

explain_some : (store : Option Store) (text : List ℕ) → 0 < length (explain_text store text)
explain_some None text = some_line no_schema
explain_some (Some store) text = explained_some store.forest.schema store.forest.body.counts (slice_of store.forest.schema text)

found_some : (q : Query) (p : Plan) (found : Option (List Row)) → 0 < length (records_found q p found)
found_some q p (Some rows) = records_some (map (laid_entry q) (joined_rows p.slice.columns (length q.group) p.slice.group q.tests rows))
found_some q p None = some_line not_covered

query_read_some : (store : Store) (files : Files) (read : Result Query SqlRefusal) (reply : List ℕ) → GivesQuery store files read reply → 0 < length reply
query_read_some store files (Err refusal) reply is = as_text _ reply is (query_refused_some refusal)
query_read_some store files (Ok q) reply is = as_text _ reply is.2 (found_some q (plan_of store.forest.schema q) is.0)

query_some : (store : Option Store) (files : Files) (text reply : List ℕ) → QueryGives store files text reply → 0 < length reply
query_some None files text reply is = as_line no_schema reply is
query_some (Some store) files text reply is = query_read_some store files (query_of store.forest.schema text) reply is

rolled_some : (levels : List Level) (store : Store) (s : Slice) (found : Option (List Row)) → 0 < length (rolled_found store levels s found)
rolled_some levels store s (Some rows) = answer_some (rolled_up (arity store.forest.schema) levels s rows)
rolled_some levels store s None = some_line not_covered

rolled_read_some : (levels : List Level) (store : Store) (files : Files) (read : Result Slice SliceRefusal) (reply : List ℕ) → GivesRolled levels store files read reply → 0 < length reply
rolled_read_some levels store files (Err refusal) reply is = as_text _ reply is (refused_some refusal)
rolled_read_some levels store files (Ok s) reply is = as_text _ reply is.2 (rolled_some levels store s is.0)

rollup_some : (levels : List Level) (store : Option Store) (files : Files) (text reply : List ℕ) → RollupGives levels store files text reply → 0 < length reply
rollup_some levels None files text reply is = as_line no_schema reply is
rollup_some levels (Some store) files text reply is = rolled_read_some levels store files (slice_of (extended store.forest.schema levels) text) reply is

leveled_some : (levels : List Level) (store : Option Store) (name attr : List ℕ) (block : Block) → 0 < length (leveled_by levels store name attr block)
leveled_some levels None name attr block = some_line no_schema
leveled_some levels (Some store) name attr block = level_reply_some store.forest.schema levels name attr block

batch_some : (store : Store) (files : Files) (batch : List Fact) (reply : List ℕ) → GivesBatch store files batch reply → 0 < length reply
batch_some store files [] reply is = as_text _ reply is (some_number (codes "committed ") store.forest.body.facts)
batch_some store files (x ∷ xs) reply (inl refused) = limit_some store reply refused
batch_some store files (x ∷ xs) reply (inr taken) = as_text _ reply taken.said (some_number (codes "committed ") taken.count)

given_some : (store : Store) (files : Files) (given : Given) (reply : List ℕ) → HasReply given → GivesGiven store files given reply → 0 < length reply
given_some store files (Err text) reply some is = as_text text reply is some
given_some store files (Ok given) reply some is = batch_some store files given.0 reply is

load_some : (state : State) (files : Files) (source : BatchSource) (reply : List ℕ) → LoadGives state files source reply → 0 < length reply
load_some Empty files source reply is = as_line no_schema reply is
load_some (Idle store) files source reply is = given_some store files (given_to store source) reply (source_has store.forest.schema store.forest.body.last source) is
load_some _ files source reply is = as_line is_pending reply is

begun_some : (store : Store) (given : Given) (reply : List ℕ) → HasReply given → GivesBegun store given reply → 0 < length reply
begun_some store (Err text) reply some is = as_text text reply is some
begun_some store (Ok given) reply some (inl refused) = limit_some store reply refused
begun_some store (Ok given) reply some (inr begun) = as_line begun_text reply begun

pending_some : (state : State) (text : List ℕ) → 0 < length (pending_line state text)
pending_some (Hollow store) text = some_line text
pending_some (Pending r) text = some_line text
pending_some _ text = some_line none_pending

verdict_some : (found : Verdict) → 0 < length (verdict_text found)
verdict_some verdicts.Empty = some_line unopened
verdict_some verdicts.Yes = some_line audited_text
verdict_some (verdicts.No file offset) = behind (codes "audit no ") _ (behind (decimal file) _ (some_number (codes " ") offset))

pub gives_some : (levels : List Level) (state : State) (files : Files) (command : Command) (reply : List ℕ) → Gives levels state files command reply → 0 < length reply
gives_some levels Empty files (says.Schema block) reply is = as_text _ reply is (declare_some (bare None) None block)
gives_some levels state files (says.Schema block) reply is = as_line is_declared reply is
gives_some levels state files (says.Load block) reply is = load_some state files (Rows block) reply is
gives_some levels state files (says.LoadNumbered number block) reply is = load_some state files (Numbered number block) reply is
gives_some levels state files (says.Generate start rows) reply is = load_some state files (Generator start rows) reply is
gives_some levels state files (says.Slice text) reply is = slice_some (store_of state) files text reply is
gives_some levels state files (says.Explain text) reply is = as_text _ reply is (explain_some (store_of state) text)
gives_some levels state files (says.Sql text) reply is = query_some (store_of state) files text reply is
gives_some levels state files (says.Rollup text) reply is = rollup_some levels (store_of state) files text reply is
gives_some levels state files (says.Level name attr block) reply is = as_text _ reply is (leveled_some levels (store_of state) name attr block)
gives_some levels Empty files says.Status reply is = as_text _ reply is (some_line unopened)
gives_some levels (Idle store) files says.Status reply is = as_text _ reply is (some_number (codes "facts ") store.forest.body.facts)
gives_some levels (Hollow store) files says.Status reply is =
    as_text _ reply is (behind (codes "facts ") _ (behind (decimal store.forest.body.facts) _ (some_number (codes " pending ") 0)))
gives_some levels (Pending r) files says.Status reply is =
    as_text _ reply is (behind (codes "facts ") _ (behind (decimal r.store.forest.body.facts) _ (some_number (codes " pending ") (batch_size r))))
gives_some levels Empty files says.Upgrade reply is = as_line no_schema reply is
gives_some levels (Idle store) files says.Upgrade reply is = as_line upgraded_text reply is.said
gives_some levels state files says.Upgrade reply is = as_line is_pending reply is
gives_some levels state files says.Audit reply is = as_text _ reply is.said (verdict_some is.found)
gives_some levels Empty files (says.Begin block) reply is = as_line no_schema reply is
gives_some levels (Idle store) files (says.Begin block) reply is = begun_some store (given_to store (Rows block)) reply (source_has store.forest.schema store.forest.body.last (Rows block)) is
gives_some levels state files (says.Begin block) reply is = as_line is_pending reply is
gives_some levels state files (says.Step n) reply is = as_text _ reply is (pending_some state stepped_text)
gives_some levels (Hollow store) files says.Finish reply is = as_text _ reply is (some_number (codes "committed ") store.forest.body.facts)
gives_some levels (Pending r) files says.Finish reply is = as_text _ reply is.said (some_number (codes "committed ") r.next.facts)
gives_some levels state files says.Finish reply is = as_line none_pending reply is
gives_some levels state files says.Abandon reply is = as_text _ reply is (pending_some state abandoned_text)
gives_some levels state files says.LongLine reply is = as_line long_line reply is
gives_some levels state files says.OpenBlock reply is = as_line open_block reply is
gives_some levels state files says.Unknown reply is = as_line is_unknown reply is
