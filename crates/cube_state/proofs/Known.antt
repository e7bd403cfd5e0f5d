-- Commands that only answer: what they reply, by what the session has.
use Rattle.cube_state.proofs.Answering.{OnlyNow}
use Rattle.cube_state.proofs.Carried.{OnlySays, OnlySaysWith, Says, says_just, says_or_out_with}
use Rattle.cube_state.proofs.Levels.{schema_stands}
use Rattle.cube_state.specs.Levels.{leveled_by}
use Rattle.roll_up.specs.declared.level.Level.{Level}
use Rattle.cube_state.specs.Carried.{CarriesOut, CarriesOutWith, IsReadyFor, Reply}
use Rattle.cube_state.specs.Commands.{SchemaGives}
use Rattle.cube_schema.specs.declared.schema.Schema.{Schema}
use Rattle.cube_state.proofs.Standing.{attends_belongs}
use Rattle.cube_state.specs.Session.{Belongs, Stands, state_text}
use Rattle.cube_state.specs.Slices.{explain_text}
use Rattle.cube_state.specs.Visits.{schema_from, store_of}
use Rattle.cube_state.specs.declared.state.State.{State}
use Rattle.cube_state.specs.declared.state.State.TheVariants.{Empty, Hollow, Idle, Pending}
use Rattle.cube_state.specs.declared.stop.Stop.{Stop}
use Rattle.fact_model.specs.declared.fact.Fact.{Fact}
use Rattle.view_route.specs.Counts.{body_counts}
use Rattle.forest_refresh.specs.Begun.{batch_size}
use Rattle.forest_root.specs.declared.forest.Store.{Store}
use Rattle.page_cache.specs.Giving.{Cache}
use Rattle.spec_machine.proofs.Acts.{act_explain, act_level, act_long_line, act_open_block, act_schema, act_status, act_unknown}
use Rattle.spec_machine.specs.Machine.{Answer, declare_over, explain_over, explain_reply, level_over, level_reply, schema_in, status_over, status_text}
use Rattle.spec_machine.specs.World.{Kept, Knows, Warehouse, World, bare}
use Rattle.reply_text.specs.Replies.{facts_text, is_declared, is_unknown, line, long_line, no_schema, open_block, pending_text}
use Rattle.script_lang.specs.declared.command.Block.{Block}
use Rattle.script_lang.specs.declared.command.Command.{Command}
use Rattle.site_core.specs.Disk.{Disk}
use Rattle.slice_lang.specs.Reading.{slice_of}
use Rattle.site_core.specs.declared.site.Site.{Ghosts}
use Rattle.std.proofs.Common.{IfErr, IfOk, IsTrue, List, None, Option, Some, ap, arith, length, length-append, refl, subst, sym, ℕ, ◌∙◌, ◌≡◌}
use Rattle.cube_state.specs.Moves.{format_of}
use Rattle.cube_state.proofs.Writing.{goes_nowhere}

pub some_none : {A : Type 0} {x : A} → Some x ≡ None → ⊥
some_none same = absurd (cc)

-- ---- how many facts

known_status : (kept : Kept) (pending : Option (List Fact)) (world : World) → Knows kept pending world → status_over kept pending ≡ status_text world
known_status kept pending world is = λ i. status_over (sym is.kept i) (sym is.pending i)

-- it knows how many facts there are
status_known : (state : State) (disk : Disk) (world : World) → Stands state disk world → state_text state ≡ status_text world
status_known Empty disk world is = known_status None None world is.0
status_known (Idle store) disk world is = ap facts_text is.2.stored.read.live.at.body_is.facts ∙ known_status (Some is.0) None world is.1
status_known (Hollow store) disk world is = ap (λ n. pending_text n 0) is.2.stored.read.live.at.body_is.facts ∙ known_status (Some is.0) _ world is.1
status_known (Pending r) disk world is =
    let adds = is.3.attends.adds.read in
    let now = adds.live.at.body_is.facts in
    let size : batch_size r ≡ length is.1 = omega (arith, now, adds.counted, length-append is.0.facts is.1) in
    (λ i. pending_text (now i) (size i)) ∙ known_status (Some is.0) (Some is.1) world is.2

-- ---- which view answers a slice

explain_store : (store : Store) (disk : Disk) (warehouse : Warehouse) (text : List ℕ) → Belongs store disk warehouse → explain_text (Some store) text ≡ explain_over (Some warehouse) text
explain_store store disk warehouse text is =
    ap (λ (counts : List ℕ). explain_reply store.forest.schema counts (slice_of store.forest.schema text)) is.stored.read.live.at.body_is.counts
    ∙ ap (λ (s : Schema). explain_reply s (body_counts s warehouse.facts) (slice_of s text)) is.schema

-- it knows how many points each view has
explain_known : (state : State) (disk : Disk) (world : World) (text : List ℕ) → Stands state disk world → explain_text (store_of state) text ≡ explain_over world.kept text
explain_known Empty disk world text is = ap (λ (k : Kept). explain_over k text) (sym is.0.kept)
explain_known (Idle store) disk world text is = explain_store store disk is.0 text is.2 ∙ ap (λ (k : Kept). explain_over k text) (sym is.1.kept)
explain_known (Hollow store) disk world text is = explain_store store disk is.0 text is.2 ∙ ap (λ (k : Kept). explain_over k text) (sym is.1.kept)
explain_known (Pending r) disk world text is =
    explain_store r.store disk is.0 text (attends_belongs r disk is.0 is.1 is.3.attends) ∙ ap (λ (k : Kept). explain_over k text) (sym is.2.kept)

-- ---- they only answer

module _ {S : Type 0} (T : Ghosts S) (state : State) (site : S) where
  pub status_says : OnlySays T Command.Status state site (state_text state)
  status_says levels = record {
    acts = λ t world known stands. says_just world _ _ (act_status world ∙ ap (λ text. (world, text)) (sym (status_known state (T.disk site) world stands)));
    moves = λ t world stands. refl;
    goes = λ t world known stands. goes_nowhere Command.Status (λ schema levels. refl) (format_of state) world;
    gives = λ files. refl;
    alone = λ none. refl;
  }

  pub explain_says : (text : List ℕ) → OnlySays T (Command.Explain text) state site (explain_text (store_of state) text)
  explain_says text levels = record {
    acts = λ t world known stands. says_just world _ _ (act_explain world text ∙ ap (λ reply. (world, reply)) (sym (explain_known state (T.disk site) world text stands)));
    moves = λ t world stands. refl;
    goes = λ t world known stands. goes_nowhere (Command.Explain text) (λ schema levels. refl) (format_of state) world;
    gives = λ files. refl;
    alone = λ none. refl;
  }

  pub long_line_says : OnlySays T Command.LongLine state site (line long_line)
  long_line_says levels = record {
    acts = λ t world known stands. says_just world _ _ (act_long_line world);
    moves = λ t world stands. refl;
    goes = λ t world known stands. goes_nowhere Command.LongLine (λ schema levels. refl) (format_of state) world;
    gives = λ files. refl;
    alone = λ none. refl;
  }

  pub open_block_says : OnlySays T Command.OpenBlock state site (line open_block)
  open_block_says levels = record {
    acts = λ t world known stands. says_just world _ _ (act_open_block world);
    moves = λ t world stands. refl;
    goes = λ t world known stands. goes_nowhere Command.OpenBlock (λ schema levels. refl) (format_of state) world;
    gives = λ files. refl;
    alone = λ none. refl;
  }

  pub unknown_says : OnlySays T Command.Unknown state site (line is_unknown)
  unknown_says levels = record {
    acts = λ t world known stands. says_just world _ _ (act_unknown world);
    moves = λ t world stands. refl;
    goes = λ t world known stands. goes_nowhere Command.Unknown (λ schema levels. refl) (format_of state) world;
    gives = λ files. refl;
    alone = λ none. refl;
  }

  -- a schema is declared only where there is none
  schema_says : (block : Block) (text : List ℕ) → ((world : World) → Stands state (T.disk site) world → declare_over world world.kept block ≡ (world, text)) → SchemaGives state block text
      → OnlySays T (Command.Schema block) state site text
  schema_says block text declares gives levels = record {
    acts = λ t world known stands. says_just world _ _ (act_schema world block ∙ declares world stands);
    moves = λ t world stands. refl;
    goes = λ t world known stands. goes_nowhere (Command.Schema block) (λ schema levels. refl) (format_of state) world;
    gives = λ files. gives;
    alone = λ none. refl;
  }

-- there is one
pub declared_says : {S : Type 0} (T : Ghosts S) (state : State) (site : S) (block : Block) → (state ≡ Empty → ⊥) → OnlySays T (Command.Schema block) state site (line is_declared)
declared_says T Empty site block some = absurd (some refl)
declared_says T (Idle store) site block some = schema_says T (Idle store) site block (line is_declared) (λ world stands. ap (λ (kept : Kept). declare_over world kept block) stands.1.kept) refl
declared_says T (Hollow store) site block some = schema_says T (Hollow store) site block (line is_declared) (λ world stands. ap (λ (kept : Kept). declare_over world kept block) stands.1.kept) refl
declared_says T (Pending r) site block some = schema_says T (Pending r) site block (line is_declared) (λ world stands. ap (λ (kept : Kept). declare_over world kept block) stands.2.kept) refl

-- or the block gives none
pub refused_says : {S : Type 0} (T : Ghosts S) (state : State) (site : S) (block : Block) (text : List ℕ) → state ≡ Empty → ((world : World) → declare_over world None block ≡ (world, text))
    → OnlySays T (Command.Schema block) state site text
refused_says T state site block text empty refuses = subst (λ (s : State). OnlySays T (Command.Schema block) s site text) (sym empty) (schema_says T Empty site block text
    (λ world stands. ap (λ (kept : Kept). declare_over world kept block) stands.0.kept ∙ refuses world) (sym (ap (λ (a : Answer). a.1) (refuses (bare None)))))

-- ---- a level

-- it knows the schema
leveled_known : (state : State) (disk : Disk) (world : World) (levels : List Level) (name attr : List ℕ) (block : Block) → world.levels ≡ levels → Stands state disk world
    → level_over world.kept world.levels name attr block ≡ leveled_by levels (store_of state) name attr block
leveled_known state disk world levels name attr block known stands =
    (λ i. level_over world.kept (known i) name attr block) ∙ (over_schema world.kept ∙ ap over (schema_stands state disk world stands) ∙ over_store (store_of state))
  where
    over : Option Schema → List ℕ
    over None = line no_schema
    over (Some schema) = level_reply schema levels name attr block

    over_schema : (kept : Kept) → level_over kept levels name attr block ≡ over (schema_in kept)
    over_schema None = refl
    over_schema (Some warehouse) = refl

    over_store : (store : Option Store) → over (schema_from store) ≡ leveled_by levels store name attr block
    over_store None = refl
    over_store (Some store) = refl

-- what is kept and pending stays
pub level_says : {S : Type 0} (T : Ghosts S) (state : State) (site : S) (levels : List Level) (name attr : List ℕ) (block : Block)
    → OnlySaysWith T levels (Command.Level name attr block) state site (leveled_by levels (store_of state) name attr block)
level_says T state site levels name attr block = record {
  acts = λ t world known stands. subst (Says world (leveled_by levels (store_of state) name attr block)) (sym (act_level world name attr block)) (record {
    same = record { kept = refl; pending = refl };
    replied = leveled_known state (T.disk site) world levels name attr block known stands;
  });
  moves = λ t world stands. refl;
  goes = λ t world known stands. goes_nowhere (Command.Level name attr block) (λ schema levels. refl) (format_of state) world;
  gives = λ files. refl;
  alone = λ none. refl;
}

-- and memory may run out for the reply
pub only_answers_with : {S : Type 0} (T : Ghosts S) (levels : List Level) (site : S) (state : State) (cache : Cache) (command its : Command) (text : List ℕ) (result : Reply) → (IsTrue T.tells → OnlyNow (T.disk site))
    → IsReadyFor T site cache state → command ≡ its → OnlySaysWith T levels its state site text → IfOk result (λ reply. reply.items ≡ text) → IfErr result (λ stop. stop ≡ Stop.Memory)
    → CarriesOutWith T levels command state state site site cache cache result
only_answers_with T levels site state cache command its text result now ready is only said memory = subst (λ (k : Command). CarriesOutWith T levels k state state site site cache cache result) (sym is)
    (says_or_out_with T its state site cache now levels text result ready only said (λ stop err. subst (λ (r : Reply). IfErr r (λ s. s ≡ Stop.Memory)) err memory))

-- whatever the levels are
pub only_answers : {S : Type 0} (T : Ghosts S) (site : S) (state : State) (cache : Cache) (command its : Command) (text : List ℕ) (result : Reply) → (IsTrue T.tells → OnlyNow (T.disk site))
    → IsReadyFor T site cache state → command ≡ its → OnlySays T its state site text → IfOk result (λ reply. reply.items ≡ text) → IfErr result (λ stop. stop ≡ Stop.Memory)
    → CarriesOut T command state state site site cache cache result
only_answers T site state cache command its text result now ready is only said memory levels =
    only_answers_with T levels site state cache command its text result now ready is (only levels) said memory
