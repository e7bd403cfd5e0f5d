-- The command `sql` is carried out.
use Rattle.cube_slices.proofs.Names.{no_schema, Option, Result, List, [], sym, subst, ap, Some, ◌∙◌, None, ◌≡◌, ℕ, refl, Bool, true, false, cond, Ok, IsTrue}
use Rattle.cube_slices.proofs.Names.{Files, Ghosts, rows, Fact, Row, Slice, Schema, Cache, Store, Command, AnswerStop, line, not_covered, Answer, act, asked_by, asked_over}
use Rattle.cube_slices.proofs.Names.{Level, covered, is_covered, Kept, World, OnlyNow, OnlySays, CarriesOut, IsReadyFor, Reply, store_of, State, Stop}
use Rattle.cube_slices.specs.Told.{FoldTold, where_covered}
use Rattle.cube_slices.proofs.Asking.{Answers, IsAsking, IsKept, only_says}
use Rattle.cube_slices.proofs.Folding.{IsFolding, fold_carries}
use Rattle.cube_state.specs.Folds.{AreFolded, FindsFor, FoldTells, GivesQuery, IsSpoiltFold, QueryGives, records_found}
use Rattle.cube_state.specs.Slices.{AreRowsIn}
use Rattle.fact_model.specs.Adds.{AddUp}
use Rattle.spec_machine.proofs.Acts.{act_sql}
use Rattle.spec_machine.specs.Machine.{queried, query_over, query_reply}
use Rattle.slice_lang.specs.Agreeing.{SliceAgrees}
use Rattle.sql_lang.specs.Agreeing.{SqlAgrees}
use Rattle.sql_lang.specs.Reading.{query_of}
use Rattle.sql_lang.specs.declared.query.Query.{Query}
use Rattle.sql_lang.specs.declared.refusal.SqlRefusal.{SqlRefusal}
use Rattle.sql_slice.proofs.SqlLaws.{reply-of, reply-of_none}
use Rattle.sql_slice.specs.Plans.{plan_of}
use Rattle.sql_slice.specs.RowFold.{query_text}
use Rattle.sql_slice.specs.SqlRows.{sql_reply}
use Rattle.sql_slice.specs.declared.planned.Plan.{Plan}

pub sql_asks : (text : List ℕ) → IsAsking (Command.Sql text)
sql_asks text = record {
  stays = λ world. ap (λ (a : Answer). a.0) (act_sql world text);
  behind = λ world reached. refl;
  costs = λ world reached cost costs. costs;
  uncalled = λ world reached none. none;
  effect = refl;
}

sql_told : (world : World) (text : List ℕ) → (act world (Command.Sql text)).1 ≡ query_over world.kept text
sql_told world text = ap (λ (a : Answer). a.1) (act_sql world text)

-- ---- it is only answered

module _ {S : Type 0} (T : Ghosts S) (site : S) (state : State) (text reply : List ℕ) where
  -- without a schema
  pub schemaless : store_of state ≡ None → reply ≡ line no_schema → OnlySays T (Command.Sql text) state site reply
  schemaless none is levels = only_says T levels site state (Command.Sql text) (sql_asks text) reply None none
      (λ world kept. (sql_told world text ∙ (ap (λ (k : Kept). query_over k text) kept ∙ sym is), ap (λ (k : Kept). asked_over k world.levels (Command.Sql text)) kept))
      (λ files. subst (λ (k : Option Store). QueryGives k files text reply) (sym none) is)

  -- and over a store
  pub unasked : (store : Store) (read : Result Query SqlRefusal) → store_of state ≡ Some store → query_of store.forest.schema text ≡ read → queried store.forest.schema read ≡ None
      → ((facts : List Fact) → query_reply store.forest.schema facts read ≡ reply) → ((files : Files) → GivesQuery store files read reply) → OnlySays T (Command.Sql text) state site reply
  unasked store read has is none replies gives levels = only_says T levels site state (Command.Sql text) (sql_asks text) reply (Some store) has
      (λ world its. (
        sql_told world text ∙ (ap (λ (k : Kept). query_over k text) its.kept ∙ (ap (query_reply store.forest.schema its.facts) is ∙ replies its.facts)),
        ap (λ (k : Kept). asked_over k world.levels (Command.Sql text)) its.kept ∙ (ap (queried store.forest.schema) is ∙ none),
      ))
      (λ files. subst (λ (k : Option Store). QueryGives k files text reply) (sym has) (subst (λ (r : Result Query SqlRefusal). GivesQuery store files r reply) (sym is) (gives files)))

-- ---- a query was read

module _ {S : Type 0} (T : Ghosts S) (old : S) (state : State) (store : Store) (text : List ℕ) (q : Query) (has : store_of state ≡ Some store)
    (read : query_of store.forest.schema text ≡ Ok q) where
  abbrev its : Command
  its = Command.Sql text

  abbrev p : Plan
  p = plan_of store.forest.schema q

  -- no fact can meet its tests
  pub without : p.empty ≡ true → OnlySays T its state old (where_covered store p.slice (query_text q p []))
  without none = unasked T old state text (where_covered store p.slice (query_text q p [])) store (Ok q) has read
      (ap (λ (b : Bool). cond b None (covered store.forest.schema (Ok p.slice))) none)
      (λ facts. ap (λ (t : List ℕ). where_covered store p.slice t)
      (sym (reply-of_none {E = Stop} (Ok (query_text q p [])) store.forest.schema q p [] facts refl refl none refl)))
      (λ files. by files (is_covered store.forest.schema p.slice) refl)
    where
      by : (files : Files) (b : Bool) → is_covered store.forest.schema p.slice ≡ b → GivesQuery store files (Ok q) (where_covered store p.slice (query_text q p []))
      by files true is = (Some [], (is, subst (λ (e : Bool). AreFolded e store files p.slice []) (sym none) refl), ap (λ (b : Bool). cond b (query_text q p []) (line not_covered)) is)
      by files false is = (None, is, ap (λ (b : Bool). cond b (query_text q p []) (line not_covered)) is)

  -- no view covers it
  uncovered : p.empty ≡ false → is_covered store.forest.schema p.slice ≡ false → OnlySays T its state old (line not_covered)
  uncovered some not = unasked T old state text (line not_covered) store (Ok q) has read
      (ap (λ (b : Bool). cond b None (covered store.forest.schema (Ok p.slice))) some ∙ ap (λ (b : Bool). cond b (Some p.slice) None) not)
      (λ facts. ap (λ (b : Bool). cond b (sql_reply facts q) (line not_covered)) not) (λ files. (None, not, refl))

-- ---- it goes to pages

module _ {S : Type 0} (T : Ghosts S) (old new : S) (state : State) (store : Store) (before after : Cache) (text : List ℕ) (q : Query) (p : Plan)
    (has : store_of state ≡ Some store) (read : query_of store.forest.schema text ≡ Ok q) (agrees : SqlAgrees store.forest.schema q)
    (planned : p ≡ plan_of store.forest.schema q) (fits : SliceAgrees store.forest.schema p.slice) (some : p.empty ≡ false) where
  abbrev command : Command
  command = Command.Sql text

  abbrev schema : Schema
  schema = store.forest.schema

  some-of : (plan_of schema q).empty ≡ false
  some-of = ap (λ (x : Plan). x.empty) (sym planned) ∙ some

  not-of : is_covered schema p.slice ≡ false → is_covered schema (plan_of schema q).slice ≡ false
  not-of not = ap (λ (x : Plan). is_covered schema x.slice) (sym planned) ∙ not

  module _ (covers : is_covered schema p.slice ≡ true) (levels : List Level) where
    covers-of : is_covered schema (plan_of schema q).slice ≡ true
    covers-of = ap (λ (x : Plan). is_covered schema x.slice) (sym planned) ∙ covers

    asked : asked_by schema levels command ≡ Some p.slice
    asked = ap (queried schema) read ∙ (ap (λ (b : Bool). cond b None (covered schema (Ok (plan_of schema q).slice))) some-of
        ∙ (ap (λ (b : Bool). cond b (Some (plan_of schema q).slice) None) covers-of ∙ ap (λ (x : Plan). Some x.slice) (sym planned)))

    tells_fold : (file offset : ℕ) → IsSpoiltFold store (T.disk old).files (Some p.slice) file offset → FoldTells levels (store_of state) (T.disk old).files command (Stop.Damaged file offset)
    tells_fold file offset is = subst (λ (k : Option Store). FoldTells levels k (T.disk old).files command (Stop.Damaged file offset)) (sym has)
        (subst (λ (a : Option Slice). IsSpoiltFold store (T.disk old).files a file offset) (sym asked) is)

    reply_is : (world : World) (kept : IsKept levels store (T.disk old) world) → query_text q p (rows kept.facts p.slice) ≡ (act world command).1
    reply_is world kept = reply-of {E = Stop} (Ok (query_text q p (rows kept.facts p.slice))) schema q p (rows kept.facts p.slice) kept.facts refl agrees planned kept.stored.accepted.each some refl
        ∙ sym (sql_told world text ∙ (ap (λ (k : Kept). query_over k text) kept.kept
        ∙ (ap (query_reply schema kept.facts) read ∙ ap (λ (b : Bool). cond b (sql_reply kept.facts q) (line not_covered)) covers-of)))

    gives : (files : Files) (found : List Row) → AreRowsIn store files p.slice found → AddUp found → QueryGives (store_of state) files text (query_text q p found)
    gives files found are adds = subst (λ (k : Option Store). QueryGives k files text (query_text q p found)) (sym has)
        (subst (λ (r : Result Query SqlRefusal). GivesQuery store files r (query_text q p found)) (sym read)
        (subst (λ (x : Plan). (f : Option (List Row)) × FindsFor store files x f × (query_text q p found ≡ records_found q x f)) planned
        (Some found, (covers, subst (λ (e : Bool). AreFolded e store files p.slice found) (sym some) (are, adds)), refl)))

  sql_folds : (levels : List Level) → IsFolding T levels old state store p.slice command (query_text q p)
  sql_folds levels = record {
    asking = sql_asks text;
    agrees = fits;
    uncovered = λ not. uncovered T old state store text q has read some-of (not-of not) levels;
    asked = λ covers. asked covers levels;
    right = λ covers. reply_is covers levels;
    gives = λ covers. gives covers levels (T.disk old).files;
    tells = λ covers. tells_fold covers levels;
  }

  -- the answer is told
  module _ (ready : IsReadyFor T old before state) (only : IsTrue T.tells → OnlyNow (T.disk old)) where
    pub tells : (answer : Result (List Row) AnswerStop) → Answers T old new store before after p.slice answer → (result : Reply) → FoldTold store (query_text q p) answer result
        → CarriesOut T command state state old new before after result
    tells answer is result told levels = fold_carries T levels old new state store before after p.slice command (query_text q p) (sql_folds levels) has ready only answer is result told
