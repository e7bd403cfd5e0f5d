-- The command `slice` is carried out.
use Rattle.cube_slices.proofs.Names.{no_schema, Option, Result, List, sym, subst, ap, Some, ◌∙◌, None, ◌≡◌, ℕ, refl, Bool, true, false, cond, inl, inr, Ok, IsTrue, Err, cases_Bool}
use Rattle.cube_slices.proofs.Names.{Files, Ghosts, rows, Fact, Row, Slice, Cache, Store, Command, AnswerStop, slice_of, SliceRefusal, answer_text, line, not_covered, act_slice, Answer, act, asked_by, asked_over}
use Rattle.cube_slices.proofs.Names.{slice_over, slice_reply, covered, is_covered, Kept, World, OnlyNow, OnlySays, runs_out_as, only_replies, CarriesOut, Level, IsReadyFor, Reply, GivesRead, SliceGives, SliceTells, store_of, State, Stop, subst₂}
use Rattle.cube_slices.specs.Told.{Tells}
use Rattle.cube_slices.proofs.Asking.{Answers, Ends, IsAsking, IsKept, carried, none_some, not_uncovered, only_says, replies_behind, same_in, stop_ends}
use Rattle.cube_state.proofs.SliceCosts.{none-covers}
use Rattle.cube_state.specs.Slices.{IsSpoiltAt}

pub slice_asks : (text : List ℕ) → IsAsking (Command.Slice text)
slice_asks text = record {
  stays = λ world. ap (λ (a : Answer). a.0) (act_slice world text);
  behind = λ world reached. refl;
  costs = λ world reached cost costs. costs;
  uncalled = λ world reached none. none;
  effect = refl;
}

slice_told : (world : World) (text : List ℕ) → (act world (Command.Slice text)).1 ≡ slice_over world.kept text
slice_told world text = ap (λ (a : Answer). a.1) (act_slice world text)

-- ---- it is only answered

module _ {S : Type 0} (T : Ghosts S) (site : S) (state : State) (text reply : List ℕ) where
  -- without a schema
  pub schemaless : store_of state ≡ None → reply ≡ line no_schema → OnlySays T (Command.Slice text) state site reply
  schemaless none is levels = only_says T levels site state (Command.Slice text) (slice_asks text) reply None none
      (λ world kept. (slice_told world text ∙ (ap (λ (k : Kept). slice_over k text) kept ∙ sym is), ap (λ (k : Kept). asked_over k world.levels (Command.Slice text)) kept))
      (λ files. subst (λ (k : Option Store). SliceGives k files text reply) (sym none) is)

  -- and over a store
  pub unasked : (store : Store) (read : Result Slice SliceRefusal) → store_of state ≡ Some store → slice_of store.forest.schema text ≡ read → covered store.forest.schema read ≡ None
      → ((facts : List Fact) → slice_reply store.forest.schema facts read ≡ reply) → ((files : Files) → GivesRead store files read reply) → OnlySays T (Command.Slice text) state site reply
  unasked store read has is none replies gives levels = only_says T levels site state (Command.Slice text) (slice_asks text) reply (Some store) has
      (λ world its. (
        slice_told world text ∙ (ap (λ (k : Kept). slice_over k text) its.kept ∙ (ap (slice_reply store.forest.schema its.facts) is ∙ replies its.facts)),
        ap (λ (k : Kept). asked_over k world.levels (Command.Slice text)) its.kept ∙ (ap (covered store.forest.schema) is ∙ none),
      ))
      (λ files. subst (λ (k : Option Store). SliceGives k files text reply) (sym has) (subst (λ (r : Result Slice SliceRefusal). GivesRead store files r reply) (sym is) (gives files)))

-- ---- it goes to pages

module _ {S : Type 0} (T : Ghosts S) (old new : S) (state : State) (store : Store) (before after : Cache) (text : List ℕ) (s : Slice)
    (has : store_of state ≡ Some store) (read : slice_of store.forest.schema text ≡ Ok s) where
  abbrev its : Command
  its = Command.Slice text

  -- no view covers it
  uncovered : is_covered store.forest.schema s ≡ false → OnlySays T its state old (line not_covered)
  uncovered not = unasked T old state text (line not_covered) store (Ok s) has read (ap (λ (b : Bool). cond b (Some s) None) not)
      (λ facts. ap (λ (b : Bool). cond b (answer_text (rows facts s)) (line not_covered)) not) (λ files. (None, not, refl))

  module _ (covers : is_covered store.forest.schema s ≡ true) (levels : List Level) where
    asked : asked_by store.forest.schema levels its ≡ Some s
    asked = ap (covered store.forest.schema) read ∙ ap (λ (b : Bool). cond b (Some s) None) covers

    spoils : (file offset : ℕ) → IsSpoiltAt store (T.disk old).files (Some s) file offset → SliceTells levels (store_of state) (T.disk old).files its (Stop.Damaged file offset)
    spoils file offset is = subst (λ (k : Option Store). SliceTells levels k (T.disk old).files its (Stop.Damaged file offset)) (sym has)
        (subst (λ (a : Option Slice). IsSpoiltAt store (T.disk old).files a file offset) (sym asked) is)

    reply_is : (world : World) (kept : IsKept levels store (T.disk old) world) → (act world its).1 ≡ answer_text (rows kept.facts s)
    reply_is world kept = slice_told world text ∙ (ap (λ (k : Kept). slice_over k text) kept.kept
        ∙ (ap (slice_reply store.forest.schema kept.facts) read ∙ ap (λ (b : Bool). cond b (answer_text (rows kept.facts s)) (line not_covered)) covers))

    gives : (files : Files) (reply : List ℕ) → GivesRead store files (Ok s) reply → SliceGives (store_of state) files text reply
    gives files reply is = subst (λ (k : Option Store). SliceGives k files text reply) (sym has) (subst (λ (r : Result Slice SliceRefusal). GivesRead store files r reply) (sym read) is)

    ends_by : (answer : Result (List Row) AnswerStop) → Answers T old new store before after s answer → (result : Reply) → Tells answer result → Ends T old new store before after s levels state its result
    ends_by answer is (Err stop) told = subst (λ (e : Stop). Ends T old new store before after s levels state its (Err e)) (sym told) (stop_ends T old new store before after s covers levels state its spoils answer is)
    ends_by (Ok found) is (Ok reply) told = replies_behind T old new store before after s covers levels state its found is reply
        (λ t agree world kept. sym (same_in told) ∙ (ap answer_text (is.rows t agree kept.facts kept.stored) ∙ sym (reply_is world kept)))
        (λ t agree. gives (T.disk old).files reply.items (Some found, (covers, is.judged t agree), sym (same_in told)))
    ends_by (Err AnswerStop.NotCovered) is (Ok reply) told = absurd (not_uncovered T old new store before after s covers is)
    ends_by (Err _) is (Ok reply) told = absurd (none_some told)

  -- the answer is told
  module _ (ready : IsReadyFor T old before state) (only : IsTrue T.tells → OnlyNow (T.disk old)) where
    refuses : is_covered store.forest.schema s ≡ false → (answer : Result (List Row) AnswerStop) → Answers T old new store before after s answer → (result : Reply) → Tells answer result
        → CarriesOut T its state state old new before after result
    refuses not answer is result told =
        let none = is.uncovered.1 (none-covers store.forest.schema s not) in
        subst₂ (λ (n : S) (c : Cache). CarriesOut T its state state old n before c result) (sym (is.untouched none)) (sym (is.unasked none))
        (by result (subst (λ (a : Result (List Row) AnswerStop). Tells a result) none told))
      where
        by : (result : Reply) → Tells (Err AnswerStop.NotCovered) result → CarriesOut T its state state old old before before result
        by (Ok reply) told = only_replies T its state old before only (line not_covered) reply ready (uncovered not) (sym (same_in told))
        by (Err stop) told = runs_out_as T its state old before only ready state (Err stop) told

    pub tells : (answer : Result (List Row) AnswerStop) → Answers T old new store before after s answer → (result : Reply) → Tells answer result
        → CarriesOut T its state state old new before after result
    tells answer is result told levels = elim (cases_Bool (is_covered store.forest.schema s)) [
      | inl covers ↦ carried T old new state store before after s answer is has its (slice_asks text) ready only result covers levels (asked covers levels) (ends_by covers levels answer is result told)
      | inr not ↦ refuses not answer is result told levels
    ]
