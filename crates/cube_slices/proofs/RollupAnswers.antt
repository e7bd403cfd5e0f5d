-- The command `rollup` is carried out.
use Rattle.cube_slices.proofs.Names.{no_schema, Option, Result, List, sym, subst, ap, Some, ◌∙◌, None, ◌≡◌, ℕ, refl, Bool, true, false, cond, Ok, IsTrue}
use Rattle.cube_slices.proofs.Names.{Files, Ghosts, rows, Fact, Row, Slice, Schema, Cache, Store, Command, AnswerStop, slice_of, SliceRefusal, answer_text, line, not_covered, Answer, act, asked_by, asked_over}
use Rattle.cube_slices.proofs.Names.{Level, is_covered, Kept, World, OnlyNow, OnlySaysWith, CarriesOutWith, IsReadyFor, Reply, store_of, State, Stop}
use Rattle.cube_slices.specs.Told.{FoldTold, rolled_text}
use Rattle.cube_slices.proofs.Asking.{Answers, IsAsking, IsKept, only_says}
use Rattle.cube_slices.proofs.Folding.{IsFolding, fold_carries}
use Rattle.cube_schema.specs.Kinds.{arity}
use Rattle.cube_state.specs.Folds.{FoldTells, GivesRolled, IsSpoiltFold, RollupGives}
use Rattle.cube_state.specs.Slices.{AreRowsIn}
use Rattle.fact_model.specs.Adds.{AddUp}
use Rattle.spec_machine.proofs.Acts.{act_rollup}
use Rattle.spec_machine.specs.Machine.{base_slice, rolled_from, rollup_over, rollup_reply}
use Rattle.roll_up.proofs.Answered.{lifted-answer}
use Rattle.roll_up.specs.Levels.{Fit, extended, lift}
use Rattle.roll_up.specs.Lifted.{rolled_up}
use Rattle.slice_lang.specs.Agreeing.{SliceAgrees}
use Rattle.cube_schema.specs.declared.schema.Attr.{Attr}
use Rattle.cube_schema.specs.Agreeing.{IsOfKind}
use Rattle.fact_model.specs.declared.fact.Value.{Value}
use Rattle.std.proofs.Common.{IfOk, get_or, length, map, ◌<◌}
use Rattle.std.proofs.lemmas.List.{length-map}
use Rattle.std.proofs.lemmas.Result.{IfOk-weaker}
use Rattle.std.proofs.lemmas.Slice.Zip.{AllZip-long}
use Rattle.std.specs.List.{All}
use Rattle.roll_up.specs.Lifted as lifted
use Rattle.slice_rows.specs.Grouped as grouped
use Rattle.spec_points.specs.Agree.{is_text}
use Rattle.view_region.specs.Regions.{is_word}

pub rollup_asks : (text : List ℕ) → IsAsking (Command.Rollup text)
rollup_asks text = record {
  stays = λ world. ap (λ (a : Answer). a.0) (act_rollup world text);
  behind = λ world reached. refl;
  costs = λ world reached cost costs. costs;
  uncalled = λ world reached none. none;
  effect = refl;
}

rollup_told : (world : World) (text : List ℕ) → (act world (Command.Rollup text)).1 ≡ rollup_over world.kept world.levels text
rollup_told world text = ap (λ (a : Answer). a.1) (act_rollup world text)

-- rows of the base slice have its form
pub formed : {E : Type 0} (store : Store) (b base : Slice) (result : Result (List Row) E) → b ≡ base → IfOk result (All (grouped.HasForm store.dicts b)) → IfOk result (All (lifted.HasForm base))
formed store b base result same is = IfOk-weaker result _ _ (λ found form. λ k d low. subst (λ (x : Slice). lifted.HasForm x (get_or found k d)) same (record {
  key = sym (length-map (get_or found k d).key is_text) ∙ (ap length (form k d low).kinds ∙ length-map b.group (is_word store.dicts));
  numbers = (form k d low).numbers;
})) is

-- ---- it is only answered

module _ {S : Type 0} (T : Ghosts S) (levels : List Level) (site : S) (state : State) (text reply : List ℕ) where
  -- without a schema
  pub schemaless : store_of state ≡ None → reply ≡ line no_schema → OnlySaysWith T levels (Command.Rollup text) state site reply
  schemaless none is = only_says T levels site state (Command.Rollup text) (rollup_asks text) reply None none
      (λ world kept. (rollup_told world text ∙ (ap (λ (k : Kept). rollup_over k world.levels text) kept ∙ sym is), ap (λ (k : Kept). asked_over k world.levels (Command.Rollup text)) kept))
      (λ files. subst (λ (k : Option Store). RollupGives levels k files text reply) (sym none) is)

  -- and over a store
  pub unasked : (store : Store) (read : Result Slice SliceRefusal) → store_of state ≡ Some store → slice_of (extended store.forest.schema levels) text ≡ read → rolled_from store.forest.schema levels read ≡ None
      → ((facts : List Fact) → rollup_reply store.forest.schema levels facts read ≡ reply) → ((files : Files) → GivesRolled levels store files read reply) → OnlySaysWith T levels (Command.Rollup text) state site reply
  unasked store read has is none replies gives = only_says T levels site state (Command.Rollup text) (rollup_asks text) reply (Some store) has
      (λ world its. (
        rollup_told world text ∙ ((λ i. rollup_over (its.kept i) (its.leveled i) text) ∙ (ap (rollup_reply store.forest.schema levels its.facts) is ∙ replies its.facts)),
        (λ i. asked_over (its.kept i) (its.leveled i) (Command.Rollup text)) ∙ (ap (rolled_from store.forest.schema levels) is ∙ none),
      ))
      (λ files. subst (λ (k : Option Store). RollupGives levels k files text reply) (sym has) (subst (λ (r : Result Slice SliceRefusal). GivesRolled levels store files r reply) (sym is) (gives files)))

-- ---- it goes to pages

module _ {S : Type 0} (T : Ghosts S) (levels : List Level) (old new : S) (state : State) (store : Store) (before after : Cache) (text : List ℕ) (s b : Slice)
    (has : store_of state ≡ Some store) (read : slice_of (extended store.forest.schema levels) text ≡ Ok s) (fit : Fit store.forest.schema levels)
    (agrees : SliceAgrees (extended store.forest.schema levels) s) (based : b ≡ base_slice store.forest.schema levels s) (fits : SliceAgrees store.forest.schema b) where
  abbrev command : Command
  command = Command.Rollup text

  abbrev schema : Schema
  schema = store.forest.schema

  covers-of : {is : Bool} → is_covered schema b ≡ is → is_covered schema (base_slice schema levels s) ≡ is
  covers-of covers = ap (is_covered schema) (sym based) ∙ covers

  -- no view covers the base slice
  uncovered : is_covered schema b ≡ false → OnlySaysWith T levels command state old (line not_covered)
  uncovered not = unasked T levels old state text (line not_covered) store (Ok s) has read (ap (λ (x : Bool). cond x (Some (base_slice schema levels s)) None) (covers-of not))
      (λ facts. ap (λ (x : Bool). cond x (answer_text (rows (map (lift levels) facts) s)) (line not_covered)) (covers-of not)) (λ files. (None, covers-of not, refl))

  module _ (covers : is_covered schema b ≡ true) where
    asked : asked_by schema levels command ≡ Some b
    asked = ap (rolled_from schema levels) read ∙ (ap (λ (x : Bool). cond x (Some (base_slice schema levels s)) None) (covers-of covers) ∙ ap Some (sym based))

    tells_fold : (file offset : ℕ) → IsSpoiltFold store (T.disk old).files (Some b) file offset → FoldTells levels (store_of state) (T.disk old).files command (Stop.Damaged file offset)
    tells_fold file offset is = subst (λ (k : Option Store). FoldTells levels k (T.disk old).files command (Stop.Damaged file offset)) (sym has)
        (subst (λ (a : Option Slice). IsSpoiltFold store (T.disk old).files a file offset) (sym asked) is)

    -- the rows of accepted facts, rolled up, are those of the facts with their parents
    rows_are : (facts : List Fact) → ((k : ℕ) (d : Fact) → k < length facts → length (get_or facts k d).values ≡ arity schema) → rolled_up (arity schema) levels s (rows facts b) ≡ rows (map (lift levels) facts) s
    rows_are facts wide = lifted-answer {E = Stop} schema levels s (rows facts b) (rows facts b) (Ok (rolled_up (arity schema) levels s (rows facts b))) fit agrees refl refl facts wide (ap (rows facts) based)

    reply_is : (world : World) (kept : IsKept levels store (T.disk old) world) → rolled_text store levels s (rows kept.facts b) ≡ (act world command).1
    reply_is world kept = ap answer_text (rows_are kept.facts (λ k d low. AllZip-long (λ (a : Attr) (v : Value). IsOfKind a.kind v) schema.attrs (get_or kept.facts k d).values (kept.stored.accepted.each k d low).values))
        ∙ sym (rollup_told world text ∙ ((λ i. rollup_over (kept.kept i) (kept.leveled i) text)
        ∙ (ap (rollup_reply schema levels kept.facts) read ∙ ap (λ (x : Bool). cond x (answer_text (rows (map (lift levels) kept.facts) s)) (line not_covered)) (covers-of covers))))

    gives : (files : Files) (found : List Row) → AreRowsIn store files b found → AddUp found → RollupGives levels (store_of state) files text (rolled_text store levels s found)
    gives files found are adds = subst (λ (k : Option Store). RollupGives levels k files text (rolled_text store levels s found)) (sym has)
        (subst (λ (r : Result Slice SliceRefusal). GivesRolled levels store files r (rolled_text store levels s found)) (sym read)
        (Some found, (covers-of covers, subst (λ (x : Slice). AreRowsIn store files x found) based are, adds), refl))

  rollup_folds : IsFolding T levels old state store b command (rolled_text store levels s)
  rollup_folds = record {
    asking = rollup_asks text;
    agrees = fits;
    uncovered = uncovered;
    asked = asked;
    right = reply_is;
    gives = λ covers. gives covers (T.disk old).files;
    tells = tells_fold;
  }

  -- the answer is told
  module _ (ready : IsReadyFor T old before state) (only : IsTrue T.tells → OnlyNow (T.disk old)) where
    pub tells : (answer : Result (List Row) AnswerStop) → Answers T old new store before after b answer → (result : Reply) → FoldTold store (rolled_text store levels s) answer result
        → CarriesOutWith T levels command state state old new before after result
    tells answer is result told = fold_carries T levels old new state store before after b command (rolled_text store levels s) rollup_folds has ready only answer is result told
