-- A command that folds the rows of its slice to a text is carried out.
use Rattle.cube_slices.proofs.Names.{Result, List, sym, subst, subst₂, ap, Some, ◌∙◌, ◌≡◌, ℕ, refl, true, false, inl, inr, Ok, IsTrue, Err, cases_Bool}
use Rattle.cube_slices.proofs.Names.{Ghosts, rows, Row, Slice, Cache, Store, Command, AnswerStop, line, not_covered, act, asked_by, Level, CarriesOutWith, OnlySaysWith, Gives}
use Rattle.cube_slices.proofs.Names.{side_of, is_covered, World, OnlyNow, runs_out_as, IsReadyFor, Reply, store_of, State, Stop}
use Rattle.cube_slices.specs.Told.{FoldTold, RowsTell, Tells}
use Rattle.cube_slices.proofs.Adding.{accepted_add}
use Rattle.cube_slices.proofs.Asking.{Answers, Ends, IsAsking, IsKept, carried, none_some, not_uncovered, replies_behind, same_in, stop_ends, stops_behind}
use Rattle.cube_state.proofs.Carried.{says_with}
use Rattle.cube_state.proofs.SliceCosts.{none-covers}
use Rattle.cube_state.specs.Commands.{TellsDamage}
use Rattle.cube_state.specs.Folds.{IsSpoiltFold}
use Rattle.cube_state.specs.Slices.{AreRowsIn, IsSpoiltAt}
use Rattle.fact_model.specs.Adds.{AddUp}
use Rattle.slice_lang.specs.Agreeing.{SliceAgrees}

-- with these levels the command folds the rows of this slice so, of a session that has this store
pub record IsFolding {S : Type 0} (T : Ghosts S) (levels : List Level) (old : S) (state : State) (store : Store) (s : Slice) (its : Command) (text : List Row → List ℕ) : Type 0 where
  pub asking : IsAsking its
  pub agrees : SliceAgrees store.forest.schema s
  -- where no view covers the slice it is only answered
  pub uncovered : is_covered store.forest.schema s ≡ false → OnlySaysWith T levels its state old (line not_covered)
  pub asked : is_covered store.forest.schema s ≡ true → asked_by store.forest.schema levels its ≡ Some s
  -- the text of the rows of accepted facts is the reply to them
  pub right : is_covered store.forest.schema s ≡ true → (world : World) (kept : IsKept levels store (T.disk old) world) → text (rows kept.facts s) ≡ (act world its).1
  pub gives : is_covered store.forest.schema s ≡ true → (found : List Row) → AreRowsIn store (T.disk old).files s found → AddUp found → Gives levels state (T.disk old).files its (text found)
  pub tells : is_covered store.forest.schema s ≡ true → (file offset : ℕ) → IsSpoiltFold store (T.disk old).files (Some s) file offset → TellsDamage levels state (T.disk old).files its (Stop.Damaged file offset)

module _ {S : Type 0} (T : Ghosts S) (levels : List Level) (old new : S) (state : State) (store : Store) (before after : Cache) (s : Slice) (its : Command) (text : List Row → List ℕ)
    (folds : IsFolding T levels old state store s its text) (has : store_of state ≡ Some store) where
  module _ (covers : is_covered store.forest.schema s ≡ true) where
    spoils : (file offset : ℕ) → IsSpoiltAt store (T.disk old).files (Some s) file offset → TellsDamage levels state (T.disk old).files its (Stop.Damaged file offset)
    spoils file offset is = folds.tells covers file offset (λ view picks. inl (is view picks))

    module _ (found : List Row) (is : Answers T old new store before after s (Ok found)) where
      rows_end : (result : Reply) → RowsTell store found (text found) result → Ends T old new store before after s levels state its result
      rows_end (Ok reply) told = replies_behind T old new store before after s covers levels state its found is reply
          (λ t agree world kept. told.1 ∙ (ap text (is.rows t agree kept.facts kept.stored) ∙ folds.right covers world kept))
          (λ t agree. subst (Gives levels state (T.disk old).files its) (sym told.1) (folds.gives covers found (is.judged t agree) told.0))
      rows_end (Err stop) (inl memory) = subst (λ (e : Stop). Ends T old new store before after s levels state its (Err e)) (sym memory)
          (stop_ends T old new store before after s covers levels state its spoils (Ok found) is)
      rows_end (Err stop) (inr heavy) = subst (λ (e : Stop). Ends T old new store before after s levels state its (Err e)) (sym heavy.1)
          (stops_behind T old new store before after s covers levels state its found is (Stop.Damaged (side_of store.forest.body) 0) (λ faults output. (refl, refl))
          (λ t agree facts stored. heavy.0 (subst AddUp (sym (is.rows t agree facts stored)) (accepted_add store.forest.schema store.forest.lawful facts stored.accepted s folds.agrees)))
          (λ t agree. folds.tells covers (side_of store.forest.body) 0 (λ view picks. inr (record { rows = found; found = is.judged t agree view picks; heavy = heavy.0; side = refl; front = refl }))))

    ends_by : (answer : Result (List Row) AnswerStop) → Answers T old new store before after s answer → (result : Reply) → FoldTold store text answer result
        → Ends T old new store before after s levels state its result
    ends_by (Ok found) is result told = rows_end found is result told
    ends_by (Err AnswerStop.NotCovered) is result told = absurd (not_uncovered T old new store before after s covers is)
    ends_by (Err error) is (Err stop) told = subst (λ (e : Stop). Ends T old new store before after s levels state its (Err e)) (sym told)
        (stop_ends T old new store before after s covers levels state its spoils (Err error) is)
    ends_by (Err _) is (Ok reply) told = absurd (none_some told)

  -- the answer is told
  module _ (ready : IsReadyFor T old before state) (only : IsTrue T.tells → OnlyNow (T.disk old)) where
    refuses : is_covered store.forest.schema s ≡ false → (answer : Result (List Row) AnswerStop) → Answers T old new store before after s answer → (result : Reply) → FoldTold store text answer result
        → CarriesOutWith T levels its state state old new before after result
    refuses not answer is result told =
        let none = is.uncovered.1 (none-covers store.forest.schema s not) in
        subst₂ (λ (n : S) (c : Cache). CarriesOutWith T levels its state state old n before c result) (sym (is.untouched none)) (sym (is.unasked none))
        (by result (subst (λ (a : Result (List Row) AnswerStop). FoldTold store text a result) none told))
      where
        by : (result : Reply) → Tells (Err AnswerStop.NotCovered) result → CarriesOutWith T levels its state state old old before before result
        by (Ok reply) told = says_with T its state old before only levels (line not_covered) reply ready (folds.uncovered not) (sym (same_in told))
        by (Err stop) told = runs_out_as T its state old before only ready state (Err stop) told levels

    pub fold_carries : (answer : Result (List Row) AnswerStop) → Answers T old new store before after s answer → (result : Reply) → FoldTold store text answer result
        → CarriesOutWith T levels its state state old new before after result
    fold_carries answer is result told = elim (cases_Bool (is_covered store.forest.schema s)) [
      | inl covers ↦ carried T old new state store before after s answer is has its folds.asking ready only result covers levels (folds.asked covers) (ends_by covers answer is result told)
      | inr not ↦ refuses not answer is result told
    ]
