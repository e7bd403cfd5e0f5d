-- In every history each numbered batch is accepted once: from one command to the commands that lead to a stage, and to the runs.
use Rattle.std.proofs.Common.{◌≡◌, ◌≤◌, ℕ, zero, suc, ◌+◌, ◌-◌, nat_lt, Bool, true, false, cond, List, [], ◌∷◌, ◌++◌, take, Option, Some, None, slice_get, refl, sym, ◌∙◌, ap, subst, append_assoc, append-nil, arith}
use Rattle.std.specs.Option.{option_to_list}
use Rattle.std.specs.List.{flat_map, range_with_len}
use Rattle.std.proofs.lemmas.Bool.Decides.{nat_tests}
use Rattle.std.proofs.lemmas.Grind.{flat_map-append}
use Rattle.fact_model.specs.declared.fact.Fact.{Fact}
use Rattle.script_lang.specs.Script.{commands}
use Rattle.script_lang.specs.declared.command.Command.{Command}
use Rattle.spec_machine.specs.World.{Kept, World, bare}
use Rattle.spec_machine.specs.Machine.{act}
use Rattle.spec_machine.specs.Stages.{makes_stage, size, stages_after, stages}
use Rattle.spec_machine.specs.Histories.{Batch, IsEachOnce, IsHistory, IsRun, Run, accepted_in, batch_by, batches_after, batches_to, facts_in, facts_of, last_of, numbers_of, with_run}
use Rattle.spec_machine.proofs.Acts.{no_stage}
use Rattle.spec_machine.proofs.Outcomes.{Outcome, stays, declares, commits, counts, outcome}

-- ---- one after another

ranges_join : (n a b m : ℕ) → a + n ≡ b → range_with_len a n ++ range_with_len b m ≡ range_with_len a (n + m)
ranges_join zero a b m same =
    let at : b ≡ a = omega (arith, same) in
    let len : m ≡ 0 + m = omega arith in
    ap (λ (k : ℕ). range_with_len k m) at ∙ ap (range_with_len a) len
ranges_join (suc n) a b m same =
    let len : suc (n + m) ≡ suc n + m = omega arith in
    ap (λ (l : List ℕ). a ∷ l) (ranges_join n (a + 1) b m (omega (arith, same))) ∙ ap (range_with_len a) len

no_number : (a n : ℕ) → n ≡ 0 → [] ≡ range_with_len a n
no_number a n is = sym (ap (range_with_len a) is)

one_number : (a n : ℕ) → n ≡ 1 → a ∷ [] ≡ range_with_len a n
one_number a n is = sym (ap (range_with_len a) is)

-- nothing is accepted
once_none : (kept : Kept) → IsEachOnce kept kept []
once_none kept = record {
  onward = omega arith;
  numbers = no_number (last_of kept + 1) (last_of kept - last_of kept) (omega arith);
  facts = sym (append-nil (facts_of kept));
}

once_joined : (first mid last : Kept) (before after : List Batch) → IsEachOnce first mid before → IsEachOnce mid last after
    → IsEachOnce first last (before ++ after)
once_joined first mid last before after one two = record {
  onward = omega (arith, one.onward, two.onward);
  numbers = flat_map-append (λ (batch : Batch). option_to_list batch.number) before after
      ∙ ap (λ (l : List ℕ). l ++ numbers_of after) one.numbers
      ∙ ap (λ (l : List ℕ). range_with_len (last_of first + 1) (last_of mid - last_of first) ++ l) two.numbers
      ∙ ranges_join (last_of mid - last_of first) (last_of first + 1) (last_of mid + 1) (last_of last - last_of mid) (omega (arith, one.onward))
      ∙ ap (range_with_len (last_of first + 1)) (omega (arith, one.onward, two.onward));
  facts = two.facts ∙ ap (λ (l : List Fact). l ++ facts_in after) one.facts ∙ append_assoc (facts_of first) (facts_in before) (facts_in after)
      ∙ ap (λ (l : List Fact). facts_of first ++ l) (sym (flat_map-append (λ (batch : Batch). batch.facts) before after));
}

-- ---- one command

-- its batch follows what was accepted, if it commits one
once_committed : (before after : Kept) (number : Option ℕ) (x : Fact) (xs : List Fact) → facts_of after ≡ facts_of before ++ x ∷ xs
    → last_of before ≤ last_of after → option_to_list number ≡ range_with_len (last_of before + 1) (last_of after - last_of before)
    → IsEachOnce before after (record { number = number; facts = x ∷ xs } ∷ [])
once_committed before after number x xs facts onward numbers = record {
  onward = onward;
  numbers = append-nil (option_to_list number) ∙ numbers;
  facts = facts ∙ ap (λ (l : List Fact). facts_of before ++ l) (sym (append-nil (x ∷ xs)));
}

-- what a command that makes a stage does
once_by : (batch : Option Batch) (before after : Kept) → Outcome batch before after → nat_lt (size before) (size after) ≡ true → IsEachOnce before after (option_to_list batch)
once_by batch before after stays grew = absurd (grind (arith, nat_tests, grew))
once_by batch before after (declares schema) grew = record { onward = omega arith; numbers = refl; facts = refl }
once_by batch before after (commits warehouse x xs) grew =
    once_committed before after None x xs refl (omega arith) (no_number (warehouse.last + 1) (warehouse.last - warehouse.last) (omega arith))
once_by batch before after (counts {number = n} warehouse x xs turn) grew =
    once_committed before after (Some n) x xs refl (omega (arith, turn))
    (ap (λ (m : ℕ). m ∷ []) turn ∙ one_number (warehouse.last + 1) (n - warehouse.last) (omega (arith, turn)))

once_command : (world : World) (command : Command) → makes_stage world command ≡ true → IsEachOnce world.kept (act world command).0.kept (option_to_list (batch_by world command))
once_command world command = once_by (batch_by world command) world.kept (act world command).0.kept (outcome world command)

-- ---- commands up to a stage

-- what leads from here to a stage of these commands
abbrev LeadsOnce : World → List Command → ℕ → Kept → Type 0
LeadsOnce world cs stage state = slice_get (stages world cs) stage ≡ Some state → IsEachOnce world.kept state (batches_to stage world cs)

some_same : (a b : Kept) → Some a ≡ Some b → a ≡ b
some_same a b h = cc

module _ (world : World) (command : Command) (cs : List Command) (state : Kept) where
  -- the command makes a stage, and the others lead on from it
  leads_behind : (stage : ℕ) → LeadsOnce (act world command).0 cs stage state → makes_stage world command ≡ true
      → LeadsOnce world (command ∷ cs) (suc stage) state
  leads_behind stage on made there =
      let first : slice_get (stages_after world (command ∷ cs)) stage ≡ slice_get (stages (act world command).0 cs) stage
      = ap (λ b. slice_get (cond b ((act world command).0.kept ∷ []) [] ++ stages_after (act world command).0 cs) stage) made in
      let batches : batches_to (suc stage) world (command ∷ cs) ≡ option_to_list (batch_by world command) ++ batches_to stage (act world command).0 cs
      = ap (λ b. flat_map option_to_list (take (suc stage) (cond b (batch_by world command ∷ []) [] ++ batches_after (act world command).0 cs))) made in
      subst (IsEachOnce world.kept state) (sym batches)
      (once_joined world.kept (act world command).0.kept state (option_to_list (batch_by world command)) (batches_to stage (act world command).0 cs)
      (once_command world command made) (on (sym first ∙ there)))

  -- it makes none, and the others lead to the same
  leads_past : (stage : ℕ) → LeadsOnce (act world command).0 cs (suc stage) state → makes_stage world command ≡ false
      → LeadsOnce world (command ∷ cs) (suc stage) state
  leads_past stage on none there =
      let first : slice_get (stages_after world (command ∷ cs)) stage ≡ slice_get (stages_after (act world command).0 cs) stage
      = ap (λ b. slice_get (cond b ((act world command).0.kept ∷ []) [] ++ stages_after (act world command).0 cs) stage) none in
      let batches : batches_to (suc stage) world (command ∷ cs) ≡ batches_to (suc stage) (act world command).0 cs
      = ap (λ b. flat_map option_to_list (take (suc stage) (cond b (batch_by world command ∷ []) [] ++ batches_after (act world command).0 cs))) none in
      subst (IsEachOnce world.kept state) (sym batches)
      (subst (λ (kept : Kept). IsEachOnce kept state (batches_to (suc stage) (act world command).0 cs)) (no_stage world command none) (on (sym first ∙ there)))

leads : (cs : List Command) (world : World) (stage : ℕ) (state : Kept) → LeadsOnce world cs stage state
leads cs world zero state there = subst (λ (kept : Kept). IsEachOnce world.kept kept []) (some_same world.kept state there) (once_none world.kept)
leads [] world (suc stage) state there = absurd (cc)
leads (command ∷ cs) world (suc stage) state there = by (λ k. leads cs (act world command).0 k state) (makes_stage world command) refl
  where
    by : ((k : ℕ) → LeadsOnce (act world command).0 cs k state) → (b : Bool) → makes_stage world command ≡ b
        → IsEachOnce world.kept state (batches_to (suc stage) world (command ∷ cs))
    by on true made = leads_behind world command cs state stage (on stage) made there
    by on false none = leads_past world command cs state stage (on (suc stage)) none there

-- ---- runs

-- In every history each numbered batch is accepted once, and the facts of all batches follow the first ones.
pub each_once : (runs : List Run) (first last : Kept) → IsHistory first runs last → IsEachOnce first last (accepted_in first runs)
each_once [] first last same = subst (λ (kept : Kept). IsEachOnce first kept []) same (once_none first)
each_once (run ∷ runs) first last history =
    once_joined first run.kept last (batches_to run.stage (bare first) (commands run.script)) (accepted_in run.kept runs)
    (leads (commands run.script) (bare first) run.stage run.kept history.0) (each_once runs run.kept last history.1)

-- a history goes on with a run from what was kept last
pub history_more : (runs : List Run) (first kept : Kept) (run : Run) → IsHistory first runs kept → IsRun kept run
    → IsHistory first (with_run runs run) run.kept
history_more [] first kept run same is = (subst (λ (k : Kept). IsRun k run) (sym same) is, refl)
history_more (one ∷ runs) first kept run history is = (history.0, history_more runs one.kept kept run history.1 is)
