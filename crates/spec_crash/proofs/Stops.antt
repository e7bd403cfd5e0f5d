-- What a stop leaves in the middle of a script: from one command to the whole.
use Rattle.std.proofs.Common.{◌≡◌, ◌⊎◌, inl, inr, ◌<◌, ◌≤◌, ℕ, ◌+◌, ◌-◌, suc, Bool, true, false, cond, List, [], ◌∷◌, ◌++◌, length, nat_le, nat_lt, slice_get, refl, sym, ◌∙◌, ap, subst, append_assoc, append-nil, arith, length-append}
use Rattle.std.proofs.lemmas.Bool.Decides.{nat_tests}
use Rattle.site_core.specs.Disk.{Files}
use Rattle.script_lang.specs.declared.command.Command.{Command}
use Rattle.spec_machine.specs.World.{Kept, World}
use Rattle.spec_machine.specs.Machine.{act}
use Rattle.spec_crash.specs.Keeps.{Keeps}
use Rattle.spec_machine.specs.Stages.{replies_from, final, makes_stage, stages_after, stages, acked}
use Rattle.spec_crash.specs.Stops.{AfterStop, Meanwhile, Carried}
use Rattle.spec_machine.proofs.Acts.{reply_some, no_stage}

which : (b : Bool) → (b ≡ true) ⊎ (b ≡ false)
which true = inl refl
which false = inr refl

-- with nothing told, nothing is acknowledged
pub acked_none : (w : World) (cs : List Command) → acked w cs 0 ≡ 0
acked_none w [] = refl
acked_none w (c ∷ cs) =
    let some = reply_some w c in
    let no : nat_le (length (act w c).1) 0 ≡ false = grind (arith, nat_tests, some) in
    ap (λ b. cond b (cond (makes_stage w c) 1 0 + acked (act w c).0 cs (0 - length (act w c).1)) 0) no

-- nothing of these commands is begun
pub at_rest : (w : World) (cs : List Command) (before told : List ℕ) (files : Files) → told ≡ before → Keeps files w.kept
    → AfterStop w cs before told files
at_rest w cs before told files same kept = record {
  front = [];
  rest = replies_from w cs;
  tells = same ∙ sym (append-nil before);
  prefix = refl;
  stage = 0;
  state = w.kept;
  there = refl;
  kept = kept;
  acknowledged = omega (arith, acked_none w cs);
  not_ahead = omega arith;
}

whole_or_not : (a b : ℕ) → (a < b) ⊎ (b ≤ a)
whole_or_not a b = elim (which (nat_lt a b)) [ inl less ↦ inl (grind (arith, nat_tests)) | inr not_less ↦ inr (grind (arith, nat_tests)) ]

nothing_left : (l : List ℕ) → length l ≡ 0 → l ≡ []
nothing_left [] h = refl
nothing_left (x ∷ xs) h = absurd (omega arith)

module _ (w : World) (c : Command) (cs : List Command) where
  -- the whole reply, and so many bytes past it
  acked_past : (n : ℕ) → acked w (c ∷ cs) (length (act w c).1 + n) ≡ cond (makes_stage w c) 1 0 + acked (act w c).0 cs n
  acked_past n =
      let yes : nat_le (length (act w c).1) (length (act w c).1 + n) ≡ true = grind (arith, nat_tests) in
      ap (λ b. cond b (cond (makes_stage w c) 1 0 + acked (act w c).0 cs (length (act w c).1 + n - length (act w c).1)) 0) yes
      ∙ ap (λ k. cond (makes_stage w c) 1 0 + acked (act w c).0 cs k) (omega arith)

  -- less than the whole reply
  acked_within : (n : ℕ) → n < length (act w c).1 → acked w (c ∷ cs) n ≡ 0
  acked_within n lt =
      let no : nat_le (length (act w c).1) n ≡ false = grind (arith, nat_tests) in
      ap (λ b. cond b (cond (makes_stage w c) 1 0 + acked (act w c).0 cs (n - length (act w c).1)) 0) no

  -- the stages after this command are stages from its start on
  stage_past : (k : ℕ) → slice_get (stages w (c ∷ cs)) (cond (makes_stage w c) 1 0 + k)
      ≡ slice_get (stages (act w c).0 cs) k
  stage_past k =
      let one : 1 + k ≡ suc k = omega arith in
      let zero : 0 + k ≡ k = omega arith in
      elim (which (makes_stage w c)) [
        | inl made ↦ ap (λ b. slice_get (w.kept ∷ (cond b ((act w c).0.kept ∷ []) [] ++ stages_after (act w c).0 cs)) (cond b 1 0 + k)) made
            ∙ ap (λ n. slice_get (w.kept ∷ ((act w c).0.kept ∷ stages_after (act w c).0 cs)) n) one
        | inr kept ↦ ap (λ b. slice_get (w.kept ∷ (cond b ((act w c).0.kept ∷ []) [] ++ stages_after (act w c).0 cs)) (cond b 1 0 + k)) kept
            ∙ ap (λ n. slice_get (w.kept ∷ stages_after (act w c).0 cs) n) zero
            ∙ ap (λ (v : Kept). slice_get (v ∷ stages_after (act w c).0 cs) k) (sym (no_stage w c kept))
      ]

  goes_on : {before told : List ℕ} {files : Files} (m : Meanwhile w c before told files)
      → replies_from w (c ∷ cs) ≡ m.front ++ (m.rest ++ replies_from (act w c).0 cs)
  goes_on m = ap (λ (l : List ℕ). l ++ replies_from (act w c).0 cs) m.prefix
      ∙ append_assoc m.front m.rest (replies_from (act w c).0 cs)

  step_small : cond (makes_stage w c) 1 0 ≤ 1
  step_small = elim (which (makes_stage w c)) [
    | inl made ↦ omega (arith, ap {B = ℕ} (λ b. cond b 1 0) made)
    | inr kept ↦ omega (arith, ap {B = ℕ} (λ b. cond b 1 0) kept)
  ]

  part : (before told : List ℕ) (files : Files) (m : Meanwhile w c before told files) → acked w (c ∷ cs) (length m.front) ≡ 0
      → AfterStop w (c ∷ cs) before told files
  part before told files m none = elim m.kept [
    | inl old ↦ record {
      front = m.front;
      rest = m.rest ++ replies_from (act w c).0 cs;
      tells = m.tells;
      prefix = goes_on m;
      stage = 0;
      state = w.kept;
      there = refl;
      kept = old;
      acknowledged = omega (arith, none);
      not_ahead = omega arith;
    }
    | inr new ↦ record {
      front = m.front;
      rest = m.rest ++ replies_from (act w c).0 cs;
      tells = m.tells;
      prefix = goes_on m;
      stage = cond (makes_stage w c) 1 0 + 0;
      state = (act w c).0.kept;
      there = stage_past 0;
      kept = new;
      acknowledged = omega (arith, none);
      not_ahead = omega (arith, none, step_small);
    }
  ]

  -- a stop within this command
  pub during : (before told : List ℕ) (files : Files) → Meanwhile w c before told files → AfterStop w (c ∷ cs) before told files
  during before told files m = elim (whole_or_not (length m.front) (length (act w c).1)) [
    | inl less ↦ part before told files m (acked_within (length m.front) less)
    | inr all ↦
        let none : m.rest ≡ [] = nothing_left m.rest (omega (arith, all, ap length m.prefix, length-append m.front m.rest)) in
        let is_whole : m.front ≡ (act w c).1 = sym (m.prefix ∙ ap (λ (l : List ℕ). m.front ++ l) none ∙ append-nil m.front) in
        let count : acked w (c ∷ cs) (length m.front) ≡ cond (makes_stage w c) 1 0 + acked (act w c).0 cs 0
        = ap (λ (l : List ℕ). acked w (c ∷ cs) (length l)) is_whole ∙ ap (acked w (c ∷ cs)) (omega arith) ∙ acked_past 0 in
        record {
          front = m.front;
          rest = m.rest ++ replies_from (act w c).0 cs;
          tells = m.tells;
          prefix = goes_on m;
          stage = cond (makes_stage w c) 1 0 + 0;
          state = (act w c).0.kept;
          there = stage_past 0;
          kept = m.acknowledged is_whole;
          acknowledged = omega (arith, count, acked_none (act w c).0 cs);
          not_ahead = omega (arith, count, acked_none (act w c).0 cs);
        }
  ]

  -- a stop after this command is one of the whole
  pub afterwards : (before told : List ℕ) (files : Files) → AfterStop (act w c).0 cs (before ++ (act w c).1) told files
      → AfterStop w (c ∷ cs) before told files
  afterwards before told files a =
      let count : acked w (c ∷ cs) (length ((act w c).1 ++ a.front)) ≡ cond (makes_stage w c) 1 0 + acked (act w c).0 cs (length a.front)
      = ap (acked w (c ∷ cs)) (length-append (act w c).1 a.front) ∙ acked_past (length a.front) in
      record {
        front = (act w c).1 ++ a.front;
        rest = a.rest;
        tells = a.tells ∙ append_assoc before (act w c).1 a.front;
        prefix = ap (λ (l : List ℕ). (act w c).1 ++ l) a.prefix ∙ sym (append_assoc (act w c).1 a.front a.rest);
        stage = cond (makes_stage w c) 1 0 + a.stage;
        state = a.state;
        there = stage_past a.stage ∙ a.there;
        kept = a.kept;
        acknowledged = omega (arith, count, a.acknowledged);
        not_ahead = omega (arith, count, a.not_ahead);
      }

-- nothing is carried out
pub carried_none : (w : World) (cs : List Command) (before told : List ℕ) → told ≡ before → Carried w cs before w cs told
carried_none w cs before told same = record {
  front = [];
  tells = same ∙ sym (append-nil before);
  replies = refl;
  final = refl;
  onto = λ t files a. subst (λ (l : List ℕ). AfterStop w cs l t files) same a;
}

-- one command more
pub carried_more : (w : World) (cs : List Command) (before : List ℕ) (now : World) (c : Command) (rest mid : List Command)
    (told then : List ℕ) → Carried w cs before now mid told → mid ≡ c ∷ rest → then ≡ told ++ (act now c).1
    → Carried w cs before (act now c).0 rest then
carried_more w cs before now c rest mid told then so_far first tells = record {
  front = so_far.front ++ (act now c).1;
  tells = tells ∙ ap (λ (l : List ℕ). l ++ (act now c).1) so_far.tells ∙ append_assoc before so_far.front (act now c).1;
  replies = so_far.replies ∙ ap (λ (l : List Command). so_far.front ++ replies_from now l) first
      ∙ sym (append_assoc so_far.front (act now c).1 (replies_from (act now c).0 rest));
  final = so_far.final ∙ ap (final now) first;
  onto = λ t files a. so_far.onto t files (subst (λ (l : List Command). AfterStop now l told t files) (sym first)
      (afterwards now c rest told t files (subst (λ (l : List ℕ). AfterStop (act now c).0 rest l t files) tells a)));
}

-- two runs of commands
pub carried_then : (w : World) (cs : List Command) (before : List ℕ) (mid : World) (left : List Command) (told : List ℕ)
    (now : World) (rest : List Command) (then : List ℕ) → Carried w cs before mid left told → Carried mid left told now rest then
    → Carried w cs before now rest then
carried_then w cs before mid left told now rest then first second = record {
  front = first.front ++ second.front;
  tells = second.tells ∙ ap (λ (l : List ℕ). l ++ second.front) first.tells ∙ append_assoc before first.front second.front;
  replies = first.replies ∙ ap (λ (l : List ℕ). first.front ++ l) second.replies
      ∙ sym (append_assoc first.front second.front (replies_from now rest));
  final = first.final ∙ second.final;
  onto = λ t files a. first.onto t files (second.onto t files a);
}
