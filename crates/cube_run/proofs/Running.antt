-- How a run goes: it ends before the first pull, or as the script is served.
use Rattle.std.proofs.Common.{◌≡◌, ◌≤◌, ◌+◌, ◌∙◌, ◌++◌, ◌∷◌, ℕ, IsTrue, inl, inr, List, [], Option, IfSome, Ok, Err, ap, refl, sym, subst, arith}
use Rattle.cube_run.proofs.Names.{AreValid, BreaksAt, ByEnd, Changes-refl, Command, Cost, CostTogether, Costs, CostsRun, Elapses, EndsAt, EndsForBreak, EndsUnpulled, EndsUntouched, Faults, Files}
use Rattle.cube_run.proofs.Names.{Gave, Ghosts, HasReplied, Headline, IsNoDamage, IsPastOpening, IsSomeAnd, IsUndamaged, IsUsageOrMemory, Keeps, KeepsLimit, Kept, OnlyNow, Outcome, Place, Replied}
use Rattle.cube_run.proofs.Names.{RunsScript, Serves, Session, Sites, Sources, Spends, Starts, Status, StatusCause, Stays, Stop, StopsAt, TellsBreak, TellsNothing, WordsStop, World, act, bare, both}
use Rattle.cube_run.proofs.Names.{commands, faults, none_cost, one_costs, open_cost, opening_and, query_costs, rollup_costs, slice_costs, status_of, stop_of, words_status}
use Rattle.cube_run.proofs.Moments.{histories_go_on, moments_then, opened_behind, opened_moments, opening_moments, told_front}
use Rattle.cube_run.proofs.Statuses.{complete, never, none_told, of_stop, still_closed, stop_cause}
use Rattle.script_lang.specs.declared.command.Command.TheVariants as says
use Rattle.cube_state.specs.declared.stop.Stop.TheVariants as stops
use Rattle.cube_args.specs.declared.words.WordsStop.TheVariants as words
use Rattle.cube_run.specs.declared.exit.Status.TheVariants.{Done, Usage, Input, Memory, TooLong}
use Rattle.spec_crash.specs.Keeps.{HasFormat}
use Rattle.spec_crash.proofs.Formats.{has_format}
use Rattle.cube_state.specs.Moves.{KeepsFormat, Reached, reached_behind, unmoved}
use Rattle.spec_crash.specs.Stops.{AfterStop}
use Rattle.site_core.specs.Moments.{LeavesOnly}
use Rattle.cube_session.specs.Session.{reached_for}
use Rattle.cube_session.specs.declared.held.Held.{Held}
use Rattle.cube_run.specs.Replied.{RepliesToAll}
use Rattle.site_core.specs.Disk.{Disk}

-- ---- what a run may spend

-- each command has a cost
command_costs : (world : World) (reached : Reached) (command : Command) → (cost : Cost) × Costs world reached command cost
command_costs world reached (says.Slice text) = slice_costs reached.format world text
command_costs world reached (says.Sql text) = query_costs reached.format world text
command_costs world reached (says.Rollup text) = rollup_costs reached.format world text
command_costs world reached _ = (_, refl)

-- and so have all commands together
costs_together : (world : World) (reached : Reached) (commands : List Command) → (cost : Cost) × CostTogether world reached commands cost
costs_together world reached [] = (_, none_cost)
costs_together world reached (command ∷ rest) =
    let one = command_costs world reached command in
    let others = costs_together (act world command).0 (reached_behind world reached command) rest in
    (both one.0 others.0, one_costs one.0 others.0 one.1 others.1)

costs_run : {S : Type 0} (T : Ghosts S) (kept : Kept) (commands : List Command) (old new : S) (format : ℕ) → HasFormat (T.disk old).files kept format
    → ((cost : Cost) → CostTogether (bare kept) (unmoved format) commands cost → Spends T (opening_and kept cost) old new) → CostsRun T kept commands old new
costs_run T kept commands old new format has spends =
    let all = costs_together (bare kept) (unmoved format) commands in
    record { format = format; has = has; cost = all.0; together = all.1; spent = spends all.0 all.1 }

-- what a site knows of each moment
pub record Laws {B : Type 0} (T : Sites B) : Type 0 where
  pub only : (site : B) (told : List ℕ) (files : Files) → IsTrue T.tells → (T.disk site).left_since (T.disk site).clock told files → (told ≡ (T.disk site).told) × (T.disk site).may_leave files
  pub read : (site : B) → IsTrue T.tells → (T.disk site).may_leave (T.disk site).files
  pub counts : (site : B) (t : ℕ) (files : Files) → IsTrue T.tells → t ≤ (T.disk site).clock → (T.disk site).may_leave files → (T.disk site).left_since t (T.disk site).told files

abbrev faults_of : {A B : Type 0} → Sources A → Sites B → A → B → Faults
faults_of S T source site = faults (S.faults source) (T.disk_faults site) (T.told_faults site)

-- ---- before the first pull

module _ {A B : Type 0} (S : Sources A) (T : Sites B) (laws : Laws T) (given : List (List ℕ)) (most : ℕ) (source : A) (site now : B) where
  closes : (status : Status) → (IsPastOpening status → ⊥) → (IsTrue T.tells → Elapses TellsNothing Stays (T.disk site) (T.disk now))
      → (IsTrue T.tells → (kept : Kept) → Keeps (T.disk site).files kept → IsUndamaged status × (T.reads now ≤ T.reads site + open_cost kept))
      → (IsTrue T.tells → EndsForBreak (T.disk site).files status)
      → (IsTrue T.tells → AreValid given → (place : Place) → BreaksAt (T.disk site).files place → EndsUnpulled T (EndsAt place) status source source site now) → (status ≡ Usage → ¬ (AreValid given))
      → (¬ (AreValid given) → EndsUntouched (IsUsageOrMemory status) source source site now) → T.writes now ≡ T.writes site → StatusCause (faults_of S T source site) (faults_of S T source now) status
      → RunsScript S T given most source source site now status
  closes status closed time opens damaged broken usage faulty writes cause =
      let other : (end : Status) → IsPastOpening end → status ≡ end → ⊥ = λ end past same. closed (subst IsPastOpening (sym same) past) in
      let head : IsTrue T.tells → (kept : Kept) → Headline (bare kept) (S.left source) (S.left source) (T.disk site) (T.disk now) status = λ t kept.
      let run = opening_moments (AfterStop (bare kept) (commands (S.left source)) (T.disk site).told) (T.disk site) (T.disk now) (λ told files. laws.only site told files t) (time t) in
      record {
        prefix = told_front _ _ _ _ run (laws.counts now _ _ t run.clock.later (laws.read now t));
        whole = λ same. absurd (other Done tt same);
        read = λ same. absurd (other Done tt same);
        any_stop = run;
        opened = elim [ inl more ↦ absurd (more refl) | inr past ↦ absurd (closed past) ];
      } in
      record {
        headline = λ s t kept keeps. head t kept;
        histories = λ s t kept keeps. histories_go_on kept _ _ _ _ _ (laws.read now t) (head t kept);
        formats = λ s t kept keeps. record {
          format = (has_format (T.disk site).files kept keeps).0;
          has = (has_format (T.disk site).files kept keeps).1;
          holds = opening_moments (KeepsFormat (bare kept) (unmoved (has_format (T.disk site).files kept keeps).0) (commands (S.left source)) (T.disk site).told) (T.disk site) (T.disk now)
              (λ told files. laws.only site told files t) (time t);
        };
        cost = λ s t kept keeps. costs_run T kept _ site now (has_format (T.disk site).files kept keeps).0 (has_format (T.disk site).files kept keeps).1 (λ cost costs. record { reads = omega (arith, (opens t kept keeps).1); writes = omega (arith, writes) });
        undamaged = λ t kept keeps. (opens t kept keeps).0;
        complete = λ s t kept keeps valid short. complete status (faults_of S T source site) (faults_of S T source now) (opens t kept keeps).0 cause (λ same. usage same valid) (other TooLong tt);
        short = λ s t kept keeps. record {
          format = (has_format (T.disk site).files kept keeps).0;
          has = (has_format (T.disk site).files kept keeps).1;
          holds = record { left_off = λ same. absurd (other TooLong tt same); cut_off = λ same. absurd (other Input tt same) };
        };
        broken = broken;
        damaged = λ s t none. damaged t;
        replied = λ s t same. absurd (other Done tt same);
        usage = usage;
        faulty = faulty;
        read = λ s same. absurd (other Done tt same);
        limit = λ s. record { too_long = (λ same. absurd (other TooLong tt same), λ gave. absurd (omega (arith, gave))); bounded = omega arith };
        asked = omega arith;
        cause = cause;
      }

-- the words are not taken, or memory runs out
module _ {A B : Type 0} (S : Sources A) (T : Sites B) (laws : Laws T) (given : List (List ℕ)) (most : ℕ) (source : A) (site : B) where
  pub unread : (stop : WordsStop) → (stop ≡ words.Usage → ¬ (AreValid given)) → RunsScript S T given most source source site site (words_status stop)
  unread words.Usage usage =
      closes S T laws given most source site site Usage (λ is. is) (λ t. (Changes-refl Stays (T.disk site) (λ files. refl)).time) (λ t kept keeps. (tt, omega arith)) (λ t. tt)
      (λ t valid. absurd (usage refl valid)) (λ same. usage refl) (λ invalid. record { end = tt; unread = refl; untouched = refl }) refl (refl, refl, refl)
  unread words.Memory usage =
      closes S T laws given most source site site Memory (λ is. is) (λ t. (Changes-refl Stays (T.disk site) (λ files. refl)).time) (λ t kept keeps. (tt, omega arith)) (λ t. tt)
      (λ t valid place breaks. record { end = tt; unpulled = refl; untold = refl; unwritten = refl; unchanged = λ other. refl }) (λ same. absurd (never stops.Memory Usage refl same))
      (λ invalid. record { end = tt; unread = refl; untouched = refl }) refl (refl, refl, refl)

-- the files are not opened
pub unopened : {A B : Type 0} (S : Sources A) {T : Sites B} (laws : Laws T) (given : List (List ℕ)) (most : ℕ) (source : A) → AreValid given → {cache : ℕ} {site now : B} {stop : Stop}
    → Starts T cache site now (Err stop) → RunsScript S T given most source source site now (status_of stop)
unopened S {T} laws given most source valid {cache} {site} {now} {stop} is =
    closes S T laws given most source site now (status_of stop) (still_closed stop (λ same. is.no_output (ap Err same))) (λ t. (is.disk t).time)
    (λ t kept keeps. (of_stop (λ (o : Option Stop). IfSome o IsNoDamage) stop (is.undamaged t kept keeps), is.cost t kept keeps))
    (λ t. of_stop (λ (o : Option Stop). IfSome o (TellsBreak (T.disk site).files)) stop (is.damaged t)) (λ t fine place breaks. record {
      end = of_stop (λ (o : Option Stop). IsSomeAnd o (StopsAt place)) stop (is.broken t place breaks).0;
      unpulled = refl;
      untold = (is.disk t).told;
      unwritten = is.writes;
      unchanged = λ other. is.unchanged t (λ same. other (ap status_of same));
    }) (λ same. absurd (never stop Usage refl same)) (λ invalid. absurd (invalid valid)) is.writes (stop_cause _ _ _ _ _ _ stop refl is.quiet.cause)

-- ---- the script is served

-- what is told and read was the same before
replied_from : {cs : List Command} {had has : Option Held} (old mid new : Disk) → mid.told ≡ old.told → mid.files ≡ old.files → HasReplied cs had has mid new → HasReplied cs had has old new
replied_from {cs} old mid new told files is = record {
  first = is.first;
  begins = is.begins;
  last = is.last;
  ends = is.ends;
  replies = is.replies;
  told = is.told ∙ ap (λ (l : List ℕ). l ++ is.replies) told;
  each = subst (λ (f : Files). Replied cs is.first f is.replies is.last new.files) files is.each;
}

module _ {A B : Type 0} {S : Sources A} {T : Sites B} (laws : Laws T) (given : List (List ℕ)) (valid : AreValid given) {most cache : ℕ} {source next : A} {site mid now : B}
    {session : Session} {status : Status} (is : Starts T cache site mid (Ok session)) (serves : Serves S T session.held most source next mid now status) where
  -- which commands were carried out at such an end
  outcome : IsTrue S.tells → IsTrue T.tells → (kept : Kept) → Keeps (T.disk site).files kept → (reached : Reached) → reached_for session.held ≡ reached → (end : Status) → status ≡ end
      → Outcome (T.disk now) (bare kept) reached (S.left source) (S.left next) most (T.disk site).told end
  outcome s t kept keeps reached has end same =
      subst (λ (m : Reached). Outcome (T.disk now) (bare kept) m (S.left source) (S.left next) most (T.disk site).told end) has
      (subst (λ (told : List ℕ). Outcome (T.disk now) (bare kept) (reached_for session.held) (S.left source) (S.left next) most told end) (is.disk t).told
      (subst (Outcome (T.disk now) (bare kept) (reached_for session.held) (S.left source) (S.left next) most (T.disk mid).told) same (serves.outcome s t (bare kept) (is.opened t kept keeps))))

  done : IsTrue S.tells → status ≡ Done → (S.left next ≡ []) × (IsTrue T.tells → RepliesToAll (commands (S.left source)) session.held (T.disk mid) (T.disk now))
  done s same = subst (ByEnd _ _ (Unit {0})) same serves.pulled s

  no_usage : status ≡ Usage → ⊥
  no_usage same = subst (ByEnd _ _ (Unit {0})) same serves.pulled

  limited : IsTrue S.tells → KeepsLimit (λ end. status ≡ end) most (S.left source) (S.left next)
  limited s =
      let past : status ≡ TooLong → Gave (S.left source) (S.left next) (most + 1) = λ same. subst (ByEnd _ _ (Unit {0})) same serves.pulled s in
      record {
        too_long = (past, λ gave. elim (serves.few s) [ inl few ↦ absurd (omega (arith, gave, few)) | inr same ↦ same ]);
        bounded = elim (serves.few s) [ inl few ↦ omega (arith, few) | inr same ↦ omega (arith, past same) ];
      }

  caused : StatusCause (faults_of S T source site) (faults_of S T next now) status
  caused = rw (← is.quiet.disk_faults, ← is.quiet.told_faults) serves.cause

  run_head : IsTrue S.tells → IsTrue T.tells → (kept : Kept) → Keeps (T.disk site).files kept → Headline (bare kept) (S.left source) (S.left next) (T.disk site) (T.disk now) status
  run_head s t kept keeps =
      let commands_run = (serves.within s t (bare kept) (is.opened t kept keeps)).any_moment in
      let only : OnlyNow (T.disk site) = λ told files. laws.only site told files t in
      let run = opened_moments (T.disk site) (T.disk mid) (T.disk now) (bare kept) (commands (S.left source)) (is.disk t).told (is.disk t).time only commands_run in
      record {
        prefix = told_front _ _ _ _ run (laws.counts now _ _ t run.clock.later (laws.read now t));
        whole = λ same. (let from = is.reached t kept keeps in record { format = from.format; has = from.has; holds = outcome s t kept keeps (unmoved from.format) from.holds Done same });
        read = λ same. (done s same).0;
        any_stop = run;
        opened = λ opened. opened_behind (T.disk site) (T.disk mid) (T.disk now) (bare kept) (commands (S.left source)) (is.disk t).told (is.disk t).time only commands_run
            (λ files. laws.counts now _ files t commands_run.clock.later);
      }

  pub runs : RunsScript S T given most source next site now status
  runs = record {
    headline = run_head;
    histories = λ s t kept keeps. histories_go_on kept _ _ _ _ _ (laws.read now t) (run_head s t kept keeps);
    formats = λ s t kept keeps. (let from = is.reached t kept keeps in record {
      format = from.format;
      has = from.has;
      holds = moments_then (KeepsFormat (bare kept) (unmoved from.format) (commands (S.left source)) (T.disk site).told) (T.disk site) (T.disk mid) (T.disk now)
          (λ told files. laws.only site told files t) (is.disk t).time (subst (λ (r : Reached × List ℕ). LeavesOnly (T.disk mid) (T.disk now) (KeepsFormat (bare kept) r.0 (commands (S.left source)) r.1))
          (λ i. (from.holds i, (is.disk t).told i)) (serves.within s t (bare kept) (is.opened t kept keeps)).formats);
    });
    cost = λ s t kept keeps. costs_run T kept _ site now (is.reached t kept keeps).format (is.reached t kept keeps).has (λ cost costs.
        let spent = (serves.within s t (bare kept) (is.opened t kept keeps)).cost cost (subst (λ (m : Reached). CostTogether (bare kept) m (commands (S.left source)) cost) (sym (is.reached t kept keeps).holds) costs) in
        record { reads = omega (arith, is.cost t kept keeps, spent.reads); writes = omega (arith, is.writes, spent.writes) });
    undamaged = λ t kept keeps. serves.undamaged t (bare kept) (is.opened t kept keeps);
    complete = λ s t kept keeps fine short. complete status (faults_of S T source site) (faults_of S T next now) (serves.undamaged t (bare kept) (is.opened t kept keeps)) caused no_usage
        (λ same. absurd (omega (arith, short, (limited s).too_long.0 same)));
    short = λ s t kept keeps. (let from = is.reached t kept keeps in let ends = outcome s t kept keeps (unmoved from.format) from.holds in record {
      format = from.format;
      has = from.has;
      holds = record { left_off = ends TooLong; cut_off = ends Input };
    });
    broken = λ t fine place breaks. absurd (is.broken t place breaks).1;
    damaged = λ s t none. none_told (T.disk site).files (stop_of status) (serves.unpulled s none);
    replied = λ s t same. (let since = (done s same).1 t in record {
      had = session.held;
      opened = is.found t;
      replied = record { has = since.has; replied = replied_from (T.disk site) (T.disk mid) (T.disk now) (is.disk t).told (is.disk t).files since.replied };
    });
    usage = λ same. absurd (no_usage same);
    faulty = λ invalid. absurd (invalid valid);
    read = λ s same. (done s same).0;
    limit = limited;
    asked = serves.asked;
    cause = caused;
  }
