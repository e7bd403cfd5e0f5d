-- A command that was carried out and its reply told.
use Rattle.cube_session.proofs.Names.{Vec, Global, List, sym, subst, ap, Some, ◌∙◌, None, ◌≡◌, ℕ, [], ◌++◌, length, take, drop, inr, refl, append-nil, arith, Ok, IsTrue, Err, take-append-drop}
use Rattle.cube_session.proofs.Names.{goes_on, wider, Emits, RoseOnce, Disk, Files, LeavesOnly, Ghosts, Cache, Keeps, Command, reply_some, act, Meanwhile, World, emits_left, fit_on, stands_on}
use Rattle.cube_session.proofs.Names.{stands_left, tells_none, Saves, Fits, live_file, live_of, ByWorld, MayWrite, Costs, Cost, Spends, RunsOn, Between, KeepsEither, Stands, GoesTo}
use Rattle.cube_session.proofs.Names.{State, Stop}
use Rattle.cube_session.specs.Session.{Answers, IsGoing, StandsAs, TellsAlone}
use Rattle.cube_session.specs.declared.held.Held.{Held}
use Rattle.cube_state.specs.Carried.{CarriesOutWith, LeavesState, Syncs}
use Rattle.cube_state.specs.Commands.{MakesNoCall}
use Rattle.cube_state.specs.Levels.{FitSchema}
use Rattle.cube_state.specs.Visits.{schema_of}
use Rattle.cube_state.proofs.Levels.{fit_behind, schema_stands}
use Rattle.spec_machine.proofs.Levels.{act_levels}
use Rattle.spec_machine.specs.Machine.{levels_behind}
use Rattle.roll_up.specs.declared.level.Level.{Level}
use Rattle.cube_state.specs.Moves.{KeepsFormat, Reached, format_of, format_told, reached_behind, reached_by}
use Rattle.cube_state.proofs.Moves.{format_past, format_untold, format_within, reached_more, stands_known}
use Rattle.cube_state.proofs.Standing.{stands_from}
use Rattle.page_fmt.specs.Formats.{wide_format}
use Rattle.spec_crash.specs.Keeps.{IsFrom}
use Rattle.std.proofs.Common.{Bool, false, inl, length-take, nat_lt, subst₂, true, ◌∷◌, ◌+◌, ◌<◌, ◌≤◌, ◌⊎◌}
use Rattle.std.proofs.lemmas.Bool.Decides.{nat_tests}

less_or_all : (n most : ℕ) → n ≤ most → (n < most) ⊎ (n ≡ most)
less_or_all n most few = elim (which (nat_lt n most)) [ inl less ↦ inl (grind (arith, nat_tests)) | inr not ↦ inr (grind (arith, nat_tests)) ]
  where
    which : (b : Bool) → (b ≡ true) ⊎ (b ≡ false)
    which true = inl refl
    which false = inr refl

plus_zero : (n : ℕ) → n + 0 ≡ n
plus_zero n = omega arith

-- ---- what a stop within it leaves

module _ (world : World) (command : Command) (state : State) (old mid : Disk) (run : Between (format_of state) old mid world (act world command).0) where
  -- before the reply
  untold : LeavesOnly old mid (Meanwhile world command old.told)
  untold = wider old mid (λ told files. (told ≡ old.told) × KeepsEither world (act world command).0 files × IsFrom (format_of state) files) (Meanwhile world command old.told) (λ told files both. record {
    front = [];
    rest = (act world command).1;
    tells = both.0 ∙ sym (append-nil old.told);
    prefix = refl;
    kept = both.1;
    acknowledged = λ same. absurd (omega (arith, ap length same, reply_some world command));
  }) run

  untold_formats : (rest : List Command) → LeavesOnly old mid (KeepsFormat world (reached_by state) (command ∷ rest) old.told)
  untold_formats rest = wider old mid (λ told files. (told ≡ old.told) × KeepsEither world (act world command).0 files × IsFrom (format_of state) files) (KeepsFormat world (reached_by state) (command ∷ rest) old.told)
      (λ told files both. record {
        front = [];
        tells = both.0 ∙ sym (append-nil old.told);
        from = subst (λ (f : ℕ). IsFrom f files) (sym (format_untold world (reached_by state) (command ∷ rest))) both.2;
      }) run

  module _ (new : Disk) (next : State) (reply : List ℕ) (told : mid.told ≡ old.told) (is : Stands next mid (act world command).0) (same : reply ≡ (act world command).1) (emits : Emits reply mid new) where
    -- with the reply, or a part of it
    telling : LeavesOnly old new (Meanwhile world command old.told)
    telling = goes_on old mid new (Meanwhile world command old.told) untold emits.time (λ bytes files some after.
        let kept = subst (λ (f : Files). Keeps f (act world command).0.kept) (sym after.2) (stands_left next mid (act world command).0 is after.0 after.1) in
        record {
          front = take some.0 reply;
          rest = drop some.0 reply;
          tells = some.1 ∙ ap (λ (l : List ℕ). l ++ take some.0 reply) told;
          prefix = sym same ∙ sym (take-append-drop some.0 reply);
          kept = inr kept;
          acknowledged = λ all. kept;
        })

    -- the format that a part of the reply tells
    from_part : (rest : List Command) (known : format_of state ≤ wide_format) (moved : reached_by next ≡ reached_behind world (reached_by state) command) (files : Files) → IsFrom (format_of next) files
        → (n : ℕ) → n ≤ length (act world command).1 → IsFrom (format_told world (reached_by state) (command ∷ rest) n) files
    from_part rest known moved files from n few = elim (less_or_all n (length (act world command).1) few) [
      | inl less ↦ λ body live. omega (arith, from body live, format_within world (reached_by state) command rest n less, reached_more world (reached_by state) command known, ap (λ (r : Reached). r.format) moved)
      | inr all ↦ λ body live. omega (
        arith,
        from body live,
        ap (format_told world (reached_by state) (command ∷ rest)) (all ∙ sym (plus_zero (length (act world command).1)))
            ∙ (format_past world (reached_by state) command rest 0 ∙ format_untold (act world command).0 (reached_behind world (reached_by state) command) rest),
        ap (λ (r : Reached). r.format) moved,
      )
    ]

    telling_formats : format_of state ≤ wide_format → reached_by next ≡ reached_behind world (reached_by state) command → (rest : List Command)
        → LeavesOnly old new (KeepsFormat world (reached_by state) (command ∷ rest) old.told)
    telling_formats known moved rest = goes_on old mid new (KeepsFormat world (reached_by state) (command ∷ rest) old.told) (untold_formats rest) emits.time (λ bytes files some after. record {
      front = take some.0 reply;
      tells = some.1 ∙ ap (λ (l : List ℕ). l ++ take some.0 reply) told;
      from = from_part rest known moved files (subst (IsFrom (format_of next)) (sym after.2) (stands_from next mid (act world command).0 is after.0 after.1)) (length (take some.0 reply))
          (omega (arith, length-take some.0 reply, ap length same));
    })

-- ---- the command

module _ {S : Type 0} (T : Ghosts S) (command : Command) (held then : Held) (old mid : S) (before after : Cache) where
  abbrev state : State
  state = held.state

  abbrev next : State
  next = then.state

  abbrev levels : List Level
  levels = held.levels

  -- a stop is handed on
  pub stopped : (stop : Stop) → CarriesOutWith T levels command state next old mid before after (Err stop) → Answers T command held None old mid before after (Err stop)
  stopped stop is = record {
    by_world = λ t world stands.
        let known = is.by_world t world stands.levels stands.stands in
        assumption (known, untold world command state (T.disk old) (T.disk mid) known.any_moment, untold_formats world command state (T.disk old) (T.disk mid) known.any_moment);
    any_files = λ t. assumption (is.any_files t, λ (none : MayWrite command → ⊥) (dry : Syncs command → ⊥). ((is.any_files t).looks none dry).files, λ (none : MayWrite command → ⊥). tt {0});
    goes_on = assumption is.goes_on;
  }

  -- a reply is told, or a part of it
  module _ (new : S) (reply : Vec ℕ Global) (bytes : List ℕ) (same : bytes ≡ reply.items) (is : CarriesOutWith T levels command state next old mid before after (Ok reply))
      (emits : IsTrue T.tells → Emits bytes (T.disk mid) (T.disk new)) (disk_faults : T.disk_faults new ≡ T.disk_faults mid)
      (reads : T.reads new ≡ T.reads mid) (writes : T.writes new ≡ T.writes mid) where
    spends_on : (cost : Cost) → Spends T cost old mid → Spends T cost old new
    spends_on cost spent = record { reads = omega (arith, spent.reads, reads); writes = omega (arith, spent.writes, writes) }

    unwritten_on : (MayWrite command → ⊥) → T.writes new ≡ T.writes old
    unwritten_on none = writes ∙ is.goes_on.unwritten none

    looks_on : IsTrue T.tells → (MayWrite command → ⊥) → (T.disk new).files ≡ (T.disk old).files
    looks_on t none = (emits t).files ∙ ((is.any_files t).settles none).files

    module _ (t : IsTrue T.tells) (world : World) (stands : StandsAs held (T.disk old) world) where
      known : ByWorld T command world state next old mid before after (Ok reply)
      known = is.by_world t world stands.levels stands.stands

      moment : LeavesOnly (T.disk old) (T.disk new) (Meanwhile world command (T.disk old).told)
      moment = telling world command state (T.disk old) (T.disk mid) known.any_moment (T.disk new) next bytes (is.goes_on.quiet.told t) known.answer.stands (same ∙ known.answer.said) (emits t)

      formats : (rest : List Command) → LeavesOnly (T.disk old) (T.disk new) (KeepsFormat world (reached_by state) (command ∷ rest) (T.disk old).told)
      formats = telling_formats world command state (T.disk old) (T.disk mid) known.any_moment (T.disk new) next bytes (is.goes_on.quiet.told t) known.answer.stands (same ∙ known.answer.said) (emits t)
          (stands_known state (T.disk old) world stands.stands) known.moved

      costs : (cost : Cost) → Costs world (reached_by state) command cost → Spends T cost old new
      costs cost its = spends_on cost (known.cost cost its)

      saves : (numbers : List ℕ) → GoesTo (format_of state) world command numbers → Saves before (live_file (live_of state)) numbers (T.reads old) (T.reads new)
      saves numbers goes = subst (λ (n : ℕ). Saves before (live_file (live_of state)) numbers (T.reads old) n) (sym reads) (known.saves numbers goes)

      alone : MakesNoCall world (reached_by state) command → TellsAlone T (act world command).1 old new
      alone none = (let same_site = known.uncalled none in record {
        disk = subst₂ (λ (s : S) (l : List ℕ). Emits l (T.disk s) (T.disk new)) same_site (same ∙ known.answer.said) (emits t);
        disk_faults = disk_faults ∙ ap T.disk_faults same_site;
        reads = reads ∙ ap T.reads same_site;
        writes = writes ∙ ap T.writes same_site;
      })

    told_on : IsTrue T.tells → (T.disk new).told ≡ (T.disk mid).told ++ bytes → (T.disk new).told ≡ (T.disk old).told ++ reply.items
    told_on t told = told ∙ ap (λ (l : List ℕ). l ++ bytes) (is.goes_on.quiet.told t) ∙ ap (λ (l : List ℕ). (T.disk old).told ++ l) same

    pub answered : (told : IsTrue T.tells → (T.disk new).told ≡ (T.disk mid).told ++ bytes) (told_faults : T.told_faults new ≡ T.told_faults mid) (fit : FitSchema (schema_of state) levels)
        (leveled : then.levels ≡ levels_behind (schema_of state) levels command) → Answers T command held (Some then) old new before after (Ok tt)
    answered told told_faults fit leveled = record {
      by_world = λ t world stands.
          let its = known t world stands in
          let stand = stands_on (T.disk mid) (T.disk new) (emits t).files (emits_left bytes (T.disk mid) (T.disk new) (emits t)) next (act world command).0 its.answer.stands in
          let same = act_levels world command ∙ ((λ i. levels_behind (schema_stands state (T.disk old) world stands.stands i) (stands.levels i) command) ∙ sym leveled) in
          let stood : StandsAs then (T.disk new) (act world command).0 = record { stands = stand; levels = same } in
          assumption (
            its,
            stood,
            told_on t (told t) ∙ ap (λ (l : List ℕ). (T.disk old).told ++ l) its.answer.said,
            moment t world stands,
            formats t world stands,
            costs t world stands,
            alone t world stands,
            saves t world stands,
          );
      any_files = λ t. record { damage = tt; answered = record { reply = reply.items; told = told_on t (told t); right = (is.any_files t).answered }; spared = tt; looks = λ none dry. looks_on t none; settles = looks_on t };
      goes_on =
          let running : RunsOn T new next = record {
            running = is.goes_on.runs.running;
            fit = λ t. fit_on (T.disk mid) (T.disk new) (emits t).files (emits_left bytes (T.disk mid) (T.disk new) (emits t)) next (is.goes_on.runs.fit t);
          } in
          let stays_on : LeavesState command → Some next ≡ Some state = λ leaves. ap Some (is.goes_on.stays leaves) in
          let fits : IsTrue T.tells → Fits next (T.disk new).files after = λ t. subst (λ (files : Files). Fits next files after) (sym (emits t).files) (is.any_files t).fits in
          let going : IsGoing T new after then = record {
            ready = record { runs = running; fits = fits };
            fit = subst (FitSchema (schema_of next)) (sym leveled) (fit_behind state next levels command is.goes_on.schema fit);
          } in
          assumption (is.goes_on, going, stays_on, leveled, unwritten_on, disk_faults ∙ is.goes_on.quiet.disk_faults, told_faults ∙ is.goes_on.quiet.told_faults);
    }

    -- the output failed
    pub unheard : RoseOnce (T.told_faults mid) (T.told_faults new) → Answers T command held None old new before after (Err Stop.Output)
    unheard rose = record {
      by_world = λ t world stands. assumption (moment t world stands, formats t world stands, costs t world stands, saves t world stands);
      any_files = λ t. assumption (
        tells_none levels state (T.disk old).files command Stop.Output tt,
        λ (none : MayWrite command → ⊥) (dry : Syncs command → ⊥). looks_on t none,
        λ (none : MayWrite command → ⊥). tt {0},
      );
      goes_on = assumption (
        is.goes_on,
        unwritten_on,
        disk_faults ∙ is.goes_on.quiet.disk_faults,
        subst (λ (n : ℕ). RoseOnce n (T.told_faults new)) is.goes_on.quiet.told_faults rose,
      );
    }
