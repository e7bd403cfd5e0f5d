-- An audit is carried out.
use Rattle.cube_session.proofs.Names.{Answer, Cache, CarriesOut, Command, Cost, Err, Files, Fits, Ghosts, Global, GoesTo, IsReadyFor, IsTrue, List, Ok, Reply, Spends, State, Stop, Vec, World}
use Rattle.cube_session.proofs.Names.{act, ap, arith, kept_same, live_file, live_of, refl, spares_none, subst, sym, ℕ, ◌∙◌, ◌≡◌}
use Rattle.spec_machine.proofs.Acts.{act_audit}
use Rattle.site_core.specs.Calls.{Rests, Stays}
use Rattle.site_core.proofs.Run.{Settles-ok}
use Rattle.cube_state.specs.Audits.{audit_cost}
use Rattle.cube_state.specs.Moves.{format_of}
use Rattle.cube_state.specs.Session.{Stands}
use Rattle.cube_state.proofs.Answering.{OnlyNow, fit_rests, settling, stands_rests}
use Rattle.cube_state.proofs.Audits.{audit_line, audit_reads}
use Rattle.cube_state.proofs.Writing.{goes_nowhere}
use Rattle.cube_session.specs.Auditing.{Audits}

module _ {S : Type 0} (T : Ghosts S) (state : State) (old new : S) (cache : Cache) (ready : IsReadyFor T old cache state) (only : IsTrue T.tells → OnlyNow (T.disk old)) where
  -- it goes to no page that is kept
  no_pages : (P : Type 0) (world : World) (numbers : List ℕ) → GoesTo (format_of state) world Command.Audit numbers → P
  no_pages P world numbers goes = absurd (goes_nowhere Command.Audit (λ schema levels. refl) (format_of state) world numbers goes)

  module _ (result : Reply) (is : Audits T old new result) where
    costs : (t : IsTrue T.tells) (world : World) → Stands state (T.disk old) world → (cost : Cost) → cost ≡ audit_cost (format_of state) world.kept → Spends T cost old new
    costs t world stands cost same =
        subst (λ (c : Cost). Spends T c old new) (sym same) (record { reads = audit_reads state (T.disk old) world (T.reads old) (T.reads new) stands (is.cost t); writes = omega (arith, is.writes) })

  -- there is a verdict
  pub answers : (reply : Vec ℕ Global) → Audits T old new (Ok reply) → CarriesOut T Command.Audit state state old new cache cache (Ok reply)
  answers reply is levels =
      let rests : IsTrue T.tells → Rests (T.disk old) (T.disk new) = λ t. Settles-ok Stays (T.disk old) (T.disk new) reply (is.disk t) in
      let fits : IsTrue T.tells → Fits state (T.disk new).files cache = λ t. subst (λ (files : Files). Fits state files cache) (sym (rests t).files) (ready.fits t) in
      record {
        by_world = λ t world known stands. record {
          answer = record {
            stands = subst (λ (a : Answer). Stands state (T.disk new) a.0) (sym (act_audit world)) (stands_rests state (T.disk old) (T.disk new) world (rests t) stands);
            said = audit_line state (T.disk old) world reply.items stands (is.gives t) ∙ ap (λ (a : Answer). a.1) (sym (act_audit world));
          };
          any_moment = settling state (T.disk old) (T.disk new) world (act world Command.Audit).0 stands (only t) (is.disk t).time;
          undamaged = tt;
          moved = refl;
          cost = costs (Ok reply) is t world stands;
          uncalled = λ none. absurd none;
          saves = λ numbers goes. no_pages _ world numbers goes;
          keeps = λ numbers goes. no_pages _ world numbers goes;
        };
        any_files = λ t. record { damage = tt; answered = is.gives t; spared = tt; looks = λ none dry. absurd (dry tt); settles = λ none. is.disk t; fits = fits t };
        goes_on = record {
          runs = record { running = ready.runs.running; fit = λ t. fit_rests state (T.disk old) (T.disk new) (rests t) (ready.runs.fit t) };
          stays = λ leaves. refl;
          schema = λ declared has. has;
          cache = λ none. sym (kept_same (live_of state) (live_of state) cache refl);
          capacity = refl;
          unwritten = λ none. is.writes;
          quiet = is.quiet;
        };
        leaves = record {
          made = λ no. refl;
          live = λ same. refl;
          harmless = λ none. tt;
          said = λ alone. absurd alone;
          unasked = λ none nothing. refl;
          fits = λ t none dry. absurd (dry tt);
          side = λ t same. ap (λ (f : Files). f (live_file (live_of state))) (rests t).files;
          step_side = λ t step. absurd step;
        };
      }

  -- a call failed, or memory ran out
  pub stops : (stop : Stop) → Audits T old new (Err stop) → CarriesOut T Command.Audit state state old new cache cache (Err stop)
  stops stop is levels = record {
    by_world = λ t world known stands. record {
      answer = tt;
      any_moment = settling state (T.disk old) (T.disk new) world (act world Command.Audit).0 stands (only t) (is.disk t).time;
      undamaged = is.undamaged;
      moved = tt;
      cost = costs (Err stop) is t world stands;
      uncalled = λ none. tt;
      saves = λ numbers goes. no_pages _ world numbers goes;
      keeps = λ numbers goes. tt;
    };
    any_files = λ t. record {
      damage = is.undamaged;
      answered = tt;
      spared = spares_none (live_of state) (T.disk old).files (T.disk new).files stop is.undamaged;
      looks = λ none dry. absurd (dry tt);
      settles = λ none. is.disk t;
      fits = tt;
    };
    goes_on = record { runs = tt; stays = λ leaves. tt; schema = λ declared has. tt; cache = λ none. tt; capacity = refl; unwritten = λ none. is.writes; quiet = is.quiet };
    leaves = record {
      made = λ no. tt;
      live = λ same. tt;
      harmless = λ none. is.undamaged;
      said = λ alone files. tt;
      unasked = λ none nothing. refl;
      fits = λ t none dry. absurd (dry tt);
      side = λ t same. tt;
      step_side = λ t step. absurd step;
    };
  }

  pub audited : (result : Reply) → Audits T old new result → CarriesOut T Command.Audit state state old new cache cache result
  audited (Ok reply) is = answers reply is
  audited (Err stop) is = stops stop is
