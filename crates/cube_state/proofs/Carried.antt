-- A command is carried out with no call: it only answers, or memory runs out.
use Rattle.std.proofs.Common.{◌≡◌, ◌∙◌, ℕ, IsTrue, Global, Vec, List, Ok, Err, IfOk, refl, sym, subst, arith}
use Rattle.std.specs.Result.{IsErrAnd}
use Rattle.site_core.specs.Disk.{Files}
use Rattle.site_core.specs.declared.site.Site.{Ghosts}
use Rattle.page_cache.specs.Giving.{Cache}
use Rattle.roll_up.specs.declared.level.Level.{Level}
use Rattle.script_lang.specs.declared.command.Command.{Command}
use Rattle.spec_machine.specs.Machine.{Answer, act}
use Rattle.spec_machine.specs.World.{Knows, World}
use Rattle.cube_state.specs.declared.state.State.{State}
use Rattle.cube_state.specs.declared.stop.Stop.{Stop}
use Rattle.cube_state.specs.declared.stop.Stop.TheVariants as stops
use Rattle.cube_state.specs.Cached.{live_of}
use Rattle.cube_state.specs.Carried.{CarriesOut, CarriesOutWith, IsReadyFor, IsStep, Reply, made_alone}
use Rattle.cube_state.specs.Commands.{Gives}
use Rattle.cube_state.specs.Moves.{format_of, moves_made, reached_behind, reached_by}
use Rattle.cube_state.specs.Session.{Stands}
use Rattle.cube_state.specs.Visits.{GoesTo}
use Rattle.cube_state.proofs.Answering.{OnlyNow, quiet}
use Rattle.cube_state.proofs.Cached.{kept_same}
use Rattle.cube_state.proofs.Costs.{spends_none}
use Rattle.cube_state.proofs.Looking.{quiet_here, quiet_nowhere, rests_here, settled_here}
use Rattle.cube_state.proofs.Standing.{stands_as}
use Rattle.cube_state.proofs.Told.{spares_none, tells_none}

-- the answer is this text, and what is kept and pending stays
pub record Says (world : World) (text : List ℕ) (answer : Answer) : Type 0 where
  pub same : Knows world.kept world.pending answer.0
  pub replied : answer.1 ≡ text

pub says_just : (world : World) (text : List ℕ) (answer : Answer) → answer ≡ (world, text) → Says world text answer
says_just world text answer is = subst (Says world text) (sym is) (record { same = record { kept = refl; pending = refl }; replied = refl })

-- by this state and these levels the command only answers with this text
pub record OnlySaysWith {S : Type 0} (T : Ghosts S) (levels : List Level) (command : Command) (state : State) (site : S) (text : List ℕ) : Type 0 where
  pub acts : IsTrue T.tells → (world : World) → world.levels ≡ levels → Stands state (T.disk site) world → Says world text (act world command)
  pub moves : IsTrue T.tells → (world : World) → Stands state (T.disk site) world → reached_behind world (reached_by state) command ≡ reached_by state
  pub goes : IsTrue T.tells → (world : World) → world.levels ≡ levels → Stands state (T.disk site) world → (numbers : List ℕ) → GoesTo (format_of state) world command numbers → ⊥
  pub gives : (files : Files) → Gives levels state files command text
  pub alone : (IsStep command → ⊥) → made_alone command (moves_made state) ≡ moves_made state

-- whatever the levels are
abbrev pub OnlySays : {S : Type 0} (T : Ghosts S) (command : Command) (state : State) (site : S) (text : List ℕ) → Type 0
OnlySays T command state site text = (levels : List Level) → OnlySaysWith T levels command state site text

module _ {S : Type 0} (T : Ghosts S) (command : Command) (state : State) (site : S) (cache : Cache) (only : IsTrue T.tells → OnlyNow (T.disk site)) where
  -- memory runs out before a call, whatever has become of the state
  pub runs_out : IsReadyFor T site cache state → (next : State) → CarriesOut T command state next site site cache cache (Err stops.Memory)
  runs_out ready next levels = record {
    by_world = λ t world known stands. record {
      answer = tt;
      any_moment = quiet state (T.disk site) world (act world command).0 stands (only t);
      undamaged = tt;
      moved = tt;
      cost = λ cost costs. spends_none T cost site site refl;
      uncalled = λ none. tt;
      saves = λ numbers goes room. omega arith;
      keeps = λ numbers goes. tt;
    };
    any_files = λ t. record {
      damage = tells_none levels state (T.disk site).files command stops.Memory tt;
      answered = tt;
      spared = spares_none (live_of state) (T.disk site).files (T.disk site).files stops.Memory tt;
      looks = λ none dry. rests_here (T.disk site);
      settles = λ none. settled_here (T.disk site) (Err stops.Memory);
      fits = tt;
    };
    goes_on = record { runs = tt; stays = λ leaves. tt; schema = λ declared has. tt; cache = λ none. tt; capacity = refl; unwritten = λ none. refl; quiet = quiet_nowhere T site };
    leaves = record {
      made = λ no. tt;
      live = λ same. tt;
      harmless = λ none. tt;
      said = λ alone files. tt;
      unasked = λ none nothing. refl;
      fits = λ t none dry. ready.fits t;
      side = λ t same. tt;
      step_side = λ t step. refl;
    };
  }

  pub runs_out_as : IsReadyFor T site cache state → (next : State) (result : Reply) → IsErrAnd result (λ stop. stop ≡ stops.Memory) → CarriesOut T command state next site site cache cache result
  runs_out_as ready next (Ok reply) is = absurd is
  runs_out_as ready next (Err stop) is = subst (λ (s : Stop). CarriesOut T command state next site site cache cache (Err s)) (sym is) (runs_out ready next)

  -- it only answers
  pub says_with : (levels : List Level) (text : List ℕ) (reply : Vec ℕ Global) → IsReadyFor T site cache state → OnlySaysWith T levels command state site text → reply.items ≡ text
      → CarriesOutWith T levels command state state site site cache cache (Ok reply)
  says_with levels text reply ready is said = record {
    by_world = λ t world known stands. record {
      answer = record {
        stands = stands_as state (T.disk site) world (act world command).0 (is.acts t world known stands).same stands;
        said = said ∙ sym (is.acts t world known stands).replied;
      };
      any_moment = quiet state (T.disk site) world (act world command).0 stands (only t);
      undamaged = tt;
      moved = sym (is.moves t world stands);
      cost = λ cost costs. spends_none T cost site site refl;
      uncalled = λ none. refl;
      saves = λ numbers goes room. omega arith;
      keeps = λ numbers goes. absurd (is.goes t world known stands numbers goes);
    };
    any_files = λ t. record {
      damage = tt;
      answered = subst (Gives levels state (T.disk site).files command) (sym said) (is.gives (T.disk site).files);
      spared = tt;
      looks = λ none dry. rests_here (T.disk site);
      settles = λ none. settled_here (T.disk site) (Ok reply);
      fits = ready.fits t;
    };
    goes_on = record { runs = ready.runs; stays = λ leaves. refl; schema = λ declared has. has; cache = λ none. sym (kept_same (live_of state) (live_of state) cache refl); capacity = refl; unwritten = λ none. refl; quiet = quiet_here T site };
    leaves = record {
      made = λ no. sym (is.alone no);
      live = λ same. refl;
      harmless = λ none. tt;
      said = λ alone files. subst (Gives levels state files command) (sym said) (is.gives files);
      unasked = λ none nothing. refl;
      fits = λ t none dry. ready.fits t;
      side = λ t same. refl;
      step_side = λ t step. refl;
    };
  }

  pub says : (text : List ℕ) (reply : Vec ℕ Global) → IsReadyFor T site cache state → OnlySays T command state site text → reply.items ≡ text
      → CarriesOut T command state state site site cache cache (Ok reply)
  says text reply ready is said levels = says_with levels text reply ready (is levels) said

  -- or memory runs out for its reply
  pub says_or_out_with : (levels : List Level) (text : List ℕ) (result : Reply) → IsReadyFor T site cache state → OnlySaysWith T levels command state site text → IfOk result (λ reply. reply.items ≡ text)
      → ((stop : Stop) → result ≡ Err stop → stop ≡ stops.Memory) → CarriesOutWith T levels command state state site site cache cache result
  says_or_out_with levels text (Ok reply) ready is said memory = says_with levels text reply ready is said
  says_or_out_with levels text (Err stop) ready is said memory = subst (λ (s : Stop). CarriesOutWith T levels command state state site site cache cache (Err s)) (sym (memory stop refl)) (runs_out ready state levels)

  pub says_or_out : (text : List ℕ) (result : Reply) → IsReadyFor T site cache state → OnlySays T command state site text → IfOk result (λ reply. reply.items ≡ text)
      → ((stop : Stop) → result ≡ Err stop → stop ≡ stops.Memory) → CarriesOut T command state state site site cache cache result
  says_or_out text result ready is said memory levels = says_or_out_with levels text result ready (is levels) said memory

-- a command that is this one is carried out as it
pub as_said : {S : Type 0} {T : Ghosts S} {levels : List Level} {command its : Command} {state next : State} {old new : S} {before after : Cache} {result : Reply} → command ≡ its
    → CarriesOut T its state next old new before after result → CarriesOutWith T levels command state next old new before after result
as_said {T = T} {levels = levels} {state = state} {next = next} {old = old} {new = new} {before = before} {after = after} {result = result} is done =
    subst (λ (k : Command). CarriesOutWith T levels k state next old new before after result) (sym is) (done levels)
