-- In every history that goes on with a run each numbered batch is accepted once.
use Rattle.std.proofs.Common.{ℕ, List, refl}
use Rattle.site_core.specs.Disk.{Files}
use Rattle.script_lang.specs.Script.{commands}
use Rattle.spec_machine.specs.World.{Kept, bare}
use Rattle.spec_machine.specs.Histories.{Run, with_run}
use Rattle.spec_machine.proofs.Histories.{each_once, history_more}
use Rattle.spec_crash.specs.Stops.{AfterStop, GoesOnOnce}

-- what a stop leaves keeps a stage, so the histories go on with it
pub goes_on_once : (kept : Kept) (script : List ℕ) (before told : List ℕ) (files : Files) → AfterStop (bare kept) (commands script) before told files
    → GoesOnOnce kept script before told files
goes_on_once kept script before told files stop =
    let run : Run = record { script = script; stage = stop.stage; kept = stop.state } in
    record {
      run = run;
      over = refl;
      keeps = stop.kept;
      front = stop.front;
      tells = stop.tells;
      acknowledged = stop.acknowledged;
      not_ahead = stop.not_ahead;
      goes_on = λ first runs history. history_more runs first kept run history stop.there;
      each_once = λ first runs history. each_once (with_run runs run) first stop.state (history_more runs first kept run history stop.there);
    }
