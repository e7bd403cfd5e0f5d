-- A run over a script, said once.
use Rattle.std.specs.Prelude.{◌≡◌, ◌≤◌, ◌+◌, ℕ, IsTrue, List, [], length}
use Rattle.site_core.specs.Causes.{Rose}
use Rattle.site_core.specs.Moments.{LeavesOnly}
use Rattle.site_core.specs.declared.site.Site.{Ghosts as Sites}
use Rattle.site_core.specs.declared.source.Source.{Ghosts as Sources}
use Rattle.forest_open.specs.Breaks.{BreaksAt}
use Rattle.forest_open.specs.Opening.{Place}
use Rattle.script_lang.specs.Script.{commands}
use Rattle.cube_args.specs.Words.{AreValid}
use Rattle.spec_crash.specs.Keeps.{Keeps}
use Rattle.spec_machine.specs.World.{Kept, bare}
use Rattle.cube_state.specs.Moves.{FromFormat}
use Rattle.cube_run.specs.Costs.{CostsRun}
use Rattle.cube_run.specs.Damage.{EndsAt, EndsForBreak}
use Rattle.cube_run.specs.Ends.{EndsUnpulled, EndsUntouched, IsDoneOrMemory, IsUndamaged, IsUsageOrMemory, StatusCause, faults}
use Rattle.cube_run.specs.Headline.{FormatAfter, Headline, StopsShort}
use Rattle.cube_run.specs.Histories.{HistoriesGoOn}
use Rattle.cube_run.specs.Pulls.{Gave, KeepsLimit}
use Rattle.cube_run.specs.Replied.{RepliesFromStart}
use Rattle.cube_run.specs.declared.exit.Status.{Status}
use Rattle.cube_run.specs.declared.exit.Status.TheVariants.{Done, Usage}

-- With these words a script of at most so many bytes was run: its source and its site, as they were and as they are, and how the run ended.
pub record RunsScript {A B : Type 0} (S : Sources A) (T : Sites B) (words : List (List ℕ)) (most : ℕ) (source source_now : A) (site site_now : B) (status : Status) : Type 0 where
  -- the files keep a world at the start
  pub headline : IsTrue S.tells → IsTrue T.tells → (kept : Kept) → Keeps (T.disk site).files kept
      → Headline (bare kept) (S.left source) (S.left source_now) (T.disk site) (T.disk site_now) status
  pub histories : IsTrue S.tells → IsTrue T.tells → (kept : Kept) → Keeps (T.disk site).files kept
      → HistoriesGoOn kept (S.left source) (S.left source_now) (T.disk site) (T.disk site_now) status
  -- a stop at any moment leaves no earlier format than the replies tell
  pub formats : IsTrue S.tells → IsTrue T.tells → (kept : Kept) → Keeps (T.disk site).files kept
      → FromFormat (T.disk site).files kept (λ reached. LeavesOnly (T.disk site) (T.disk site_now) (FormatAfter (bare kept) reached (commands (S.left source)) (T.disk site)))
  pub cost : IsTrue S.tells → IsTrue T.tells → (kept : Kept) → Keeps (T.disk site).files kept → CostsRun T kept (commands (S.left source)) site site_now
  pub undamaged : IsTrue T.tells → (kept : Kept) → Keeps (T.disk site).files kept → IsUndamaged status
  pub complete : IsTrue S.tells → IsTrue T.tells → (kept : Kept) → Keeps (T.disk site).files kept → AreValid words → length (S.left source) ≤ most
      → ¬ (Rose (S.faults source) (S.faults source_now)) → ¬ (Rose (T.disk_faults site) (T.disk_faults site_now))
      → ¬ (Rose (T.told_faults site) (T.told_faults site_now)) → IsDoneOrMemory status
  pub short : IsTrue S.tells → IsTrue T.tells → (kept : Kept) → Keeps (T.disk site).files kept
      → FromFormat (T.disk site).files kept (λ reached. StopsShort (λ end. status ≡ end) (T.disk site_now) (bare kept) reached (S.left source) (S.left source_now) most (T.disk site).told)
  -- whatever they hold
  pub broken : IsTrue T.tells → AreValid words → (place : Place) → BreaksAt (T.disk site).files place
      → EndsUnpulled T (EndsAt place) status source source_now site site_now
  pub damaged : IsTrue S.tells → IsTrue T.tells → Gave (S.left source) (S.left source_now) 0 → EndsForBreak (T.disk site).files status
  pub replied : IsTrue S.tells → IsTrue T.tells → status ≡ Done → RepliesFromStart (commands (S.left source)) (T.disk site) (T.disk site_now)
  -- the words and the source
  pub usage : status ≡ Usage → ¬ (AreValid words)
  pub faulty : ¬ (AreValid words) → EndsUntouched (IsUsageOrMemory status) source source_now site site_now
  pub read : IsTrue S.tells → status ≡ Done → S.left source_now ≡ []
  pub limit : IsTrue S.tells → KeepsLimit (λ end. status ≡ end) most (S.left source) (S.left source_now)
  pub asked : S.ends source_now ≤ S.ends source + 1
  -- why it ended
  pub cause : StatusCause (faults (S.faults source) (T.disk_faults site) (T.told_faults site)) (faults (S.faults source_now) (T.disk_faults site_now) (T.told_faults site_now)) status
