-- An audit by a session, up to its reply.
use Rattle.std.specs.Prelude.{◌≡◌, IsTrue, IfErr, IfOk}
use Rattle.forest_audit.specs.Cost.{CostsAudit}
use Rattle.site_core.specs.Calls.{Settles, Stays}
use Rattle.site_core.specs.declared.site.Site.{Ghosts}
use Rattle.cube_state.specs.Audits.{AuditGives}
use Rattle.cube_state.specs.Carried.{Reply}
use Rattle.cube_state.specs.Frames.{IsQuiet}
use Rattle.cube_state.specs.Stops.{IsNoDamage}

-- the files were audited, whatever they hold, and this is the line of their verdict, or a call failed or memory ran out
pub record Audits {S : Type 0} (T : Ghosts S) (old new : S) (result : Reply) : Type 0 where
  pub gives : IsTrue T.tells → IfOk result (λ reply. AuditGives (T.disk old).files reply.items)
  pub undamaged : IfErr result IsNoDamage
  -- nothing is changed, unless a sync fails
  pub disk : IsTrue T.tells → Settles Stays (T.disk old) (T.disk new) result
  pub cost : IsTrue T.tells → CostsAudit (T.disk old).files (T.reads old) (T.reads new)
  pub writes : T.writes new ≡ T.writes old
  pub quiet : IsQuiet T old new result
