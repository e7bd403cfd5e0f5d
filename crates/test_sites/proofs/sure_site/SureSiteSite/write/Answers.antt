use Rattle.test_sites.proofs.Changing.{Writes-put, Writes-unput}
use Rattle.test_sites.proofs.sure_site.SureSiteSite.write.Goals as goal

pub returns-in-Ok-clause-disk : goal.returns-in-Ok-clause-disk
returns-in-Ok-clause-disk c = Writes-put _ _ _ _ _ _ _ _ c.in-Ok.ensures.ok

pub returns-in-Err-clause-disk : goal.returns-in-Err-clause-disk
returns-in-Err-clause-disk c = Writes-unput _ _ _ _ _ _ _ _ c.in-Err.ensures.err
