use Rattle.forest_audit.proofs.Apart.{one-verdict}
use Rattle.forest_audit.proofs.Costs.{audit-costs}
use Rattle.forest_audit.proofs.Results.{ok-one}
use Rattle.forest_audit.proofs.States.{state-answered}
use Rattle.forest_audit.proofs.files.audit.Goals as goal

pub returns-clause-exact : goal.returns-clause-exact
returns-clause-exact g c = λ tells verdict is.
    ok-one c.audit_files.result (c.audit_files.ensures.verdict tells) (λ found told. one-verdict (g.T.Site.disk c.args.site.now).files found verdict told is)

pub returns-clause-states : goal.returns-clause-states
returns-clause-states g c = λ tells.
    ok-one c.audit_files.result (c.audit_files.ensures.verdict tells) (λ found told. state-answered (g.T.Site.disk c.args.site.now).files found told)

pub returns-clause-cost : goal.returns-clause-cost
returns-clause-cost g c = λ tells.
    audit-costs (g.T.Site.disk c.args.site.now).files _ _ (c.audit_files.ensures.reads tells)
