use Rattle.std.proofs.Common.{rules, ◌∙◌, inl, Some, IfOk, arith, subst, sym}
use Rattle.site_core.specs.Calls.{Stays}
use Rattle.site_core.specs.Disk.{Files}
use Rattle.site_core.proofs.Run.{Changes-settles, Rests-then, Settles-ok}
use Rattle.forest_open.specs.Breaks.{BreaksAt, TellsBreak}
use Rattle.forest_open.specs.Judging.{IsFound}
use Rattle.forest_audit.specs.Verdicts.{IsStoreVerdict}
use Rattle.forest_audit.proofs.Naming.{opened-verdict}
use Rattle.forest_audit.proofs.Places.{all-few}
use Rattle.forest_audit.proofs.Results.{ok-one}
use Rattle.forest_audit.proofs.files.audit_files.Goals as goal

pub returns-in-Ok-Some-clause-verdict : goal.returns-in-Ok-Some-clause-verdict
returns-in-Ok-Some-clause-verdict g c = λ tells.
    let store = c.in-Ok-Some.store in
    let files = (g.T.Site.disk c.args.site.now).files in
    let same = (Settles-ok Stays _ _ _ (c.in-Ok-Some.ensures.disk tells)).files in
    let found : IsFound files (Some store) = subst (IsFound files) c.in-Ok-Some.field-0-is (c.in-Ok-Some.ensures.found tells) in
    ok-one c.audit_store.result (subst (λ (f : Files). IfOk c.audit_store.result (IsStoreVerdict f store.forest.body store.forest.schema store.dicts)) same (c.audit_store.ensures.verdict tells))
    (λ verdict is. opened-verdict files store verdict found is)

pub returns-in-Ok-Some-clause-disk : goal.returns-in-Ok-Some-clause-disk
returns-in-Ok-Some-clause-disk g c = λ tells.
    Changes-settles Stays _ _ c.audit_store.result (Rests-then _ _ _ (Settles-ok Stays _ _ _ (c.in-Ok-Some.ensures.disk tells)) (c.audit_store.ensures.looks.disk tells))

pub returns-in-Ok-Some-clause-calls : goal.returns-in-Ok-Some-clause-calls
returns-in-Ok-Some-clause-calls g c =
    let forest = c.in-Ok-Some.store.forest in
    let calls = c.in-Ok-Some.ensures.calls in
    let looks = c.audit_store.ensures.looks in
    record {
      cause = search rules;
      told_faults = looks.told_faults ∙ calls.told_faults;
      reads = omega (arith, looks.reads, calls.reads, all-few forest.body forest.schema forest.lawful forest.within);
      writes = omega (arith, looks.writes, calls.writes);
    }

pub returns-in-Err-Damaged-clause-verdict : goal.returns-in-Err-Damaged-clause-verdict
returns-in-Err-Damaged-clause-verdict g c = λ tells.
    let files = (g.T.Site.disk c.args.site.now).files in
    let broken : BreaksAt files (c.in-Err-Damaged.file, c.in-Err-Damaged.offset) = subst (TellsBreak files) c.in-Err-Damaged.field-0-is (c.in-Err-Damaged.ensures.damaged tells) in
    inl (subst (BreaksAt files) (λ i. (sym c.in-Err-Damaged.file-is i, sym c.in-Err-Damaged.offset-is i)) broken)

pub returns-in-Ok-Some-clause-reads : goal.returns-in-Ok-Some-clause-reads
returns-in-Ok-Some-clause-reads g c = λ tells names trees few.
    let store = c.in-Ok-Some.store in
    let files = (g.T.Site.disk c.args.site.now).files in
    let found : IsFound files (Some store) = subst (IsFound files) c.in-Ok-Some.field-0-is (c.in-Ok-Some.ensures.found tells) in
    omega (
      arith,
      c.in-Ok-Some.ensures.live_reads tells names few.names_few,
      few.trees_few store.forest.body store.forest.schema store.dicts (record { live = found.0; opened = found.1 }),
      c.audit_store.ensures.looks.reads,
    )
