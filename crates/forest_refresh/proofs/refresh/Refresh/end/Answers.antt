use Rattle.std.proofs.Common.{◌≡◌, ◌≢◌, ◌∙◌, ◌+◌, ◌^◌, ◌++◌, IfErr, IfOk, OnOk, length, refl, sym, ap, subst, arith}
use Rattle.site_core.specs.Disk.{DiffersPast}
use Rattle.site_core.specs.Causes.{HasCauseWhere}
use Rattle.site_core.specs.Moments.{HoldsNow, IsStable}
use Rattle.merge_pack.proofs.Spending.{calls-more}
use Rattle.spec_store.specs.Held.{IsLive}
use Rattle.forest_refresh.specs.declared.refresh.Refresh.TheInside.{Inside}
use Rattle.forest_refresh.specs.Begun.{Begun, HasMoved, IsGoing, IsNextBody, IsRefreshOf, moves_of, next_side}
use Rattle.forest_refresh.specs.Ends.{Finishes, LeavesEither}
use Rattle.forest_refresh.specs.Next.{counts_from}
use Rattle.forest_refresh.specs.Progress.{progress_of}
use Rattle.forest_refresh.specs.Refreshed.{IsNoDamage, NamesPageIn, SparesLive}
use Rattle.forest_refresh.specs.Trees.{AreAllWhole, TellsFirstDamage}
use Rattle.forest_refresh.specs.declared.stop.RefreshStop.TheVariants as stops
use Rattle.forest_refresh.proofs.Advancing.{keeps-top}
use Rattle.forest_refresh.proofs.Ends.{all-done, all-whole, may-commit, next-all, next-body, then-committed}
use Rattle.forest_refresh.proofs.Results.{at_error, at_fault, at_ok, cause_fault, cause_ok}
use Rattle.forest_refresh.proofs.Finished.{stops_then}
use Rattle.forest_refresh.proofs.Finishes.{with_counts}
use Rattle.forest_refresh.proofs.refresh.Refresh.end.Goals as goal
use Rattle.forest_refresh.proofs.refresh.Refresh.end.Goals.{in-Ok, in-Err}

abbrev seen : Inside → Begun
seen r = record { store = r.store; deltas = r.deltas; entries = r.names; next = r.next; progress = progress_of r.room }

-- ---- a move stops

pub returns-in_err-step-clause-finishes : goal.returns-in_err-step-clause-finishes
returns-in_err-step-clause-finishes g c =
    at_error (Finishes g.T.Site c.args.self.now c.args.site.now c.step.new.site) c.in_err-step.field-0.0 c.from_residual.result c.from_residual.ensures.1
    (stops_then g.T.Site c.args.self.now c.step.new.self c.args.site.now c.step.new.site (2 ^ 60) c.in_err-step.field-0.0 (omega arith) c.in_err-step.ensures.steps)

-- ---- all moves are made

pub view_counts-counts-requires : goal.view_counts-counts-requires
view_counts-counts-requires g c =
    let step = c.in_ok-step.ensures in
    let done = all-done c.args.self.now (seen c.self.inside) c.step.new.self c.self.view_is c.step.ensures.same step.goes c.in_ok-step.field-0 _ (omega arith) step.steps.moves.taken step.steps.moves.limit.1 in
    ap length c.deref.ensures.value ∙ done

pub commit-requires-clause-next : goal.commit-requires-clause-next
commit-requires-clause-next g c =
    let r = seen c.self.inside in
    let step = c.in_ok-step.ensures in
    let done = all-done c.args.self.now r c.step.new.self c.self.view_is c.step.ensures.same step.goes c.in_ok-step.field-0 _ (omega arith) step.steps.moves.taken step.steps.moves.limit.1 in
    let told = c.view_counts-counts.ensures ∙ ap (counts_from r.store.forest.schema.views) c.deref.ensures.value in
    next-all r c.self.invariant.begun done c.view_counts-counts.result told (subst IsGoing (sym c.self.view_is) step.goes)

pub returns-clause-next : goal.returns-clause-next
returns-clause-next g c =
    let r = seen c.self.inside in
    let s = c.step.new.self in
    let step = c.in_ok-step.ensures in
    let done = all-done c.args.self.now r s c.self.view_is c.step.ensures.same step.goes c.in_ok-step.field-0 _ (omega arith) step.steps.moves.taken step.steps.moves.limit.1 in
    let told = c.view_counts-counts.ensures ∙ ap (counts_from r.store.forest.schema.views) c.deref.ensures.value in
    let next = next-body r c.self.invariant.begun done c.view_counts-counts.result told (subst IsGoing (sym c.self.view_is) step.goes) c.args.self.now s.progress (c.self.view_is ∙ c.step.ensures.same) in
    elim c.match-commit.branch [
      | in-Ok w ↦ subst (λ result. IfOk result (IsNextBody c.args.self.now)) (sym w.result-is) next
      | in-Err w ↦ subst (λ result. IfOk result (IsNextBody c.args.self.now)) (sym w.result-is) tt
    ]

pub returns-clause-live : goal.returns-clause-live
returns-clause-live g c = λ t accepted batch was.
    let r = seen c.self.inside in
    let s = c.step.new.self in
    let step = c.in_ok-step.ensures in
    let mid = g.T.Site.disk c.step.new.site in
    let new = g.T.Site.disk c.commit.new.site in
    let done = all-done c.args.self.now r s c.self.view_is c.step.ensures.same step.goes c.in_ok-step.field-0 _ (omega arith) step.steps.moves.taken step.steps.moves.limit.1 in
    let told = c.view_counts-counts.ensures ∙ ap (counts_from r.store.forest.schema.views) c.deref.ensures.value in
    let both = subst (λ (b : Begun). HoldsNow (IsRefreshOf b accepted batch) mid) (sym c.self.view_is) ((c.step.ensures.steps.by_facts t accepted batch).live was) in
    let has = subst (λ (b : Begun). HasMoved b mid.files) (sym c.self.view_is) (step.ready t).moved in
    let may = may-commit r c.self.invariant.begun done c.view_counts-counts.result told accepted batch mid both has in
    elim c.match-commit.branch [
      | in-Ok w ↦ subst (λ result. IfOk result (λ next. IsLive c.args.self.now.store.forest.schema next (accepted ++ batch) new.files)) (sym w.result-is)
          (subst (λ (b : Begun). IsLive b.store.forest.schema (with_counts r.next c.view_counts-counts.result) (accepted ++ batch) new.files) (c.self.view_is ∙ c.step.ensures.same) (w.in-Ok.ensures.committed t accepted (accepted ++ batch) may))
      | in-Err w ↦ subst (λ result. IfOk result (λ next. IsLive c.args.self.now.store.forest.schema next (accepted ++ batch) new.files)) (sym w.result-is) tt
    ]

-- ---- what is done, whether the commit fails or not

pub returns-clause-finishes : goal.returns-clause-finishes
returns-clause-finishes g c =
    let old = c.args.self.now in
    let r = seen c.self.inside in
    let s = c.step.new.self in
    let step = c.in_ok-step.ensures in
    let first = g.T.Site.disk c.args.site.now in
    let mid = g.T.Site.disk c.step.new.site in
    let new = g.T.Site.disk c.commit.new.site in
    let same = c.self.view_is ∙ c.step.ensures.same in
    let done = all-done old r s c.self.view_is c.step.ensures.same step.goes c.in_ok-step.field-0 _ (omega arith) step.steps.moves.taken step.steps.moves.limit.1 in
    let told = c.view_counts-counts.ensures ∙ ap (counts_from r.store.forest.schema.views) c.deref.ensures.value in
    let calls = c.commit.ensures.calls in
    let failed : IfErr c.match-commit.result (λ stop. stop ≡ stops.Disk) = elim c.match-commit.branch [
      | in-Ok w ↦ subst (λ result. IfErr result (λ stop. stop ≡ stops.Disk)) (sym w.result-is) tt
      | in-Err w ↦ subst (λ result. IfErr result (λ stop. stop ≡ stops.Disk)) (sym w.result-is) refl
    ] in
    record {
      by_facts = λ t accepted batch. record {
        any_moment = λ was.
            let both = subst (λ (b : Begun). HoldsNow (IsRefreshOf b accepted batch) mid) (sym c.self.view_is) ((c.step.ensures.steps.by_facts t accepted batch).live was) in
            let has = subst (λ (b : Begun). HasMoved b mid.files) (sym c.self.view_is) (step.ready t).moved in
            let may = may-commit r c.self.invariant.begun done c.view_counts-counts.result told accepted batch mid both has in
            then-committed old.store.forest.body.format old.next.format old.store.forest.schema accepted (accepted ++ batch) old.store.forest.body.last old.next.last first mid new (c.step.ensures.steps.spares t).told ((c.step.ensures.steps.by_facts t accepted batch).any_moment was)
            (subst (λ (b : Begun). LeavesEither b accepted batch mid new) same (c.commit.ensures.any_moment t accepted (accepted ++ batch) may both.read.all both.read.live.fits));
        undamaged = λ adds. at_fault stops.Disk c.match-commit.result failed IsNoDamage tt;
        cost = λ adds.
            keeps-top (moves_of old accepted batch) old.progress.taken _ (g.T.Site.reads c.args.site.now) (g.T.Site.writes c.args.site.now) (g.T.Site.reads c.step.new.site) (g.T.Site.writes c.step.new.site)
            ((c.step.ensures.steps.by_facts t accepted batch).cost adds) (g.T.Site.reads c.commit.new.site, g.T.Site.writes c.commit.new.site) (omega (arith, calls.reads)) (omega (arith, calls.writes));
      };
      any_files = λ t.
          let differs = subst (λ (b : Begun). DiffersPast (next_side b.store.forest.body) 0 first.files mid.files) (sym same) (c.step.ensures.steps.spares t).files in
          let whole = subst (λ (b : Begun). AreAllWhole b.store.forest first.files b.deltas) same (all-whole r c.self.invariant.begun done first.files mid.files differs (subst (λ (b : Begun). HasMoved b mid.files) (sym c.self.view_is) (step.ready t).moved)) in
          record {
            joined = at_ok c.match-commit.result (AreAllWhole old.store.forest first.files old.deltas) whole;
            damaged = at_fault stops.Disk c.match-commit.result failed (TellsFirstDamage old.store.forest first.files old.deltas) tt;
            spared = at_fault stops.Disk c.match-commit.result failed (λ stop. stop ≢ stops.Disk → SparesLive old.store.forest.body first new) (λ no_fault. absurd (no_fault refl));
            stable = elim c.match-commit.branch [
              | in-Ok w ↦ subst (λ result. OnOk result (IsStable new)) (sym w.result-is) (w.in-Ok.ensures.stable t)
              | in-Err w ↦ subst (λ result. OnOk result (IsStable new)) (sym w.result-is) tt
            ];
            told = c.commit.ensures.told t ∙ (c.step.ensures.steps.spares t).told;
          };
      place = at_fault stops.Disk c.match-commit.result failed (NamesPageIn old.store.forest.body old.store.forest.schema) tt;
      calls = record {
        cause = elim c.match-commit.branch [
          | in-Ok w ↦ subst (λ result. HasCauseWhere stops.Disk (g.T.Site.disk_faults c.args.site.now) (g.T.Site.disk_faults c.commit.new.site) result) (sym w.result-is)
              (cause_ok stops.Disk (g.T.Site.disk_faults c.args.site.now) (g.T.Site.disk_faults c.commit.new.site) _ (w.in-Ok.ensures.calls.cause.ok ∙ step.steps.moves.calls.cause.ok))
          | in-Err w ↦ subst (λ result. HasCauseWhere stops.Disk (g.T.Site.disk_faults c.args.site.now) (g.T.Site.disk_faults c.commit.new.site) result) (sym w.result-is)
              (cause_fault stops.Disk (g.T.Site.disk_faults c.args.site.now) (g.T.Site.disk_faults c.step.new.site) (g.T.Site.disk_faults c.commit.new.site) _ step.steps.moves.calls.cause.ok w.in-Err.ensures.calls.cause)
        ];
        told_faults = calls.told_faults ∙ step.steps.moves.calls.told_faults;
        reads = omega (arith, calls.reads, step.steps.moves.calls.reads);
      };
      once = calls-more c.in_ok-step.field-0 3 (2 ^ 60 + 3) _ _ _ (omega (arith, step.steps.moves.limit.0)) step.steps.moves.once
          (record { reads = omega (arith, calls.reads); writes = omega (arith, calls.writes); both = omega (arith, calls.reads, calls.writes) });
    }
