use Rattle.std.proofs.Common.{◌≡◌, ◌≢◌, ◌<◌, ◌%◌, ℕ, ap, arith, length, refl, subst, sym}
use Rattle.forest_root.proofs.Kept.{shut_keeps}
use Rattle.spec_store.specs.Held.{held}
use Rattle.forest_root.specs.Root.{ClosesGate, IsShut}
use Rattle.spec_store.proofs.Standing.{all_stable, live_now}
use Rattle.forest_refresh.proofs.Committed.{live_facts, other_slot}
use Rattle.forest_refresh.proofs.refresh.shut_gate.Goals as goal

pub begin-requires-clause-root : goal.begin-requires-clause-root
begin-requires-clause-root g c = λ t. (c.requires.opened t).stable

pub returns-in-Ok : goal.returns-in-Ok
returns-in-Ok g c =
    let schema = c.args.store.forest.schema in
    let live = c.args.store.forest.body in
    let old = g.T.Site.disk c.args.site.now in
    let new = g.T.Site.disk c.begin.new.site in
    let low : c.slot.result < 2 = omega (arith, c.slot.ensures) in
    let others : (slot : ℕ) → live.generation % 2 ≡ slot → slot ≢ c.slot.result =
    λ slot side. subst (λ k. slot ≢ k) (sym c.slot.ensures) (other_slot live c.args.prepared.next c.args.prepared.names c.requires.begun.next slot side) in
    record {
      by_facts = λ t accepted. record {
        live = λ is. record {
          slot = is.slot;
          fits = is.fits;
          at = shut_keeps (held live.format schema accepted live.last) is.slot c.slot.result live _ _ low (others is.slot is.at.decodes.1.within.side) is.at (c.in-Ok.ensures.disk t).files;
        };
        any_moment = λ now.
            let is = now.read in
            live_facts schema accepted live.last is.slot live _ _ is.fits
            (c.begin.ensures.any_moment t (held live.format schema accepted live.last) is.slot live (others is.slot is.at.decodes.1.within.side) (live_now schema live accepted _ now));
      };
      any_files = λ t.
          let range = (c.in-Ok.ensures.disk t).files.range in
          let root = (c.requires.opened t).root in
          record {
            ready = record {
              opened = record {
                stable = all_stable new (c.in-Ok.ensures.stable t);
                root = record { gate = omega (arith, root.gate, range.no_shorter); names = omega (arith, root.names, ap length (range.others 1 (λ e. omega (arith, e)))) };
              };
              shut = subst (λ (k : ℕ). IsShut k (new.files 0)) c.slot.ensures (c.in-Ok.ensures.shut t);
              moved = c.requires.moved new.files;
            };
            stable = c.in-Ok.ensures.stable t;
            closes = subst (λ (k : ℕ). ClosesGate k old.files new.files) c.slot.ensures (c.in-Ok.ensures.disk t).files;
            told = (c.in-Ok.ensures.disk t).told;
          };
      begun = refl;
      back = tt;
      why = tt;
      calls = record {
        cause = record { later = c.in-Ok.ensures.calls.cause.later; once = c.in-Ok.ensures.calls.cause.once; failed = tt; ok = c.in-Ok.ensures.calls.cause.ok };
        told_faults = c.in-Ok.ensures.calls.told_faults;
        reads = c.in-Ok.ensures.calls.reads;
        writes = c.in-Ok.ensures.calls.writes;
      };
    }

pub returns-in-Err : goal.returns-in-Err
returns-in-Err g c =
    let schema = c.args.store.forest.schema in
    let live = c.args.store.forest.body in
    record {
      by_facts = λ t accepted. record {
        live = λ is. tt;
        any_moment = λ now.
            let is = now.read in
            let other : is.slot ≢ c.slot.result = subst (λ k. is.slot ≢ k) (sym c.slot.ensures) (other_slot live c.args.prepared.next c.args.prepared.names c.requires.begun.next is.slot is.at.decodes.1.within.side) in
            live_facts schema accepted live.last is.slot live _ _ is.fits (c.begin.ensures.any_moment t (held live.format schema accepted live.last) is.slot live other (live_now schema live accepted _ now));
      };
      any_files = λ t. record { ready = tt; stable = tt; closes = tt; told = (c.in-Err.ensures.disk t).told };
      begun = tt;
      back = c.without_batch.ensures.cut;
      why = refl;
      calls = record {
        cause = record { later = c.in-Err.ensures.calls.cause.later; once = c.in-Err.ensures.calls.cause.once; failed = c.in-Err.ensures.calls.cause.failed; ok = tt };
        told_faults = c.in-Err.ensures.calls.told_faults;
        reads = c.in-Err.ensures.calls.reads;
        writes = c.in-Err.ensures.calls.writes;
      };
    }
