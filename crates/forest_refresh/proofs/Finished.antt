-- The end of a refresh: the same with another answer, and a move that stops.
use Rattle.std.proofs.Common.{ℕ, ◌+◌, ◌^◌, ◌≤◌, ◌++◌, Ok, Err, arith, refl}
use Rattle.site_core.specs.declared.site.Site.{Ghosts}
use Rattle.merge_pack.proofs.Spending.{calls-more}
use Rattle.forest_refresh.specs.Begun.{Begun, moves_of}
use Rattle.forest_refresh.specs.Ends.{Finishes}
use Rattle.forest_refresh.specs.Steps.{Steps}
use Rattle.forest_refresh.specs.declared.stop.RefreshStop.{RefreshStop}
use Rattle.forest_refresh.specs.declared.stop.RefreshStop.TheVariants as stops
use Rattle.forest_refresh.proofs.Advancing.{keeps-top}
use Rattle.forest_refresh.proofs.Ends.{moved-either}
use Rattle.forest_refresh.proofs.Ready.{cause_again}
use Rattle.forest_refresh.proofs.Results.{cause_ok}

module _ {S A B : Type 0} (T : Ghosts S) (refresh : Begun) (old new : S) where
  pub finishes_with : (x : A) (y : B) → Finishes T refresh old new (Ok x) → Finishes T refresh old new (Ok y)
  finishes_with x y is = record {
    by_facts = λ t accepted batch. (let of = is.by_facts t accepted batch in record { any_moment = of.any_moment; undamaged = λ adds. tt; cost = of.cost });
    any_files = λ t. (let over = is.any_files t in record { joined = over.joined; damaged = tt; spared = tt; stable = over.stable; told = over.told });
    place = tt;
    calls = record { cause = cause_ok stops.Disk (T.disk_faults old) (T.disk_faults new) y is.calls.cause.ok; told_faults = is.calls.told_faults; reads = is.calls.reads };
    once = is.once;
  }

  pub finishes_not : (stop : RefreshStop) → Finishes {A = A} T refresh old new (Err stop) → Finishes {A = B} T refresh old new (Err stop)
  finishes_not stop is = record {
    by_facts = λ t accepted batch. (let of = is.by_facts t accepted batch in record { any_moment = of.any_moment; undamaged = of.undamaged; cost = of.cost });
    any_files = λ t. (let over = is.any_files t in record { joined = tt; damaged = over.damaged; spared = over.spared; stable = tt; told = over.told });
    place = is.place;
    calls = record {
      cause = cause_again stops.Disk (T.disk_faults old) (T.disk_faults new) stop (Err stop) is.calls.cause refl;
      told_faults = is.calls.told_faults;
      reads = is.calls.reads;
    };
    once = is.once;
  }

-- a move stopped
pub stops_then : {S A : Type 0} (T : Ghosts S) (refresh now : Begun) (old new : S) (most : ℕ) (stop : RefreshStop) → most ≤ 2 ^ 60 → Steps T refresh now most old new (Err stop) → Finishes {A = A} T refresh old new (Err stop)
stops_then T refresh now old new most stop few is = record {
  by_facts = λ t accepted batch. (let of = is.by_facts t accepted batch in record {
    any_moment = λ adds. moved-either refresh.store.forest.body.format refresh.next.format refresh.store.forest.schema accepted (accepted ++ batch) refresh.store.forest.body.last refresh.next.last
        (T.disk old) (T.disk new) (of.any_moment adds);
    undamaged = of.undamaged;
    cost = λ adds.
        keeps-top (moves_of refresh accepted batch) refresh.progress.taken (refresh.progress.taken + most) (T.reads old) (T.writes old) (T.reads new) (T.writes new) (of.cost adds) (T.reads new, T.writes new) (omega arith) (omega arith);
  });
  any_files = λ t. record { joined = tt; damaged = is.moves.damaged t; spared = λ no_fault. is.spares t; stable = tt; told = (is.spares t).told };
  place = is.moves.place;
  calls = record {
    cause = cause_again stops.Disk (T.disk_faults old) (T.disk_faults new) stop (Err stop) is.moves.calls.cause refl;
    told_faults = is.moves.calls.told_faults;
    reads = is.moves.calls.reads;
  };
  once = calls-more most 0 (2 ^ 60 + 3) _ _ _ (omega (arith, few)) is.moves.once (record { reads = omega arith; writes = omega arith; both = omega arith });
}
