-- What calls spend one after another.
use Rattle.std.proofs.Common.{◌≡◌, ◌≤◌, ap, arith}
use Rattle.site_core.specs.declared.site.Site.{Ghosts}
use Rattle.cube_state.specs.Costs.{Cost, Spends, both}

module _ {S : Type 0} (T : Ghosts S) where
  -- no call spends nothing
  pub spends_none : (cost : Cost) (old new : S) → new ≡ old → Spends T cost old new
  spends_none cost old new same = record { reads = omega (arith, ap T.reads same); writes = omega (arith, ap T.writes same) }

  pub spends_then : (one other : Cost) (old mid new : S) → Spends T one old mid → Spends T other mid new → Spends T (both one other) old new
  spends_then one other old mid new first then = record { reads = omega (arith, first.reads, then.reads); writes = omega (arith, first.writes, then.writes) }

  -- what is within a cost is within a greater one
  pub spends_more : (one other : Cost) (old new : S) → one.reads ≤ other.reads → one.writes ≤ other.writes → Spends T one old new → Spends T other old new
  spends_more one other old new reads writes is = record { reads = omega (arith, is.reads, reads); writes = omega (arith, is.writes, writes) }
