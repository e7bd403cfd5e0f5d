-- How many reads and writes of files a run of calls may request.
use Rattle.std.specs.Prelude.{◌≤◌, ◌+◌, ℕ}
use Rattle.site_core.specs.declared.site.Site.{Ghosts}

pub record Cost : Type 0 where
  pub reads : ℕ
  pub writes : ℕ

abbrev pub free : Cost
free = record { reads = 0; writes = 0 }

-- the sum of two costs
abbrev pub both : Cost → Cost → Cost
both one other = record { reads = one.reads + other.reads; writes = one.writes + other.writes }

-- no more reads and writes were requested
pub record Spends {S : Type 0} (T : Ghosts S) (cost : Cost) (old new : S) : Type 0 where
  pub reads : T.reads new ≤ T.reads old + cost.reads
  pub writes : T.writes new ≤ T.writes old + cost.writes
