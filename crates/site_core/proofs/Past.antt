-- What differs from a place of one file on.
use Rattle.std.proofs.Common.{◌≡◌, ◌≤◌, ℕ, ◌∙◌, arith}
use Rattle.site_core.specs.Disk.{DiffersPast, Files, Torn}

-- a torn write further on does
pub torn-past : (file from at n end : ℕ) (x y : Files) → from ≤ at → Torn file at n end x y → DiffersPast file from x y
torn-past file from at n end x y low torn = record {
  others = torn.others;
  no_shorter = torn.bytes.no_shorter;
  before = λ i inside under. torn.bytes.before i inside (omega (arith, under, low));
}

-- and so do two such changes, one after the other
pub past-then : (file from : ℕ) (x y z : Files) → DiffersPast file from x y → DiffersPast file from y z → DiffersPast file from x z
past-then file from x y z first second = record {
  others = λ g not. second.others g not ∙ first.others g not;
  no_shorter = omega (arith, first.no_shorter, second.no_shorter);
  before = λ i inside under. second.before i (omega (arith, inside, first.no_shorter)) under ∙ first.before i inside under;
}
