use Rattle.std.proofs.Common.{◌≡◌, length, take}
use Rattle.std.specs.List.{All}
use Rattle.delta_agg.specs.Rows.{IsUnder}
use Rattle.delta_agg.proofs.digits.tops_of.Given as goal

-- the rows passed are under the tops
abbrev pub invariant-loop-row : goal.invariant-loop-row
invariant-loop-row l = record {
  long : length l.tops.items ≡ l.attrs;
  under : All (IsUnder l.tops.items) (take l.row l.coded);
}
