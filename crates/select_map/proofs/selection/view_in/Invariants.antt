use Rattle.std.proofs.Common.{◌≡◌, ◌-◌, length, take, count_by}
use Rattle.std.specs.Prelude.{find}
use Rattle.std.specs.List.{range_with_len}
use Rattle.select_map.specs.Views.{has_arity, goes_into}
use Rattle.select_map.proofs.selection.view_in.Given as goal

-- no view passed goes into the tree
abbrev pub invariant-loop-view : goal.invariant-loop-view
invariant-loop-view l = record {
  number : l.number ≡ l.view-index;
  before : l.before ≡ count_by (has_arity l.arity) (take l.view-index l.views);
  none : find (goes_into l.views l.tree l.arity) (range_with_len l.view-index (length l.views - l.view-index)) ≡ find (goes_into l.views l.tree l.arity) (range_with_len 0 (length l.views));
}
