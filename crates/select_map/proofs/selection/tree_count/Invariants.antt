use Rattle.std.proofs.Common.{◌≡◌, map, max, count_by}
use Rattle.std.specs.Prelude.{fold}
use Rattle.std.specs.List.{range_with_len}
use Rattle.select_map.specs.Views.{has_arity}
use Rattle.select_map.proofs.selection.tree_count.Given as goal

-- the most of the arities passed
abbrev pub invariant-loop-arity : goal.invariant-loop-arity
invariant-loop-arity l = l.most ≡ fold max 0 (map (λ arity. count_by (has_arity arity) l.views) (range_with_len 0 l.arity))
