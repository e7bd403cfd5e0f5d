use Rattle.std.proofs.Common.{◌≡◌, drop}
use Rattle.select_map.specs.Views.{last_from}
use Rattle.select_map.proofs.selection.last_view.Given as goal

-- the last view so far, and those to come
abbrev pub invariant-loop-arity : goal.invariant-loop-arity
invariant-loop-arity l = last_from l.last l.arity (drop l.arity l.view_of) ≡ last_from 0 0 l.view_of
