use Rattle.std.proofs.Common.{◌≡◌, ℕ, ◌<◌, length, get_or, None}
use Rattle.select_map.specs.Views.{view_in}
use Rattle.select_map.proofs.selection.views_in.Given as goal

-- the slots passed have their views
abbrev pub invariant-loop-arity : goal.invariant-loop-arity
invariant-loop-arity l = (length l.view_of ≡ 9) × ((k : ℕ) → k < l.arity → get_or l.view_of k None ≡ view_in l.views l.tree k)
