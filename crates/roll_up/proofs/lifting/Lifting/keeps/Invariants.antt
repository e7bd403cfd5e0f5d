use Rattle.std.proofs.Common.{◌≡◌, true, filter, map, take}
use Rattle.std.specs.List.{list_all}
use Rattle.fact_model.specs.Slice.{attr_of}
use Rattle.row_fold.specs.Lent.{value_of}
use Rattle.roll_up.specs.Bases.{is_on_level}
use Rattle.roll_up.specs.Lifted.{is_met, value_in}
use Rattle.roll_up.proofs.lifting.Lifting.keeps.Given as goal

-- the conditions passed are met
abbrev pub invariant-loop-cond : goal.invariant-loop-cond
invariant-loop-cond l = list_all (λ c. is_met c (value_in l.self.arity l.self.levels.now l.self.slice.now (map value_of l.key) (attr_of c))) (filter (is_on_level l.self.arity) (take l.cond-index l.self.slice.now.conds)) ≡ true
