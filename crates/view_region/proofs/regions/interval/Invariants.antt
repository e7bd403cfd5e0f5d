use Rattle.std.proofs.Common.{◌≡◌, drop}
use Rattle.spec_points.specs.Answer.{interval}
use Rattle.attr_dict.specs.Book.{shown_names}
use Rattle.view_region.proofs.regions.interval.Given as goal

-- the conditions passed are on other attributes
abbrev pub invariant-loop-cond : goal.invariant-loop-cond
invariant-loop-cond l = interval (shown_names l.names l.shown.at) (drop l.cond-index l.conds) l.attr ≡ interval (shown_names l.names l.shown.at) l.conds l.attr
