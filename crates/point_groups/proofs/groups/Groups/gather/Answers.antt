use Rattle.std.proofs.Common.{refl, arith, ◌<◌, ◌-◌, length, sym, ◌∙◌, subst, true≢false}
use Rattle.cube_point.specs.Points.{point_cmp}
use Rattle.row_fold.specs.Ascends.{Ascends}
use Rattle.point_groups.specs.Kept.{kept_entry}
use Rattle.point_groups.proofs.GatheredPlaces.{all-apart, ascends-at, from-both}
use Rattle.point_groups.proofs.KeptGroups.{last-here}
use Rattle.point_groups.proofs.groups.Groups.gather.Goals as goal

pub overflow_sub-last : goal.overflow_sub-last
overflow_sub-last c =
    let told = (c.is_at_last.ensures (kept_entry c.args.self.now.dims c.args.entry.now)).0 c.if-is_at_last.true in
    omega (arith, told.0, c.len-last.ensures)

pub join_at-requires : goal.join_at-requires
join_at-requires c =
    let told = (c.is_at_last.ensures (kept_entry c.args.self.now.dims c.args.entry.now)).0 c.if-is_at_last.true in
    omega (arith, told.0, c.len-last.ensures)

pub returns-then-is_at_last-clause-took : goal.returns-then-is_at_last-clause-took
returns-then-is_at_last-clause-took c = λ was are.
    let gs = c.args.self.now.items in
    let k = kept_entry c.args.self.now.dims c.args.entry.now in
    let many = c.len-last.ensures in
    let here = last-here c.args.self.now.dims gs gs c.len-last.result c.args.entry.now many refl are
    ((c.is_at_last.ensures k).0 c.if-is_at_last.true) in
    c.join_at.ensures.took k.point here (all-apart gs (was.ascend c.if-self.true)) was.zeros

pub returns-then-is_at_last-clause-placed : goal.returns-then-is_at_last-clause-placed
returns-then-is_at_last-clause-placed c = λ was are.
    let gs = c.args.self.now.items in
    let k = kept_entry c.args.self.now.dims c.args.entry.now in
    let many = c.len-last.ensures in
    let told = (c.is_at_last.ensures k).0 c.if-is_at_last.true in
    let here = last-here c.args.self.now.dims gs gs c.len-last.result c.args.entry.now many refl are told in
    let low : c.len-last.result - 1 < length gs = omega (arith, many, told.0) in
    from-both c.join_at.result (returns-then-is_at_last-clause-took c was are) (c.join_at.ensures.zeros was.zeros)
    (λ took zeros. record {
      ascend = λ up. subst (Ascends point_cmp) (sym took.items) (ascends-at gs k (c.len-last.result - 1) low here (was.ascend up));
      indexed = λ not. absurd (true≢false (sym c.if-self.true ∙ not));
      zeros = zeros;
    })

pub returns-then-is_at_last-clause-damaged : goal.returns-then-is_at_last-clause-damaged
returns-then-is_at_last-clause-damaged c = λ was are.
    let gs = c.args.self.now.items in
    let k = kept_entry c.args.self.now.dims c.args.entry.now in
    let many = c.len-last.ensures in
    let here = last-here c.args.self.now.dims gs gs c.len-last.result c.args.entry.now many refl are
    ((c.is_at_last.ensures k).0 c.if-is_at_last.true) in
    c.join_at.ensures.apart k.point here
