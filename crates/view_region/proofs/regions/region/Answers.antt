use Rattle.std.proofs.Common.{length, sym, ◌∙◌, ap, subst, refl}
use Rattle.std.proofs.lemmas.List.{take_all}
use Rattle.cube_point.specs.declared.bounds.Region.{Region}
use Rattle.cube_point.specs.Boxes.{IsInside}
use Rattle.spec_points.specs.Answer.{Interval, interval}
use Rattle.attr_dict.specs.Book.{shown_names}
use Rattle.view_region.specs.Regions.{clamped}
use Rattle.view_region.proofs.RegionEnds.{ends, all-ends, ends-more}
use Rattle.view_region.proofs.RegionPoints.{kept-by_definition, kept-by_search}
use Rattle.view_region.proofs.regions.region.Goals as goal

pub loop-i-preserved : goal.loop-i-preserved
loop-i-preserved c =
    let f = interval (shown_names c.args.names.now c.args.shown.now.at) c.args.conds.now in
    let view = c.args.view.now in
    let i = c.loop-i.i in
    record {
      low = ends-more (λ (j : Interval). (clamped j).0) f view c.loop-i.low i c.interval-ends.result.0 c.loop-i-test.true c.requires.arity c.loop-i.invariant.low (ap (λ (j : Interval). j.0) c.interval-ends.ensures);
      high = ends-more (λ (j : Interval). (clamped j).1) f view c.loop-i.high i c.interval-ends.result.1 c.loop-i-test.true c.requires.arity c.loop-i.invariant.high (ap (λ (j : Interval). j.1) c.interval-ends.ensures);
    }

pub returns-clause-intervals : goal.returns-clause-intervals
returns-clause-intervals c =
    let f = interval (shown_names c.args.names.now c.args.shown.now.at) c.args.conds.now in
    let view = c.args.view.now in
    let all = take_all c.loop-i.i view c.loop-i-test.false in
    let low = c.loop-i.invariant.low ∙ (ap (ends (λ (j : Interval). (clamped j).0) f) all ∙ all-ends (λ (j : Interval). (clamped j).0) f refl view) in
    let high = c.loop-i.invariant.high ∙ (ap (ends (λ (j : Interval). (clamped j).1) f) all ∙ all-ends (λ (j : Interval). (clamped j).1) f refl view) in
    λ i. record { arity = length view; bounds = record { low = low i; high = high i } }

pub returns-clause-inside : goal.returns-clause-inside
returns-clause-inside c = λ p is.
    let is_region = returns-clause-intervals c in
    let names = shown_names c.args.names.now c.args.shown.now.at in
    let conds = c.args.conds.now in
    let view = c.args.view.now in (
      λ h. kept-by_definition names conds view c.requires.arity p is (subst (λ (r : Region). IsInside p r) is_region h),
      λ h. subst (λ (r : Region). IsInside p r) (sym is_region) (kept-by_search names conds view c.requires.arity p is h),
    )
