use Rattle.std.proofs.Common.{◌<◌, ◌++◌, ◌∷◌, [], All, List, length, map, sym, ◌∙◌, ap, subst, arith}
use Rattle.std.proofs.lemmas.List.{map-append, take_all, take_more}
use Rattle.std.proofs.lemmas.List.Elements.{All-push}
use Rattle.cube_point.specs.declared.point.Entry.{Entry}
use Rattle.point_groups.specs.Bare.{nowhere}
use Rattle.slice_rows.specs.Keys.{IsRanked, entry_in}
use Rattle.slice_rows.specs.declared.rank_sort.Ranked.{Ranked}
use Rattle.slice_rows.proofs.rank_sort.ranked_points.Goals as goal

pub rank_of-requires-clause-below : goal.rank_of-requires-clause-below
rank_of-requires-clause-below c = λ k d low. c.requires.below k d low c.loop-number.number nowhere (omega (arith, c.loop-number-test.true, c.len-number-end.ensures))

pub loop-number-preserved : goal.loop-number-preserved
loop-number-preserved c =
    let es = c.args.points.now in
    let i = c.loop-number.number in
    let old = c.loop-number.ranked.items in
    let items = c.in_ok-push.ensures.items in
    let P : Ranked → Type 0 = IsRanked c.args.names.now c.args.view.now c.args.ranks.now es in
    let one : Ranked = record { rank = c.rank_of.result; number = i } in
    let low : i < length es = omega (arith, c.loop-number-test.true, c.len-number-end.ensures) in
    record {
      points = ap (map (entry_in es)) items
          ∙ (map-append (entry_in es) old (one ∷ [])
          ∙ (ap (λ (l : List Entry). l ++ entry_in es one ∷ []) c.loop-number.invariant.points ∙ sym (take_more es i nowhere low)));
      ranks = subst (All P) (sym items) (All-push P old one c.loop-number.invariant.ranks (record { low = low; rank = c.rank_of.ensures }));
    }

pub returns-clause-points : goal.returns-clause-points
returns-clause-points c = c.loop-number.invariant.points ∙ take_all c.loop-number.number c.args.points.now (omega (arith, c.loop-number-test.false, c.len-number-end.ensures))
