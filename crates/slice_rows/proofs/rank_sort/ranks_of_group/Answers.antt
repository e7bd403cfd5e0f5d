use Rattle.std.proofs.Common.{◌<◌, ◌++◌, ◌∷◌, ◌^◌, [], ℕ, All, length, map, arith, sym, ◌∙◌, ap, subst}
use Rattle.std.proofs.lemmas.List.{length-append, map-append, take_more}
use Rattle.std.proofs.lemmas.List.Elements.{All-push}
use Rattle.cube_point.specs.declared.point.Entry.{Entry}
use Rattle.slice_rows.specs.Ranks.{IsBelow, KeepsRanks, TellOrder}
use Rattle.slice_rows.specs.declared.value_ranks.Ranks.{Ranks}
use Rattle.slice_rows.proofs.RankKeys.{room-more}
use Rattle.slice_rows.proofs.rank_sort.ranks_of_group.Goals as goal

pub loop-attr-preserved : goal.loop-attr-preserved
loop-attr-preserved c =
    let attr : Ranks → ℕ = λ r. r.attr in
    let T : Ranks → Type 0 = λ r. TellOrder c.args.names.now c.args.view.now r c.args.points.now in
    let B : Ranks → Type 0 = λ r. All (λ (e : Entry). IsBelow c.args.names.now c.args.view.now e r) c.args.points.now in
    let one = c.in_ok-table.table in
    let old = c.loop-attr.ranks.items in
    let kept = c.loop-attr.invariant in
    let items = c.in_ok-push.ensures.items in
    record {
      long = omega (arith, ap length items, length-append old (one ∷ []), kept.long);
      attrs = ap (map attr) items
          ∙ (map-append attr old (one ∷ [])
          ∙ ((λ j. kept.attrs j ++ c.in_ok-table.ensures.attr j ∷ [])
          ∙ sym (take_more c.args.group.now c.loop-attr.attr-index 0 c.loop-attr-test.true)));
      tell = subst (All T) (sym items) (All-push T old one kept.tell c.in_ok-table.ensures.tell);
      below = subst (All B) (sym items) (All-push B old one kept.below c.in_ok-table.ensures.below);
      kept = subst (All (KeepsRanks c.args.names.now)) (sym items) (All-push (KeepsRanks c.args.names.now) old one kept.kept c.in_ok-table.ensures.kept);
      room = room-more old c.push.new.self.items one c.loop-attr.numbers c.in-Some.more items kept.room c.in-Some.ensures.1;
      fits = subst (λ (n : ℕ). n < 2 ^ 64) (sym c.in-Some.ensures.1) c.in-Some.ensures.0;
    }

pub returns-in_default-clause-room : goal.returns-in_default-clause-room
returns-in_default-clause-room c = subst (λ (n : ℕ). n < 2 ^ 64) c.loop-attr.invariant.room c.loop-attr.invariant.fits

pub returns-clause-room : goal.returns-clause-room
returns-clause-room c = subst (λ (n : ℕ). n < 2 ^ 64) c.loop-attr.invariant.room c.loop-attr.invariant.fits
