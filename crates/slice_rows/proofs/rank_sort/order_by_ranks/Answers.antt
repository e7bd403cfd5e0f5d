use Rattle.std.proofs.Common.{◌≡◌, ◌<◌, ℕ, List, All, IsTrue, drop, length, map, take, sym, ◌∙◌, ap, subst, ◌↔◌}
use Rattle.std.proofs.lemmas.List.Elements.{All-drop}
use Rattle.cube_point.specs.declared.point.Entry.{Entry}
use Rattle.slice_rows.specs.Keys.{RanksAscend, number_in}
use Rattle.slice_rows.specs.Ranks.{IsBelow, TellOrder}
use Rattle.slice_rows.specs.declared.rank_sort.Ranked.{Ranked}
use Rattle.slice_rows.specs.declared.value_ranks.Ranks.{Ranks}
use Rattle.slice_rows.proofs.RankedPoints.{attrs-declared, ranked-order}
use Rattle.slice_rows.proofs.rank_sort.order_by_ranks.Goals as goal

rest-declared : (n : ℕ) (rest : List ℕ) (k : ℕ) (group : List ℕ) → rest ≡ drop k group → All (λ a. a < n) group → All (λ a. a < n) rest
rest-declared n rest k group is declared = subst (All (λ a. a < n)) (sym is) (All-drop (λ a. a < n) k group declared)

pub ranked_points-requires-clause-declared : goal.ranked_points-requires-clause-declared
ranked_points-requires-clause-declared c = attrs-declared (length c.args.names.now.kinds) c.deref.result.now c.args.group.now
    (subst (λ (rs : List Ranks). map (λ (r : Ranks). r.attr) rs ≡ take (length rs) c.args.group.now) (sym c.deref.ensures.value) c.in_ok-ranks.ensures.attrs) c.requires

pub sort_ranked-requires : goal.sort_ranked-requires
sort_ranked-requires c = rest-declared (length c.args.names.now.kinds) c.split_at.result.1.now c.len.result c.args.group.now c.split_at.ensures.back c.requires

pub do_ranked_ascend-requires : goal.do_ranked_ascend-requires
do_ranked_ascend-requires c = rest-declared (length c.args.names.now.kinds) c.split_at.result.1.now c.len.result c.args.group.now c.split_at.ensures.back c.requires

pub returns : goal.returns
returns c =
    let b = c.args.names.now in
    let view = c.args.view.now in
    let group = c.args.group.now in
    let points = c.args.points.now in
    let rest = c.split_at.result.1.now in
    let tables = c.deref.ensures.value in
    ranked-order {rest = rest} (record {
      attrs = subst (λ (rs : List Ranks). map (λ (r : Ranks). r.attr) rs ≡ take (length rs) group) (sym tables) c.in_ok-ranks.ensures.attrs;
      others = c.split_at.ensures.back ∙ ap (λ (n : ℕ). drop n group) (c.len.ensures ∙ sym c.deref.ensures.len);
      tell = subst (All (λ (r : Ranks). TellOrder b view r points)) (sym tables) c.in_ok-ranks.ensures.tell;
      below = subst (All (λ (r : Ranks). All (λ (e : Entry). IsBelow b view e r) points)) (sym tables) c.in_ok-ranks.ensures.below;
      points = c.in_ok-ranked.ensures.points;
      ranks = c.in_ok-ranked.ensures.ranks;
      moved = c.in_ok-sort_ranked.ensures.moved;
    }) _ (c.in_ok-numbers_of.ensures ∙ ap (map number_in) c.deref-2.ensures.value) c.in_ok-sort_ranked.ensures.sorted c.in_ok-sort_ranked.ensures.stable
    (subst (λ (rs : List Ranked). IsTrue c.do_ranked_ascend.result ↔ RanksAscend b view rest points rs) c.deref-3.ensures.value c.do_ranked_ascend.ensures)
