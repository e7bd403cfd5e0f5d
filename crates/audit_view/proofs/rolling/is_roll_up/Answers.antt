use Rattle.std.proofs.Common.{◌≡◌, ◌<◌, ◌+◌, ◌++◌, ◌∙◌, inl, inr, ℕ, [], ◌∷◌, List, Option, get_or, length, map, ap, sym, arith, subst, take}
use Rattle.std.proofs.lemmas.Bool.{true≢false}
use Rattle.std.proofs.lemmas.List.{get_or_default, take_all, take_more}
use Rattle.cube_point.specs.declared.point.Entry.{Entry}
use Rattle.fact_model.specs.declared.cell.Cell.{Cell}
use Rattle.audit_points.specs.Kept.{points_of}
use Rattle.spec_points.specs.Entries.{pair_of}
use Rattle.spec_points.specs.RollUp.{projected}
use Rattle.audit_view.specs.Rolling.{projected_at}
use Rattle.audit_view.specs.Totals.{AllFound, HoldsAll, IsNowhere, IsOver, IsTakenIn, StandsAt, held}
use Rattle.audit_view.proofs.Held.{complete, not-rolled, rolled-there}
use Rattle.audit_view.proofs.Order.{ascends-from}
use Rattle.audit_view.proofs.Steps.{few-facts, found-more, holds-more, over-not, some-facts}
use Rattle.audit_view.proofs.rolling.is_roll_up.Goals as goal

pub loop-index-preserved : goal.loop-index-preserved
loop-index-preserved c =
    let inv = c.loop-index.invariant in
    let cs = points_of c.args.coarse.now in
    let es = points_of c.args.fine.now in
    let n = c.loop-index.index in
    let e = c.point.result in
    let low : n < length es = omega arith in
    let taken = c.in-Some.ensures.taken in
    record {
      near = omega (arith, taken.stands.inside);
      many = taken.many ∙ inv.many;
      steady = taken.steady;
      holds = λ f v dims read.
          let place : projected_at c.args.dims.now e.point.at ≡ projected f v e.point.at = sym (dims.place e.point.at c.point.ensures.eight) in
          let at = subst (λ (p : List ℕ). IsTakenIn cs p e.cell c.loop-index.totals.items c.take_in.new.totals.items c.in-Some.found) place taken in
          let more : take n es ++ e ∷ [] ≡ take (n + 1) es = ap (λ (x : Entry). take n es ++ x ∷ []) c.point.ensures.point ∙ sym (take_more es n e low) in
          subst (λ (l : List Entry). HoldsAll (projected f v) c.args.coarse.now.shape.measures cs l c.take_in.new.totals.items) more
          (holds-more (projected f v) c.args.coarse.now.shape.measures cs (take n es) e c.loop-index.totals.items c.take_in.new.totals.items c.in-Some.found at
          (c.point.ensures.measures ∙ c.requires.measures) read.order (inv.holds f v dims read));
      found = λ f v dims.
          let place : projected_at c.args.dims.now e.point.at ≡ projected f v e.point.at = sym (dims.place e.point.at c.point.ensures.eight) in
          found-more (projected f v) c.args.coarse.now.shape.measures cs es n e low c.point.ensures.point c.in-Some.found (subst (λ (p : List ℕ). StandsAt cs p c.in-Some.found) place taken.stands) (inv.found f v dims);
    }

pub returns-in-None : goal.returns-in-None
returns-in-None c = λ f v dims fine_read read. (
  (λ is. absurd (true≢false (sym is))),
  λ rolls.
      let inv = c.loop-index.invariant in
      let cs = points_of c.args.coarse.now in
      let es = points_of c.args.fine.now in
      let n = c.loop-index.index in
      let e = c.point.result in
      let low : n < length es = omega arith in
      let key = projected f v in
      let place : projected_at c.args.dims.now e.point.at ≡ key e.point.at = sym (dims.place e.point.at c.point.ensures.eight) in
      let some : 0 < e.cell.count = omega (arith, ap (λ (x : Entry). x.cell.count) c.point.ensures.point, some-facts c.args.fine.now.shape es n e low fine_read.good) in
      elim (c.in-None.ensures.none read.order some) [
        | inl nowhere ↦ absurd (not-rolled key es cs (ascends-from cs read.order) n e low
            (subst (λ (x : Entry). IsNowhere cs (key x.point.at)) c.point.ensures.point (subst (IsNowhere cs) place nowhere)) rolls)
        | inr over ↦ absurd (over-not key c.args.coarse.now.shape.measures cs es n e low c.point.ensures.point c.loop-index.totals.items read.order (inv.holds f v dims read)
            (subst (λ (p : List ℕ). IsOver cs p e.cell c.loop-index.totals.items) place over)
            (λ i x lt. few-facts c.args.coarse.now.shape cs i x lt read.good) rolls)
      ],
)

pub returns : goal.returns
returns c = λ f v dims fine_read read.
    let inv = c.loop-index.invariant in
    let cs = points_of c.args.coarse.now in
    let es = points_of c.args.fine.now in
    let key = projected f v in
    let d : Entry = record { point = record { arity = 0; at = [] }; cell = record { count = 0; measures = 0; parts = [] } } in
    let all : take c.loop-index.index es ≡ es = take_all c.loop-index.index es (omega arith) in
    let sums : ℕ → Option Cell = λ i. held key (get_or cs i d).point.at (map pair_of es) in
    let holds = subst (λ (l : List Entry). HoldsAll key c.args.coarse.now.shape.measures cs l c.loop-index.totals.items) all (inv.holds f v dims read) in
    let found = subst (AllFound key cs) all (inv.found f v dims) in
    let told = c.are_all.ensures sums read (λ i t lt. holds i d t lt) in (
      λ is. complete key es cs (ascends-from cs read.order) found (λ i x lt. ap (λ (y : Entry). held key y.point.at (map pair_of es)) (get_or_default cs i x d lt) ∙ told.0 is i x lt),
      λ rolls. told.1 (λ i x lt. ap (λ (y : Entry). held key y.point.at (map pair_of es)) (get_or_default cs i d x lt) ∙ rolled-there key es cs (ascends-from cs read.order) rolls i x lt),
    )
