use Rattle.std.proofs.Common.{◌≡◌, ◌<◌, ◌+◌, ◌++◌, ◌∙◌, ℕ, List, [], ◌∷◌, true, length, map, take, ap, arith, subst, sym, length-append}
use Rattle.std.specs.Prelude.{slice_index}
use Rattle.std.specs.List.{All}
use Rattle.std.proofs.lemmas.Bool.{true≢false}
use Rattle.std.proofs.lemmas.List.{map-append, take_all, take_more}
use Rattle.std.proofs.lemmas.List.Elements.{All-append, All-cons, All-nil}
use Rattle.spec_points.specs.Agree.{among}
use Rattle.spec_points.specs.Answer.{coordinate}
use Rattle.spec_points.specs.Points.{padded}
use Rattle.forest_audit.proofs.Coordinates.{among-at, coordinate-at, not-among}
use Rattle.forest_audit.proofs.views.dimensions.Goals as goal

pub returns-in-None-clause-none : goal.returns-in-None-clause-none
returns-in-None-clause-none c = λ all.
    let fine = c.args.fine.now in
    let n = c.loop-place.place in
    let a = slice_index c.args.coarse.now n in
    true≢false (sym (all n 0 (omega arith)) ∙ not-among fine a c.in-None.ensures.none)

pub loop-place-preserved : goal.loop-place-preserved
loop-place-preserved c =
    let inv = c.loop-place.invariant in
    let fine = c.args.fine.now in
    let coarse = c.args.coarse.now in
    let n = c.loop-place.place in
    let a = slice_index coarse n in
    let low : n < length coarse = omega arith in
    let first = c.in-Some.ensures.first in
    let more : take (n + 1) coarse ≡ take n coarse ++ a ∷ [] = take_more coarse n 0 low in
    let items = c.in_ok-push-in-Some.ensures.items in
    record {
      many = omega (arith, ap (λ (l : List ℕ). length l) items, length-append c.loop-place.dims.items (c.in-Some.dimension ∷ []), inv.many);
      all = subst (All (λ x. among fine x ≡ true)) (sym more)
          (All-append (λ x. among fine x ≡ true) (take n coarse) (a ∷ []) inv.all (All-cons (λ x. among fine x ≡ true) a [] (among-at fine a c.in-Some.dimension first.inside first.here) (All-nil (λ x. among fine x ≡ true))));
      place = λ place long.
          ap (map (coordinate fine place)) more
          ∙ (map-append (coordinate fine place) (take n coarse) (a ∷ [])
          ∙ ((λ i. inv.place place long i ++ coordinate-at fine place a c.in-Some.dimension (omega (arith, long, c.requires.fine)) first i ∷ [])
          ∙ (sym (map-append (λ d. slice_index place d) c.loop-place.dims.items (c.in-Some.dimension ∷ [])) ∙ ap (map (λ d. slice_index place d)) (sym items))));
    }

pub returns-clause-found : goal.returns-clause-found
returns-clause-found c =
    let inv = c.loop-place.invariant in
    let coarse = c.args.coarse.now in
    let whole : take c.loop-place.place coarse ≡ coarse = take_all c.loop-place.place coarse (omega arith) in
    record {
      all = subst (All (λ x. among c.args.fine.now x ≡ true)) whole inv.all;
      are = record {
        few = omega (arith, inv.many, c.requires.coarse);
        place = λ place long. ap padded (ap (map (coordinate c.args.fine.now place)) (sym whole) ∙ inv.place place long);
      };
    }
