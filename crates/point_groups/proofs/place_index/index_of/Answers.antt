use Rattle.std.proofs.Common.{arith, ◌∷◌, ◌++◌, ◌+◌, [], List, ℕ, cond, false, ◌≡◌, ◌<◌, length, get_or, take, sym, ◌∙◌, ap, map, nat_eq}
use Rattle.std.specs.Cmp.Lexicographic.{pointwise}
use Rattle.std.specs.List.{list_any}
use Rattle.std.proofs.lemmas.List.{map_more}
use Rattle.cube_point.specs.declared.point.Entry.{Entry}
use Rattle.cube_point.specs.declared.point.Point.{Point}
use Rattle.point_groups.specs.Bare.{nowhere}
use Rattle.point_groups.specs.Kept.{place_of}
use Rattle.point_groups.proofs.IndexedPlaces.{none-before}
use Rattle.point_groups.proofs.place_index.index_of.Goals as goal

-- the place of the next point goes behind those of the points passed
next : (gs : List Entry) (i : ℕ) (d : Entry) (before now : List (List ℕ)) (key : List ℕ) → i < length gs → before ≡ map place_of (take i gs) → key ≡ (get_or gs i d).point.at
    → now ≡ cond (list_any (pointwise nat_eq key) before) before (before ++ key ∷ []) → list_any (pointwise nat_eq (get_or gs i d).point.at) (map place_of (take i gs)) ≡ false
    → now ≡ map place_of (take (i + 1) gs)
next gs i d before now key low so_far is to none =
    to
    ∙ ((λ j. cond (list_any (pointwise nat_eq (is j)) (so_far j)) (so_far j) (so_far j ++ is j ∷ []))
    ∙ (ap (λ b. cond b (map place_of (take i gs)) (map place_of (take i gs) ++ (get_or gs i d).point.at ∷ [])) none
    ∙ sym (map_more place_of gs i d low)))

pub loop-number-preserved : goal.loop-number-preserved
loop-number-preserved c = λ apart.
    let gs = c.args.groups.now in
    let i = c.loop-number.number in
    let low : i < length gs = omega (arith, c.loop-number-test.true, c.len-number-end.ensures) in
    next gs i nowhere c.loop-number.index.keys c.insert.new.self.keys _ low (c.loop-number.invariant apart) (ap (λ (p : Point). p.at) c.point.ensures) c.in_ok-insert.ensures.keys
    (none-before gs i nowhere low apart)
