use Rattle.std.proofs.Common.{refl, rules, ℕ, List, ◌≡◌, true, sym, ◌∙◌, subst, map, true≢false}
use Rattle.std.specs.Prelude.{OnOk, IfErr}
use Rattle.cube_point.specs.declared.point.Entry.{Entry}
use Rattle.spec_points.specs.Entries.{pair_of}
use Rattle.point_groups.specs.Folded.{AllApart}
use Rattle.point_groups.specs.Held.{AllEndInZeros, IsIndexed}
use Rattle.point_groups.specs.Kept.{StaysApart, TookIn, at_point, same_place}
use Rattle.point_groups.specs.declared.stop.RowsStop.TheVariants as stops
use Rattle.point_groups.proofs.GatheredPlaces.{all-apart, from-both}
use Rattle.point_groups.proofs.groups.Groups.gather_point.Goals as goal

-- the points are as they were, and an index has their places
now-indexed : (gs next given : List Entry) (keys : List (List ℕ)) → next ≡ gs → given ≡ next → AllApart same_place (map pair_of gs)
    → (AllApart same_place (map pair_of given) → IsIndexed given keys) → IsIndexed next keys
now-indexed gs next given keys same is apart to =
    subst (λ (l : List Entry). IsIndexed l keys) is (to (subst (λ (l : List Entry). AllApart same_place (map pair_of l)) (sym (is ∙ same)) apart))

pub returns-clause-took : goal.returns-clause-took
returns-clause-took c = λ was.
    let ascending : c.args.self.now.is_ascending ≡ true = search rules in
    let same = c.in_ok-gather_next.ensures.same c.if-branch.false in
    let indexed = now-indexed c.args.self.now.items c.gather_next.new.groups c.gather_next.new.groups c.in_ok-self-2.field-0.keys same refl
    (all-apart c.args.self.now.items (was.ascend ascending)) c.in_ok-self-2.ensures in
    let zeros : AllEndInZeros c.gather_next.new.groups = subst AllEndInZeros (sym same) was.zeros in
    subst (λ (l : List Entry). OnOk c.gather_any-2.result (TookIn l c.gather_any-2.new.groups (at_point c.args.point.now c.args.entry.now))) same (c.gather_any-2.ensures.took indexed zeros)

pub returns-clause-placed : goal.returns-clause-placed
returns-clause-placed c = λ was.
    let ascending : c.args.self.now.is_ascending ≡ true = search rules in
    let same = c.in_ok-gather_next.ensures.same c.if-branch.false in
    let indexed = now-indexed c.args.self.now.items c.gather_next.new.groups c.gather_next.new.groups c.in_ok-self-2.field-0.keys same refl
    (all-apart c.args.self.now.items (was.ascend ascending)) c.in_ok-self-2.ensures in
    let zeros : AllEndInZeros c.gather_next.new.groups = subst AllEndInZeros (sym same) was.zeros in
    from-both c.gather_any-2.result (c.gather_any-2.ensures.index indexed zeros) (c.gather_any-2.ensures.zeros zeros)
    (λ is ends. record { ascend = λ up. absurd (true≢false (sym up)); indexed = λ not. is; zeros = ends })

pub returns-clause-damaged : goal.returns-clause-damaged
returns-clause-damaged c = λ was.
    let ascending : c.args.self.now.is_ascending ≡ true = search rules in
    let same = c.in_ok-gather_next.ensures.same c.if-branch.false in
    let indexed = now-indexed c.args.self.now.items c.gather_next.new.groups c.gather_next.new.groups c.in_ok-self-2.field-0.keys same refl
    (all-apart c.args.self.now.items (was.ascend ascending)) c.in_ok-self-2.ensures in
    subst (λ (l : List Entry). IfErr c.gather_any-2.result (λ stop. stop ≡ stops.Damaged → StaysApart l (at_point c.args.point.now c.args.entry.now))) same (c.gather_any-2.ensures.damaged indexed)
