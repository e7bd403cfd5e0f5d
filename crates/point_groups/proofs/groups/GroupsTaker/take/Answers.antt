use Rattle.std.proofs.Common.{rules, ◌≡◌, true, false, refl, ◌∙◌}
use Rattle.point_groups.specs.Kept.{kept_entry}
use Rattle.point_groups.proofs.FoldSteps.{given-apart, given-broken, given-joined}
use Rattle.point_groups.proofs.KeptGroups.{given-kept}
use Rattle.point_groups.proofs.groups.GroupsTaker.take.Goals as goal

pub returns-then-not-self : goal.returns-then-not-self
returns-then-not-self c = λ start es was.
    let broken : c.args.self.now.is_sound ≡ false = search rules in
    given-broken start c.args.self.now c.args.self.now es c.args.entry.now c.args.entry.now was broken refl

pub returns-in-Ok : goal.returns-in-Ok
returns-in-Ok c = λ start es was.
    let old = c.args.self.now in
    let e = c.args.entry.now in
    let sound : old.is_sound ≡ true = search rules in
    let placed = (was.sound sound).placed in
    let kept = given-kept start old es was sound in
    given-joined start old c.gather.new.self es e (kept_entry old.dims e) was sound (c.in-Ok.ensures.still ∙ sound) c.in-Ok.ensures.dims refl
    (c.in-Ok.ensures.took placed kept) (c.in-Ok.ensures.placed placed kept)

pub returns-in-Err-Damaged : goal.returns-in-Err-Damaged
returns-in-Err-Damaged c = λ start es was.
    let old = c.args.self.now in
    let e = c.args.entry.now in
    let sound : old.is_sound ≡ true = search rules in
    given-apart start old _ es e (kept_entry old.dims e) was sound refl c.in-Err-Damaged.ensures.dims refl
    (c.in-Err-Damaged.ensures.damaged (was.sound sound).placed (given-kept start old es was sound) c.in-Err-Damaged.field-0-is)
