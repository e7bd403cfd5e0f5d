use Rattle.std.proofs.Common.{rules, ◌≡◌, true, false}
use Rattle.point_groups.proofs.GivenPoints.{broken-apart, given-gather, given-items}
use Rattle.point_groups.proofs.groups.Groups.points.Goals as goal

pub returns-then-not-self-clause-apart : goal.returns-then-not-self-clause-apart
returns-then-not-self-clause-apart c = λ start group view es of was.
    let broken : c.args.self.is_sound ≡ false = search rules in
    broken-apart group view start c.args.self es of was broken

pub returns-clause-gathered : goal.returns-clause-gathered
returns-clause-gathered c = λ start group view es of was.
    let sound : c.args.self.is_sound ≡ true = search rules in
    given-items group view start c.args.self es of was sound

pub returns-clause-join : goal.returns-clause-join
returns-clause-join c = λ start group view es of was.
    let sound : c.args.self.is_sound ≡ true = search rules in
    given-gather group view start c.args.self es of was sound
