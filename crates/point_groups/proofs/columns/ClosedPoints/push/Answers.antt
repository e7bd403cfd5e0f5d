use Rattle.std.proofs.Common.{rules, ◌≡◌, ◌++◌, ◌∷◌, [], length, ap, ◌∙◌}
use Rattle.point_groups.specs.Bare.{bare}
use Rattle.point_groups.proofs.ClosedLists.{pushed}
use Rattle.point_groups.proofs.columns.ClosedPoints.push.Goals as goal

pub returns : goal.returns
returns c =
    let was = c.self.inside in
    let many : c.len-number.result ≡ length was.measures.items = search (rules, c.len-number.ensures) in
    pushed was (record { counts = c.put_number.new.numbers; measures = c.push.new.self; coordinates = c.put_numbers.new.lists; parts = c.put_parts.new.lists })
    c.len-number.result c.in_ok-put_numbers.ensures.others c.in_ok-put_number.ensures.others c.in_ok-put_parts.ensures.others
    c.args.entry.now many c.in_ok-push.ensures.items c.in_ok-put_numbers.ensures.there c.in_ok-put_number.ensures.there c.in_ok-put_parts.ensures.there
    ∙ ap (λ es. es ++ bare c.args.entry.now ∷ []) c.self.view_is
