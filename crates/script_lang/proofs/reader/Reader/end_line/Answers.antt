use Rattle.std.proofs.Common.{◌∙◌, ap, List, ℕ, [], sym}
use Rattle.script_lang.specs.Said.{said_by}
use Rattle.script_lang.specs.Place.{Place, place_in}
use Rattle.script_lang.specs.Script.{after_line}
use Rattle.script_lang.proofs.SaidLines.{said_command, said_place}
use Rattle.script_lang.proofs.reader.Reader.end_line.Goals as goal

pub returns-in_ok-said_by-in-Nothing-clause-command :
    goal.returns-in_ok-said_by-in-Nothing-clause-command
returns-in_ok-said_by-in-Nothing-clause-command c =
    said_command c.self.inside.inside c.self.inside.start c.self.inside.text.items c.in_ok-said_by-in-Nothing.field-0 c.follow-command.result.0 c.follow-command.result.1
    (sym c.replace.ensures.value ∙ c.in-Nothing.is) c.self.invariant.limit (c.in_ok-said_by-in-Nothing.ensures.said
    ∙ ap said_by c.as_slice.ensures.value) c.follow-command.ensures.follows
    ∙ ap (λ (p : Place). (after_line p.block p.line).0) c.self.view_is

pub returns-in_ok-said_by-in-Nothing-clause-ok : goal.returns-in_ok-said_by-in-Nothing-clause-ok
returns-in_ok-said_by-in-Nothing-clause-ok c =
    let p = said_place c.self.inside.inside c.self.inside.start c.self.inside.text.items c.in_ok-said_by-in-Nothing.field-0 c.follow-command.result.0 c.follow-command.result.1
    (sym c.replace.ensures.value ∙ c.in-Nothing.is) c.self.invariant.limit (c.in_ok-said_by-in-Nothing.ensures.said
    ∙ ap said_by c.as_slice.ensures.value) c.follow-command.ensures.follows in
    ap (λ (t : List ℕ). place_in c.follow-command.result.1 c.self.inside.start t) c.clear.ensures.items ∙ p
    ∙ ap (λ (p : Place). let next : Place = record { block = (after_line p.block p.line).1; line = [] } in next) c.self.view_is
