use Rattle.std.proofs.Common.{◌≡◌, sym, ◌∙◌, ap}
use Rattle.spec_points.specs.Agree.{is_text}
use Rattle.spec_points.specs.Answer.{just}
use Rattle.spec_points.specs.Codes.{code_in}
use Rattle.attr_dict.specs.Book.{code_for, kind_at, shown_names}
use Rattle.view_region.specs.Regions.{clamped}
use Rattle.view_region.proofs.RegionEnds.{word-code}
use Rattle.view_region.proofs.regions.code_of.Goals as goal

pub returns-in-Word : goal.returns-in-Word
returns-in-Word c =
    let b = c.args.names.now in
    let a = c.args.attr in
    let names = shown_names b c.args.shown.now.at a in
    let same : code_for (kind_at b a) names c.args.value.now ≡ code_in names c.args.value.now
    = rw c.in-Word.is (word-code b a names c.in-Word.field-0 (ap is_text (sym c.in-Word.is) ∙ c.requires.kind)) in
    c.just.ensures ∙ ap (λ o. clamped (just o)) (c.code_within.ensures ∙ same)
