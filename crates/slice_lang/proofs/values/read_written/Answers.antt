use Rattle.std.proofs.Common.{sym, ◌∙◌, ap}
use Rattle.std.specs.Prelude.{option_map}
use Rattle.slice_lang.specs.Values.{as_quoted, within_quotes}
use Rattle.slice_lang.proofs.Quotes.{quoted_is}
use Rattle.slice_lang.proofs.values.read_written.Goals as goal

pub returns-in-Some-2-clause-answer : goal.returns-in-Some-2-clause-answer
returns-in-Some-2-clause-answer c =
    let cut = c.in-Some.ensures.cases in
    quoted_is c.args.end c.args.text.now c.in-Some-2.written cut.0
    (sym c.in-Some-2.is ∙ c.in_ok-written-in-Some.ensures.found ∙ ap (λ t. option_map as_quoted (within_quotes t)) cut.1)
