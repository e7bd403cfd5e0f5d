use Rattle.std.proofs.Common.{◌≡◌, ◌-◌, length, drop, Some, sym, ◌∙◌, ap}
use Rattle.std.specs.Prelude.{option_map}
use Rattle.sql_lang.specs.declared.token.TokenKind.TheVariants.{Quoted}
use Rattle.sql_lang.specs.Closed.{as_closed}
use Rattle.sql_lang.specs.Tokens.{within_quotes}
use Rattle.sql_lang.proofs.QuotedTexts.{closed-front}
use Rattle.sql_lang.proofs.front.quoted.Goals as goal

pub returns-in-Some-clause-token : goal.returns-in-Some-clause-token
returns-in-Some-clause-token c =
    let text = c.args.text.now in
    let found : Some c.in-Some.closed ≡ option_map as_closed (within_quotes (drop 1 text)) =
    sym c.in-Some.is ∙ c.in_ok-closed.ensures.found ∙ ap (λ t. option_map as_closed (within_quotes t)) c.after.ensures in
    (λ i. record { kind = Quoted; text = c.into_text.ensures i; len = length text - length (c.behind.ensures i) })
    ∙ sym (closed-front text (within_quotes (drop 1 text)) c.in-Some.closed found)
