use Rattle.std.proofs.Common.{get_or, sym, ◌∙◌}
use Rattle.sql_lang.specs.declared.draft.Named.{Named}
use Rattle.sql_lang.specs.Reading.{is_grouped, query_in}
use Rattle.sql_lang.proofs.Finishing.{rule-broken, rule-held}
use Rattle.sql_lang.proofs.read.finished.Goals as goal

pub returns-then-not-contains : goal.returns-then-not-contains
returns-then-not-contains c =
    let draft = c.args.draft in
    let ns = c.as_slice-named-items.result.now in
    let i = c.loop-named.named-index in
    let d : Named = record { attr = 0; byte = 0 } in
    let test = (λ k. is_grouped (sym c.as_slice.ensures k) (get_or ns i d).attr) ∙ sym c.contains.ensures.value ∙ c.if-not-contains.true in
    sym (rule-broken (query_in draft) draft.group ns i d c.loop-named-test.true test) ∙ c.loop-named.invariant

pub loop-named-preserved : goal.loop-named-preserved
loop-named-preserved c =
    let draft = c.args.draft in
    let ns = c.as_slice-named-items.result.now in
    let i = c.loop-named.named-index in
    let d : Named = record { attr = 0; byte = 0 } in
    let test = (λ k. is_grouped (sym c.as_slice.ensures k) (get_or ns i d).attr) ∙ sym c.contains.ensures.value ∙ c.if-not-contains.false in
    sym (rule-held (query_in draft) draft.group ns i d c.loop-named-test.true test) ∙ c.loop-named.invariant
