use Rattle.std.proofs.Common.{◌≡◌, [], ◌∷◌, ◌++◌, slice_set, cond, sym, ap, subst, ◌∙◌}
use Rattle.std.specs.Prelude.{OnOk}
use Rattle.std.specs.List.{list_any}
use Rattle.std.specs.Str.{bytes_eq}
use Rattle.std.proofs.lemmas.List.{get_or_read}
use Rattle.std.proofs.lemmas.Result.{on_ok_weaker}
use Rattle.fact_model.specs.declared.fact.Value.{Value}
use Rattle.fact_batch.specs.Values.{shown}
use Rattle.spec_points.specs.Codes.{admitted, same_entry}
use Rattle.attr_dict.specs.Admitting.{entries_text, entry_text, fresh}
use Rattle.attr_dict.specs.Coding.{AreNamesOf, entry_in}
use Rattle.attr_dict.proofs.Entries.{names-entered, entry-written}
use Rattle.attr_dict.proofs.coding.code_value.Goals as goal

pub returns-in-Word-clause-names : goal.returns-in-Word-clause-names
returns-in-Word-clause-names c = λ seen are.
    (let names = c.args.names.now.items in
    let attr = c.args.attr in
    let t = c.in-Word.bytes.now in
    let before = get_or_read names attr c.index_mut.result.now c.requires.there c.index_mut.ensures.value [] in
    subst (λ (v : Value). OnOk c.code_text.result (AreNamesOf (admitted same_entry seen (entry_in attr v)) (slice_set names attr c.code_text.new.names))) (sym (ap shown c.in-Word.is))
    (on_ok_weaker c.code_text.result (λ is. names-entered names seen attr t c.code_text.new.names c.requires.there (is ∙ ap (λ ns. admitted bytes_eq ns (t ∷ [])) before) are) c.code_text.ensures.names))

pub returns-in-Word-clause-entries : goal.returns-in-Word-clause-entries
returns-in-Word-clause-entries c = λ seen are.
    (let names = c.args.names.now.items in
    let attr = c.args.attr in
    let t = c.in-Word.bytes.now in
    let before = get_or_read names attr c.index_mut.result.now c.requires.there c.index_mut.ensures.value [] in
    let old = c.args.entries.now.items in
    let new = c.code_text.new.entries.items in
    subst (λ (v : Value). OnOk c.code_text.result (new ≡ old ++ entries_text (fresh same_entry seen (entry_in attr v)))) (sym (ap shown c.in-Word.is))
    (on_ok_weaker c.code_text.result (λ is. entry-written names seen attr t old new (is ∙ ap (λ ns. old ++ cond (list_any (bytes_eq t) ns) [] (entry_text (attr, t))) before) are) c.code_text.ensures.entries))
