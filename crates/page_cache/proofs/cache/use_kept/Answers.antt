use Rattle.std.proofs.Common.{◌≡◌, ◌∙◌, Ok, Some, ap, arith, refl, subst, sym}
use Rattle.std.specs.Prelude.{is_ok, is_some}
use Rattle.std.proofs.lemmas.Bool.{true≢false}
use Rattle.page_fmt.specs.Taking.{taken}
use Rattle.page_cache.specs.declared.kept.Kept.{Kept}
use Rattle.page_cache.proofs.InSlots.{given-kept, kept-is, kept-page, there-promoted}
use Rattle.page_cache.proofs.cache.use_kept.Goals as goal

pub returns-in_default-clause-kept : goal.returns-in_default-clause-kept
returns-in_default-clause-kept c = ap is_some c.in_default.ensures ∙ sym (kept-is c.args.name c.args.slots.now (omega arith))

pub returns-in_default-judge-clause-refused : goal.returns-in_default-judge-clause-refused
returns-in_default-judge-clause-refused c = record {
  page = c.in-Some.kept.now.page.value;
  kept = kept-page c.args.name c.args.slots.now (omega arith) c.in-Some.kept.now (sym c.in-Some.ensures);
  unlawful = λ ok. true≢false (sym ok ∙ ap is_ok (sym c.in_default-judge.ensures));
  told = refl;
}

pub returns-clause-kept : goal.returns-clause-kept
returns-clause-kept c = ap is_some c.in-Some.ensures ∙ sym (kept-is c.args.name c.args.slots.now (omega arith))

pub returns-clause-given : goal.returns-clause-given
returns-clause-given c = λ _. given-kept c.args.name c.args.slots.now c.in-Some.kept.now (sym c.in-Some.ensures) _ c.promote.ensures.entries (omega arith) refl

pub returns-clause-accepted : goal.returns-clause-accepted
returns-clause-accepted c = λ place there.
    let front = there-promoted c.args.name c.args.slots.now c.in-Some.kept.now (sym c.in-Some.ensures) c.promote.new.self c.promote.ensures.entries in
    let both : Some c.in-Some.kept.now ≡ Some place = sym front ∙ there in
    let same : c.in-Some.kept.now ≡ place = cc in
    subst (λ (x : Kept). Ok c.in-Ok.head ≡ taken c.args.shape.now c.args.name.1 x.page.value) same c.in-Ok.ensures
