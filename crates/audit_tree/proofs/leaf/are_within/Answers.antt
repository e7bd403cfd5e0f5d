use Rattle.std.proofs.Common.{◌≡◌, ◌<◌, ◌≤◌, ◌+◌, ℕ, [], ◌∷◌, ◌++◌, length, take, get_or, refl, sym, ap, ◌∙◌, subst, arith}
use Rattle.std.specs.Prelude.{slice_index}
use Rattle.std.specs.List.{All}
use Rattle.std.proofs.lemmas.Bool.{true≢false}
use Rattle.std.proofs.lemmas.List.{take_all, take_more}
use Rattle.std.proofs.lemmas.List.Elements.{All-append, All-cons, All-nil}
use Rattle.cube_point.specs.declared.point.Entry.{Entry}
use Rattle.leaf_pack.specs.Leaf.{arity_of}
use Rattle.page_entry.specs.Entries.{entries}
use Rattle.audit_tree.specs.Packed.{IsWithin}
use Rattle.audit_tree.proofs.leaf.are_within.Goals as goal

pub returns-then-not-is_within : goal.returns-then-not-is_within
returns-then-not-is_within c =
    let es = entries c.args.shape.now c.args.page.now in
    let i = c.loop-index.index in
    let e : Entry = c.lent_entry.result in
    let low : i < length es = omega arith in
    let own : e.point.arity ≡ c.args.arity = ap arity_of c.lent_entry.ensures ∙ c.requires.are i e low in (
      λ is. absurd (true≢false (sym is)),
      λ all. absurd (true≢false (sym (c.is_within.ensures.1 (subst (λ (n : ℕ). (k : ℕ) → k < e.point.arity → slice_index e.point.at k ≤ slice_index (get_or c.args.limits.now n []) k) own
          (subst (IsWithin c.args.limits.now) (sym c.lent_entry.ensures) (all i e low)))) ∙ c.if-not-is_within.true)),
    )

pub loop-index-preserved : goal.loop-index-preserved
loop-index-preserved c =
    let es = entries c.args.shape.now c.args.page.now in
    let i = c.loop-index.index in
    let e : Entry = c.lent_entry.result in
    let low : i < length es = omega arith in
    let own : e.point.arity ≡ c.args.arity = ap arity_of c.lent_entry.ensures ∙ c.requires.are i e low in
    let here : IsWithin c.args.limits.now e = subst (λ (n : ℕ). (k : ℕ) → k < e.point.arity → slice_index e.point.at k ≤ slice_index (get_or c.args.limits.now n []) k) (sym own)
    (c.is_within.ensures.0 c.if-not-is_within.false) in
    let front : take i es ++ e ∷ [] ≡ take (i + 1) es = ap (λ (x : Entry). take i es ++ x ∷ []) c.lent_entry.ensures ∙ sym (take_more es i e low) in
    subst (All (IsWithin c.args.limits.now)) front (All-append (IsWithin c.args.limits.now) (take i es) (e ∷ []) c.loop-index.invariant (All-cons (IsWithin c.args.limits.now) e [] here (All-nil (IsWithin c.args.limits.now))))

pub returns : goal.returns
returns c =
    let es = entries c.args.shape.now c.args.page.now in
    let all : take c.loop-index.index es ≡ es = take_all c.loop-index.index es (omega arith) in
    ((λ _. subst (All (IsWithin c.args.limits.now)) all c.loop-index.invariant), λ _. refl)
