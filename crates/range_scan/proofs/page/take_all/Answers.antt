use Rattle.std.proofs.Common.{◌≡◌, [], ◌∷◌, ◌++◌, ◌+◌, ◌<◌, ◌∙◌, length, take, append_assoc, sym, ap, subst, arith}
use Rattle.std.proofs.lemmas.List.{take_more}
use Rattle.cube_point.specs.declared.point.Entry.{Entry}
use Rattle.page_entry.specs.Entries.{entries}
use Rattle.range_scan.proofs.page.take_all.Goals as goal

pub loop-index-preserved : goal.loop-index-preserved
loop-index-preserved g c = λ start es given.
    let all = entries c.args.shape.now c.args.page.now in
    let i = c.loop-index.index in
    let e = c.lent_entry.result in
    let low : i < length all = omega arith in
    let more : es ++ (take i all ++ e ∷ []) ≡ es ++ take (i + 1) all
    = ap (λ l. es ++ l) (ap (λ (x : Entry). take i all ++ x ∷ []) c.lent_entry.ensures ∙ sym (take_more all i e low)) in
    subst (λ l. g.G.Taker.was_given start l c.take.new.self) (append_assoc es (take i all) (e ∷ []) ∙ more)
    (c.in_ok-take.ensures start (es ++ take i all) (c.loop-index.invariant start es given))
