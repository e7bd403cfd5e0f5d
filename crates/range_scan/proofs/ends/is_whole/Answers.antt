use Rattle.std.proofs.Common.{◌≡◌, ◌-◌, ◌<◌, ◌∙◌, ap, get_or, length, sym, subst, arith}
use Rattle.std.proofs.lemmas.List.{get_or_default}
use Rattle.cube_point.specs.declared.point.Entry.{Entry}
use Rattle.cube_point.specs.declared.point.Point.{Point}
use Rattle.page_entry.specs.Entries.{entries}
use Rattle.range_scan.specs.Ends.{TellAll}
use Rattle.range_scan.proofs.Between.{all-inside}
use Rattle.range_scan.proofs.ends.is_whole.Goals as goal

pub returns-clause-whole : goal.returns-clause-whole
returns-clause-whole c = λ told.
    let shape = c.args.shape.now in
    let region = c.args.region.now in
    let last = subst (λ (p : Point). TellAll c.args.shape.now.wide c.point.result p region) c.point-2.ensures (c.tell_all.ensures.0 told) in
    let ends = subst (λ (p : Point). TellAll c.args.shape.now.wide p c.lent_entry-last.result.point region) c.point.ensures last in
    all-inside shape region (entries shape c.args.page.now) c.requires.holds c.lent_entry-first.result c.lent_entry-last.result (c.args.count - 1)
    c.lent_entry-first.ensures c.lent_entry-last.ensures (omega (arith, c.requires.count, c.requires.some)) ends

pub returns-clause-told : goal.returns-clause-told
returns-clause-told c =
    let region = c.args.region.now in
    let es = entries c.args.shape.now c.args.page.now in
    let end : c.args.count - 1 ≡ length es - 1 = omega (arith, c.requires.count) in
    let within : c.args.count - 1 < length es = omega (arith, c.requires.count, c.requires.some) in
    let e = c.lent_entry-first.result in
    let f = c.lent_entry-last.result in
    let first : (d : Entry) → c.point.result ≡ (get_or es 0 d).point
    = λ d. c.point.ensures ∙ ap (λ (g : Entry). g.point) (c.lent_entry-first.ensures ∙ get_or_default es 0 e d (omega (arith, within))) in
    let last : (d : Entry) → c.point-2.result ≡ (get_or es (length es - 1) d).point
    = λ d. c.point-2.ensures ∙ ap (λ (g : Entry). g.point)
    (c.lent_entry-last.ensures ∙ (get_or_default es (c.args.count - 1) f d within ∙ ap (λ i. get_or es i d) end)) in (
      λ told. λ d. subst (λ (p : Point). TellAll c.args.shape.now.wide p (get_or es (length es - 1) d).point region) (first d)
          (subst (λ (p : Point). TellAll c.args.shape.now.wide c.point.result p region) (last d) (c.tell_all.ensures.0 told)),
      λ tells. c.tell_all.ensures.1 (subst (λ (p : Point). TellAll c.args.shape.now.wide c.point.result p region) (sym (last e))
          (subst (λ (p : Point). TellAll c.args.shape.now.wide p (get_or es (length es - 1) e).point region) (sym (first e)) (tells e))),
    )
