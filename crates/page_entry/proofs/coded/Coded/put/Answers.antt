use Rattle.std.proofs.Common.{◌≡◌, ◌+◌, ◌++◌, ℕ, List, take, ap, sym, ◌∙◌, subst}
use Rattle.cube_point.specs.declared.point.Entry.{Entry}
use Rattle.page_entry.specs.Bytes.{entry_bytes, entry_size}
use Rattle.page_entry.specs.Entries.{entry_of}
use Rattle.page_entry.proofs.Carried.{same-bytes, same-size}
use Rattle.page_entry.proofs.Lent.{entry-back}
use Rattle.page_entry.proofs.Widths.{same-width}
use Rattle.page_entry.proofs.coded.Coded.put.Goals as goal

pub returns-then-self-shape-clause-written : goal.returns-then-self-shape-clause-written
returns-then-self-shape-clause-written c =
    let s = c.self.inside in
    let b = s.bytes.now in
    let other = c.args.shape.now in
    let is = c.self.invariant in
    let wide = same-width s.shape.wide other.wide c.if-self-shape.true in
    let measures = ap (λ (e : Entry). e.cell.measures) c.self.view_is ∙ c.requires.measures in
    let bytes = sym (entry-back s.arity s.shape b is.are is.long) ∙ same-bytes s.arity s.shape other (entry_of s.arity s.shape b) wide measures in
    let size = sym (same-size s.arity s.shape other wide measures) ∙ sym is.long in
    subst (λ (e : Entry). take (c.args.at + entry_size e.point.arity other) c.put_bytes.new.page ≡ take c.args.at c.args.page.now ++ entry_bytes e.point.arity other e) c.self.view_is
    (ap (λ (k : ℕ). take (c.args.at + k) c.put_bytes.new.page) size ∙ (c.put_bytes.ensures.written ∙ ap (λ (l : List ℕ). take c.args.at c.args.page.now ++ l) bytes))
