use Rattle.std.proofs.Common.{sym, ap, ◌∙◌}
use Rattle.std.proofs.lemmas.Bool.{true≢false}
use Rattle.cube_point.specs.declared.point.Shape.{Shape}
use Rattle.spec_tree.specs.Levels.{children_at}
use Rattle.page_fmt.specs.Pages.{inner_bytes}
use Rattle.tree_scan.specs.Scanning.{leaf_entries}
use Rattle.audit_tree.proofs.Keeping.{keeps-inner}
use Rattle.audit_tree.proofs.Pages.{inner-none}
use Rattle.audit_tree.proofs.Due.{full-fits, full-only, none-in}
use Rattle.audit_tree.proofs.Safe.{safe-full}
use Rattle.audit_tree.proofs.tree.TreeAudit.take.Goals as goal

pub is_inner-requires : goal.is_inner-requires
is_inner-requires c = safe-full c.args.shape.now c.args.self.now.left c.args.self.now.packer.at c.requires.safe c.in-Some.level (sym c.in-Some.ensures.level) c.requires.few

pub returns-in-Some-clause-fits : goal.returns-in-Some-clause-fits
returns-in-Some-clause-fits c = λ is.
    let s = c.args.self.now in
    full-fits c.args.shape.now c.args.limits.now s.left s.packer.at c.requires.safe.shape_is s.page.value c.in-Some.level (sym c.in-Some.ensures.level) (c.is_inner.ensures.is.0 is)
    c.is_inner.new.self.left c.is_inner.new.self.packer.at c.is_inner.ensures.left c.is_inner.ensures.at

pub returns-in-Some-clause-only : goal.returns-in-Some-clause-only
returns-in-Some-clause-only c = λ not left m fits.
    let s = c.args.self.now in
    full-only c.args.shape.now c.args.limits.now s.left s.packer.at c.requires.safe.shape_is s.page.value c.in-Some.level (sym c.in-Some.ensures.level)
    (λ is. true≢false (sym (c.is_inner.ensures.is.1 is) ∙ not)) fits

pub take_next-requires-clause-none : goal.take_next-requires-clause-none
take_next-requires-clause-none c = none-in c.args.shape.now c.args.limits.now c.args.self.now.left c.args.self.now.packer.at c.requires.safe.shape_is c.args.self.now.page.value (sym c.in-None.ensures.level)

pub returns-in-Some-clause-keeps : goal.returns-in-Some-clause-keeps
returns-in-Some-clause-keeps c = λ is.
    let s = c.args.self.now in
    keeps-inner c.args.shape.now s.left c.is_inner.new.self.left (leaf_entries c.args.shape.now s.page.value) s.packer.at.next_page c.args.kept.now
    (inner-none c.args.shape.now s.page.value (children_at c.in-Some.level s.packer.at.levels) (c.is_inner.ensures.is.0 is ∙ ap (λ (z : Shape). inner_bytes z (children_at c.in-Some.level s.packer.at.levels)) c.requires.safe.shape_is))
    c.is_inner.ensures.left c.requires.room
