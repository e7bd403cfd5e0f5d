use Rattle.std.proofs.Common.{ap, ◌∙◌}
use Rattle.cube_point.specs.declared.point.Shape.{Shape}
use Rattle.spec_tree.specs.Levels.{children_at}
use Rattle.page_fmt.specs.Pages.{inner_bytes}
use Rattle.tree_scan.specs.Scanning.{leaf_entries}
use Rattle.audit_tree.proofs.Keeping.{keeps-inner}
use Rattle.audit_tree.proofs.Pages.{inner-none}
use Rattle.audit_tree.proofs.Due.{leaf-fits, leaf-only, rest-fits, rest-only}
use Rattle.audit_tree.proofs.Results.{ok-one, ok-three}
use Rattle.audit_tree.proofs.Safe.{safe-rest}
use Rattle.audit_tree.proofs.tree.TreeAudit.take_next.Goals as goal

pub returns-in-Some-clause-fits : goal.returns-in-Some-clause-fits
returns-in-Some-clause-fits c =
    let s = c.args.self.now in
    let w = c.take_leaf.new.self in
    ok-three c.take_leaf.result c.take_leaf.ensures.is c.take_leaf.ensures.at c.take_leaf.ensures.left (λ fits is at left t.
    leaf-fits c.args.shape.now c.args.limits.now s.left s.packer.at c.requires.safe.shape_is s.page.value c.requires.none c.in-Some.arity (is t) w.left w.packer.at (left t) (at t))

pub returns-in-Some-clause-only : goal.returns-in-Some-clause-only
returns-in-Some-clause-only c =
    let s = c.args.self.now in
    ok-one c.take_leaf.result c.take_leaf.ensures.only (λ fits only not left m.
    leaf-only c.args.shape.now c.args.limits.now s.left s.packer.at c.requires.safe.shape_is s.page.value c.requires.none c.in-Some.arity c.in-Some.ensures.next (only not))

pub is_rest-requires-clause-pages : goal.is_rest-requires-clause-pages
is_rest-requires-clause-pages c = λ i rest. safe-rest c.args.shape.now c.args.self.now.left c.args.self.now.packer.at c.requires.safe i rest c.requires.few

pub returns-in-None-clause-fits : goal.returns-in-None-clause-fits
returns-in-None-clause-fits c = λ t.
    let s = c.args.self.now in
    let w = c.is_rest.new.self in
    rest-fits c.args.shape.now c.args.limits.now s.left s.packer.at c.requires.safe.shape_is s.page.value c.requires.none c.in-None.ensures.none w.left w.packer.at c.is_rest.ensures.left (c.is_rest.ensures.is t)

pub returns-in-None-clause-only : goal.returns-in-None-clause-only
returns-in-None-clause-only c = λ not left m.
    let s = c.args.self.now in
    rest-only c.args.shape.now c.args.limits.now s.left s.packer.at c.requires.safe.shape_is s.page.value c.requires.none c.in-None.ensures.none (c.is_rest.ensures.only not)

pub returns-in-None-clause-keeps : goal.returns-in-None-clause-keeps
returns-in-None-clause-keeps c = λ is.
    let s = c.args.self.now in
    let rest = c.is_rest.ensures.is is in
    keeps-inner c.args.shape.now s.left c.is_rest.new.self.left (leaf_entries c.args.shape.now s.page.value) s.packer.at.next_page c.args.kept.now
    (inner-none c.args.shape.now s.page.value (children_at rest.level s.packer.at.levels) (rest.written ∙ ap (λ (z : Shape). inner_bytes z (children_at rest.level s.packer.at.levels)) c.requires.safe.shape_is))
    c.is_rest.ensures.left c.requires.room
