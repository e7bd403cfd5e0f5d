use Rattle.std.proofs.Common.{◌≡◌, ◌<◌, List, true, length, sym, ap, subst, arith}
use Rattle.cube_point.specs.declared.point.Entry.{Entry}
use Rattle.leaf_pack.specs.Leaf.{is_after}
use Rattle.page_entry.specs.Entries.{entries}
use Rattle.tree_pack.specs.Moving.{Moving}
use Rattle.audit_tree.proofs.Within.{after-front}
use Rattle.audit_tree.proofs.leaf.push_all.Goals as goal

pub push_coded-requires-clause-after : goal.push_coded-requires-clause-after
push_coded-requires-clause-after c =
    let es = entries c.args.shape.now c.args.page.now in
    let i = c.loop-index.index in
    let e = c.lent_entry.result in
    let low : i < length es = omega arith in
    subst (λ (b : List Entry). is_after b e ≡ true) (sym (ap (λ (m : Moving). m.buffer) c.loop-index.invariant)) (after-front es i e low c.lent_entry.ensures c.requires.are.order)
