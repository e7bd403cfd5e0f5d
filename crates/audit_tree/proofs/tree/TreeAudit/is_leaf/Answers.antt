use Rattle.std.proofs.Common.{◌≡◌, ◌<◌, List, ℕ, length, get_or, sym, ap, ◌∙◌, subst, arith}
use Rattle.std.specs.List.{All}
use Rattle.std.proofs.lemmas.Bool.{true≢false}
use Rattle.cube_point.specs.declared.point.Entry.{Entry}
use Rattle.leaf_pack.specs.Leaf.{arity_of}
use Rattle.page_entry.specs.Entries.{entries, HasEntries, page_count}
use Rattle.page_fmt.specs.Trees.{room_of}
use Rattle.page_fmt.proofs.Rooms.{room-some}
use Rattle.audit_tree.specs.Fitting.{due}
use Rattle.audit_tree.specs.Packed.{IsWithin}
use Rattle.tree_scan.specs.Scanning.{leaf_entries}
use Rattle.audit_tree.proofs.Due.{due-leaf, due-own, leaf-within}
use Rattle.audit_tree.proofs.tree.TreeAudit.is_leaf.Goals as goal

pub lent_entry-requires-clause-page : goal.lent_entry-requires-clause-page
lent_entry-requires-clause-page c =
    let shape = c.args.shape.now in
    let s = c.args.self.now in
    let is_due : c.args.count ≡ due shape s.left c.args.arity = omega (arith, c.points_due.ensures) in
    let room = room-some c.args.arity shape (omega (arith, c.requires.next.nine)) c.requires.shape.measures in
    subst (HasEntries shape) (sym c.deref.ensures) (c.requires.found.leaf (omega (arith, is_due, room, c.requires.next.some)))

pub lent_entry-requires-clause-index : goal.lent_entry-requires-clause-index
lent_entry-requires-clause-index c =
    let shape = c.args.shape.now in
    let is_due : c.args.count ≡ due shape c.args.self.now.left c.args.arity = omega (arith, c.points_due.ensures) in
    let room = room-some c.args.arity shape (omega (arith, c.requires.next.nine)) c.requires.shape.measures in
    let some : 0 < c.args.count = omega (arith, is_due, room, c.requires.next.some) in
    omega (arith, c.requires.found.all some, ap page_count c.deref.ensures, some)

pub returns-then-arity : goal.returns-then-arity
returns-then-arity c = (
  (λ is. absurd (true≢false (sym is))),
  λ leaf.
      let shape = c.args.shape.now in
      let s = c.args.self.now in
      let e = c.lent_entry.result in
      let is_due : c.args.count ≡ due shape s.left c.args.arity = omega (arith, c.points_due.ensures) in
      let room = room-some c.args.arity shape (omega (arith, c.requires.next.nine)) c.requires.shape.measures in
      let some : 0 < c.args.count = omega (arith, is_due, room, c.requires.next.some) in
      let first : e ≡ get_or (leaf_entries shape s.page.value) 0 e
      = c.lent_entry.ensures ∙ (ap (λ (p : List ℕ). get_or (entries shape p) 0 e) c.deref.ensures ∙ ap (λ (l : List Entry). get_or l 0 e) (sym (c.requires.found.are some))) in
      let own : e.point.arity ≡ c.args.arity = ap arity_of first ∙ leaf.whole.arities 0 e (omega (arith, some, c.requires.found.many)) in
      absurd (omega (arith, c.arity.ensures.arity, own)),
)

pub are_within-requires-clause-page : goal.are_within-requires-clause-page
are_within-requires-clause-page c =
    let shape = c.args.shape.now in
    let is_due : c.args.count ≡ due shape c.args.self.now.left c.args.arity = omega (arith, c.points_due.ensures) in
    let room = room-some c.args.arity shape (omega (arith, c.requires.next.nine)) c.requires.shape.measures in
    subst (HasEntries shape) (sym c.deref-2.ensures) (c.requires.found.leaf (omega (arith, is_due, room, c.requires.next.some)))

pub are_within-requires-clause-said : goal.are_within-requires-clause-said
are_within-requires-clause-said c =
    let shape = c.args.shape.now in
    let is_due : c.args.count ≡ due shape c.args.self.now.left c.args.arity = omega (arith, c.points_due.ensures) in
    let room = room-some c.args.arity shape (omega (arith, c.requires.next.nine)) c.requires.shape.measures in
    subst (λ (p : List ℕ). c.args.count ≡ page_count p) (sym c.deref-2.ensures) (c.requires.found.all (omega (arith, is_due, room, c.requires.next.some)))

pub are_within-requires-clause-count : goal.are_within-requires-clause-count
are_within-requires-clause-count c =
    let shape = c.args.shape.now in
    let is_due : c.args.count ≡ due shape c.args.self.now.left c.args.arity = omega (arith, c.points_due.ensures) in
    let room = room-some c.args.arity shape (omega (arith, c.requires.next.nine)) c.requires.shape.measures in
    c.requires.found.many ∙ (ap length (c.requires.found.are (omega (arith, is_due, room, c.requires.next.some))) ∙ ap (λ (p : List ℕ). length (entries shape p)) (sym c.deref-2.ensures))

pub are_within-requires-clause-are : goal.are_within-requires-clause-are
are_within-requires-clause-are c =
    let shape = c.args.shape.now in
    let s = c.args.self.now in
    let is_due : c.args.count ≡ due shape s.left c.args.arity = omega (arith, c.points_due.ensures) in
    let room : 0 < room_of shape c.args.arity = (let some = room-some c.args.arity shape (omega (arith, c.requires.next.nine)) c.requires.shape.measures in omega (arith, some)) in
    let first : c.lent_entry.result ≡ get_or (entries shape s.page.value) 0 c.lent_entry.result = c.lent_entry.ensures ∙ ap (λ (p : List ℕ). get_or (entries shape p) 0 c.lent_entry.result) c.deref.ensures in
    let own : c.lent_entry.result.point.arity ≡ c.args.arity = omega (arith, c.arity.ensures.arity) in
    subst (λ (p : List ℕ). All (λ e. arity_of e ≡ c.args.arity) (entries shape p)) (sym c.deref-2.ensures)
    (due-own shape s.page.value c.args.count c.requires.found s.left c.args.arity c.requires.next room is_due c.lent_entry.result first own)

pub returns : goal.returns
returns c =
    let shape = c.args.shape.now in
    let s = c.args.self.now in
    let is_due : c.args.count ≡ due shape s.left c.args.arity = omega (arith, c.points_due.ensures) in
    let room : 0 < room_of shape c.args.arity = (let some = room-some c.args.arity shape (omega (arith, c.requires.next.nine)) c.requires.shape.measures in omega (arith, some)) in
    let first : c.lent_entry.result ≡ get_or (entries shape s.page.value) 0 c.lent_entry.result = c.lent_entry.ensures ∙ ap (λ (p : List ℕ). get_or (entries shape p) 0 c.lent_entry.result) c.deref.ensures in
    let own : c.lent_entry.result.point.arity ≡ c.args.arity = omega (arith, c.arity.ensures.arity) in (
      λ is. due-leaf shape s.page.value c.args.count c.requires.found s.left c.args.arity c.requires.next room is_due c.lent_entry.result first own c.args.limits.now
          (subst (λ (p : List ℕ). All (IsWithin c.args.limits.now) (entries shape p)) c.deref-2.ensures (c.are_within.ensures.0 is)),
      λ leaf. c.are_within.ensures.1 (subst (λ (p : List ℕ). All (IsWithin c.args.limits.now) (entries shape p)) (sym c.deref-2.ensures)
          (leaf-within shape s.page.value c.args.count c.requires.found s.left c.args.arity c.requires.next room is_due c.lent_entry.result first own c.args.limits.now leaf)),
    )
