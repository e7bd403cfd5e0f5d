use Rattle.std.proofs.Common.{◌≡◌, ◌-◌, set, ◌<◌, ◌++◌, [], ◌∷◌, List, ℕ, length, get_or, sym, ap, ◌∙◌, subst, arith}
use Rattle.std.specs.Prelude.{slice_index}
use Rattle.std.specs.List.{All}
use Rattle.cube_point.specs.declared.point.Entry.{Entry}
use Rattle.cube_point.specs.declared.point.Shape.{Shape}
use Rattle.audit_points.specs.Kept.{Kept, first_or}
use Rattle.page_entry.specs.Entries.{entries, HasEntries, page_count}
use Rattle.page_fmt.specs.Trees.{room_of}
use Rattle.page_entry.specs.Stored.{FitsLeaf}
use Rattle.page_fmt.specs.Writing.{AreEntries}
use Rattle.page_fmt.proofs.Rooms.{room-some}
use Rattle.audit_tree.specs.Fitting.{due}
use Rattle.tree_pack.specs.Moving.{HasRoomIn, Moving, with_leaf}
use Rattle.tree_scan.specs.Scanning.{leaf_entries}
use Rattle.audit_tree.proofs.Safe.{safe-room}
use Rattle.audit_tree.proofs.Keeping.{with_leaf as with_leaf', keeps-leaf, leaf-full, leaf-long, leaf-room}
use Rattle.audit_tree.proofs.tree.TreeAudit.keep_leaf.Goals as goal

pub push-requires-clause-page : goal.push-requires-clause-page
push-requires-clause-page c = λ d.
    let shape = c.args.shape.now in
    let s = c.args.self.now in
    let leaf = c.requires.leaf in
    let room : 0 < room_of shape c.args.arity = (let one = room-some c.args.arity shape (omega (arith, leaf.next.nine)) c.requires.shape.measures in omega (arith, one)) in
    let many : c.args.count ≡ due shape s.left c.args.arity = c.requires.found.many ∙ leaf.many in
    let some : 0 < c.args.count = omega (arith, many, room, leaf.next.some) in
    subst (λ (z : Shape). HasEntries z c.deref.result.now) (sym (c.requires.room c.args.arity d leaf.next.nine).view.shape_is) (subst (HasEntries shape) (sym c.deref.ensures) (c.requires.found.leaf some))

pub push-requires-clause-count : goal.push-requires-clause-count
push-requires-clause-count c =
    let shape = c.args.shape.now in
    let s = c.args.self.now in
    let leaf = c.requires.leaf in
    let room : 0 < room_of shape c.args.arity = (let one = room-some c.args.arity shape (omega (arith, leaf.next.nine)) c.requires.shape.measures in omega (arith, one)) in
    let many : c.args.count ≡ due shape s.left c.args.arity = c.requires.found.many ∙ leaf.many in
    let some : 0 < c.args.count = omega (arith, many, room, leaf.next.some) in
    c.requires.found.all some ∙ ap page_count (sym c.deref.ensures)

pub push-requires-clause-few : goal.push-requires-clause-few
push-requires-clause-few c = λ d.
    let shape = c.args.shape.now in
    let s = c.args.self.now in
    let leaf = c.requires.leaf in
    let room : 0 < room_of shape c.args.arity = (let one = room-some c.args.arity shape (omega (arith, leaf.next.nine)) c.requires.shape.measures in omega (arith, one)) in
    let many : c.args.count ≡ due shape s.left c.args.arity = c.requires.found.many ∙ leaf.many in
    let some : 0 < c.args.count = omega (arith, many, room, leaf.next.some) in
    omega (arith, many, leaf-room shape s.left s.page.value c.args.arity s.packer.at.next_page c.requires.safe.nine room leaf (c.requires.found.are some) (subst (All (FitsLeaf shape)) (sym (c.requires.found.are some)) (c.requires.found.holds some).good) c.args.kept.now c.requires.room d)

pub push-requires-clause-full : goal.push-requires-clause-full
push-requires-clause-full c = λ d.
    let shape = c.args.shape.now in
    let s = c.args.self.now in
    let leaf = c.requires.leaf in
    let room : 0 < room_of shape c.args.arity = (let one = room-some c.args.arity shape (omega (arith, leaf.next.nine)) c.requires.shape.measures in omega (arith, one)) in
    let many : c.args.count ≡ due shape s.left c.args.arity = c.requires.found.many ∙ leaf.many in
    let some : 0 < c.args.count = omega (arith, many, room, leaf.next.some) in
    leaf-full shape s.left s.page.value c.args.arity s.packer.at.next_page c.requires.safe.nine room leaf (c.requires.found.are some) (subst (All (FitsLeaf shape)) (sym (c.requires.found.are some)) (c.requires.found.holds some).good) c.args.kept.now c.requires.room d

pub push-requires-clause-long : goal.push-requires-clause-long
push-requires-clause-long c = λ d.
    let shape = c.args.shape.now in
    let s = c.args.self.now in
    let leaf = c.requires.leaf in
    let room : 0 < room_of shape c.args.arity = (let one = room-some c.args.arity shape (omega (arith, leaf.next.nine)) c.requires.shape.measures in omega (arith, one)) in
    let many : c.args.count ≡ due shape s.left c.args.arity = c.requires.found.many ∙ leaf.many in
    let some : 0 < c.args.count = omega (arith, many, room, leaf.next.some) in
    omega (arith, many, leaf-long shape s.left s.page.value c.args.arity s.packer.at.next_page c.requires.safe.nine room leaf (c.requires.found.are some) (subst (All (FitsLeaf shape)) (sym (c.requires.found.are some)) (c.requires.found.holds some).good) c.args.kept.now c.requires.room d)

pub push_all-requires-clause-page : goal.push_all-requires-clause-page
push_all-requires-clause-page c =
    let shape = c.args.shape.now in
    let s = c.args.self.now in
    let leaf = c.requires.leaf in
    let room : 0 < room_of shape c.args.arity = (let one = room-some c.args.arity shape (omega (arith, leaf.next.nine)) c.requires.shape.measures in omega (arith, one)) in
    let many : c.args.count ≡ due shape s.left c.args.arity = c.requires.found.many ∙ leaf.many in
    let some : 0 < c.args.count = omega (arith, many, room, leaf.next.some) in
    subst (HasEntries shape) (sym c.deref-2.ensures) (c.requires.found.leaf some)

pub push_all-requires-clause-said : goal.push_all-requires-clause-said
push_all-requires-clause-said c =
    let shape = c.args.shape.now in
    let s = c.args.self.now in
    let leaf = c.requires.leaf in
    let room : 0 < room_of shape c.args.arity = (let one = room-some c.args.arity shape (omega (arith, leaf.next.nine)) c.requires.shape.measures in omega (arith, one)) in
    let many : c.args.count ≡ due shape s.left c.args.arity = c.requires.found.many ∙ leaf.many in
    let some : 0 < c.args.count = omega (arith, many, room, leaf.next.some) in
    c.requires.found.all some ∙ ap page_count (sym c.deref-2.ensures)

pub push_all-requires-clause-count : goal.push_all-requires-clause-count
push_all-requires-clause-count c =
    let shape = c.args.shape.now in
    let s = c.args.self.now in
    let leaf = c.requires.leaf in
    let room : 0 < room_of shape c.args.arity = (let one = room-some c.args.arity shape (omega (arith, leaf.next.nine)) c.requires.shape.measures in omega (arith, one)) in
    let many : c.args.count ≡ due shape s.left c.args.arity = c.requires.found.many ∙ leaf.many in
    let some : 0 < c.args.count = omega (arith, many, room, leaf.next.some) in
    c.requires.found.many ∙ (ap length (c.requires.found.are some) ∙ ap (λ (p : List ℕ). length (entries shape p)) (sym c.deref-2.ensures))

pub push_all-requires-clause-are : goal.push_all-requires-clause-are
push_all-requires-clause-are c =
    let shape = c.args.shape.now in
    let s = c.args.self.now in
    let leaf = c.requires.leaf in
    let room : 0 < room_of shape c.args.arity = (let one = room-some c.args.arity shape (omega (arith, leaf.next.nine)) c.requires.shape.measures in omega (arith, one)) in
    let many : c.args.count ≡ due shape s.left c.args.arity = c.requires.found.many ∙ leaf.many in
    let some : 0 < c.args.count = omega (arith, many, room, leaf.next.some) in
    subst (λ (p : List ℕ). AreEntries shape (entries shape p)) (sym c.deref-2.ensures) (c.requires.found.holds some)

pub close_leaf-requires-clause-some : goal.close_leaf-requires-clause-some
close_leaf-requires-clause-some c =
    let shape = c.args.shape.now in
    let s = c.args.self.now in
    let leaf = c.requires.leaf in
    let room : 0 < room_of shape c.args.arity = (let one = room-some c.args.arity shape (omega (arith, leaf.next.nine)) c.requires.shape.measures in omega (arith, one)) in
    let many : c.args.count ≡ due shape s.left c.args.arity = c.requires.found.many ∙ leaf.many in
    let some : 0 < c.args.count = omega (arith, many, room, leaf.next.some) in
    omega (
      arith,
      some,
      c.requires.found.many,
      ap length (c.requires.found.are some),
      ap (λ (p : List ℕ). length (entries shape p)) c.deref-2.ensures,
      ap (λ (m : Moving). length m.buffer) c.push_all.ensures,
    )

pub close_leaf-requires-clause-room : goal.close_leaf-requires-clause-room
close_leaf-requires-clause-room c =
    let s = c.args.self.now in
    let room = safe-room c.args.shape.now s.left s.packer.at c.requires.safe c.requires.none c.requires.few in
    subst (HasRoomIn 0) (sym c.push_all.ensures) (record { inside = room.inside; not_full = room.not_full; below = room.below; number = room.number })

pub returns-clause-at : goal.returns-clause-at
returns-clause-at c =
    let shape = c.args.shape.now in
    let s = c.args.self.now in
    let leaf = c.requires.leaf in
    let room : 0 < room_of shape c.args.arity = (let one = room-some c.args.arity shape (omega (arith, leaf.next.nine)) c.requires.shape.measures in omega (arith, one)) in
    let many : c.args.count ≡ due shape s.left c.args.arity = c.requires.found.many ∙ leaf.many in
    let some : 0 < c.args.count = omega (arith, many, room, leaf.next.some) in
    let same : entries shape c.deref-2.result.now ≡ leaf_entries shape s.page.value = ap (entries shape) c.deref-2.ensures ∙ sym (c.requires.found.are some) in
    c.close_leaf.ensures.after ∙ (ap with_leaf c.push_all.ensures ∙ ap (λ (l : List Entry). with_leaf (record s.packer.at { buffer = l })) same)

pub returns-clause-keeps : goal.returns-clause-keeps
returns-clause-keeps c =
    let old : Kept → Kept = λ d. get_or c.args.kept.now c.args.arity d in
    let now : (d : Kept) → set c.args.kept.now c.args.arity (record (old d) { leaves = (old d).leaves ++ c.deref.result.now ∷ []; first = first_or (old d).first c.next_page.result })
    ≡ set c.args.kept.now c.args.arity (with_leaf' (old d) c.args.self.now.page.value c.args.self.now.packer.at.next_page)
    = λ d i. set c.args.kept.now c.args.arity (with_leaf' (old d) (c.deref.ensures i) (c.next_page.ensures i)) in
    let shape = c.args.shape.now in
    let s = c.args.self.now in
    let leaf = c.requires.leaf in
    let room : 0 < room_of shape c.args.arity = (let one = room-some c.args.arity shape (omega (arith, leaf.next.nine)) c.requires.shape.measures in omega (arith, one)) in
    let many : c.args.count ≡ due shape s.left c.args.arity = c.requires.found.many ∙ leaf.many in
    let some : 0 < c.args.count = omega (arith, many, room, leaf.next.some) in
    keeps-leaf shape s.left s.page.value c.args.arity s.packer.at.next_page c.requires.safe.nine room leaf (c.requires.found.are some) (subst (All (FitsLeaf shape)) (sym (c.requires.found.are some)) (c.requires.found.holds some).good) c.args.kept.now c.requires.room
    c.push.new.self _ c.push.ensures.nine
    (λ d. c.in_ok-push.ensures.pushed d ∙ now d) (ap (λ (n : ℕ). set s.left c.args.arity (slice_index s.left c.args.arity - n)) many)
