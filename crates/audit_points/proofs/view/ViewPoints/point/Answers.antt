use Rattle.std.proofs.Common.{rules, ◌≡◌, ◌<◌, ◌/◌, ◌%◌, ℕ, List, ap, arith, get_or, map, subst, sym, ◌∙◌}
use Rattle.std.proofs.lemmas.List.{length-map}
use Rattle.page_entry.specs.Entries.{HasEntries, entries, page_count}
use Rattle.audit_points.specs.Kept.{Kept, bytes_of, entries_in, points_of}
use Rattle.audit_points.proofs.Leaves.{page-is, read-eight, read-measured, stands-at}
use Rattle.audit_points.proofs.view.ViewPoints.point.Goals as goal

pub index-requires : goal.index-requires
index-requires c =
    let s = c.self.inside in
    let at = stands-at s.shape s.room (map bytes_of s.leaves.items) (c.args.index / s.room) (c.args.index % s.room) c.args.index c.self.invariant.leaves (omega arith) (omega (arith, c.self.invariant.some)) (search rules) in
    omega (arith, at.leaf_is, length-map s.leaves.items bytes_of)

pub lent_entry-requires-clause-page : goal.lent_entry-requires-clause-page
lent_entry-requires-clause-page c =
    let s = c.self.inside in
    let at = stands-at s.shape s.room (map bytes_of s.leaves.items) (c.args.index / s.room) (c.args.index % s.room) c.args.index c.self.invariant.leaves (omega arith) (omega (arith, c.self.invariant.some)) (search rules) in
    subst (HasEntries s.shape) (page-is s.leaves.items (c.args.index / s.room) c.index.result.now c.deref.result.now (omega (arith, at.leaf_is, length-map s.leaves.items bytes_of)) c.index.ensures c.deref.ensures) (at.fits c.deref.result.now)

pub lent_entry-requires-clause-index : goal.lent_entry-requires-clause-index
lent_entry-requires-clause-index c =
    let s = c.self.inside in
    let at = stands-at s.shape s.room (map bytes_of s.leaves.items) (c.args.index / s.room) (c.args.index % s.room) c.args.index c.self.invariant.leaves (omega arith) (omega (arith, c.self.invariant.some)) (search rules) in
    omega (arith, at.inside c.deref.result.now, ap page_count (page-is s.leaves.items (c.args.index / s.room) c.index.result.now c.deref.result.now (omega (arith, at.leaf_is, length-map s.leaves.items bytes_of)) c.index.ensures c.deref.ensures))

pub returns-clause-point : goal.returns-clause-point
returns-clause-point c =
    let s = c.self.inside in
    let kept : Kept = record { shape = s.shape; arity = s.arity; leaves = map bytes_of s.leaves.items; first = s.first } in
    let e = c.lent_entry.result in
    let at = stands-at s.shape s.room (map bytes_of s.leaves.items) (c.args.index / s.room) (c.args.index % s.room) c.args.index c.self.invariant.leaves (omega arith) (omega (arith, c.self.invariant.some)) (search rules) in
    let page = page-is s.leaves.items (c.args.index / s.room) c.index.result.now c.deref.result.now (omega (arith, at.leaf_is, length-map s.leaves.items bytes_of)) c.index.ensures c.deref.ensures in
    let seen : c.args.self.now ≡ kept = sym c.self.view_is in
    let own : e ≡ get_or (entries_in s.shape (map bytes_of s.leaves.items)) c.args.index e
    = c.lent_entry.ensures ∙ (ap (λ (p : List ℕ). get_or (entries s.shape p) (c.args.index % s.room) e) (sym page) ∙ sym (at.same c.deref.result.now e)) in
    own ∙ ap (λ (k : Kept). get_or (points_of k) c.args.index e) (sym seen)

pub returns-clause-measures : goal.returns-clause-measures
returns-clause-measures c =
    let s = c.self.inside in
    let e = c.lent_entry.result in
    let at = stands-at s.shape s.room (map bytes_of s.leaves.items) (c.args.index / s.room) (c.args.index % s.room) c.args.index c.self.invariant.leaves (omega arith) (omega (arith, c.self.invariant.some)) (search rules) in
    let page = page-is s.leaves.items (c.args.index / s.room) c.index.result.now c.deref.result.now (omega (arith, at.leaf_is, length-map s.leaves.items bytes_of)) c.index.ensures c.deref.ensures in
    let inside : c.args.index % s.room < page_count c.deref.result.now = omega (arith, at.inside c.deref.result.now, ap page_count page) in
    read-measured s.shape c.deref.result.now (c.args.index % s.room) e inside c.lent_entry.ensures ∙ ap (λ (k : Kept). k.shape.measures) c.self.view_is

pub returns-clause-eight : goal.returns-clause-eight
returns-clause-eight c =
    let s = c.self.inside in
    let e = c.lent_entry.result in
    let at = stands-at s.shape s.room (map bytes_of s.leaves.items) (c.args.index / s.room) (c.args.index % s.room) c.args.index c.self.invariant.leaves (omega arith) (omega (arith, c.self.invariant.some)) (search rules) in
    let page = page-is s.leaves.items (c.args.index / s.room) c.index.result.now c.deref.result.now (omega (arith, at.leaf_is, length-map s.leaves.items bytes_of)) c.index.ensures c.deref.ensures in
    let inside : c.args.index % s.room < page_count c.deref.result.now = omega (arith, at.inside c.deref.result.now, ap page_count page) in
    let fits : HasEntries s.shape c.deref.result.now = subst (HasEntries s.shape) page (at.fits c.deref.result.now) in
    read-eight s.shape c.deref.result.now (c.args.index % s.room) e fits inside c.lent_entry.ensures
