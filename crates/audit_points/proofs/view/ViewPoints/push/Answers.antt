use Rattle.std.proofs.Common.{rules, ◌≡◌, ◌≤◌, ◌++◌, ℕ, List, [], ◌∷◌, ap, arith, length, length-append, map, subst, sym, ◌∙◌}
use Rattle.std.specs.List.{All}
use Rattle.std.proofs.lemmas.List.{map-append}
use Rattle.page_entry.specs.Entries.{HasEntries, entries, page_count}
use Rattle.page_fmt.specs.Trees.{room_of}
use Rattle.audit_points.specs.Kept.{AreFull, AreLeaves, Kept, bytes_of, entries_in}
use Rattle.audit_points.proofs.Leaves.{entries-long, one-more, points-more}
use Rattle.audit_points.proofs.view.ViewPoints.push.Goals as goal

pub invariant_of-self-2 : goal.invariant_of-self-2
invariant_of-self-2 c =
    let s = c.self.inside in
    let inv = c.self.invariant in
    let page = c.args.page.now in
    let leaves = map bytes_of s.leaves.items in
    let kept : Kept = record { shape = s.shape; arity = s.arity; leaves = leaves; first = s.first } in
    let box : c.in_ok-leaf.leaf.value ≡ page = search rules in
    let seen : c.args.self.now ≡ kept = sym c.self.view_is in
    let full : All (λ p. page_count p ≡ s.room) leaves
    = subst (λ (n : ℕ). All (λ p. page_count p ≡ n) leaves) (sym inv.room) (subst AreFull seen c.requires.full) in
    let now : leaves ++ page ∷ [] ≡ map bytes_of c.push.new.self.items
    = sym (ap (map bytes_of) c.in_ok-push.ensures.items ∙ (map-append bytes_of s.leaves.items (c.in_ok-leaf.leaf ∷ []) ∙ ap (λ (p : List ℕ). leaves ++ p ∷ []) box)) in
    let fits = subst (λ (k : Kept). HasEntries k.shape page) seen c.requires.page in
    let few = subst (λ (k : Kept). c.args.count ≤ room_of k.shape k.arity) seen c.requires.few in
    record {
      measures = inv.measures;
      room = inv.room;
      some = inv.some;
      leaves = subst (AreLeaves s.shape s.room) now (one-more s.shape s.room leaves page inv.leaves full fits (omega (arith, inv.room, few, c.requires.count)));
      len = omega (arith, inv.len, c.requires.count, ap (λ (l : List (List ℕ)). length (entries_in s.shape l)) now, ap length (points-more s.shape leaves page), length-append (entries_in s.shape leaves) (entries s.shape page), entries-long s.shape page);
    }
