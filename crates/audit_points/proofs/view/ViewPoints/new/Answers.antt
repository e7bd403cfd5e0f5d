use Rattle.std.proofs.Common.{ℕ, ◌/◌, List, ap, arith, length, map, subst, sym}
use Rattle.std.specs.declared.alloc.Global.{Global}
use Rattle.std.specs.declared.boxed.Box.{Box}
use Rattle.page_fmt.proofs.Rooms.{room-some}
use Rattle.audit_points.specs.Kept.{AreLeaves, bytes_of, entries_in}
use Rattle.audit_points.proofs.view.ViewPoints.new.Goals as goal

pub invariant_of-result : goal.invariant_of-result
invariant_of-result c =
    let room = ap (λ (n : ℕ). 4088 / n) c.size_of_entry.ensures in
    let some = room-some c.args.arity c.args.shape c.requires.arity c.requires.measures in
    record {
      measures = c.requires.measures;
      room = room;
      some = omega (arith, room, some);
      leaves = subst (λ (l : List (Box (List ℕ) Global)). AreLeaves c.args.shape (4088 / c.size_of_entry.result) (map bytes_of l)) (sym c.new.ensures.items) tt;
      len = ap (λ (l : List (Box (List ℕ) Global)). length (entries_in c.args.shape (map bytes_of l))) (sym c.new.ensures.items);
    }
