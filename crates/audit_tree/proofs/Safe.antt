-- Whatever was read, there is room for the next page.
use Rattle.std.proofs.Common.{◌≡◌, ◌≤◌, ◌<◌, ◌+◌, ◌-◌, ◌^◌, ℕ, suc, None, Some, Option, List, length, refl, ap, sym, ◌∙◌, arith, subst, length-append}
use Rattle.std.specs.Prelude.{replicate, slice_index}
use Rattle.std.proofs.lemmas.List.{length-replicate, length-set}
use Rattle.cube_point.specs.declared.point.Entry.{Entry}
use Rattle.cube_point.specs.declared.point.Shape.{Shape}
use Rattle.spec_tree.proofs.Room.{twelve}
use Rattle.spec_tree.specs.Counts.{reach}
use Rattle.spec_tree.specs.Levels.{full_level, rest_level}
use Rattle.page_fmt.specs.Trees.{fanout_of, room_of}
use Rattle.page_fmt.specs.Writing.{IsShape}
use Rattle.page_fmt.proofs.Rooms.{fanout-many}
use Rattle.tree_pack.specs.Moving.{HasPageIn, HasRoomIn, Moving, begun, with_inner}
use Rattle.tree_pack.specs.Sound.{IsSound}
use Rattle.tree_scan.specs.Scanning.{leaf_entries}
use Rattle.tree_pack.proofs.Sound.{sound-begins, sound-full, sound-full_page, sound-leaf, sound-less, sound-rest, sound-rest_page, sound-room}
use Rattle.audit_tree.specs.Auditing.{IsSafe}
use Rattle.audit_tree.specs.Broken.{AreFew}
use Rattle.audit_tree.specs.Fitting.{Fits, IsNextArity, behind_leaf, due, fits_full, fits_leaf, fits_rest}
use Rattle.audit_tree.specs.Numbers.{arities}
use Rattle.audit_tree.proofs.Arities.{arities-few}
use Rattle.audit_tree.proofs.Leaves.{arities-behind}

pub safe-begins : (shape : Shape) (first : ℕ) (counts : List ℕ) → IsShape shape → AreFew counts → length counts ≡ 9 → IsSafe shape counts (begun shape first)
safe-begins shape first counts is few nine =
    let many : length (arities counts) < reach (fanout_of shape) 11 = twelve (fanout_of shape) (length (arities counts)) (fanout-many shape is.dims) (omega (arith, arities-few counts few)) in
    record { shape_is = refl; empty = refl; sound = sound-begins (length (arities counts)) shape first is (omega (arith, many)); nine = nine }

module _ (shape : Shape) (left : List ℕ) (m : Moving) (safe : IsSafe shape left m) where
  in-own : (o : Option ℕ) → full_level (fanout_of shape) m.levels ≡ o → full_level (fanout_of m.shape) m.levels ≡ o
  in-own o full = subst (λ (s : Shape). full_level (fanout_of s) m.levels ≡ o) (sym safe.shape_is) full

  pub safe-room : full_level (fanout_of shape) m.levels ≡ None → m.next_page < 2 ^ 60 → HasRoomIn 0 m
  safe-room none few = sound-room (length (arities left)) m safe.sound (in-own None none) few

  pub safe-full : (i : ℕ) → full_level (fanout_of m.shape) m.levels ≡ Some i → m.next_page < 2 ^ 60 → HasPageIn i m
  safe-full i full few = sound-full_page (length (arities left)) m safe.sound i full few

  pub safe-rest : (i : ℕ) → rest_level m.levels ≡ Some i → m.next_page < 2 ^ 60 → HasPageIn i m
  safe-rest i rest few = sound-rest_page (length (arities left)) m safe.sound i rest few

  -- fewer are left behind a leaf
  sum-behind : (a : ℕ) → 0 < room_of shape a → IsNextArity left a → suc (length (arities (behind_leaf shape left a))) ≤ length (arities left)
  sum-behind a room next =
      let split = ap length (arities-behind shape left safe.nine a next) ∙ length-append (replicate (due shape left a) a) (arities (behind_leaf shape left a)) in
      omega (arith, split, length-replicate (due shape left a) a, next.some, room)

  with-buffer : (leaves : ℕ) (es : List Entry) → IsSound leaves m → IsSound leaves (record m { buffer = es })
  with-buffer leaves es is = record { shape = is.shape; twelve = is.twelve; roomy = is.roomy; orderly = is.orderly; below = is.below }

  -- a page that fits leaves room again
  pub fits-safe : ((arity : ℕ) → arity < 9 → 0 < room_of shape arity) → {limits : List (List ℕ)} {page to : List ℕ} {w : Moving} → Fits shape limits left m page to w → IsSafe shape to w
  fits-safe room (fits_full {i = i} full same) = record {
    shape_is = safe.shape_is;
    empty = safe.empty;
    sound = sound-full (length (arities left)) m safe.sound i (in-own (Some i) full);
    nine = safe.nine;
  }
  fits-safe room {page = page} (fits_leaf {arity = arity} none leaf) =
      let rest = behind_leaf shape left arity in
      record {
        shape_is = safe.shape_is;
        empty = refl;
        sound = sound-leaf (length (arities rest)) (record m { buffer = leaf_entries shape page }) (with-buffer (suc (length (arities rest))) (leaf_entries shape page) (sound-less (length (arities left)) m safe.sound (suc (length (arities rest))) (sum-behind arity (room arity leaf.whole.next.nine) leaf.whole.next))) (in-own None none);
        nine = length-set left arity (slice_index left arity - due shape left arity) ∙ safe.nine;
      }
  fits-safe room (fits_rest {i = i} none nothing rest same) =
      let zero : length (arities left) ≡ 0 = ap length nothing in
      record {
        shape_is = safe.shape_is;
        empty = safe.empty;
        sound = subst (λ (n : ℕ). IsSound n (with_inner i m)) (sym zero) (sound-rest m (subst (λ (n : ℕ). IsSound n m) zero safe.sound) i rest);
        nine = safe.nine;
      }

-- one page more
pub fits-next : {shape : Shape} {limits : List (List ℕ)} {left page to : List ℕ} {m w : Moving} → Fits shape limits left m page to w → w.next_page ≡ m.next_page + 1
fits-next (fits_full full same) = refl
fits-next (fits_leaf none leaf) = refl
fits-next (fits_rest none nothing rest same) = refl
