-- What holds after old points were moved one after another.
use Rattle.std.proofs.Common.{◌≡◌, ◌≤◌, ◌+◌, ◌*◌, ℕ, true, List, [], length, refl, ap, subst, ◌∙◌, arith}
use Rattle.cube_point.specs.declared.point.Entry.{Entry}
use Rattle.cube_point.specs.declared.point.Shape.{Shape}
use Rattle.page_fmt.specs.declared.page.Place.{Place}
use Rattle.page_entry.specs.declared.size.TheConstants.{PAGE}
use Rattle.tree_scan.specs.Streaming.{Scanned}
use Rattle.merge_pack.specs.declared.side.Advance.TheVariants as advances
use Rattle.merge_pack.specs.Building.{IsBuilding}
use Rattle.merge_pack.specs.Merging.{Goes, KeepsOn, Merger, merging_of}
use Rattle.merge_pack.specs.Ready.{KnowsReady}
use Rattle.merge_pack.specs.Safe.{IsSafe, falls}
use Rattle.merge_pack.specs.Standing.{IsMergeOf}
use Rattle.merge_pack.specs.Stepping.{in_memory}
use Rattle.merge_pack.proofs.Building.{steps-build}
use Rattle.merge_pack.proofs.OneByOne.{Carries, carries_none, carries_one}
use Rattle.merge_pack.proofs.Safety.{goes-next, goes-safe, goes-shape, safe-falls}
use Rattle.merge_pack.proofs.Standing.{steps-of}

module _ (new : List Entry) where
  safe-one : (v u : Merger) → IsSafe v new → Goes v.scan.left (merging_of v new) advances.Point (merging_of u new) → KeepsOn advances.Point new v u → u.taken ≡ v.taken → KnowsReady new u → IsSafe u new
  safe-one v u safe goes keeps taken ready = goes-safe v new safe u advances.Point goes (λ e. cc) keeps (omega (arith, taken, safe.within)) ready

  pub carried-safe : {n : ℕ} {v w : Merger} → Carries new n v w → IsSafe v new → IsSafe w new
  carried-safe carries_none safe = safe
  carried-safe (carries_one {v = v} {u = u} goes keeps taken ready more) safe = carried-safe more (safe-one v u safe goes keeps taken ready)

  -- of where the merge reads and writes nothing is changed
  pub record IsStill (v w : Merger) : Type 0 where
    pub taken : w.taken ≡ v.taken
    pub file : w.file ≡ v.file
    pub old_file : w.scan.file ≡ v.scan.file
    pub shape : w.scan.shape ≡ v.scan.shape
    pub new_shape : w.at.shape ≡ v.at.shape
    pub left : w.scan.left ≡ v.scan.left
    pub next : w.at.next_page ≡ v.at.next_page

  pub carried-still : {n : ℕ} {v w : Merger} → Carries new n v w → IsStill v w
  carried-still carries_none = record { taken = refl; file = refl; old_file = refl; shape = refl; new_shape = refl; left = refl; next = refl }
  carried-still (carries_one {v = v} {u = u} goes keeps taken ready more) =
      let rest = carried-still more in
      record {
        taken = rest.taken ∙ taken;
        file = rest.file ∙ keeps.file;
        old_file = rest.old_file ∙ ap (λ (s : Scanned). s.file) keeps.scan;
        shape = rest.shape ∙ ap (λ (s : Scanned). s.shape) keeps.scan;
        new_shape = rest.new_shape ∙ goes-shape v.scan.left (merging_of v new) (merging_of u new) advances.Point goes;
        left = rest.left ∙ ap (λ (s : Scanned). s.left) keeps.scan;
        next = omega (arith, rest.next, goes-next v.scan.left (merging_of v new) (merging_of u new) advances.Point goes);
      }

  pub carried-falls : {n : ℕ} {v w : Merger} → Carries new n v w → IsSafe v new → n + falls w.scan.left (merging_of w new) ≤ falls v.scan.left (merging_of v new)
  carried-falls carries_none safe = omega arith
  carried-falls (carries_one {v = v} {u = u} goes keeps taken ready more) safe =
      omega (arith, safe-falls v new safe u advances.Point goes (λ e. cc) (λ e. cc) keeps, carried-falls more (safe-one v u safe goes keeps taken ready))

  -- each is a move
  pub carried-builds : (bytes : List ℕ) (old_first total first : ℕ) (front side : List ℕ) {n : ℕ} {v w : Merger} (count : ℕ) → Carries new n v w → IsSafe v new → PAGE * v.at.next_page ≤ length side
      → IsBuilding bytes old_first total first new front side count v → IsBuilding bytes old_first total first new front side (count + n) w
  carried-builds bytes old_first total first front side {v = v} count carries_none safe reach is =
      subst (λ (k : ℕ). IsBuilding bytes old_first total first new front side k v) (omega arith) is
  carried-builds bytes old_first total first front side {w = w} count (carries_one {n = n} {v = v} {u = u} goes keeps taken ready more) safe reach is =
      let one = steps-build bytes old_first total first new front side count v safe is advances.Point u (in_memory (λ e. cc) goes keeps) reach refl in
      let next = goes-next v.scan.left (merging_of v new) (merging_of u new) advances.Point goes in
      subst (λ (k : ℕ). IsBuilding bytes old_first total first new front side k w) (omega arith)
      (carried-builds bytes old_first total first front side (count + 1) more (safe-one v u safe goes keeps taken ready) (omega (arith, reach, next)) one)

  pub carried-kept : (old : Place) (shape : Shape) (side first : ℕ) {n : ℕ} {v w : Merger} → Carries new n v w → IsSafe v new → IsMergeOf old new shape side first v → IsMergeOf old new shape side first w
  carried-kept old shape side first carries_none safe is = is
  carried-kept old shape side first (carries_one {v = v} {u = u} goes keeps taken ready more) safe is =
      let next = safe-one v u safe goes keeps taken ready in
      carried-kept old shape side first more next (steps-of old new shape side first true [] v u advances.Point (in_memory (λ e. cc) goes keeps) next is)
