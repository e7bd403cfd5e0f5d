-- Old points that are moved at once are moved one after another.
use Rattle.std.proofs.Common.{◌≡◌, ◌≤◌, ◌<◌, ◌+◌, ℕ, zero, suc, true, false, Option, Some, None, List, [], ◌∷◌, ◌++◌, length, take, drop, set, refl, sym, ap, subst, ◌∙◌, arith, append-nil, append_assoc, length-append}
use Rattle.std.specs.Prelude.{◌==◌, not, slice_index}
use Rattle.std.specs.List.{All}
use Rattle.std.specs.declared.cmp.Ordering.{Ordering}
use Rattle.std.proofs.lemmas.Bool.{and_from, eq-eqb, eqb-true, ne_eqb}
use Rattle.std.proofs.lemmas.List.{get_or-set_same, length-drop, set-get_or, set-set}
use Rattle.std.proofs.lemmas.List.Elements.{All-tail}
use Rattle.cube_point.specs.declared.point.Entry.{Entry}
use Rattle.cube_point.specs.declared.point.Point.{Point}
use Rattle.cube_point.specs.declared.point.Shape.{Shape}
use Rattle.spec_tree.specs.Levels.{full_level}
use Rattle.page_entry.proofs.Tests.{and-both}
use Rattle.page_entry.specs.Runs.{Precedes}
use Rattle.page_entry.specs.Entries.{ascend, entry_before}
use Rattle.page_fmt.specs.Trees.{fanout_of, room_of}
use Rattle.page_fmt.specs.Writing.{leaf_arity}
use Rattle.leaf_pack.specs.Leaf.{MayAdd, MayAddAll, is_full}
use Rattle.leaf_pack.proofs.Entries.{not-not}
use Rattle.tree_pack.specs.Moving.{with_points}
use Rattle.merge_pack.specs.declared.side.Advance.TheVariants as advances
use Rattle.merge_pack.specs.declared.side.Side.{Side}
use Rattle.merge_pack.specs.declared.side.Side.TheVariants as sides
use Rattle.merge_pack.specs.Merging.{Goes, KeepsOn, Merger, arity_on, first_point, merging_of, moves_point, new_after, old_after, one_more, side_by, side_of, turns_at}
use Rattle.merge_pack.specs.Ready.{ComeBefore, KnowsReady, MayMoveAtOnce}
use Rattle.merge_pack.specs.Runs.{HasMovedRun, MayMoveRun, many_more}
use Rattle.merge_pack.specs.Safe.{IsSafe, falls}
use Rattle.merge_pack.proofs.Counting.{may-less}
use Rattle.merge_pack.proofs.Points.{moves-old, no_entry, old-next}
use Rattle.merge_pack.proofs.Safety.{goes-safe, safe-may}

-- so many old points are moved, one after another
pub data Carries (new : List Entry) : ℕ → Merger → Merger → Type 0 where
  carries_none : {v : Merger} → Carries new 0 v v
  carries_one : {n : ℕ} {v u w : Merger} → Goes v.scan.left (merging_of v new) advances.Point (merging_of u new) → KeepsOn advances.Point new v u → u.taken ≡ v.taken → KnowsReady new u → Carries new n u w → Carries new (suc n) v w

-- ---- lists

take-first : {A : Type 0} (n : ℕ) (l : List A) → 0 < length l → take (suc n) l ≡ take 1 l ++ take n (drop 1 l)
take-first n [] some = absurd (omega (arith, some))
take-first n (x ∷ l) some = refl

drop-first : {A : Type 0} (n : ℕ) (l : List A) → 0 < length l → drop (suc n) l ≡ drop n (drop 1 l)
drop-first n [] some = absurd (omega (arith, some))
drop-first n (x ∷ l) some = refl

take-one : {A : Type 0} (l : List A) → 0 < length l → length (take 1 l) ≡ 1
take-one [] some = absurd (omega (arith, some))
take-one (x ∷ l) some = refl

-- the first of points in order are in order
pub take-ascends : (n : ℕ) (l : List Entry) → ascend entry_before l ≡ true → ascend entry_before (take n l) ≡ true
take-ascends zero l order = refl
take-ascends (suc n) [] order = refl
take-ascends (suc zero) (x ∷ l) order = refl
take-ascends (suc (suc n)) (x ∷ []) order = refl
take-ascends (suc (suc n)) (x ∷ y ∷ l) order =
    let both = and-both (entry_before x y) (ascend entry_before (y ∷ l)) order in
    and_from (entry_before x y) (ascend entry_before (y ∷ take n l)) both.0 (take-ascends (suc n) (y ∷ l) both.1)

-- ---- what the next old point asks

first-arity : (a : ℕ) (l : List Entry) → 0 < length l → All (λ (e : Entry). e.point.arity ≡ a) l → leaf_arity l ≡ a
first-arity a [] some all = absurd (omega (arith, some))
first-arity a (e ∷ l) some all = all 0 e (omega arith)

rest-arities : (a : ℕ) (l : List Entry) → All (λ (e : Entry). e.point.arity ≡ a) l → All (λ (e : Entry). e.point.arity ≡ a) (drop 1 l)
rest-arities a [] all = all
rest-arities a (e ∷ l) all = All-tail (λ (e : Entry). e.point.arity ≡ a) e l all

before-rest : (next : Option Point) (n : ℕ) (l : List Entry) → 0 < length l → ComeBefore next (take (suc n) l) → ComeBefore next (take n (drop 1 l))
before-rest next n [] some before = absurd (omega (arith, some))
before-rest None n (e ∷ l) some before = tt
before-rest (Some p) n (e ∷ l) some before = All-tail (Precedes p) e (take n l) before

-- it comes before the next new one
old-side : (next : Option Point) (n : ℕ) (l ds : List Entry) → 0 < length l → first_point ds ≡ next → ComeBefore next (take (suc n) l) → side_of l ds ≡ Some sides.Old
old-side next n [] ds some is before = absurd (omega (arith, some))
old-side next n (e ∷ l) [] some is before = refl
old-side next n (e ∷ l) (d ∷ ds) some is before =
    let here = subst (λ (p : Option Point). ComeBefore p (take (suc n) (e ∷ l))) (sym is) before in
    ap (λ (r : Ordering). Some (side_by r)) (here 0 e (omega arith))

-- the leaf has room for it
room-one : (shape : Shape) (b : List Entry) (a n : ℕ) → turns_at b a ≡ false → length b + suc n ≤ room_of shape a → is_full shape b ≡ false
room-one shape [] a n same few = refl
room-one shape (x ∷ b) a n same few =
    let is : x.point.arity ≡ a = eqb-true x.point.arity a (not-not (x.point.arity == a) same) in
    ne_eqb (length (x ∷ b)) (room_of shape x.point.arity) (λ full. omega (arith, full, few, ap (room_of shape) is))

-- and is of its arity
turns-on : (b l : List Entry) (a : ℕ) → 0 < length l → All (λ (e : Entry). e.point.arity ≡ a) l → turns_at b a ≡ false → turns_at (b ++ take 1 l) a ≡ false
turns-on b [] a some all same = absurd (omega (arith, some))
turns-on [] (e ∷ l) a some all same = ap not (eq-eqb e.point.arity a (all 0 e (omega arith)))
turns-on (x ∷ b) (e ∷ l) a some all same = same

add-first : (shape : Shape) (b l : List Entry) (n : ℕ) → 0 < length l → ((o : Entry) (os : List Entry) → l ≡ o ∷ os → MayAdd shape b o) → MayAddAll shape (b ++ take 1 l) (take n (drop 1 l)) → MayAddAll shape b (take (suc n) l)
add-first shape b [] n some one rest = absurd (omega (arith, some))
add-first shape b (o ∷ os) n some one rest = (one o os refl, rest)

-- ---- counts

more-none : (a : ℕ) (counts : List ℕ) → many_more 0 a counts ≡ counts
more-none a counts = ap (set counts a) (omega arith) ∙ set-get_or counts a 0

more-first : (n a : ℕ) (counts : List ℕ) → a < length counts → many_more (suc n) a counts ≡ many_more n a (one_more a counts)
more-first n a counts lt =
    let one = slice_index counts a + 1 in
    let here : slice_index (set counts a one) a ≡ one = get_or-set_same counts a one 0 lt in
    ap (set counts a) (omega (arith, here)) ∙ sym (set-set counts a one (slice_index (set counts a one) a + n))

-- ---- one of them

module _ (new : List Entry) (next : Option Point) (a : ℕ) where
  -- so many may be moved
  record Ready (n : ℕ) (v : Merger) : Type 0 where
    none : full_level (fanout_of v.at.shape) v.at.levels ≡ None
    shape : v.scan.shape ≡ v.at.shape
    held : n ≤ length v.scan.held
    arities : All (λ (e : Entry). e.point.arity ≡ a) v.scan.held
    turn : turns_at v.at.buffer a ≡ false
    room : length v.at.buffer + n ≤ room_of v.at.shape a
    before : ComeBefore next (take n v.scan.held)

  -- they are moved
  record Moved (n : ℕ) (v w : Merger) : Type 0 where
    scan : w.scan ≡ record v.scan { held = drop n v.scan.held }
    taken : w.taken ≡ v.taken
    file : w.file ≡ v.file
    at : w.at ≡ with_points (take n v.scan.held) v.at
    olds : w.old_counts ≡ many_more n a v.old_counts
    news : w.new_counts ≡ many_more n a v.new_counts

  may-of : (n : ℕ) (v : Merger) → Ready n v → 0 < n → MayMoveAtOnce n next v.scan v.at
  may-of n v ready some =
      let arity : leaf_arity v.scan.held ≡ a = first-arity a v.scan.held (omega (arith, some, ready.held)) ready.arities in
      record {
        room = record {
          none = ready.none;
          shape = ready.shape;
          held = ready.held;
          arities = subst (λ (k : ℕ). All (λ (e : Entry). e.point.arity ≡ k) v.scan.held) (sym arity) ready.arities;
          turn = ap (turns_at v.at.buffer) arity ∙ ready.turn;
          room = omega (arith, ready.room, ap (room_of v.at.shape) arity);
        };
        before = ready.before;
      }

  module _ (n : ℕ) (v : Merger) (safe : IsSafe v new) (is : first_point (drop v.taken new) ≡ next) (ready : Ready (suc n) v) (leaf inner : List ℕ) where
    abbrev u : Merger
    u = record {
      scan = record v.scan { held = drop 1 v.scan.held };
      taken = v.taken;
      ready = n;
      file = v.file;
      at = with_points (take 1 v.scan.held) v.at;
      leaf = leaf;
      inner = inner;
      old_counts = one_more a v.old_counts;
      new_counts = one_more a v.new_counts;
    }

    abbrev ds : List Entry
    ds = drop v.taken new

    some : 0 < length v.scan.held
    some = omega (arith, ready.held)

    arity : leaf_arity v.scan.held ≡ a
    arity = first-arity a v.scan.held some ready.arities

    side : side_of v.scan.held ds ≡ Some sides.Old
    side = old-side next n v.scan.held ds some is ready.before

    not_full : is_full v.at.shape v.at.buffer ≡ false
    not_full = room-one v.at.shape v.at.buffer a n ready.turn ready.room

    same : turns_at v.at.buffer (arity_on sides.Old v.scan.held ds) ≡ false
    same = ap (turns_at v.at.buffer) arity ∙ ready.turn

    one-goes : Goes v.scan.left (merging_of v new) advances.Point (merging_of u new)
    one-goes = moves_point sides.Old ready.none not_full (λ e. absurd (omega (arith, some, ap length e))) side same
        (moves-old v.scan.held ds v.at u.at u.scan.held side (λ o os head. ap (λ (l : List Entry). with_points (take 1 l) v.at) head) refl)

    one-keeps : KeepsOn advances.Point new v u
    one-keeps = record {
      scan = refl;
      file = refl;
      old_counts = sym (ap (λ (s : Option Side). old_after s v.scan.held ds v.old_counts) side ∙ ap (λ (k : ℕ). one_more k v.old_counts) arity);
      new_counts = sym (ap (λ (s : Option Side). new_after s v.scan.held ds v.new_counts) side ∙ ap (λ (k : ℕ). one_more k v.new_counts) arity);
    }

    one-ready : Ready n u
    one-ready = record {
      none = ready.none;
      shape = ready.shape;
      held = omega (arith, length-drop 1 v.scan.held, ready.held);
      arities = rest-arities a v.scan.held ready.arities;
      turn = turns-on v.at.buffer v.scan.held a some ready.arities ready.turn;
      room = omega (arith, length-append v.at.buffer (take 1 v.scan.held), take-one v.scan.held some, ready.room);
      before = before-rest next n v.scan.held some ready.before;
    }

    one-knows : KnowsReady new u
    one-knows = λ more. subst (λ (p : Option Point). MayMoveAtOnce n p u.scan u.at) (sym is) (may-of n u one-ready more)

    one-safe : IsSafe u new
    one-safe = goes-safe v new safe u advances.Point one-goes (λ e. cc) one-keeps safe.within one-knows

    one-may : (o : Entry) (os : List Entry) → v.scan.held ≡ o ∷ os → MayAdd v.at.shape v.at.buffer o
    one-may o os head =
        let may = safe-may v new safe sides.Old o os ds not_full same side (old-next v.scan.held ds o os head side) in
        record { not_full = may.not_full; arity = may.arity; after = may.after; arity_fits = may.arity_fits; good = may.good }

    one-arity : a ≤ 8
    one-arity = omega (arith, (safe.led.held.arities 0 no_entry some), safe.sound.shape.dims, arity)

    one-moved : (k : ℕ) (w : Merger) → Moved (suc k) v w → Moved k u w
    one-moved k w moved =
        let nine_old : a < length v.old_counts = omega (arith, one-arity, safe.counts.passed.nine) in
        let nine_new : a < length v.new_counts = omega (arith, one-arity, safe.counts.moved.nine) in
        record {
          scan = moved.scan ∙ ap (λ (l : List Entry). record v.scan { held = l }) (drop-first k v.scan.held some);
          taken = moved.taken;
          file = moved.file;
          at = moved.at ∙ ap (λ (l : List Entry). record v.at { buffer = l }) (ap (λ (l : List Entry). v.at.buffer ++ l) (take-first k v.scan.held some) ∙ sym (append_assoc v.at.buffer (take 1 v.scan.held) (take k (drop 1 v.scan.held))));
          olds = moved.olds ∙ more-first k a v.old_counts nine_old;
          news = moved.news ∙ more-first k a v.new_counts nine_new;
        }

  -- ---- all of them

  carries-from : (n : ℕ) (v w : Merger) → IsSafe v new → first_point (drop v.taken new) ≡ next → Ready (n + w.ready) v → Moved n v w → v.leaf ≡ w.leaf → v.inner ≡ w.inner → v.ready ≡ n + w.ready → Carries new n v w
  carries-from zero v w safe is ready moved leaf inner rest =
      let at : v.at ≡ w.at = ap (λ (l : List Entry). record v.at { buffer = l }) (sym (append-nil v.at.buffer)) ∙ sym moved.at in
      let olds : v.old_counts ≡ w.old_counts = sym (moved.olds ∙ more-none a v.old_counts) in
      let news : v.new_counts ≡ w.new_counts = sym (moved.news ∙ more-none a v.new_counts) in
      let known : v.ready ≡ w.ready = omega (arith, rest) in
      let whole : v ≡ w = (λ i. record {
        scan = sym moved.scan i;
        taken = sym moved.taken i;
        ready = known i;
        file = sym moved.file i;
        at = at i;
        leaf = leaf i;
        inner = inner i;
        old_counts = olds i;
        new_counts = news i;
      }) in
      subst (Carries new 0 v) whole carries_none
  carries-from (suc n) v w safe is ready moved leaf inner rest =
      let more = n + w.ready in
      let all : Ready (suc more) v = subst (λ (k : ℕ). Ready k v) (omega arith) ready in
      carries_one (one-goes more v safe is all w.leaf w.inner) (one-keeps more v safe is all w.leaf w.inner) refl (one-knows more v safe is all w.leaf w.inner)
      (carries-from n (u more v safe is all w.leaf w.inner) w (one-safe more v safe is all w.leaf w.inner) is (one-ready more v safe is all w.leaf w.inner) (one-moved more v safe is all w.leaf w.inner n w moved) refl refl refl)

  adds-all : (n : ℕ) (v : Merger) → IsSafe v new → first_point (drop v.taken new) ≡ next → Ready n v → MayAddAll v.at.shape v.at.buffer (take n v.scan.held)
  adds-all zero v safe is ready = tt
  adds-all (suc n) v safe is ready =
      add-first v.at.shape v.at.buffer v.scan.held n (some n v safe is ready v.leaf v.inner) (one-may n v safe is ready v.leaf v.inner)
      (adds-all n (u n v safe is ready v.leaf v.inner) (one-safe n v safe is ready v.leaf v.inner) is (one-ready n v safe is ready v.leaf v.inner))

-- ---- as the code has them

module _ (new : List Entry) (next : Option Point) (n : ℕ) (v : Merger) (safe : IsSafe v new) (is : first_point (drop v.taken new) ≡ next) (may : MayMoveAtOnce (suc n) next v.scan v.at) where
  abbrev first : ℕ
  first = leaf_arity v.scan.held

  is-ready : Ready new next first (suc n) v
  is-ready = record { none = may.room.none; shape = may.room.shape; held = may.room.held; arities = may.room.arities; turn = may.room.turn; room = may.room.room; before = may.before }

  few-left : suc n ≤ falls v.scan.left (merging_of v new)
  few-left = omega (arith, may.room.held)

  run-may : MayMoveRun (suc n) v
  run-may = record {
    some = omega arith;
    shape = may.room.shape;
    held = may.room.held;
    arity = one-arity new next first n v safe is is-ready v.leaf v.inner;
    counts = (may-less (falls v.scan.left (merging_of v new)) (suc n) v.old_counts few-left safe.counts.passed, may-less (falls v.scan.left (merging_of v new)) (suc n) v.new_counts few-left safe.counts.moved);
    may = adds-all new next first (suc n) v safe is is-ready;
  }

pub may-run : (new : List Entry) (next : Option Point) (n : ℕ) (v : Merger) → IsSafe v new → first_point (drop v.taken new) ≡ next → 0 < n → MayMoveAtOnce n next v.scan v.at → MayMoveRun n v
may-run new next zero v safe is pos may = absurd (omega (arith, pos))
may-run new next (suc n) v safe is pos may = run-may new next n v safe is may

-- of those that are ready so many are moved, and the others are known
pub moves-run : (new : List Entry) (next : Option Point) (n : ℕ) (v w : Merger) → IsSafe v new → first_point (drop v.taken new) ≡ next → 0 < n → MayMoveAtOnce (n + w.ready) next v.scan v.at → HasMovedRun n v w → Carries new n v w
moves-run new next zero v w safe is pos may moved = absurd (omega (arith, pos))
moves-run new next (suc n) v w safe is pos may moved =
    let a = leaf_arity v.scan.held in
    let more = n + w.ready in
    let all : MayMoveAtOnce (suc more) next v.scan v.at = subst (λ (k : ℕ). MayMoveAtOnce k next v.scan v.at) (omega arith) may in
    let ready = is-ready new next more v safe is all in
    let has : Moved new next a (suc n) v w = record { scan = moved.scan; taken = moved.taken; file = moved.file; at = moved.at; olds = moved.old_counts; news = moved.new_counts } in
    carries_one (one-goes new next a more v safe is ready w.leaf w.inner) (one-keeps new next a more v safe is ready w.leaf w.inner) refl (one-knows new next a more v safe is ready w.leaf w.inner)
    (carries-from new next a n (u new next a more v safe is ready w.leaf w.inner) w (one-safe new next a more v safe is ready w.leaf w.inner) is (one-ready new next a more v safe is ready w.leaf w.inner)
    (one-moved new next a more v safe is ready w.leaf w.inner n w has) refl refl refl)
