-- What a move needs and gives, by its rule. A merge is looked at as it is (v) and as its fields show it (u).
use Rattle.std.proofs.Common.{◌≡◌, ◌≤◌, ◌<◌, ◌+◌, ℕ, Some, None, true, false, List, [], ◌∷◌, Option, drop, length, get_or, refl, sym, ap, ◌∙◌, subst, arith}
use Rattle.std.specs.Prelude.{Result, Ok, Err, IfOk, OnOk, OnErr, IsErrAnd}
use Rattle.fact_model.specs.Cell.{FitCells}
use Rattle.cube_point.specs.declared.point.Entry.{Entry}
use Rattle.delta_agg.specs.declared.join.DoesNotJoin.{DoesNotJoin}
use Rattle.spec_points.specs.Entries.{both}
use Rattle.spec_tree.specs.Levels.{children_at, full_level, rest_level}
use Rattle.page_fmt.specs.Pages.{inner_bytes, leaf_bytes}
use Rattle.page_fmt.specs.Trees.{fanout_of}
use Rattle.page_fmt.specs.Writing.{leaf_arity}
use Rattle.leaf_pack.specs.Leaf.{is_full}
use Rattle.tree_pack.specs.Moving.{HasPageIn, Moving, with_inner, with_leaf, with_point}
use Rattle.tree_scan.specs.Streaming.{Scanned}
use Rattle.merge_pack.specs.declared.side.Advance.{Advance}
use Rattle.merge_pack.specs.declared.side.Advance.TheVariants as advances
use Rattle.merge_pack.specs.declared.side.Side.{Side}
use Rattle.merge_pack.specs.declared.side.Side.TheVariants as sides
use Rattle.merge_pack.specs.Advancing.{Advances, HasAdvanced, HasMovedPoint, MayAdvance, MayMovePoint, PointMoved}
use Rattle.merge_pack.specs.Merging.{Goes, IsApart, Keeps, KeepsOn, Lends, MayTake, Merger, closes_full, closes_leaf, lowest_due, merging_of, needs_page, side_of}
use Rattle.merge_pack.proofs.Counting.{moved-none}
use Rattle.merge_pack.proofs.Points.{both-next, both-there, is-apart, measures-at, moves-both, moves-new, moves-old, new-next, new-there, old-next}

-- ---- the next point is moved

-- of the scan what it holds alone is changed
held-alone : (s t : Scanned) (held : List Entry) → t ≡ record s { held = held } → t ≡ record s { held = t.held }
held-alone s t held is = is ∙ ap (λ (x : Scanned). record s { held = x.held }) (sym is)

module _ (new : List Entry) (v u : Merger) (view : u ≡ v) (side : Side) (may : MayMovePoint side new v) where
  seen : MayMovePoint side new u
  seen = subst (MayMovePoint side new) (sym view) may

  stands : (s : Side) → side ≡ s → side_of u.scan.held (drop u.taken new) ≡ Some s
  stands s on = seen.next ∙ ap (λ (x : Side). Some x) on

  -- an old point
  pub may-old : side ≡ sides.Old → (o : Entry) (os : List Entry) → u.scan.held ≡ o ∷ os → MayTake u.at o
  may-old on o os is = seen.may o os (drop u.taken new) (old-next u.scan.held (drop u.taken new) o os is (stands sides.Old on))

  pub moved-old : side ≡ sides.Old → (scan : Scanned) (at : Moving) (leaf inner : List ℕ)
      → ((o : Entry) (os : List Entry) → u.scan.held ≡ o ∷ os → at ≡ with_point o u.at) → scan ≡ record u.scan { held = drop 1 u.scan.held }
      → HasMovedPoint new v (record u { scan = scan; at = at; leaf = leaf; inner = inner })
  moved-old on scan at leaf inner moved is = subst (λ (x : Merger). HasMovedPoint new x (record u { scan = scan; at = at; leaf = leaf; inner = inner })) view (record {
    moved = moves-old u.scan.held (drop u.taken new) u.at at scan.held (stands sides.Old on) moved (ap (λ (x : Scanned). x.held) is);
    kept = record { scan = held-alone u.scan scan (drop 1 u.scan.held) is; file = refl; old_counts = refl; new_counts = refl };
    within = seen.within;
  })

  -- a new point, which is this one
  module _ (n : Entry) (there : n ≡ get_or new u.taken n) where
    pub may-new : side ≡ sides.New → MayTake u.at n
    may-new on = seen.may n u.scan.held (drop (u.taken + 1) new) (new-next u.scan.held new u.taken n there (stands sides.New on))

    pub moved-new : side ≡ sides.New → (at : Moving) (leaf inner : List ℕ) → at ≡ with_point n u.at
        → HasMovedPoint new v (record u { taken = u.taken + 1; at = at; leaf = leaf; inner = inner })
    moved-new on at leaf inner moved = subst (λ (x : Merger). HasMovedPoint new x (record u { taken = u.taken + 1; at = at; leaf = leaf; inner = inner })) view (record {
      moved = moves-new u.scan.held new u.taken n u.at at there (stands sides.New on) moved;
      kept = record { scan = refl; file = refl; old_counts = refl; new_counts = refl };
      within = (let some = new-there u.scan.held new u.taken (stands sides.New on) in omega (arith, some));
    })

    -- a point of both sides
    pub both-measures : side ≡ sides.Both → (o : Entry) (os : List Entry) → u.scan.held ≡ o ∷ os → o.cell.measures ≡ n.cell.measures
    both-measures on o os is = measures-at u.scan.held new u.taken n o os there is seen.measures (both-there u.scan.held new u.taken (stands sides.Both on))

    pub may-both : side ≡ sides.Both → (o : Entry) (os : List Entry) → u.scan.held ≡ o ∷ os → FitCells o.cell n.cell → MayTake u.at (both o n)
    may-both on o os is fits = seen.may (both o n) os (drop (u.taken + 1) new) (both-next u.scan.held new u.taken n o os there is (stands sides.Both on) fits)

    pub moved-both : side ≡ sides.Both → (scan : Scanned) (at : Moving) (leaf inner : List ℕ)
        → ((o : Entry) (os : List Entry) → u.scan.held ≡ o ∷ os → at ≡ with_point (both o n) u.at) → ((o : Entry) (os : List Entry) → u.scan.held ≡ o ∷ os → FitCells o.cell n.cell)
        → scan ≡ record u.scan { held = drop 1 u.scan.held } → HasMovedPoint new v (record u { scan = scan; taken = u.taken + 1; at = at; leaf = leaf; inner = inner })
    moved-both on scan at leaf inner moved fits is = subst (λ (x : Merger). HasMovedPoint new x (record u { scan = scan; taken = u.taken + 1; at = at; leaf = leaf; inner = inner })) view (record {
      moved = moves-both u.scan.held new u.taken n u.at at scan.held there (stands sides.Both on) moved fits (ap (λ (x : Scanned). x.held) is);
      kept = record { scan = held-alone u.scan scan (drop 1 u.scan.held) is; file = refl; old_counts = refl; new_counts = refl };
      within = (let some = both-there u.scan.held new u.taken (stands sides.Both on) in omega (arith, some));
    })

    -- whose cells do not join
    pub apart-both : side ≡ sides.Both → ((o : Entry) (os : List Entry) → u.scan.held ≡ o ∷ os → FitCells o.cell n.cell → ⊥) → IsApart v.scan.held (drop v.taken new)
    apart-both on not = subst (λ (x : Merger). IsApart x.scan.held (drop x.taken new)) view (is-apart u.scan.held new u.taken n there (stands sides.Both on) not)

-- what a `?` hands on
pub handed-apart : (new : List Entry) (v w : Merger) (result : Result (Unit {0}) DoesNotJoin) (e : DoesNotJoin) → IsErrAnd result (λ s. s ≡ e) → IsApart v.scan.held (drop v.taken new) → PointMoved new v w result
handed-apart new v w (Ok done) e is apart = absurd is
handed-apart new v w (Err s) e is apart = apart

-- ---- the next move is made

module _ (left : ℕ) (new : List Entry) (v u : Merger) (view : u ≡ v) (may : MayAdvance new v) where
  shown : MayAdvance new u
  shown = subst (MayAdvance new) (sym view) may

  pub may-close : (i : ℕ) → full_level (fanout_of u.at.shape) u.at.levels ≡ Some i → HasPageIn i u.at
  may-close i full = shown.full_page i full

  -- a full level is closed
  pub full-closed : (i : ℕ) (at : Moving) (leaf inner : List ℕ) → full_level (fanout_of u.at.shape) u.at.levels ≡ Some i → at ≡ with_inner i u.at
      → inner ≡ inner_bytes u.at.shape (children_at i u.at.levels) → HasAdvanced left new v advances.Inner (record u { at = at; leaf = leaf; inner = inner })
  full-closed i at leaf inner full after page = subst (λ (x : Merger). HasAdvanced left new x advances.Inner (record u { at = at; leaf = leaf; inner = inner })) view (record {
    goes = subst (λ (a : Moving). Goes left (merging_of u new) advances.Inner (record { held = u.scan.held; delta = drop u.taken new; at = a })) (sym after) (closes_full full);
    kept = record { scan = refl; file = refl; old_counts = refl; new_counts = refl };
    within = shown.within;
    makes = record { leaf = λ e. cc; inner = λ _. page ∙ ap (λ (due : Option ℕ). inner_bytes u.at.shape (children_at (lowest_due due (rest_level u.at.levels)) u.at.levels)) (sym full) };
  })

  -- the full buffer is closed
  pub leaf-closed : (at : Moving) (leaf inner : List ℕ) → full_level (fanout_of u.at.shape) u.at.levels ≡ None → is_full u.at.shape u.at.buffer ≡ true → at ≡ with_leaf u.at
      → leaf ≡ leaf_bytes (leaf_arity u.at.buffer) u.at.shape u.at.buffer → HasAdvanced left new v advances.Leaf (record u { at = at; leaf = leaf; inner = inner })
  leaf-closed at leaf inner none full after page = subst (λ (x : Merger). HasAdvanced left new x advances.Leaf (record u { at = at; leaf = leaf; inner = inner })) view (record {
    goes = subst (λ (a : Moving). Goes left (merging_of u new) advances.Leaf (record { held = u.scan.held; delta = drop u.taken new; at = a })) (sym after) (closes_leaf none full);
    kept = record { scan = refl; file = refl; old_counts = refl; new_counts = refl };
    within = shown.within;
    makes = record { leaf = λ _. page; inner = λ e. cc };
  })

  -- the next page is to be read
  pub page-needed : full_level (fanout_of u.at.shape) u.at.levels ≡ None → is_full u.at.shape u.at.buffer ≡ false → (v.scan.held ≡ []) × (0 < left) → HasAdvanced left new v advances.Page v
  page-needed none room_left needed = record {
    goes = needs_page (subst (λ (x : Merger). full_level (fanout_of x.at.shape) x.at.levels ≡ None) view none) (subst (λ (x : Merger). is_full x.at.shape x.at.buffer ≡ false) view room_left) needed.0 needed.1;
    kept = record { scan = refl; file = refl; old_counts = refl; new_counts = refl };
    within = may.within;
    makes = record { leaf = λ e. cc; inner = λ e. cc };
  }

-- the move is that of the next point, as `take` makes it
pub has-taken : (left : ℕ) (new : List Entry) (v w : Merger) (result : Result Advance DoesNotJoin) → IfOk result (λ a. Goes left (merging_of v new) a (merging_of w new)) → IfOk result (λ a. KeepsOn a new v w)
    → OnOk result (w.taken ≤ length new) → IfOk result (λ a. Lends a v w) → OnErr result (IsApart v.scan.held (drop v.taken new)) → Advances left new v w result
has-taken left new v w (Ok a) goes kept within makes apart = record { goes = goes; kept = kept; within = within; makes = makes }
has-taken left new v w (Err e) goes kept within makes apart = apart

-- no point is left
pub has-finished : (left : ℕ) (new : List Entry) (v w : Merger) (a : Advance) → v.taken ≤ length new → side_of v.scan.held (drop v.taken new) ≡ None → Goes left (merging_of v new) a (merging_of w new) → Keeps None new v w
    → w.taken ≡ v.taken → Lends a v w → HasAdvanced left new v a w
has-finished left new v w a within over goes kept taken makes = record {
  goes = goes;
  kept = subst (λ (side : Option Side). Keeps side new v w) (sym (moved-none a v.scan.held (drop v.taken new) over)) kept;
  within = omega (arith, within, taken);
  makes = makes;
}
