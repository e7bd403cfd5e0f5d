-- The points of a view as they are kept.
use Rattle.std.proofs.Common.{◌≡◌, ◌<◌, ◌+◌, ℕ, zero, suc, Bool, true, false, cond, List, [], ◌∷◌, filter, get_or, length, map, refl, ap, sym, ◌∙◌, arith, subst}
use Rattle.std.specs.List.{All}
use Rattle.std.specs.Ordering.{is_lt}
use Rattle.std.proofs.lemmas.Bool.{and_from}
use Rattle.site_core.specs.Disk.{Files}
use Rattle.attr_dict.specs.Book.{Book}
use Rattle.cube_point.specs.declared.point.Entry.{Entry}
use Rattle.cube_point.specs.declared.point.Shape.{Shape}
use Rattle.cube_point.specs.Points.{point_cmp}
use Rattle.cube_schema.specs.declared.schema.Schema.{Schema}
use Rattle.forest_root.specs.declared.body.Body.{Body}
use Rattle.audit_points.specs.Kept.{Kept, points_of}
use Rattle.page_entry.specs.Entries.{ascend, entry_before}
use Rattle.page_entry.specs.Stored.{FitsLeaf}
use Rattle.row_fold.specs.Ascends.{Ascends, Below}
use Rattle.select_map.specs.Views.{arity_at, tree_number}
use Rattle.audit_tree.specs.Kept.{IsKept, IsViewOf, has_arity}
use Rattle.tree_scan.specs.Scanning.{AreGood, entries_of}
use Rattle.audit_view.specs.Rolling.{RollsUp}
use Rattle.audit_view.proofs.Order.{ascends-from}
use Rattle.spec_points.specs.Entries.{pair_of}
use Rattle.forest_audit.specs.Agreeing.{IsViewRead}
use Rattle.forest_audit.specs.Audited.{points_at, side_file, tree_place, trees_of, view_of}
use Rattle.forest_audit.specs.Reading.{AreRead as AreTreesRead, AreShaped}

-- ---- points of one arity among points in order

below-filter : (p : Entry → Bool) (k : List ℕ) (es : List Entry) → Below point_cmp k (map pair_of es) → Below point_cmp k (map pair_of (filter p es))
below-filter p k [] b = tt
below-filter p k (e ∷ es) b = elim (p e) as (λ t. Below point_cmp k (map pair_of (cond t (e ∷ filter p es) (filter p es)))) [
  | true ↦ (b.0, below-filter p k es b.1)
  | false ↦ below-filter p k es b.1
]

ascends-filter : (p : Entry → Bool) (es : List Entry) → Ascends point_cmp (map pair_of es) → Ascends point_cmp (map pair_of (filter p es))
ascends-filter p [] a = tt
ascends-filter p (e ∷ es) a = elim (p e) as (λ t. Ascends point_cmp (map pair_of (cond t (e ∷ filter p es) (filter p es)))) [
  | true ↦ (below-filter p e.point.at es a.0, ascends-filter p es a.1)
  | false ↦ ascends-filter p es a.1
]

ascends-to : (es : List Entry) → Ascends point_cmp (map pair_of es) → ascend entry_before es ≡ true
unfolding entry_before
ascends-to [] a = refl
ascends-to (e ∷ []) a = refl
ascends-to (e ∷ f ∷ es) a = and_from (is_lt (point_cmp e.point.at f.point.at)) (ascend entry_before (f ∷ es)) (ap is_lt a.0.0) (ascends-to (f ∷ es) a.1)

good-order : (shape : Shape) (bytes : List ℕ) (first n : ℕ) → AreGood shape bytes first n → ascend entry_before (entries_of shape bytes first n) ≡ true
good-order shape bytes first zero good = refl
good-order shape bytes first (suc n) good = (good (first + n) (omega arith) (omega arith)).after (suc n) (omega arith)

module _ (files : Files) (body : Body) (schema : Schema) (names : Book) (trees : List (List Kept)) (shaped : AreShaped body schema (length (trees_of schema)) trees) (read : AreTreesRead files body schema names (length (trees_of schema)) trees) where
  pub view-read : (v : ℕ) (kept : Kept) (d : List Kept) → tree_number schema.views v < length (trees_of schema) → arity_at schema.views v < 9
      → kept ≡ get_or (get_or trees (tree_number schema.views v) d) (arity_at schema.views v) kept → IsViewRead files body schema names v kept
  view-read v kept d lt nine is =
      let t = tree_number schema.views v in
      let a = arity_at schema.views v in
      let tree = read.each t d lt in
      let one : IsKept (tree_place body schema t) (files (side_file body)) (tree_place body schema t).pages a kept
      = subst (IsKept (tree_place body schema t) (files (side_file body)) (tree_place body schema t).pages a) (sym is) (tree.kept a kept nine) in
      let own : IsViewOf (tree_place body schema t).shape a kept = subst (IsViewOf (tree_place body schema t).shape a) (sym is) (shaped.each t d lt a kept nine) in
      let order = good-order (tree_place body schema t).shape (files (side_file body)) (tree_place body schema t).first (tree_place body schema t).pages tree.keeps.good in
      let all = entries_of (tree_place body schema t).shape (files (side_file body)) (tree_place body schema t).first (tree_place body schema t).pages in
      record {
        points = one.points;
        first = one.first;
        read = record {
          order = ap (ascend entry_before) one.points ∙ ascends-to (filter (has_arity a) all) (ascends-filter (has_arity a) all (ascends-from all order));
          good = subst (λ (s : Shape). All (FitsLeaf s) (points_of kept)) (sym own.shape_is) own.good;
        };
      }

-- the measures of its shape
pub view-measures : (body : Body) (schema : Schema) (trees : List (List Kept)) (shaped : AreShaped body schema (length (trees_of schema)) trees) (v : ℕ) (kept : Kept) (d : List Kept) → tree_number schema.views v < length (trees_of schema)
    → arity_at schema.views v < 9 → kept ≡ get_or (get_or trees (tree_number schema.views v) d) (arity_at schema.views v) kept → kept.shape.measures ≡ length schema.measures
view-measures body schema trees shaped v kept d lt nine is =
    ap (λ (k : Kept). k.shape.measures) is ∙ ap (λ (s : Shape). s.measures) (shaped.each (tree_number schema.views v) d lt (arity_at schema.views v) kept nine).shape_is

-- a pair of views that are kept
pub pair-is : (files : Files) (body : Body) (schema : Schema) (names : Book) (w v : ℕ) (fine coarse : Kept) → IsViewRead files body schema names w fine → IsViewRead files body schema names v coarse
    → RollsUp (view_of schema w) (view_of schema v) (points_of fine) (points_of coarse) ≡ RollsUp (view_of schema w) (view_of schema v) (points_at files body schema names w) (points_at files body schema names v)
pair-is files body schema names w v fine coarse one two = (λ i. RollsUp (view_of schema w) (view_of schema v) (one.points i) (two.points i))
