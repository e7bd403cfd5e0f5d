-- The points of a tree ascend, and those of more facts are the merge.
use Rattle.std.proofs.Common.{◌≡◌, ℕ, ◌<◌, ◌≤◌, Bool, List, [], ◌∷◌, ◌++◌, length, refl, sym, ◌∙◌, ap, arith, cond, Some, None, flat_map}
use Rattle.std.specs.List.{AllByRecursion, All}
use Rattle.fact_model.specs.declared.fact.Fact.{Fact}
use Rattle.fact_model.specs.Cell.{join}
use Rattle.fact_model.specs.Groups.{is}
use Rattle.cube_point.specs.Points.{point_cmp}
use Rattle.cube_point.proofs.PointOrder.{point-total, point-only}
use Rattle.spec_points.specs.Codes.{names_of}
use Rattle.row_fold.specs.Ascends.{Below, Ascends}
use Rattle.spec_points.specs.Points.{Names, points_by, tree_by, tree_points, Rises, View, PlacedCell}
use Rattle.spec_points.specs.Merge.{merge_points}
use Rattle.spec_points.specs.Agree.{IsCoded}
use Rattle.spec_points.specs.Arity.{HasArity}
use Rattle.row_fold.proofs.Grouping.{plus, at}
use Rattle.row_fold.proofs.Groups.{plus-assoc, plus-four, same-entries}
use Rattle.row_fold.proofs.Merges.{ascends-together, at-together}
use Rattle.spec_points.proofs.Members.{every-map, every-append, every-one, every-left, every-right, every-from_All}
use Rattle.spec_points.proofs.Cells.{join-comm, join-assoc}
use Rattle.spec_points.proofs.Points.{points-append, points-ascend, points-kept}
use Rattle.spec_points.proofs.Codes.{own-names}
use Rattle.spec_points.proofs.Arities.{Keyed, each-arity, arity-first}

at-append : (Q : List ℕ → Bool) (us vs : List PlacedCell) → at join Q (us ++ vs) ≡ plus join (at join Q us) (at join Q vs)
at-append Q [] vs = refl
at-append Q (e ∷ us) vs = ap (plus join (cond (Q e.0) (Some e.1) None)) (at-append Q us vs) ∙ sym (plus-assoc join join-comm join-assoc (cond (Q e.0) (Some e.1) None) (at join Q us) (at join Q vs))

below-append : (k : List ℕ) (us vs : List PlacedCell) → Below point_cmp k us → Below point_cmp k vs → Below point_cmp k (us ++ vs)
below-append k [] vs a b = b
below-append k (e ∷ us) vs a b = (a.0, below-append k us vs a.1 b)

ascends-append : (us vs : List PlacedCell) → Ascends point_cmp us → Ascends point_cmp vs → AllByRecursion (λ e. Below point_cmp e.0 vs) us → Ascends point_cmp (us ++ vs)
ascends-append [] vs a b h = b
ascends-append (e ∷ us) vs a b h = (below-append e.0 us vs a.0 h.0, ascends-append us vs a.1 b h.1)

-- a place of a greater arity
abbrev Later : ℕ → List ℕ → Type 0
Later m k = (n : ℕ) × (m < n) × (n ≤ 8) × HasArity n k

below-later : (m : ℕ) (k : List ℕ) (es : List PlacedCell) → HasArity m k → AllByRecursion (λ e. Later m e.0) es → Below point_cmp k es
below-later m k [] p h = tt
below-later m k (e ∷ es) p h = (arity-first m h.0.0 k e.0 h.0.1 h.0.2 p h.0.3, below-later m k es p h.1)

pub rises-tail : (v : View) (vs : List View) → Rises (v ∷ vs) → Rises vs
rises-tail v [] h = tt
rises-tail v (w ∷ vs) h = h.1

pub rises-head : (v : View) (vs : List View) → Rises (v ∷ vs) → length v ≤ 8
rises-head v [] h = h
rises-head v (w ∷ vs) h = omega (arith, h.0, rises-head w vs h.1)

-- points of views, each view's of its arity and in order
module _ (of : View → List PlacedCell) (ascends : (v : View) → Ascends point_cmp (of v)) where
  abbrev HaveArity : View → Type 0
  HaveArity v = Keyed (HasArity (length v)) (of v)

  later-views : (v : View) (vs : List View) → Rises (v ∷ vs) → AllByRecursion HaveArity vs → Keyed (Later (length v)) (flat_map of vs)
  later-views v [] h c = tt
  later-views v (w ∷ vs) h c = every-append (λ e. Later (length v) e.0) (of w) (flat_map of vs)
      (every-map (λ e. HasArity (length w) e.0) (λ e. Later (length v) e.0) (λ e p. (length w, h.0, rises-head w vs h.1, p)) (of w) c.0)
      (every-map (λ e. Later (length w) e.0) (λ e. Later (length v) e.0) (λ e p. (p.0, omega (arith, h.0, p.1), p.2, p.3)) (flat_map of vs) (later-views w vs h.1 c.1))

  -- those of rising views, one view after another, ascend
  pub views-ascend : (vs : List View) → Rises vs → AllByRecursion (λ v. Keyed (HasArity (length v)) (of v)) vs → Ascends point_cmp (flat_map of vs)
  views-ascend [] h c = tt
  views-ascend (v ∷ vs) h c = ascends-append (of v) (flat_map of vs) (ascends v) (views-ascend vs (rises-tail v vs h) c.1)
      (every-map (λ e. HasArity (length v) e.0) (λ e. Below point_cmp e.0 (flat_map of vs)) (λ e p. below-later (length v) e.0 (flat_map of vs) p (later-views v vs h c.1)) (of v) c.0)

module _ (ns : Names) (n : ℕ) where
  each-ascends : (vs : List View) (facts : List Fact) → Rises vs → AllByRecursion (IsCoded ns) facts → Ascends point_cmp (tree_by ns n vs facts)
  each-ascends vs facts h c = views-ascend (λ v. points_by ns n v facts) (λ v. points-ascend ns n v facts) vs h (every-one (λ v. Keyed (HasArity (length v)) (points_by ns n v facts)) (λ v. each-arity ns n v facts c) vs)

  -- each point of a tree comes before all later ones
  pub tree-ascends : (vs : List View) (facts : List Fact) → Rises vs → All (IsCoded ns) facts → Ascends point_cmp (tree_by ns n vs facts)
  tree-ascends vs facts h c = each-ascends vs facts h (every-from_All (IsCoded ns) facts c)

  at-tree : (Q : List ℕ → Bool) (vs : List View) (xs ys : List Fact) → at join Q (tree_by ns n vs (xs ++ ys)) ≡ plus join (at join Q (tree_by ns n vs xs)) (at join Q (tree_by ns n vs ys))
  at-tree Q [] xs ys = refl
  at-tree Q (v ∷ vs) xs ys =
      let us = points_by ns n v xs in let ws = points_by ns n v ys in
      at-append Q (points_by ns n v (xs ++ ys)) (tree_by ns n vs (xs ++ ys))
      ∙ ((λ i. plus join ((ap (at join Q) (points-append ns n v xs ys) ∙ at-together point_cmp point-total point-only join join-comm join-assoc Q us ws) i) (at-tree Q vs xs ys i))
      ∙ (plus-four join join-comm join-assoc (at join Q us) (at join Q ws) (at join Q (tree_by ns n vs xs)) (at join Q (tree_by ns n vs ys))
      ∙ (λ i. plus join (sym (at-append Q us (tree_by ns n vs xs)) i) (sym (at-append Q ws (tree_by ns n vs ys)) i))))

  -- for any names that code all facts: the points of two lists are the merge of the points of each
  pub tree-append : (vs : List View) (xs ys : List Fact) → Rises vs → All (IsCoded ns) (xs ++ ys) → tree_by ns n vs (xs ++ ys) ≡ merge_points (tree_by ns n vs xs) (tree_by ns n vs ys)
  tree-append vs xs ys h c =
      let all = every-from_All (IsCoded ns) (xs ++ ys) c in
      same-entries point_cmp point-total point-only join join-comm join-assoc (tree_by ns n vs (xs ++ ys)) (merge_points (tree_by ns n vs xs) (tree_by ns n vs ys))
      (each-ascends vs (xs ++ ys) h all)
      (ascends-together point_cmp point-total point-only join (tree_by ns n vs xs) (tree_by ns n vs ys)
      (each-ascends vs xs h (every-left (IsCoded ns) xs ys all)) (each-ascends vs ys h (every-right (IsCoded ns) xs ys all)))
      (λ k. at-tree (is point_cmp k) vs xs ys ∙ sym (at-together point_cmp point-total point-only join join-comm join-assoc (is point_cmp k) (tree_by ns n vs xs) (tree_by ns n vs ys)))

-- a tree's points are kept under the names of more facts
pub tree-kept : (n : ℕ) (vs : List View) (xs ys : List Fact) → tree_by (names_of (xs ++ ys)) n vs xs ≡ tree_points n vs xs
tree-kept n [] xs ys = refl
tree-kept n (v ∷ vs) xs ys = (λ i. points-kept n v xs ys i ++ tree-kept n vs xs ys i)

-- the tree of more facts: the old tree's points, merged with the new facts' points by all names
pub tree-merge : (measures : ℕ) (views : List View) (old new : List Fact) → Rises views
    → tree_points measures views (old ++ new) ≡ merge_points (tree_points measures views old) (tree_by (names_of (old ++ new)) measures views new)
tree-merge n vs xs ys h = tree-append (names_of (xs ++ ys)) n vs xs ys h (own-names (xs ++ ys))
    ∙ ap (λ ps. merge_points ps (tree_by (names_of (xs ++ ys)) n vs ys)) (tree-kept n vs xs ys)
