-- The entries of a tree's leaves, in the order of the pages, are those of its views.
use Rattle.std.proofs.Common.{◌≡◌, ℕ, zero, suc, List, [], ◌∷◌, ◌++◌, map, refl, ap, sym, ◌∙◌, append_assoc, append-nil, ◌+◌}
use Rattle.std.specs.Prelude.{flat_map}
use Rattle.std.specs.List.{AllByRecursion}
use Rattle.spec_tree.specs.Runs.{runs, top}
use Rattle.spec_tree.specs.Tree.{Page, Leaf, Inner, Node, laid, placed, leaf, inner, tree, entries_in}
use Rattle.spec_tree.proofs.Runs.{joined, joined-append, joined-runs}
use Rattle.spec_tree.proofs.Tops.{every-top}

-- the pages of a node hold its points
abbrev Listed : {E C : Type 0} → Node E C → Type 0
Listed n = (f : ℕ) → entries_in (n.pages f) ≡ n.points

abbrev points_of : {E C : Type 0} → List (Node E C) → List E
points_of ns = flat_map (λ n. n.points) ns

module _ {E C : Type 0} where
  pub entries-append : (a b : List (Page E C)) → entries_in (a ++ b) ≡ entries_in a ++ entries_in b
  entries-append [] b = refl
  entries-append (Leaf es ∷ a) b = ap (λ r. es ++ r) (entries-append a b) ∙ sym (append_assoc es (entries_in a) (entries_in b))
  entries-append (Inner cs ∷ a) b = entries-append a b

  entries-laid : (f : ℕ) (ns : List (Node E C)) → AllByRecursion Listed ns → entries_in (laid f ns) ≡ points_of ns
  entries-laid f [] h = refl
  entries-laid f (n ∷ ns) h = entries-append (n.pages f) (laid (f + suc n.below) ns) ∙ (λ i. h.0 f i ++ entries-laid (f + suc n.below) ns h.1 i)

  points-append : (a b : List (Node E C)) → points_of (a ++ b) ≡ points_of a ++ points_of b
  points-append [] b = refl
  points-append (n ∷ a) b = ap (λ r. n.points ++ r) (points-append a b) ∙ sym (append_assoc n.points (points_of a) (points_of b))

module _ {E C : Type 0} (child : List E → ℕ → C) where
  listed-leaves : (rs : List (List E)) → AllByRecursion (Listed {E = E} {C = C}) (map leaf rs)
  listed-leaves [] = tt
  listed-leaves (r ∷ rs) = ((λ f. append-nil r), listed-leaves rs)

  listed-inner : (ns : List (Node E C)) → AllByRecursion Listed ns → Listed (inner child ns)
  listed-inner ns h f = entries-append (laid f ns) (Inner (placed child f ns) ∷ []) ∙ (append-nil (entries_in (laid f ns)) ∙ entries-laid f ns h)

  points-inner : (rs : List (List (Node E C))) → points_of (map (inner child) rs) ≡ points_of (joined rs)
  points-inner [] = refl
  points-inner (r ∷ rs) = ap (λ z. points_of r ++ z) (points-inner rs) ∙ sym (points-append r (joined rs))

  points-top : (k d : ℕ) (ns : List (Node E C)) → points_of (top k (inner child) d ns) ≡ points_of ns
  points-top k zero [] = refl
  points-top k (suc d) [] = refl
  points-top k zero (x ∷ []) = refl
  points-top k (suc d) (x ∷ []) = refl
  points-top k zero (x ∷ y ∷ ns) = refl
  points-top k (suc d) (x ∷ y ∷ ns) = points-top k d (map (inner child) (runs k (x ∷ y ∷ ns))) ∙ (points-inner (runs k (x ∷ y ∷ ns)) ∙ ap points_of (joined-runs k (x ∷ y ∷ ns)))

  points-leaves : (rs : List (List E)) → points_of {C = C} (map leaf rs) ≡ joined rs
  points-leaves [] = refl
  points-leaves (r ∷ rs) = ap (λ z. r ++ z) (points-leaves rs)

  joined-views : (room : ℕ → ℕ) (views : List (ℕ × List E)) → joined (flat_map (λ v. runs (room v.0) v.1) views) ≡ flat_map (λ v. v.1) views
  joined-views room [] = refl
  joined-views room (v ∷ views) = joined-append 0 (runs (room v.0) v.1) (flat_map (λ v. runs (room v.0) v.1) views) ∙ (λ i. joined-runs (room v.0) v.1 i ++ joined-views room views i)

  -- the entries of a tree's pages are those of its views, one view after another
  pub tree-entries : (room : ℕ → ℕ) (k f : ℕ) (views : List (ℕ × List E)) → entries_in (tree child room k f views) ≡ flat_map (λ v. v.1) views
  tree-entries room k f views = let rs : List (List E) = flat_map (λ v. runs (room v.0) v.1) views in
      entries-laid f (top k (inner child) 11 (map leaf rs)) (every-top Listed k (inner child) listed-inner 11 (map leaf rs) (listed-leaves rs))
      ∙ (points-top k 11 (map leaf rs) ∙ (points-leaves rs ∙ joined-views room views))
