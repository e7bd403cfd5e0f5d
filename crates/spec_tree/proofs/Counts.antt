-- The number of a tree's pages is the one by the counts alone.
use Rattle.std.proofs.Common.{◌≡◌, ℕ, zero, suc, List, [], ◌∷◌, length, map, refl, ap, sym, ◌∙◌, arith, ◌≤◌, ◌<◌, ◌+◌, length-append}
use Rattle.std.specs.Prelude.{flat_map}
use Rattle.std.proofs.lemmas.List.{length-map}
use Rattle.std.specs.List.{AllByRecursion}
use Rattle.std.proofs.lemmas.List.Sums.{sum_by-cons}
use Rattle.spec_tree.specs.Runs.{runs, top}
use Rattle.spec_tree.specs.Tree.{Inner, Node, size, laid, placed, leaf, inner, tree}
use Rattle.spec_tree.specs.Counts.{counts_of, runs_of, level_pages, tree_leaves, tree_pages}
use Rattle.spec_tree.proofs.Runs.{joined, joined-runs, length-runs_of}
use Rattle.spec_tree.proofs.Pages.{size-cons, size-append}
use Rattle.spec_tree.proofs.Tops.{every-top}

module _ {E C : Type 0} (child : List E → ℕ → C) (k : ℕ) (two : 2 ≤ k) where
  size-inner : (rs : List (List (Node E C))) → size (map (inner child) rs) ≡ size (joined rs) + length rs
  size-inner [] = refl
  size-inner (r ∷ rs) = let h : size (map (inner child) rs) ≡ size (joined rs) + length rs = size-inner rs in
      omega (arith, size-cons (inner child r) (map (inner child) rs), size-append r (joined rs))

  -- the pages over a level, with those that are below it already
  pub size-top : (d : ℕ) (ns : List (Node E C)) → size (top k (inner child) d ns) + length ns ≡ size ns + level_pages k d (length ns)
  size-top zero [] = refl
  size-top (suc d) [] = refl
  size-top zero (x ∷ []) = refl
  size-top (suc d) (x ∷ []) = refl
  size-top zero (x ∷ y ∷ ns) = refl
  size-top (suc d) (x ∷ y ∷ ns) =
      let p : 0 < k = omega arith in
      let up : List (Node E C) = map (inner child) (runs k (x ∷ y ∷ ns)) in
      let h : size (top k (inner child) d up) + length up ≡ size up + level_pages k d (length up) = size-top d up in
      let s : size up ≡ size (joined (runs k (x ∷ y ∷ ns))) + length (runs k (x ∷ y ∷ ns)) = size-inner (runs k (x ∷ y ∷ ns)) in
      let a : size (joined (runs k (x ∷ y ∷ ns))) ≡ size (x ∷ y ∷ ns) = ap size (joined-runs k (x ∷ y ∷ ns)) in
      let l : length up ≡ length (runs k (x ∷ y ∷ ns)) = length-map (runs k (x ∷ y ∷ ns)) (inner child) in
      let c : length (runs k (x ∷ y ∷ ns)) ≡ runs_of k (length (x ∷ y ∷ ns)) = length-runs_of k p (x ∷ y ∷ ns) in
      let z : level_pages k d (length up) ≡ level_pages k d (runs_of k (length (x ∷ y ∷ ns))) = ap (level_pages k d) (l ∙ c) in
      omega arith

  leaves-size : (rs : List (List E)) → size {C = C} (map leaf rs) ≡ length rs
  leaves-size [] = refl
  leaves-size (r ∷ rs) = let h : size {C = C} (map leaf rs) ≡ length rs = leaves-size rs in omega (arith, size-cons {C = C} (leaf r) (map leaf rs))

  pub size-count : (rs : List (List E)) → size (top k (inner child) 11 (map leaf rs)) ≡ level_pages k 11 (length rs)
  size-count rs =
      let ns : List (Node E C) = map leaf rs in
      let h : size (top k (inner child) 11 ns) + length ns ≡ size ns + level_pages k 11 (length ns) = size-top 11 ns in
      let l : length ns ≡ length rs = length-map rs leaf in
      let z : level_pages k 11 (length ns) ≡ level_pages k 11 (length rs) = ap (level_pages k 11) l in
      let s : size ns ≡ length rs = leaves-size rs in omega (arith, h, l, z, s)

-- ---- the pages themselves

-- a node has as many pages as it says
abbrev pub Sized : {E C : Type 0} → Node E C → Type 0
Sized n = (f : ℕ) → length (n.pages f) ≡ suc n.below

module _ {E C : Type 0} where
  pub length-laid : (f : ℕ) (ns : List (Node E C)) → AllByRecursion Sized ns → length (laid f ns) ≡ size ns
  length-laid f [] h = refl
  length-laid f (n ∷ ns) h = let r : length (laid (f + suc n.below) ns) ≡ size ns = length-laid (f + suc n.below) ns h.1 in
      omega (arith, r, h.0 f, length-append (n.pages f) (laid (f + suc n.below) ns), size-cons n ns)

module _ {E C : Type 0} (child : List E → ℕ → C) where
  sized-leaves : (rs : List (List E)) → AllByRecursion (Sized {E = E} {C = C}) (map leaf rs)
  sized-leaves [] = tt
  sized-leaves (r ∷ rs) = ((λ f. refl), sized-leaves rs)

  sized-inner : (ns : List (Node E C)) → AllByRecursion Sized ns → Sized (inner child ns)
  sized-inner ns h f = length-append (laid f ns) (Inner (placed child f ns) ∷ []) ∙ (let r : length (laid f ns) ≡ size ns = length-laid f ns h in omega (arith, r))

  -- the pages of the levels over some leaves
  pub length-tops : (k : ℕ) → 2 ≤ k → (f : ℕ) (rs : List (List E)) → length (laid f (top k (inner child) 11 (map leaf rs))) ≡ level_pages k 11 (length rs)
  length-tops k two f rs = length-laid f (top k (inner child) 11 (map leaf rs)) (every-top Sized k (inner child) sized-inner 11 (map leaf rs) (sized-leaves rs)) ∙ size-count child k two rs

  -- so many leaves has a tree
  pub leaves-count : (room : ℕ → ℕ) (views : List (ℕ × List E)) → AllByRecursion (λ v. 0 < room v.0) views → length (flat_map (λ v. runs (room v.0) v.1) views) ≡ tree_leaves room (counts_of views)
  leaves-count room [] h = refl
  leaves-count room (v ∷ views) h = length-append (runs (room v.0) v.1) (flat_map (λ v. runs (room v.0) v.1) views)
      ∙ ((λ i. length-runs_of (room v.0) h.0 v.1 i + leaves-count room views h.1 i) ∙ sym (sum_by-cons (λ c. runs_of (room c.0) c.1) (v.0, length v.1) (counts_of views)))

  -- so many pages has a tree
  pub tree-count : (room : ℕ → ℕ) (k : ℕ) → 2 ≤ k → (f : ℕ) (views : List (ℕ × List E)) → AllByRecursion (λ v. 0 < room v.0) views
      → length (tree child room k f views) ≡ tree_pages room k (counts_of views)
  tree-count room k two f views h = length-tops k two f (flat_map (λ v. runs (room v.0) v.1) views) ∙ ap (level_pages k 11) (leaves-count room views h)
