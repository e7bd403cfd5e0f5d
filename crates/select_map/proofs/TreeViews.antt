-- The views of all trees are the declared ones.
use Rattle.std.proofs.Common.{◌≡◌, ◌<◌, ℕ, zero, suc, List, [], ◌∷◌, Option, Some, None, map, length, get_or, refl, subst}
use Rattle.std.specs.Prelude.{filter_map}
use Rattle.std.proofs.lemmas.List.{get_or_default}
use Rattle.std.specs.List.{All, AllByRecursion}
use Rattle.select_map.specs.declared.mapping.Tree.{Tree}
use Rattle.select_map.specs.declared.mapping.Mapping.{Mapping}
use Rattle.select_map.specs.Views.{View, arity_at, tree_number}
use Rattle.select_map.specs.Trees.{views_of}
use Rattle.select_map.specs.Selection.{no_tree, tree_of, IsSelection}

-- the views that are there
abbrev pub numbers_in : List (Option ℕ) → List ℕ
numbers_in slots = filter_map (λ slot. slot) slots

-- a property of the view in each slot is one of all numbers
pub each-number : (P : ℕ → Type 0) (slots : List (Option ℕ)) → ((arity v : ℕ) → get_or slots arity None ≡ Some v → P v) → AllByRecursion P (numbers_in slots)
each-number P [] h = tt
each-number P (None ∷ slots) h = each-number P slots (λ arity v is. h (suc arity) v is)
each-number P (Some v ∷ slots) h = (h 0 v refl, each-number P slots (λ arity v is. h (suc arity) v is))

-- and back
pub at-number : (P : ℕ → Type 0) (slots : List (Option ℕ)) → AllByRecursion P (numbers_in slots) → (arity v : ℕ) → get_or slots arity None ≡ Some v → P v
at-number P [] h arity v is = cc
at-number P (None ∷ slots) h zero v is = cc
at-number P (None ∷ slots) h (suc arity) v is = at-number P slots h arity v is
at-number P (Some w ∷ slots) h zero v is = subst P (cc) h.0
at-number P (Some w ∷ slots) h (suc arity) v is = at-number P slots h.1 arity v is

-- the same of views and their numbers
pub at-view : (P : View → Type 0) (views : List View) (vs : List ℕ) → AllByRecursion (λ v. P (get_or views v [])) vs → AllByRecursion P (map (λ v. get_or views v []) vs)
at-view P views [] h = tt
at-view P views (v ∷ vs) h = (h.0, at-view P views vs h.1)

from-view : (P : View → Type 0) (views : List View) (vs : List ℕ) → AllByRecursion P (map (λ v. get_or views v []) vs) → AllByRecursion (λ v. P (get_or views v [])) vs
from-view P views [] h = tt
from-view P views (v ∷ vs) h = (h.0, from-view P views vs h.1)

module _ (views : List View) (m : Mapping) (is : IsSelection views m) where
  -- each number is that of a declared view
  pub numbers-declared : (t : ℕ) → AllByRecursion (λ v. v < length views) (numbers_in (tree_of m t).view_of)
  numbers-declared t = each-number (λ v. v < length views) (tree_of m t).view_of (λ arity v there. (is.alone t arity v there).0)

  -- what is so of the tree of each number is so of each tree
  pub each-tree : (Q : Tree → Type 0) → ((t : ℕ) → Q (tree_of m t)) → All Q m.trees
  each-tree Q all t d lt = subst Q (get_or_default m.trees t no_tree d lt) (all t)

  -- what is so of each declared view is so of each view in a tree
  pub views-declared : (P : View → Type 0) → All P views → (t : ℕ) → AllByRecursion P (views_of views (tree_of m t))
  views-declared P all t =
      at-view P views (numbers_in (tree_of m t).view_of)
      (each-number (λ v. P (get_or views v [])) (tree_of m t).view_of (λ arity v there. all v [] (is.alone t arity v there).0))

  -- and what is so of each view in a tree is so of each declared view
  pub views-placed : (P : View → Type 0) → ((t : ℕ) → AllByRecursion P (views_of views (tree_of m t))) → All P views
  views-placed P all v d lt =
      let slots : List (Option ℕ) = (tree_of m (tree_number views v)).view_of in
      subst P (get_or_default views v [] d lt)
      (at-number (λ w. P (get_or views w [])) slots (from-view P views (numbers_in slots) (all (tree_number views v))) (arity_at views v) v (is.placed v lt))
