-- The trees that are made.
use Rattle.std.proofs.Common.{◌≡◌, ℕ, ◌+◌, List, [], ◌∷◌, ◌++◌, map, sym, ap, ◌∙◌, arith}
use Rattle.std.specs.List.{range_with_len}
use Rattle.std.proofs.lemmas.List.FromFn.{map-range_with_len_more}
use Rattle.select_map.specs.declared.mapping.Tree.{Tree}
use Rattle.select_map.specs.Views.{View, tree_at, tree_count, selected}

pub trees-more : (views : List View) (trees new : List Tree) (tree : Tree) (n : ℕ) → trees ≡ map (tree_at views) (range_with_len 0 n) → tree ≡ tree_at views n → new ≡ trees ++ tree ∷ [] → new ≡ map (tree_at views) (range_with_len 0 (n + 1))
trees-more views trees new tree n so-far is pushed =
    pushed ∙ (λ i. so-far i ++ is i ∷ []) ∙ sym (map-range_with_len_more (tree_at views) 0 n n (omega arith))

pub trees-all : (views : List View) (trees : List Tree) (n : ℕ) → trees ≡ map (tree_at views) (range_with_len 0 n) → n ≡ tree_count views → record { trees = trees } ≡ selected views
unfolding selected
trees-all views trees n so-far all = λ i. record { trees = (so-far ∙ ap (λ k. map (tree_at views) (range_with_len 0 k)) all) i }
