-- The trees of views: a view goes into the tree whose number is the count of views of its arity before it.
use Rattle.std.specs.Prelude.{ℕ, ◌+◌, max, Bool, ◌&&◌, ◌==◌, List, [], ◌∷◌, length, get_or, take, map, fold, find, count_by, Option, is_some, if◌then◌else◌}
use Rattle.std.specs.List.{range_with_len}
use Rattle.select_map.specs.declared.mapping.Tree.{Tree}
use Rattle.select_map.specs.declared.mapping.Mapping.{Mapping}
use Rattle.select_map.specs.declared.mapping.TheConstants.{ARITIES}

-- a view is a list of attributes
abbrev pub View : Type 0
View = List ℕ

abbrev pub has_arity : ℕ → View → Bool
has_arity arity view = length view == arity

-- the arity of the view with this number
abbrev pub arity_at : List View → ℕ → ℕ
arity_at views v = length (get_or views v [])

-- how many views before this one have its arity
abbrev pub tree_number : List View → ℕ → ℕ
tree_number views v = count_by (has_arity (arity_at views v)) (take v views)

-- the view has this arity and goes into this tree
abbrev pub goes_into : List View → ℕ → ℕ → ℕ → Bool
goes_into views tree arity v = (arity_at views v == arity) && (tree_number views v == tree)

-- the view of an arity that goes into a tree
abbrev pub view_in : List View → ℕ → ℕ → Option ℕ
view_in views tree arity = find (goes_into views tree arity) (range_with_len 0 (length views))

-- the views of a tree, by arity
abbrev pub views_in : List View → ℕ → List (Option ℕ)
views_in views tree = map (view_in views tree) (range_with_len 0 ARITIES)

-- the last place with a view, where the list begins at place n and `last` is the last before
abbrev pub last_from : ℕ → ℕ → List (Option ℕ) → ℕ
last_from last n [] = last
last_from last n (slot ∷ slots) = last_from (if is_some slot then n else last) (n + 1) slots

-- a tree has as many dimensions as its largest arity
abbrev pub tree_at : List View → ℕ → Tree
tree_at views tree = record { dims = last_from 0 0 (views_in views tree); view_of = views_in views tree }

-- the most views that share an arity
abbrev pub tree_count : List View → ℕ
tree_count views = fold max 0 (map (λ arity. count_by (has_arity arity) views) (range_with_len 0 ARITIES))

-- the mapping of these views
unfoldable pub selected : List View → Mapping
selected views = record { trees = map (tree_at views) (range_with_len 0 (tree_count views)) }
