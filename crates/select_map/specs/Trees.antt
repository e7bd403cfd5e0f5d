-- The views of a tree.
use Rattle.std.specs.Prelude.{ℕ, List, [], map, filter_map, get_or}
use Rattle.select_map.specs.declared.mapping.Tree.{Tree}
use Rattle.select_map.specs.Views.{View}

-- their numbers, by ascending arity
abbrev pub numbers_of : Tree → List ℕ
numbers_of tree = filter_map (λ slot. slot) tree.view_of

-- the views themselves, by ascending arity
abbrev pub views_of : List View → Tree → List View
views_of views tree = map (λ v. get_or views v []) (numbers_of tree)
