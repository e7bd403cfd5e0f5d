-- In which tree a view stands.
use Rattle.std.specs.Prelude.{ℕ, ◌-◌, ◌^◌, ◌==◌, min, Bool, false, Option, Some, None}
use Rattle.std.specs.List.{list_any, position_or_len}
use Rattle.select_map.specs.declared.mapping.Tree.{Tree}
use Rattle.select_map.specs.declared.mapping.Mapping.{Mapping}

abbrev pub is_view : ℕ → Option ℕ → Bool
is_view view (Some other) = other == view
is_view view None = false

-- the view stands in the tree
abbrev pub holds : ℕ → Tree → Bool
holds view tree = list_any (is_view view) tree.view_of

-- the number of the first tree that holds the view, as far as a `u32` counts
abbrev pub first_holding : ℕ → Mapping → ℕ
first_holding view m = min (position_or_len (holds view) m.trees) (2 ^ 32 - 1)
