-- The greatest coordinates that stand for values.
use Rattle.std.specs.Prelude.{ℕ, suc, List, [], get_or, length, map, replicate, Option, Some, None}
use Rattle.fact_model.specs.Limits.{number_limit}
use Rattle.cube_schema.specs.declared.schema.Schema.{Schema}
use Rattle.cube_schema.specs.declared.schema.Kind.{Kind}
use Rattle.cube_schema.specs.declared.schema.Kind.TheVariants as kind
use Rattle.attr_dict.specs.Book.{Book, kind_at, names_at, no_names}
use Rattle.select_map.specs.Selection.{tree_of}
use Rattle.select_map.specs.Views.{selected}
use Rattle.spec_points.specs.Codes.{Text}
use Rattle.spec_points.specs.Points.{padded}

-- of a text attribute the number of its names, and otherwise that of the greatest number
abbrev pub limit_for : Kind → List Text → ℕ
limit_for (kind.Word max) names = length names
limit_for kind.Number names = suc number_limit

-- the greatest coordinate of an attribute that stands for a value
abbrev pub attr_limit : Schema → Book → ℕ → ℕ
attr_limit schema names a = limit_for (kind_at (no_names schema) a) (names_at names a)

-- the same for each dimension of a view, where there is one
abbrev pub view_limits : Schema → Book → Option ℕ → List ℕ
view_limits schema names None = replicate 8 0
view_limits schema names (Some v) = padded (map (attr_limit schema names) (get_or schema.views v []))

-- the same for each view of a tree
abbrev pub limits_in : Schema → Book → ℕ → List (List ℕ)
limits_in schema names t = map (view_limits schema names) (tree_of (selected schema.views) t).view_of
