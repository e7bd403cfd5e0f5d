-- The side of a body, and the number of pages of its trees there.
use Rattle.std.specs.Prelude.{ℕ, ◌+◌, ◌/◌, List, length}
use Rattle.cube_schema.specs.declared.schema.Schema.{Schema}
use Rattle.fact_model.specs.declared.fact.Fact.{Fact}
use Rattle.forest_commit.specs.Commit.{slot_of}
use Rattle.spec_forest.specs.Forest.{forest}
use Rattle.forest_root.specs.Forest.{pages_of_all}
use Rattle.forest_root.specs.declared.body.Body.{Body}
use Rattle.select_map.specs.Views.{selected}

-- the file of a body's side
abbrev pub side_of : Body → ℕ
side_of body = 2 + slot_of body

-- the number of pages of all trees of the schema
abbrev pub page_total : Body → Schema → ℕ
page_total body schema = pages_of_all body.format schema body.counts (selected schema.views).trees

-- the number of pages of the trees over facts, in this format
abbrev pub page_count : ℕ → Schema → List Fact → ℕ
page_count format schema facts = length (forest format schema facts) / 4096
