-- What is read from files besides the schema: its trees, and the names.
use Rattle.std.specs.Prelude.{◌≡◌, ◌⊎◌, ℕ, true, List, [], length}
use Rattle.attr_dict.specs.Book.{Book, no_names}
use Rattle.attr_dict.specs.Entering.{HasRead}
use Rattle.attr_dict.specs.Room.{entries_len}
use Rattle.cube_schema.specs.declared.schema.Schema.{Schema}
use Rattle.forest_root.specs.declared.body.Body.{Body}
use Rattle.select_map.specs.declared.mapping.Mapping.{Mapping}
use Rattle.select_map.specs.Views.{selected}
use Rattle.forest_open.specs.declared.stop.OpenStop.{OpenStop}
use Rattle.forest_open.specs.declared.stop.OpenStop.TheVariants as stops
use Rattle.forest_open.specs.Opening.{BreaksEntry, BreaksSchema, is_of_schema}

-- the body agrees with the schema, these are the schema's trees, and the entries hold these names
pub record AreRead (body : Body) (schema : Schema) (entries : List ℕ) (mapping : Mapping) (names : Book) : Type 0 where
  pub of_schema : is_of_schema body schema ≡ true
  pub mapped : mapping ≡ selected schema.views
  pub read : HasRead (no_names schema) names entries []
  pub long : entries_len names ≡ length entries

-- no file failed; damage that is reported is a body with other views or measures, or the first faulty entry
abbrev pub BreaksFront : Body → Schema → List ℕ → OpenStop → Type 0
BreaksFront body schema entries (stops.Damaged file offset) =
    BreaksSchema body schema (file, offset) ⊎ ((is_of_schema body schema ≡ true) × BreaksEntry body schema entries (file, offset))
BreaksFront body schema entries stops.Disk = ⊥
BreaksFront body schema entries stops.Memory = Unit {0}
