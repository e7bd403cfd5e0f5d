-- What the files of a warehouse hold for a list of facts.
use Rattle.std.specs.Prelude.{ℕ, ◌≤◌, ◌<◌, Bool, true, cond, List, [], ◌∷◌, ◌++◌, length, map, nat_le}
use Rattle.std.specs.List.{All, list_all}
use Rattle.site_core.specs.Disk.{Files}
use Rattle.fact_model.specs.declared.fact.Fact.{Fact}
use Rattle.fact_model.specs.declared.fact.Value.{Value}
use Rattle.fact_model.specs.declared.fact.Value.TheVariants.{Word, Number}
use Rattle.fact_model.specs.Fact.{mass}
use Rattle.fact_model.specs.Limits.{HasNumbersWithin}
use Rattle.spec_points.specs.Agree.{narrow_limit}
use Rattle.spec_points.specs.Codes.{names, names_of}
use Rattle.cube_schema.specs.declared.schema.Schema.{Schema}
use Rattle.cube_schema.specs.Agreeing.{Agrees}
use Rattle.cube_schema.specs.Kinds.{max_at}
use Rattle.cube_schema.specs.Writing.{canonical}
use Rattle.attr_dict.specs.Admitting.{entries_text}
use Rattle.spec_points.specs.Light.{KeepMasses}
use Rattle.forest_root.specs.declared.body.Body.{Body}
use Rattle.forest_root.specs.Body.{max_facts}
use Rattle.page_fmt.specs.Formats.{wide_format}
use Rattle.forest_root.specs.Keeps.{Held, LiveAt, Keeps}
use Rattle.view_route.specs.Counts.{body_counts}
use Rattle.spec_forest.specs.Forest.{forest}

-- the masses of the first four measures
abbrev pub masses_of : List Fact → List ℕ
masses_of facts = map (λ m. mass m facts) (0 ∷ 1 ∷ 2 ∷ 3 ∷ [])

-- no attribute has more names than its `max`; numbers have none
abbrev pub HasNames : Schema → List Fact → Type 0
HasNames schema facts = (a : ℕ) → length (names_of facts a) ≤ max_at schema a

-- facts that the schema accepts: they agree with it, and are within its limits
pub record AreAccepted (schema : Schema) (facts : List Fact) : Type 0 where
  pub each : All (Agrees schema) facts
  pub few : length facts ≤ max_facts
  pub named : HasNames schema facts
  pub masses : KeepMasses facts

-- the schema's text, and an entry for each name
abbrev pub names_text : Schema → List Fact → List ℕ
names_text schema facts = canonical schema ++ entries_text (names facts)

-- no number of the fact is above the greatest that a 32-bit coordinate can express
abbrev pub HasNarrowNumbers : Fact → Type 0
HasNarrowNumbers x = HasNumbersWithin narrow_limit x

-- pages of this format can hold the facts: in format 1 no number is above the greatest that 32 bits can express
pub record FitsFormat (format : ℕ) (facts : List Fact) : Type 0 where
  pub narrow : format < wide_format → All HasNarrowNumbers facts

-- the value is a text, or a number that a 32-bit coordinate can express
abbrev pub is_narrow : Value → Bool
is_narrow (Word t) = true
is_narrow (Number n) = nat_le n narrow_limit

-- all values of the facts are narrow
abbrev pub are_narrow : List Fact → Bool
are_narrow facts = list_all (λ (x : Fact). list_all is_narrow x.values) facts

-- the format of the pages after this batch is added to pages of this format
abbrev pub format_for : ℕ → List Fact → ℕ
format_for format facts = cond (are_narrow facts) format wide_format

-- what the files hold for these facts, on pages of this format, where `last` is the number of the last numbered batch
abbrev pub held : ℕ → Schema → List Fact → ℕ → Held
held format schema facts last = record {
  format = format;
  views = length schema.views;
  schema_len = length (canonical schema);
  names = names_text schema facts;
  facts = length facts;
  last = last;
  masses = masses_of facts;
  counts = body_counts schema facts;
  forest = forest format schema facts;
}

-- the files keep these facts, and the number of the last numbered batch, in this format
pub record KeepsAs (format : ℕ) (schema : Schema) (facts : List Fact) (last : ℕ) (files : Files) : Type 0 where
  pub fits : FitsFormat format facts
  pub keeps : Keeps files (held format schema facts last)

-- the files keep them in some format
pub record KeepsFacts (schema : Schema) (facts : List Fact) (last : ℕ) (files : Files) : Type 0 where
  pub format : ℕ
  pub there : KeepsAs format schema facts last files

-- this is the live body of files that keep these facts
pub record IsLive (schema : Schema) (body : Body) (facts : List Fact) (files : Files) : Type 0 where
  pub slot : ℕ
  pub fits : FitsFormat body.format facts
  pub at : LiveAt (held body.format schema facts body.last) slot body files
