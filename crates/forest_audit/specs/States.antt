-- What an audit answers of files that keep a state.
use Rattle.std.specs.Prelude.{◌≡◌, ℕ, List}
use Rattle.site_core.specs.Disk.{Files}
use Rattle.cube_schema.specs.Lawful.{IsSchema}
use Rattle.cube_schema.specs.declared.schema.Schema.{Schema}
use Rattle.fact_model.specs.declared.fact.Fact.{Fact}
use Rattle.forest_root.specs.Keeps.{KeepsNothing}
use Rattle.spec_store.specs.Held.{AreAccepted, KeepsFacts}
use Rattle.forest_audit.specs.declared.verdict.Verdict.{Verdict}
use Rattle.forest_audit.specs.declared.verdict.Verdict.TheVariants as verdicts

-- files that keep no schema are empty, and files that keep facts are audited
pub record AnswersState (files : Files) (found : Verdict) : Type 0 where
  pub nothing : KeepsNothing files → found ≡ verdicts.Empty
  pub kept : (schema : Schema) (facts : List Fact) (last : ℕ) → IsSchema schema → AreAccepted schema facts → KeepsFacts schema facts last files → found ≡ verdicts.Yes
