-- How many pages an audit reads.
use Rattle.std.specs.Prelude.{◌≤◌, ◌+◌, ℕ, List, length}
use Rattle.site_core.specs.Disk.{Files}
use Rattle.attr_dict.specs.Book.{Book}
use Rattle.cube_schema.specs.Lawful.{IsSchema}
use Rattle.cube_schema.specs.declared.schema.Schema.{Schema}
use Rattle.fact_model.specs.declared.fact.Fact.{Fact}
use Rattle.forest_open.specs.Opening.{names_pages}
use Rattle.forest_root.specs.declared.body.Body.{Body}
use Rattle.forest_root.specs.Keeps.{KeepsNothing}
use Rattle.forest_root.specs.Live.{IsLiveBody}
use Rattle.spec_store.specs.Held.{AreAccepted, KeepsAs, names_text}
use Rattle.spec_store.specs.Sides.{page_count, page_total}
use Rattle.forest_audit.specs.Verdicts.{OpensAs}

-- the names that count take at most so many pages, and the trees of files that are opened so many
pub record HaveFewPages (files : Files) (names trees : ℕ) : Type 0 where
  pub names_few : (body : Body) → IsLiveBody body (files 0) → names_pages body.names_len ≤ names
  pub trees_few : (body : Body) (schema : Schema) (book : Book) → OpensAs files body schema book → page_total body schema ≤ trees

-- an audit reads the root file, and each page of the names that count and of the trees once
pub record CostsAudit (files : Files) (old new : ℕ) : Type 0 where
  pub whatever : (names trees : ℕ) → HaveFewPages files names trees → new ≤ old + (1 + names + trees)
  pub nothing : KeepsNothing files → new ≤ old + 1
  pub kept : (format : ℕ) (schema : Schema) (facts : List Fact) (last : ℕ) → IsSchema schema → AreAccepted schema facts → KeepsAs format schema facts last files
      → new ≤ old + (1 + names_pages (length (names_text schema facts)) + page_count format schema facts)
