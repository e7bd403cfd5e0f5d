-- What an audit answers of files of any content.
use Rattle.std.specs.Prelude.{◌≡◌, ◌≤◌, ◌*◌, ◌^◌, ◌⊎◌, ℕ}
use Rattle.site_core.specs.Disk.{Files}
use Rattle.attr_dict.specs.Book.{Book}
use Rattle.cube_schema.specs.declared.schema.Schema.{Schema}
use Rattle.forest_open.specs.Breaks.{BreaksAt}
use Rattle.forest_open.specs.Opening.{AreOpened, Place}
use Rattle.forest_root.specs.declared.body.Body.{Body}
use Rattle.forest_root.specs.Live.{IsLiveBody, NoneRaised}
use Rattle.forest_audit.specs.declared.verdict.Verdict.{Verdict}
use Rattle.forest_audit.specs.declared.verdict.Verdict.TheVariants as verdicts
use Rattle.forest_audit.specs.Audited.{BreaksAudit, IsAudited, first_page, offset_of, side_file}
use Rattle.page_entry.specs.declared.size.TheConstants.{PAGE}

-- the files are opened with this live body, this schema and these names
pub record OpensAs (files : Files) (body : Body) (schema : Schema) (names : Book) : Type 0 where
  pub live : IsLiveBody body (files 0)
  pub opened : AreOpened body files schema names

-- the files are opened, and keep all rules
pub record AreAudited (files : Files) : Type 0 where
  pub body : Body
  pub schema : Schema
  pub names : Book
  pub opens : OpensAs files body schema names
  pub keeps : IsAudited files body schema names

-- the files are opened, and the first rule that they break is broken at this place
pub record AreWrong (files : Files) (at : Place) : Type 0 where
  pub body : Body
  pub schema : Schema
  pub names : Book
  pub opens : OpensAs files body schema names
  pub breaks : BreaksAudit files body schema names at

-- no slot is raised; all rules are kept; or the first broken rule is broken at this place
abbrev pub IsVerdict : Files → Verdict → Type 0
IsVerdict files verdicts.Empty = NoneRaised (files 0)
IsVerdict files verdicts.Yes = AreAudited files
IsVerdict files (verdicts.No file offset) = BreaksAt files (file, offset) ⊎ AreWrong files (file, offset)

-- the same of files that are opened with this body, this schema and these names
abbrev pub IsStoreVerdict : Files → Body → Schema → Book → Verdict → Type 0
IsStoreVerdict files body schema names verdicts.Empty = ⊥
IsStoreVerdict files body schema names verdicts.Yes = IsAudited files body schema names
IsStoreVerdict files body schema names (verdicts.No file offset) = BreaksAudit files body schema names (file, offset)

-- the verdict names the place of a page of the side that has an offset
abbrev pub NamesPage : Body → ℕ → Verdict → Type 0
NamesPage body page (verdicts.No file offset) = (file ≡ side_file body) × (page ≤ 2 ^ 50 → offset ≡ PAGE * page)
NamesPage body page verdicts.Empty = ⊥
NamesPage body page verdicts.Yes = ⊥

-- the verdict names the place of the first leaf of a view
abbrev pub NamesView : Files → Body → Schema → Book → ℕ → Verdict → Type 0
NamesView files body schema names v (verdicts.No file offset) = (file ≡ side_file body) × (offset ≡ offset_of (first_page files body schema names v))
NamesView files body schema names v verdicts.Empty = ⊥
NamesView files body schema names v verdicts.Yes = ⊥
