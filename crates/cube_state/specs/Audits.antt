-- What an audit replies, for any files, and how many reads opening the files and an audit cost.
use Rattle.std.specs.Prelude.{◌≡◌, ◌+◌, ℕ, List, length, Some, None}
use Rattle.site_core.specs.Disk.{Files}
use Rattle.forest_audit.specs.Verdicts.{IsVerdict}
use Rattle.forest_audit.specs.declared.verdict.Verdict.{Verdict}
use Rattle.forest_audit.specs.declared.verdict.Verdict.TheVariants as verdicts
use Rattle.forest_open.specs.Opening.{names_pages}
use Rattle.spec_store.specs.Held.{names_text}
use Rattle.spec_machine.specs.World.{Kept}
use Rattle.reply_text.specs.Replies.{audited_text, broken_text, line, unopened}
use Rattle.cube_state.specs.BatchCosts.{pages_over}
use Rattle.cube_state.specs.Costs.{Cost}

-- the reply for a verdict
abbrev pub verdict_text : Verdict → List ℕ
verdict_text verdicts.Empty = line unopened
verdict_text verdicts.Yes = line audited_text
verdict_text (verdicts.No file offset) = broken_text file offset

-- the reply is that for the verdict on these files
pub record AuditGives (files : Files) (reply : List ℕ) : Type 0 where
  pub found : Verdict
  pub right : IsVerdict files found
  pub said : reply ≡ verdict_text found

-- the most reads when opening files that keep this: the root file, and the pages of the names
abbrev pub open_cost : Kept → ℕ
open_cost None = 1
open_cost (Some warehouse) = 1 + names_pages (length (names_text warehouse.schema warehouse.facts))

-- opening the files, and one read of each page of the trees, in this format
abbrev pub audit_cost : ℕ → Kept → Cost
audit_cost format kept = record { reads = open_cost kept + pages_over format kept; writes = 0 }
