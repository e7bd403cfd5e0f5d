use Rattle.std.proofs.Common.{◌≡◌, ◌<◌, ℕ, get_or}
use Rattle.page_entry.specs.Entries.{no_part}
use Rattle.audit_view.specs.Totals.{part_in, zero_part}
use Rattle.audit_view.proofs.total.Total.is.Given as goal

-- the parts before this one are those of the cell
abbrev pub invariant-loop-measure : goal.invariant-loop-measure
invariant-loop-measure l = (m : ℕ) → m < l.measure → part_in (get_or l.self.parts m zero_part) ≡ get_or l.cell.parts m no_part
