use Rattle.std.proofs.Common.{rules, ℕ, FitsSigned, get_or}
use Rattle.std.specs.Int.{w128}
use Rattle.page_entry.specs.Entries.{no_part}
use Rattle.page_entry.proofs.CellParts.{each-of-four}
use Rattle.page_entry.proofs.cell.are_sums.Goals as goal

pub returns : goal.returns
returns c = each-of-four (λ (m : ℕ). FitsSigned w128 (get_or c.args.cell.now.parts m no_part).sum) (search rules) (search rules) (search rules) (search rules)
