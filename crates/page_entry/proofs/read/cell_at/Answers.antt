use Rattle.std.proofs.Common.{◌-◌, ◌++◌, ℕ, List, sym, ap, ◌∙◌}
use Rattle.std.specs.Prelude.{replicate}
use Rattle.std.proofs.lemmas.List.{drop-drop}
use Rattle.be_numbers.specs.Formats.{many}
use Rattle.page_entry.specs.Entries.{part_of, no_part}
use Rattle.page_entry.proofs.read.cell_at.Goals as goal

pub returns : goal.returns
returns c =
    let m = c.args.measures in
    let parts = c.parts_at.ensures ∙ ap (λ (b : List ℕ). many part_of 48 m b ++ replicate (4 - m) no_part) (sym (drop-drop 8 c.args.at c.args.bytes.now)) in
    λ i. record { count = c.take_u64.ensures i; measures = m; parts = parts i }
