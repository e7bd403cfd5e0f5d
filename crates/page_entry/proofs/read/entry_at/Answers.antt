use Rattle.std.proofs.Common.{◌+◌, ◌*◌, ℕ, drop, sym, ap, ◌∙◌}
use Rattle.std.proofs.lemmas.List.{drop-drop}
use Rattle.page_entry.specs.Cells.{cell_of}
use Rattle.page_entry.specs.Bytes.{width}
use Rattle.page_entry.proofs.read.entry_at.Goals as goal

pub returns : goal.returns
returns c =
    let m = c.args.shape.now.measures in
    let b = c.args.bytes.now in
    let after = ap (λ (k : ℕ). drop (c.args.at + k) b) c.size_of_point.ensures.size ∙ sym (drop-drop (c.args.arity * width c.args.shape.now.wide) c.args.at b) in
    let cell = c.cell_at.ensures ∙ ap (cell_of m) after in
    λ i. record { point = c.point_at.ensures i; cell = cell i }
