use Rattle.std.proofs.Common.{rules, arith, ◌+◌, ◌<◌, ◌^◌, drop}
use Rattle.page_entry.specs.Cells.{cell_of}
use Rattle.page_entry.proofs.CellParts.{every-sum, sum-at}
use Rattle.page_entry.proofs.cell.fits.Goals as goal

pub returns-clause-fits : goal.returns-clause-fits
returns-clause-fits c =
    let cell = c.args.cell.now in
    let b = drop c.args.at c.args.bytes.now in
    let counted : cell.count + (cell_of cell.measures b).count < 2 ^ 64 = search rules in (
      λ all.
          let each = every-sum cell b c.are_sums.ensures (c.do_sums_fit.ensures.0 all) in
          record { count = counted; first = each 0 (search rules); second = each 1 (search rules); third = each 2 (search rules); fourth = each 3 (search rules) },
      λ fit. c.do_sums_fit.ensures.1 (λ m lt. sum-at cell (cell_of cell.measures b) fit m (omega (arith, lt, c.requires.measures))),
    )
