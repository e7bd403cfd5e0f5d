use Rattle.std.proofs.Common.{◌∙◌, length, drop, sym}
use Rattle.std.specs.Prelude.{◌==◌, ◌&&◌}
use Rattle.std.specs.List.{list_all}
use Rattle.forest_open.specs.Opening.{is_zero}
use Rattle.forest_open.proofs.opening.trees_and_names.Goals as goal

pub returns-in-Ok-select-clause-read : goal.returns-in-Ok-select-clause-read
returns-in-Ok-select-clause-read c = record {
  of_schema = (λ i. (c.args.body.now.views == length (sym c.as_slice-views.ensures i)) && list_all is_zero (drop (length (sym c.as_slice.ensures i)) c.args.body.now.masses)) ∙ sym c.is_of_schema.ensures ∙ c.if-not-is_of_schema.false;
  mapped = c.in-Ok-select.ensures.exact;
  read = c.in-Ok.ensures.read;
  long = c.in-Ok.ensures.len;
}
