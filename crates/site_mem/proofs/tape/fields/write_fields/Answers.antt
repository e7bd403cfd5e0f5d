use Rattle.site_mem.proofs.Elapsing.{on_ok, reverse-push}
use Rattle.site_mem.proofs.tape.fields.write_fields.Goals as goal

pub returns-else-is_err-clause-step : goal.returns-else-is_err-clause-step
returns-else-is_err-clause-step c =
    let r = c.in_ok-range.ensures in
    on_ok c.overwrite_file-done.result c.overwrite_file-done.ensures.ok (λ done. (c.in_ok-range.range, r, reverse-push _ _ _ c.in_ok-push.ensures.items))
