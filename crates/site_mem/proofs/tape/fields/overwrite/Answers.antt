use Rattle.std.proofs.Common.{◌≡◌, min, length, ◌∙◌, ap, arith}
use Rattle.site_core.specs.Disk.{overwritten}
use Rattle.site_mem.proofs.Copies.{overwritten-min}
use Rattle.site_mem.proofs.Elapsing.{on_ok}
use Rattle.site_mem.proofs.tape.fields.overwrite.Goals as goal

pub returns-clause-ok : goal.returns-clause-ok
returns-clause-ok c =
    let place : c.min.result ≡ min c.args.at (length c.args.file.now.items) = omega arith in
    on_ok c.overwrite_within.result c.overwrite_within.ensures.ok
    (λ is. is ∙ ap (λ m. overwritten c.args.file.now.items m c.args.bytes.now) place ∙ overwritten-min c.args.file.now.items c.args.at c.args.bytes.now)
