use Rattle.std.proofs.Common.{◌<◌, ℕ, List, length, ◌∙◌, ap, arith}
use Rattle.site_core.specs.Disk.{with_file, overwritten}
use Rattle.site_mem.specs.History.{files_of}
use Rattle.site_mem.proofs.Arrays.{files_of-set, files_of-set_same, files_of-at}
use Rattle.site_mem.proofs.Elapsing.{on_ok, on_err}
use Rattle.site_mem.proofs.tape.fields.overwrite_file.Goals as goal

pub returns-clause-ok : goal.returns-clause-ok
returns-clause-ok c =
    let low : c.args.file < length c.args.files.now = omega arith in
    let was = files_of-at c.args.files.now c.args.file c.index-files-file.result low in
    on_ok c.overwrite.result c.overwrite.ensures.ok (λ is. files_of-set c.args.files.now c.args.file _ low ∙ ap (with_file (files_of c.args.files.now) c.args.file) (is ∙ ap (λ (o : List ℕ). overwritten o c.args.at c.args.bytes.now) was))

pub returns-clause-err : goal.returns-clause-err
returns-clause-err c =
    let low : c.args.file < length c.args.files.now = omega arith in
    let was = files_of-at c.args.files.now c.args.file c.index-files-file.result low in
    on_err c.overwrite.result c.overwrite.ensures.err (λ is. files_of-set_same c.args.files.now c.args.file _ low (is ∙ was))
