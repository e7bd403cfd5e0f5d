use Rattle.std.proofs.Common.{◌<◌, ℕ, List, length, ◌∙◌, ap, arith}
use Rattle.site_core.specs.Disk.{with_file, overwritten}
use Rattle.site_mem.specs.History.{texts_of}
use Rattle.test_sites.proofs.Texts.{texts_of-set, texts_of-at}
use Rattle.test_sites.proofs.sure_site.changes.replace_file.Goals as goal

pub returns-clause-old : goal.returns-clause-old
returns-clause-old c =
    let low : c.args.file < length c.args.files.now = omega arith in
    c.replace.ensures.value ∙ texts_of-at c.args.files.now c.args.file _ low

pub returns-clause-new : goal.returns-clause-new
returns-clause-new c =
    let low : c.args.file < length c.args.files.now = omega arith in
    let was = texts_of-at c.args.files.now c.args.file _ low in
    texts_of-set c.args.files.now c.args.file _ low
    ∙ ap (with_file (texts_of c.args.files.now) c.args.file) (c.replace.ensures.after ∙ c.in_ok-new.ensures ∙ ap (λ (o : List ℕ). overwritten o c.args.at c.args.bytes.now) (c.as_bytes.ensures ∙ was))
