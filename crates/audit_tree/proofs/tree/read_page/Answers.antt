use Rattle.std.proofs.Common.{◌∙◌, arith}
use Rattle.page_fmt.proofs.PageReads.{page-read}
use Rattle.audit_tree.proofs.tree.read_page.Goals as goal

pub returns-clause-page : goal.returns-clause-page
returns-clause-page g c = λ tells. record {
  ok = page-read ((g.T.Site.disk c.args.site.now).files c.args.file) c.read.new.into c.args.number c.in_ok-read.field-0 (c.in_ok-read.ensures.answer tells) (c.read.auto.into ∙ c.told-into) (omega arith);
  short = λ is. cc;
}
