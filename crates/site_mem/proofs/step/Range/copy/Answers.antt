use Rattle.std.proofs.Common.{sym}
use Rattle.site_mem.proofs.Copies.{same_range}
use Rattle.site_mem.proofs.step.Range.copy.Goals as goal

pub returns : goal.returns
returns c = sym (same_range c.args.self.now _ (sym c.in_ok-bytes.ensures.cases) _ _)
