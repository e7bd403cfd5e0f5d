use Rattle.std.proofs.Common.{sym}
use Rattle.audit_tree.proofs.tree.TreeAudit.is_rest.Goals as goal

pub is_inner-requires : goal.is_inner-requires
is_inner-requires c = c.requires.pages c.in-Some.level (sym c.in-Some.ensures.level)
