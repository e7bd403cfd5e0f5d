use Rattle.std.proofs.Common.{rules}
use Rattle.script_lang.proofs.LongLines.{extended}
use Rattle.script_lang.proofs.reader.Reader.extend.Goals as goal

pub returns-clause-ok : goal.returns-clause-ok
returns-clause-ok c =
    extended c.self.inside.inside c.self.inside.start c.self.inside.text.items _ c.self.invariant _ _ _ _ _ _ c.self.view_is
    c.most.ensures (search rules) c.saturating_sub-room.ensures c.front.ensures c.in_ok-extend_from_slice.ensures.items
