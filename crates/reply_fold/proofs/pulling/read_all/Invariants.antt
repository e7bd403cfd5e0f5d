use Rattle.std.proofs.Common.{◌≡◌, ◌++◌}
use Rattle.std.specs.Prelude.{IsTrue, vec_len}
use Rattle.reply_fold.proofs.pulling.read_all.Given as goal

-- the bytes so far and those to come are all
abbrev pub invariant-loop : goal.invariant-loop
invariant-loop g l =
    let source = g.S.Source in
    record {
      all : IsTrue source.tells → l.bytes.items ++ source.left l.source ≡ source.left l.fn.source;
      faults : source.faults l.source ≡ source.faults l.fn.source;
      room : vec_len l.piece ≡ 65536;
    }
