use Rattle.std.proofs.Common.{◌++◌, ap, refl}
use Rattle.reply_fold.proofs.pulling.read_all.Goals as goal

pub loop-init : goal.loop-init
loop-init g c = record {
  all = λ told. ap (λ xs. xs ++ g.S.Source.left c.args.source.now) c.new-bytes.ensures.items;
  faults = refl;
  room = c.in_ok-piece.ensures;
}
