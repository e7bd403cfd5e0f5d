use Rattle.cube_session.proofs.Told.{answered, stopped, unheard}
use Rattle.cube_session.proofs.session.answer.Goals as goal

pub returns-in-Ok-emit : goal.returns-in-Ok-emit
returns-in-Ok-emit g c = record {
  answers = answered g.T.Site c.args.command c.args.held.now c.act.new.held c.args.site.now c.act.new.site c.args.pages.now c.act.new.pages c.emit.new.self c.in-Ok.reply _ c.deref.ensures.value
      c.in-Ok.ensures.carried c.emit.ensures.disk c.emit.ensures.disk_faults c.emit.ensures.reads c.emit.ensures.writes c.in-Ok-emit.ensures.told c.in-Ok-emit.ensures.cause.ok
      c.requires.fit c.in-Ok.ensures.leveled;
}

pub returns-in-Ok : goal.returns-in-Ok
returns-in-Ok g c = record {
  answers = unheard g.T.Site c.args.command c.args.held.now c.act.new.held c.args.site.now c.act.new.site c.args.pages.now c.act.new.pages c.emit.new.self c.in-Ok.reply _ c.deref.ensures.value
      c.in-Ok.ensures.carried c.emit.ensures.disk c.emit.ensures.disk_faults c.emit.ensures.reads c.emit.ensures.writes (c.in-Err-emit.ensures.cause.failed, c.emit.ensures.cause.once);
}

pub returns : goal.returns
returns g c = record {
  answers = stopped g.T.Site c.args.command c.args.held.now c.act.new.held c.args.site.now c.act.new.site c.args.pages.now c.act.new.pages c.in-Err.stop c.in-Err.ensures.carried;
}
