use Rattle.merge_pack.proofs.Advancing.{apart-both, both-measures, handed-apart, may-both, may-new, may-old, moved-both, moved-new, moved-old}
use Rattle.merge_pack.proofs.merge.Merge.move_any.Goals as goal

pub move_old-requires-clause-may : goal.move_old-requires-clause-may
move_old-requires-clause-may c = may-old c.args.delta.now _ _ c.self.view_is c.args.side c.requires c.in-Old.is

pub returns-in-Old : goal.returns-in-Old
returns-in-Old c = moved-old c.args.delta.now _ _ c.self.view_is c.args.side c.requires c.in-Old.is c.move_old.new.scan c.move_old.new.packer.at _ _ c.move_old.ensures.moved c.move_old.ensures.scan

pub move_new-requires : goal.move_new-requires
move_new-requires c = may-new c.args.delta.now _ _ c.self.view_is c.args.side c.requires c.entry.result (c.entry.ensures c.entry.result) c.in-New.is

pub returns-in-New : goal.returns-in-New
returns-in-New c = moved-new c.args.delta.now _ _ c.self.view_is c.args.side c.requires c.entry.result (c.entry.ensures c.entry.result) c.in-New.is c.move_new.new.packer.at _ _ c.move_new.ensures

pub move_both-requires-clause-measures : goal.move_both-requires-clause-measures
move_both-requires-clause-measures c =
    both-measures c.args.delta.now _ _ c.self.view_is c.args.side c.requires c.entry-in-Both.result (c.entry-in-Both.ensures c.entry-in-Both.result) c.in-Both.is

pub move_both-requires-clause-may : goal.move_both-requires-clause-may
move_both-requires-clause-may c =
    may-both c.args.delta.now _ _ c.self.view_is c.args.side c.requires c.entry-in-Both.result (c.entry-in-Both.ensures c.entry-in-Both.result) c.in-Both.is

pub returns-in_ok-move_both-in-Both : goal.returns-in_ok-move_both-in-Both
returns-in_ok-move_both-in-Both c =
    let has = c.in_ok-move_both-in-Both.ensures in
    moved-both c.args.delta.now _ _ c.self.view_is c.args.side c.requires c.entry-in-Both.result (c.entry-in-Both.ensures c.entry-in-Both.result) c.in-Both.is
    c.move_both.new.scan c.move_both.new.packer.at _ _ has.moved has.joins has.scan

pub returns-in_err-move_both-in-Both : goal.returns-in_err-move_both-in-Both
returns-in_err-move_both-in-Both c =
    handed-apart c.args.delta.now c.args.self.now _ c.from_residual.result _ c.from_residual.ensures.1
    (apart-both c.args.delta.now _ _ c.self.view_is c.args.side c.requires c.entry-in-Both.result (c.entry-in-Both.ensures c.entry-in-Both.result) c.in-Both.is c.in_err-move_both-in-Both.ensures.apart)
