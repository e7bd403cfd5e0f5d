use Rattle.std.proofs.Common.{sym}
use Rattle.script_lang.proofs.LineReads.{on_err, as_before, moved, moved_back, moved_ready, moved_whole, moved_whole_back, gave, gave_ready, gave_whole}
use Rattle.script_lang.proofs.lines.Lines.read_line.Goals as goal

pub returns-then-self-clause-given : goal.returns-then-self-clause-given
returns-then-self-clause-given c =
    moved _ _ _ _ _ _ _ _ _ _ _ c.self.view_is c.as_slice.ensures.value c.between-rest.ensures
    c.place_of-count.ensures.place c.front.ensures c.in_ok-extend.ensures.ok

pub returns-then-self-clause-ready : goal.returns-then-self-clause-ready
returns-then-self-clause-ready c =
    moved_ready _ _ _ _ _ _ _ _ _ _ _ c.self.view_is c.as_slice.ensures.value c.between-rest.ensures
    c.place_of-count.ensures.place c.front.ensures c.in_ok-extend.ensures.ok

pub returns-then-self-clause-whole : goal.returns-then-self-clause-whole
returns-then-self-clause-whole c =
    moved_whole _ _ _ _ _ _ _ _ _ _ _ c.self.view_is c.as_slice.ensures.value c.between-rest.ensures
    c.place_of-count.ensures.place c.front.ensures c.in_ok-extend.ensures.ok

pub returns-in_err-command-clause-kept : goal.returns-in_err-command-clause-kept
returns-in_err-command-clause-kept c =
    on_err _ _ (moved_back _ _ _ _ _ _ _ _ _ _ _ c.self.view_is c.as_slice.ensures.value c.between-rest.ensures
    c.place_of-count.ensures.place c.front.ensures (as_before _ _ _ c.in_err-command.ensures.err c.in_ok-extend.ensures.ok))

pub returns-in_err-command-clause-kept_whole : goal.returns-in_err-command-clause-kept_whole
returns-in_err-command-clause-kept_whole c =
    on_err _ _ (moved_whole_back _ _ _ _ _ _ _ _ _ _ _ c.self.view_is c.as_slice.ensures.value c.between-rest.ensures
    c.place_of-count.ensures.place c.front.ensures (as_before _ _ _ c.in_err-command.ensures.err c.in_ok-extend.ensures.ok))

pub returns-in_err-command-clause-kept_ready : goal.returns-in_err-command-clause-kept_ready
returns-in_err-command-clause-kept_ready c =
    on_err _ _ (sym (moved_ready _ _ _ _ _ _ _ _ _ _ _ c.self.view_is c.as_slice.ensures.value c.between-rest.ensures
    c.place_of-count.ensures.place c.front.ensures (as_before _ _ _ c.in_err-command.ensures.err c.in_ok-extend.ensures.ok)))

pub returns-clause-given : goal.returns-clause-given
returns-clause-given c =
    gave _ _ _ _ _ _ _ _ _ _ _ c.self.view_is c.as_slice.ensures.value c.between-rest.ensures
    c.place_of-count.ensures.place c.front.ensures c.in_ok-extend.ensures.ok
    c.if-self.false c.place_of-count.ensures.within c.self.invariant
    _ _ c.in_ok-command.ensures.command c.in_ok-command.ensures.ok

pub returns-clause-ready : goal.returns-clause-ready
returns-clause-ready c =
    gave_ready _ _ _ _ _ _ _ _ _ _ _ c.self.view_is c.as_slice.ensures.value c.between-rest.ensures
    c.place_of-count.ensures.place c.front.ensures c.in_ok-extend.ensures.ok
    c.if-self.false c.place_of-count.ensures.within c.self.invariant
    _ _ c.in_ok-command.ensures.command c.in_ok-command.ensures.ok

pub returns-clause-whole : goal.returns-clause-whole
returns-clause-whole c =
    gave_whole _ _ _ _ _ _ _ _ _ _ _ c.self.view_is c.as_slice.ensures.value c.between-rest.ensures
    c.place_of-count.ensures.place c.front.ensures c.in_ok-extend.ensures.ok
    c.if-self.false c.place_of-count.ensures.within c.self.invariant
    _ _ c.in_ok-command.ensures.command c.in_ok-command.ensures.ok
