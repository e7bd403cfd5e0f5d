use Rattle.cube_session.proofs.Names.{long_line, open_block, is_unknown, Command, line, state_text, IfOk, List, Vec, Global, ℕ, ◌∙◌, ◌≡◌, ap, subst, sym}
use Rattle.cube_state.proofs.Carried.{as_said}
use Rattle.cube_state.specs.Levels.{leveled_by}
use Rattle.cube_state.specs.Slices.{explain_text}
use Rattle.cube_state.specs.Visits.{store_of}
use Rattle.cube_state.proofs.Known.{explain_says, level_says, long_line_says, only_answers, only_answers_with, open_block_says, status_says, unknown_says}
use Rattle.cube_session.proofs.Audits.{audited}
use Rattle.cube_session.proofs.machine.act.Goals as goal

pub returns-in-Status-clause-carried : goal.returns-in-Status-clause-carried
returns-in-Status-clause-carried g c =
    let state = c.args.held.now.state in
    only_answers g.T.Site c.args.site.now state c.args.pages.now c.args.command Command.Status (state_text state) c.status.result
    (λ t told files. g.met.T.Site.only_now c.args.site.now told files t) c.requires.ready c.in-Status.is (status_says g.T.Site state c.args.site.now) c.status.ensures.said c.status.ensures.memory c.args.held.now.levels

pub returns-in-Explain-clause-carried : goal.returns-in-Explain-clause-carried
returns-in-Explain-clause-carried g c =
    let text = c.in-Explain.text in
    let state = c.args.held.now.state in
    let said = subst (λ (t : List ℕ). IfOk c.explain.result (λ (reply : Vec ℕ Global). reply.items ≡ explain_text (store_of state) t)) c.as_bytes-in-Explain.ensures c.explain.ensures.said in
    only_answers g.T.Site c.args.site.now state c.args.pages.now c.args.command (Command.Explain text) (explain_text (store_of state) text) c.explain.result
    (λ t told files. g.met.T.Site.only_now c.args.site.now told files t) c.requires.ready c.in-Explain.is (explain_says g.T.Site state c.args.site.now text) said c.explain.ensures.memory c.args.held.now.levels

pub returns-in-Level-clause-carried : goal.returns-in-Level-clause-carried
returns-in-Level-clause-carried g c =
    let state = c.args.held.now.state in
    let levels = c.args.held.now.levels in
    let its = c.in-Level in
    only_answers_with g.T.Site levels c.args.site.now state c.args.pages.now c.args.command (Command.Level its.name its.attr its.block) (leveled_by levels (store_of state) its.name its.attr its.block) c.level.result
    (λ t told files. g.met.T.Site.only_now c.args.site.now told files t) c.requires.ready its.is (level_says g.T.Site state c.args.site.now levels its.name its.attr its.block) c.level.ensures.said c.level.ensures.memory

pub returns-in-LongLine-clause-carried : goal.returns-in-LongLine-clause-carried
returns-in-LongLine-clause-carried g c =
    let state = c.args.held.now.state in
    only_answers g.T.Site c.args.site.now state c.args.pages.now c.args.command Command.LongLine (line long_line) c.plain.result
    (λ t told files. g.met.T.Site.only_now c.args.site.now told files t) c.requires.ready c.in-LongLine.is (long_line_says g.T.Site state c.args.site.now) c.plain.ensures.said c.plain.ensures.memory c.args.held.now.levels

pub returns-in-OpenBlock-clause-carried : goal.returns-in-OpenBlock-clause-carried
returns-in-OpenBlock-clause-carried g c =
    let state = c.args.held.now.state in
    let its = c.plain-in-OpenBlock in
    only_answers g.T.Site c.args.site.now state c.args.pages.now c.args.command Command.OpenBlock (line open_block) its.result
    (λ t told files. g.met.T.Site.only_now c.args.site.now told files t) c.requires.ready c.in-OpenBlock.is (open_block_says g.T.Site state c.args.site.now) its.ensures.said its.ensures.memory c.args.held.now.levels

pub returns-in-Unknown-clause-carried : goal.returns-in-Unknown-clause-carried
returns-in-Unknown-clause-carried g c =
    let state = c.args.held.now.state in
    let its = c.plain-in-Unknown in
    only_answers g.T.Site c.args.site.now state c.args.pages.now c.args.command Command.Unknown (line is_unknown) its.result
    (λ t told files. g.met.T.Site.only_now c.args.site.now told files t) c.requires.ready c.in-Unknown.is (unknown_says g.T.Site state c.args.site.now) its.ensures.said its.ensures.memory c.args.held.now.levels

-- ---- a room carries it out

pub returns-in-Schema-clause-carried : goal.returns-in-Schema-clause-carried
returns-in-Schema-clause-carried g c = as_said c.in-Schema.is (c.declare.ensures.carried c.args.pages.now c.requires.ready)

pub returns-in-Load-clause-carried : goal.returns-in-Load-clause-carried
returns-in-Load-clause-carried g c = as_said c.in-Load.is c.load.ensures.carried

pub returns-in-LoadNumbered-clause-carried : goal.returns-in-LoadNumbered-clause-carried
returns-in-LoadNumbered-clause-carried g c = as_said c.in-LoadNumbered.is c.load-in-LoadNumbered.ensures.carried

pub returns-in-Generate-clause-carried : goal.returns-in-Generate-clause-carried
returns-in-Generate-clause-carried g c = as_said c.in-Generate.is c.load-in-Generate.ensures.carried

pub returns-in-Slice-clause-carried : goal.returns-in-Slice-clause-carried
returns-in-Slice-clause-carried g c = as_said (c.in-Slice.is ∙ ap Command.Slice (sym c.as_bytes.ensures)) c.slice.ensures.carried

pub returns-in-Sql-clause-carried : goal.returns-in-Sql-clause-carried
returns-in-Sql-clause-carried g c = as_said (c.in-Sql.is ∙ ap Command.Sql (sym c.as_bytes-in-Sql.ensures)) c.sql.ensures.carried

pub returns-in-Begin-clause-carried : goal.returns-in-Begin-clause-carried
returns-in-Begin-clause-carried g c = as_said c.in-Begin.is (c.begin.ensures.carried c.args.pages.now c.requires.ready)

pub returns-in-Step-clause-carried : goal.returns-in-Step-clause-carried
returns-in-Step-clause-carried g c = as_said c.in-Step.is (c.step.ensures.carried c.args.pages.now c.requires.ready)

pub returns-in-Finish-clause-carried : goal.returns-in-Finish-clause-carried
returns-in-Finish-clause-carried g c = as_said c.in-Finish.is c.finish.ensures.carried

pub returns-in-Abandon-clause-carried : goal.returns-in-Abandon-clause-carried
returns-in-Abandon-clause-carried g c = as_said c.in-Abandon.is (c.abandon.ensures.carried c.args.pages.now c.requires.ready)

pub returns-in-Audit-clause-carried : goal.returns-in-Audit-clause-carried
returns-in-Audit-clause-carried g c =
    as_said c.in-Audit.is (audited g.T.Site c.args.held.now.state c.args.site.now c.audit.new.site c.args.pages.now c.requires.ready (λ t told files. g.met.T.Site.only_now c.args.site.now told files t)
    c.audit.result c.audit.ensures)

pub returns-in-Upgrade-clause-carried : goal.returns-in-Upgrade-clause-carried
returns-in-Upgrade-clause-carried g c = as_said c.in-Upgrade.is c.upgrade.ensures.carried
