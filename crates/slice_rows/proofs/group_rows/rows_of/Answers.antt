use Rattle.std.proofs.Common.{◌≡◌, refl, ◌∙◌}
use Rattle.std.proofs.lemmas.Result.{MatchResult-weaker}
use Rattle.point_groups.specs.declared.stop.RowsStop.{RowsStop}
use Rattle.point_groups.specs.declared.stop.RowsStop.TheVariants.{Damaged, Memory}
use Rattle.slice_rows.specs.Grouped.{points_inside}
use Rattle.slice_rows.proofs.FactPoints.{rows-of_facts}
use Rattle.slice_rows.proofs.GatheredRows.{rows-gathered}
use Rattle.slice_rows.proofs.GatheredSound.{facts-give}
use Rattle.slice_rows.proofs.GivenRows.{gives-sound, sound-gives}
use Rattle.slice_rows.proofs.group_rows.rows_of.Goals as goal

pub returns-in_default-clause-never : goal.returns-in_default-clause-never
returns-in_default-clause-never c = λ start measures facts of are was masses few.
    let b = c.args.names.now in
    let view = c.args.view.now in
    let s = c.args.slice.now in
    absurd (c.in_default.ensures.apart start s.group view (points_inside b measures view s facts) of was (facts-give b view s measures facts are masses few).gather)

pub returns-in_default-clause-damaged : goal.returns-in_default-clause-damaged
returns-in_default-clause-damaged c = λ start es of was is give. c.in_default.ensures.apart start c.args.slice.now.group c.args.view.now es of was give.gather

pub returns-clause-grouped : goal.returns-clause-grouped
returns-clause-grouped c = λ start es of was.
    let b = c.args.names.now in
    let view = c.args.view.now in
    let s = c.args.slice.now in
    MatchResult-weaker c.rows_by.result c.rows_by.ensures.grouped
    (λ found to. to ∙ rows-gathered b view s es c.in-Some.joined (c.in-Some.ensures.gathered start s.group view es of was))
    (λ stop u. u)

pub returns-clause-sound : goal.returns-clause-sound
returns-clause-sound c = λ start es of was.
    let b = c.args.names.now in
    let view = c.args.view.now in
    let group = c.args.slice.now.group in
    MatchResult-weaker c.rows_by.result c.rows_by.ensures.sound
    (λ found are. sound-gives b group view es c.in-Some.joined (c.in-Some.ensures.gathered start group view es of was) (c.in-Some.ensures.join start group view es of was) are)
    (λ stop u. u)

pub returns-clause-damaged : goal.returns-clause-damaged
returns-clause-damaged c = λ start es of was.
    let b = c.args.names.now in
    let view = c.args.view.now in
    let group = c.args.slice.now.group in
    MatchResult-weaker c.rows_by.result c.rows_by.ensures.damaged
    (λ found u. u)
    (λ stop damaged to give. damaged to (gives-sound b group view es c.in-Some.joined (c.in-Some.ensures.gathered start group view es of was) give))

pub returns-clause-rows : goal.returns-clause-rows
returns-clause-rows c = λ start measures facts of are was.
    let b = c.args.names.now in
    let view = c.args.view.now in
    let s = c.args.slice.now in
    MatchResult-weaker c.rows_by.result (returns-clause-grouped c start (points_inside b measures view s facts) of was)
    (λ found to. to ∙ rows-of_facts b view s measures facts are c.few_names.ensures)
    (λ stop u. u)

only_memory : (stop : RowsStop) → (stop ≡ Damaged → ⊥) → stop ≡ Memory
only_memory Damaged other = absurd (other refl)
only_memory Memory other = refl

pub returns-clause-never : goal.returns-clause-never
returns-clause-never c = λ start measures facts of are was masses few.
    let b = c.args.names.now in
    let view = c.args.view.now in
    let s = c.args.slice.now in
    MatchResult-weaker c.rows_by.result (returns-clause-damaged c start (points_inside b measures view s facts) of was)
    (λ found u. u)
    (λ stop damaged. only_memory stop (λ to. damaged to (facts-give b view s measures facts are masses few)))
