use Rattle.std.proofs.Common.{◌+◌, length, sym, ap, subst, ◌∙◌, arith}
use Rattle.std.proofs.lemmas.List.{length_push}
use Rattle.std.specs.List.{All}
use Rattle.cube_schema.specs.Agreeing.{Agrees}
use Rattle.fact_batch.specs.Batch.{Draft}
use Rattle.fact_gen.proofs.Made.{one_more, finished, facts_agree, facts_count, stays_between}
use Rattle.fact_gen.proofs.facts.generate.Goals as goal

pub loop-row-preserved : goal.loop-row-preserved
loop-row-preserved c =
    let schema = c.args.schema.now in
    let state = c.loop-row.draws.state in
    let before = c.loop-row.builder.facts in
    let so_far = c.loop-row.invariant in
    let is = c.in_ok-draw_fact.ensures.fact in
    let pushed = ap (λ (d : Draft). d.facts) is in
    record {
      between = stays_between (length schema.attrs) (length schema.measures) c.loop-row.builder c.draw_fact.new.builder _ is so_far.between;
      count = ap length pushed ∙ length_push before _ ∙ ap (λ n. n + 1) so_far.count;
      facts = one_more schema state c.args.rows c.loop-row._row before _ _ _ c.loop-row-test.true c.in_ok-draw_fact.ensures.after pushed so_far.facts;
    }

pub returns-clause-agree : goal.returns-clause-agree
returns-clause-agree c =
    let all = finished c.args.schema.now c.loop-row.draws.state c.args.rows c.loop-row._row c.loop-row.builder.facts _ c.loop-row-test.false c.loop-row.invariant.facts in
    subst (All (Agrees c.args.schema.now)) (sym (c.finish.ensures ∙ all)) (facts_agree c.args.schema.now c.args.start c.args.rows c.requires.lawful)

pub returns-clause-few : goal.returns-clause-few
returns-clause-few c =
    let all = c.finish.ensures ∙ finished c.args.schema.now c.loop-row.draws.state c.args.rows c.loop-row._row c.loop-row.builder.facts _ c.loop-row-test.false c.loop-row.invariant.facts in
    omega (arith, ap length all, facts_count c.args.schema.now c.args.start c.args.rows, c.requires.few)
