use Rattle.cube_slices.proofs.Names.{Bool, IfOk, List, Vec, Global, cond, line, not_covered, sym, subst, [], ℕ, ◌≡◌}
use Rattle.cube_state.proofs.SliceCosts.{not-covered}
use Rattle.sql_slice.specs.RowFold.{query_text}
use Rattle.cube_slices.proofs.querying.without_rows.Goals as goal

pub returns-in-None : goal.returns-in-None
returns-in-None c =
    let p = c.args.plan.now in
    let text : List ℕ = query_text c.args.query.now p [] in
    subst (λ (b : Bool). IfOk c.plain.result (λ (reply : Vec ℕ Global). reply.items ≡ cond b text (line not_covered)))
    (sym (not-covered c.args.store.now.forest.schema p.slice c.in-None.ensures.picked)) c.plain.ensures
