use Rattle.std.proofs.Common.{Bor, List, ℕ, ◌∙◌}
use Rattle.std.specs.Cmp.Lexicographic.{slice_cmp}
use Rattle.std.specs.Ordering.{is_eq, nat_cmp}
use Rattle.sql_slice.specs.Lists.{has_text}
use Rattle.sql_slice.proofs.ListSteps.{cond-or}
use Rattle.sql_slice.proofs.lists.insert_text.Goals as goal

pub returns-in-Ok : goal.returns-in-Ok
returns-in-Ok c = λ u.
    (let key : Bor (List ℕ) = record { ref_ptr = c.args.text.ref_ptr; now = u } in
    c.in-Ok.ensures.updates.0 key ∙ cond-or (is_eq (slice_cmp nat_cmp c.args.text.now u)) (has_text c.args.texts.now u))
