use Rattle.std.proofs.Common.{rules, ◌≡◌, ◌≤◌, ◌+◌, [], ◌∷◌, List, get_or, arith}
use Rattle.fact_model.specs.Cell.{join_parts}
use Rattle.page_entry.specs.Entries.{no_part}
use Rattle.audit_view.specs.declared.total.ExactPart.{ExactPart}
use Rattle.audit_view.specs.declared.total.Total.{Total}
use Rattle.audit_view.specs.Totals.{part_in, zero_part}
use Rattle.audit_view.proofs.Exact.{add-holds, four-cases}
use Rattle.audit_view.proofs.total.Total.join.Goals as goal

pub returns-clause-joined : goal.returns-clause-joined
returns-clause-joined c = λ measures sum measured holds _.
    let t = c.args.self.now in
    let cell = c.args.cell.now in
    let parts : List ExactPart = c.with.result ∷ c.with-2.result ∷ c.with-3.result ∷ c.with-4.result ∷ [] in
    let new : Total = record { count = c.in-Some.count; parts = parts } in
    add-holds measures sum cell t new measured c.have_four.ensures.four c.requires.some holds (search rules)
    (four-cases (λ m. part_in (get_or parts m zero_part) ≡ join_parts (part_in (get_or t.parts m zero_part)) (get_or cell.parts m no_part))
    c.with.ensures.joined c.with-2.ensures.joined c.with-3.ensures.joined c.with-4.ensures.joined)

pub returns-clause-steady : goal.returns-clause-steady
returns-clause-steady c =
    let parts : List ExactPart = c.with.result ∷ c.with-2.result ∷ c.with-3.result ∷ c.with-4.result ∷ [] in
    let count : c.in-Some.count ≡ c.args.self.now.count + c.args.cell.now.count = search rules in
    four-cases (λ m. (get_or parts m zero_part).ups + (get_or parts m zero_part).downs ≤ c.in-Some.count)
    (omega (arith, c.with.ensures.few, c.requires.steady 0 (omega arith), count, c.requires.more))
    (omega (arith, c.with-2.ensures.few, c.requires.steady 1 (omega arith), count, c.requires.more))
    (omega (arith, c.with-3.ensures.few, c.requires.steady 2 (omega arith), count, c.requires.more))
    (omega (arith, c.with-4.ensures.few, c.requires.steady 3 (omega arith), count, c.requires.more))
