use Rattle.std.proofs.Common.{◌≡◌, true, inl, inr, ◌∙◌, sym, arith}
use Rattle.std.proofs.lemmas.Bool.{cases_lt, true≢false}
use Rattle.range_scan.proofs.ends.tell_all.Goals.{then-inside, else-inside}
use Rattle.range_scan.proofs.ends.tell_all.Goals as goal

pub returns-then-inside-2 : goal.returns-then-inside-2
returns-then-inside-2 c = (
  λ open_before. elim c.if-inside.branch [
    | then-inside w ↦
        let last : w.inside-then-inside.result ≡ true = cc in
        record {
          first_inside = c.inside.ensures.0 w.if-inside.true;
          last_inside = w.inside-then-inside.ensures.0 last;
          apart = c.last_apart.result;
          few = c.last_apart.ensures.few;
          same = c.last_apart.ensures.same;
          before = c.is_open_before.ensures.0 open_before;
        }
    | else-inside w ↦ absurd (true≢false (sym c.if-inside-2.true ∙ (w.value-is ∙ w.if-inside.false)))
  ],
  λ told. c.is_open_before.ensures.1 (elim (cases_lt told.apart c.last_apart.result) [
    | inl past ↦ absurd (c.last_apart.ensures.apart (omega (arith, past)) (told.same c.last_apart.result past c.last_apart.ensures.few))
    | inr up_to ↦ λ i below. told.before i (omega (arith, below, up_to))
  ]),
)
