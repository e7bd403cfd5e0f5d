use Rattle.std.proofs.Common.{inl, inr, sym, ◌∙◌, arith, true≢false}
use Rattle.std.proofs.lemmas.Bool.{cases_lt}
use Rattle.page_entry.proofs.Coordinates.{coordinates, unused-at}
use Rattle.page_entry.proofs.region.lies_in.Goals as goal

pub returns-then-not-is_inside_used : goal.returns-then-not-is_inside_used
returns-then-not-is_inside_used c = (
  λ no. absurd (true≢false (sym no)),
  λ is. absurd (true≢false (sym (c.is_inside_used.ensures.1 (λ i lt. is.place i (omega (arith, lt, c.requires.arity)))) ∙ c.if-not-is_inside_used.true)),
)

pub returns : goal.returns
returns c =
    let arity = c.args.arity in
    let at = coordinates c.args.wide arity c.args.bytes.now in
    let bounds = c.args.region.now.bounds in
    let used = c.is_inside_used.ensures.0 c.if-not-is_inside_used.false in (
      λ yes.
          let past = c.is_zero_inside.ensures.0 yes in
          record {
            arity = c.if-arity-region.false;
            place = λ i low. elim (cases_lt i arity) [
              | inl lt ↦ used i lt
              | inr le ↦
                  let none = unused-at c.args.wide arity i c.args.bytes.now le in
                  (omega (arith, none, past i le low), omega (arith, none))
            ];
          },
      λ is. c.is_zero_inside.ensures.1 (λ i le low. omega (arith, unused-at c.args.wide arity i c.args.bytes.now le, (is.place i low).0)),
    )
