use Rattle.std.proofs.Common.{◌≡◌, ◌≤◌, ℕ, length, inl, inr, sym, subst, arith, true≢false}
use Rattle.std.specs.Prelude.{slice_index}
use Rattle.std.proofs.lemmas.Bool.{cases_lt}
use Rattle.page_entry.proofs.Coordinates.{coordinates}
use Rattle.page_entry.proofs.Widths.{coordinate-inside}
use Rattle.page_entry.proofs.region.are_used_inside.Goals as goal

pub returns-then-own-bounds : goal.returns-then-own-bounds
returns-then-own-bounds c = (
  λ no. absurd (true≢false (sym no)),
  λ all.
      let own = c.coordinate_at-own.ensures c.args.arity c.loop-dimension-test.true in
      absurd (omega (arith, own, (all c.loop-dimension.dimension c.loop-dimension-test.true).0, c.if-own-bounds.true)),
)

pub returns-then-bounds-dimension : goal.returns-then-bounds-dimension
returns-then-bounds-dimension c = (
  λ no. absurd (true≢false (sym no)),
  λ all.
      let own = c.coordinate_at-own.ensures c.args.arity c.loop-dimension-test.true in
      absurd (omega (arith, own, (all c.loop-dimension.dimension c.loop-dimension-test.true).1, c.if-bounds-dimension.true)),
)

pub loop-dimension-preserved : goal.loop-dimension-preserved
loop-dimension-preserved c = λ i lt.
    let d = c.loop-dimension.dimension in
    let own : c.coordinate_at-own.result ≡ slice_index (coordinates c.args.wide c.args.arity c.args.bytes.now) d = c.coordinate_at-own.ensures c.args.arity c.loop-dimension-test.true in
    elim (cases_lt i d) [
      | inl before ↦ c.loop-dimension.invariant i before
      | inr here ↦
          let is : d ≡ i = omega (arith, lt, here) in
          subst (λ (k : ℕ). (slice_index c.args.bounds.now.low k ≤ slice_index (coordinates c.args.wide c.args.arity c.args.bytes.now) k)
          × (slice_index (coordinates c.args.wide c.args.arity c.args.bytes.now) k ≤ slice_index c.args.bounds.now.high k)) is
          (omega (arith, own, c.if-own-bounds.false), omega (arith, own, c.if-bounds-dimension.false))
    ]

pub coordinate_at-own-requires : goal.coordinate_at-own-requires
coordinate_at-own-requires c = omega (arith, coordinate-inside c.args.wide c.loop-dimension.dimension c.args.arity 0 (length c.args.bytes.now) c.loop-dimension-test.true (omega (arith, c.requires.place)))
