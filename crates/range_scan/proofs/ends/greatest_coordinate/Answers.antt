use Rattle.std.proofs.Common.{◌≡◌, ◌<◌, ◌^◌, ℕ, Bool, true, false, arith}
use Rattle.page_entry.specs.Stored.{IsCoordinate}
use Rattle.page_entry.specs.Bytes.{width}
use Rattle.range_scan.proofs.ends.greatest_coordinate.Goals as goal

wide-fits : (wide : Bool) (n : ℕ) → wide ≡ true → n < 2 ^ 64 → IsCoordinate wide n
unfolding width
wide-fits true n is low = omega (arith, low)
wide-fits false n is low = absurd cc

wide-most : (wide : Bool) (n : ℕ) → wide ≡ true → IsCoordinate wide n → n < 2 ^ 64
unfolding width
wide-most true n is low = omega (arith, low)
wide-most false n is low = absurd cc

narrow-fits : (wide : Bool) (n : ℕ) → wide ≡ false → n < 2 ^ 32 → IsCoordinate wide n
unfolding width
narrow-fits true n is low = absurd cc
narrow-fits false n is low = omega (arith, low)

narrow-most : (wide : Bool) (n : ℕ) → wide ≡ false → IsCoordinate wide n → n < 2 ^ 32
unfolding width
narrow-most true n is low = absurd cc
narrow-most false n is low = omega (arith, low)

pub returns-then-wide-clause-fits : goal.returns-then-wide-clause-fits
returns-then-wide-clause-fits c = wide-fits c.args.wide _ c.if-wide.true (omega arith)

pub returns-then-wide-clause-most : goal.returns-then-wide-clause-most
returns-then-wide-clause-most c = λ n fits. let low = wide-most c.args.wide n c.if-wide.true fits in omega (arith, low)

pub returns-else-wide-clause-fits : goal.returns-else-wide-clause-fits
returns-else-wide-clause-fits c = narrow-fits c.args.wide _ c.if-wide.false (omega (arith, c.from.ensures))

pub returns-else-wide-clause-most : goal.returns-else-wide-clause-most
returns-else-wide-clause-most c = λ n fits. let low = narrow-most c.args.wide n c.if-wide.false fits in omega (arith, low, c.from.ensures)
