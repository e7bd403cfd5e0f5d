use Rattle.std.proofs.Common.{◌+◌, ◌*◌, ℕ, drop, sym, ap, ◌∙◌, arith}
use Rattle.be_numbers.specs.Numbers.{number}
use Rattle.page_entry.proofs.Coordinates.{used-at}
use Rattle.page_entry.proofs.Widths.{narrow-is, wide-is}
use Rattle.page_entry.proofs.order.coordinate_at.Goals as goal

pub returns-then-wide : goal.returns-then-wide
returns-then-wide c = λ arity lt.
    let b = c.args.bytes.now in
    let w = wide-is c.args.wide c.if-wide.true in
    c.take_u64.ensures ∙ ((λ i. number (sym w i) (drop (c.args.at + c.args.dimension * sym w i) b)) ∙ used-at c.args.wide arity c.args.dimension c.args.at b lt)

pub overflow_mul-dimension : goal.overflow_mul-dimension
overflow_mul-dimension c = omega (arith, ap (λ (k : ℕ). (c.args.dimension + 1) * k) (wide-is c.args.wide c.if-wide.true))

pub overflow_add-at : goal.overflow_add-at
overflow_add-at c = omega (arith, ap (λ (k : ℕ). (c.args.dimension + 1) * k) (wide-is c.args.wide c.if-wide.true))

pub take_u64-requires : goal.take_u64-requires
take_u64-requires c = omega (arith, ap (λ (k : ℕ). (c.args.dimension + 1) * k) (wide-is c.args.wide c.if-wide.true))

pub returns-else-wide : goal.returns-else-wide
returns-else-wide c = λ arity lt.
    let b = c.args.bytes.now in
    let w = narrow-is c.args.wide c.if-wide.false in
    c.from.ensures ∙ (c.take_u32.ensures ∙ ((λ i. number (sym w i) (drop (c.args.at + c.args.dimension * sym w i) b)) ∙ used-at c.args.wide arity c.args.dimension c.args.at b lt))

pub overflow_mul-dimension-else-wide : goal.overflow_mul-dimension-else-wide
overflow_mul-dimension-else-wide c = omega (arith, ap (λ (k : ℕ). (c.args.dimension + 1) * k) (narrow-is c.args.wide c.if-wide.false))

pub overflow_add-at-else-wide : goal.overflow_add-at-else-wide
overflow_add-at-else-wide c = omega (arith, ap (λ (k : ℕ). (c.args.dimension + 1) * k) (narrow-is c.args.wide c.if-wide.false))

pub take_u32-requires : goal.take_u32-requires
take_u32-requires c = omega (arith, ap (λ (k : ℕ). (c.args.dimension + 1) * k) (narrow-is c.args.wide c.if-wide.false))
