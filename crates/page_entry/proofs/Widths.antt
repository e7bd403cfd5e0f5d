-- The bytes of a coordinate, four or eight, and of many.
use Rattle.std.proofs.Common.{◌≡◌, ◌≤◌, ◌<◌, ◌+◌, ◌*◌, ◌^◌, ℕ, suc, Bool, true, false, refl, sym, arith}
use Rattle.std.specs.Bool.{beq}
use Rattle.std.proofs.Math.Nat.{mul-le-mul_right, mul-le-mul_left}
use Rattle.cube_point.specs.declared.point.Shape.{Shape}
use Rattle.page_entry.specs.Bytes.{width}
use Rattle.page_entry.specs.Stored.{IsCoordinate}

pub wide-is : (wide : Bool) → wide ≡ true → width wide ≡ 8
unfolding width
wide-is true is = refl
wide-is false is = absurd cc

pub narrow-is : (wide : Bool) → wide ≡ false → width wide ≡ 4
unfolding width
narrow-is true is = absurd cc
narrow-is false is = refl

pub width-least : (wide : Bool) → 4 ≤ width wide
unfolding width
width-least true = omega arith
width-least false = omega arith

pub width-most : (wide : Bool) → width wide ≤ 8
unfolding width
width-most true = omega arith
width-most false = omega arith

-- two that are tested to be equal are
pub same-width : (a b : Bool) → beq a b ≡ true → a ≡ b
same-width true true e = refl
same-width true false e = sym e
same-width false true e = e
same-width false false e = refl

-- a shape with the width that it has
pub as_it_is : (shape : Shape) (wide : Bool) → shape.wide ≡ wide → record shape { wide = wide } ≡ shape
as_it_is shape wide is = λ i. record { dims = shape.dims; measures = shape.measures; wide = sym is i }

-- what 32 bits hold a coordinate holds, and 64 bits hold every coordinate
pub narrow-fits : (wide : Bool) (n : ℕ) → n < 2 ^ 32 → IsCoordinate wide n
unfolding width
narrow-fits true n low = omega (arith, low)
narrow-fits false n low = omega (arith, low)

pub fits-wide : (wide : Bool) (n : ℕ) → IsCoordinate wide n → IsCoordinate true n
unfolding width
fits-wide true n low = low
fits-wide false n low = omega (arith, low)

-- one of n values of w bytes lies within the bytes of all
pub value-inside : (w i n : ℕ) → i < n → i * w + w ≤ n * w
value-inside w i n lt = let z : suc i * w ≤ n * w = mul-le-mul_right w lt in omega (arith, z)

-- a coordinate lies within the bytes of all
pub coordinate-inside : (wide : Bool) (dimension arity at long : ℕ) → dimension < arity → at + arity * width wide ≤ long → at + (dimension + 1) * width wide ≤ long
coordinate-inside wide dimension arity at long lt le =
    let next : dimension + 1 ≤ arity = omega (arith, lt) in
    let z : (dimension + 1) * width wide ≤ arity * width wide = mul-le-mul_right (width wide) next in
    omega (arith, z, le)

-- so many coordinates have at most eight bytes each
pub few-bytes : (wide : Bool) (n : ℕ) → n * width wide ≤ n * 8
few-bytes wide n = mul-le-mul_left n (width-most wide)

-- a shape with as many measures as it has
pub as_many_measures : (shape : Shape) (measures : ℕ) → shape.measures ≡ measures → record shape { measures = measures } ≡ shape
as_many_measures shape measures is = λ i. record { dims = shape.dims; measures = sym is i; wide = shape.wide }
