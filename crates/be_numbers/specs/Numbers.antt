-- Numbers as bytes, the highest byte first.
use Rattle.std.specs.Prelude.{ℕ, ℤ, List}
use Rattle.std.specs.Int.{w128, cast_signed, cast_unsigned}
use Rattle.byteorder.specs.Endian.{big_bytes, big_number}

-- a number in so many bytes
unfoldable pub coded : ℕ → ℕ → List ℕ
coded width n = big_bytes width n

-- the number in the first bytes
unfoldable pub number : ℕ → List ℕ → ℕ
number width bytes = big_number width bytes

-- a signed number in 16 bytes, two's complement
unfoldable pub signed_coded : ℤ → List ℕ
signed_coded z = coded 16 (cast_unsigned w128 z)

-- the signed number in the first 16 bytes
unfoldable pub signed : List ℕ → ℤ
signed bytes = cast_signed w128 (number 16 bytes)
