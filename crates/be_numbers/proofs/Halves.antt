-- A number in eight bytes, by its halves.
use Rattle.std.proofs.Common.{◌≡◌, ◌+◌, ◌*◌, ◌^◌, ℕ, List, drop, arith}
use Rattle.std.specs.Prelude.{slice_index}
use Rattle.std.proofs.lemmas.List.{get_or-drop}
use Rattle.byteorder.specs.Endian.{big_number}
use Rattle.be_numbers.specs.Numbers.{number}

-- the first four bytes count 2^32 times as much as the four behind them
pub number-halves : (bytes : List ℕ) → number 8 bytes ≡ number 4 bytes * 2 ^ 32 + number 4 (drop 4 bytes)
unfolding number
number-halves bytes =
    let at : (k : ℕ) → slice_index (drop 4 bytes) k ≡ slice_index bytes (4 + k) = λ k. get_or-drop 4 bytes k 0 in
    omega (arith, at 0, at 1, at 2, at 3)
