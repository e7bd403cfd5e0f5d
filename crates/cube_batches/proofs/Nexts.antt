-- The batch of a block with the next number.
use Rattle.cube_batches.proofs.Names.{◌+◌, ◌<◌, ◌∷◌, ◌≡◌, Batch, Err, Fact, Given, Global, IsRead, List, NotRead, Ok, Option, Read, Result, Schema, Some, Vec, [], ap, arith, codes, false, in_turn}
use Rattle.cube_batches.proofs.Names.{length, line, nat_le, nat_lt, nat_tests, refl, subst, sym, with_last, with_number, ℕ}

module _ (schema : Schema) (last number : ℕ) (due : number ≡ last + 1) where
  -- it is its turn
  in_its_turn : (given : Given) → in_turn last number given ≡ given
  in_its_turn given =
      let low : nat_le number last ≡ false = grind (arith, nat_tests) in
      let high : nat_lt (last + 1) number ≡ false = grind (arith, nat_tests) in
      rw (low, high) refl

  refused_is : (read : Result (List Fact) (List ℕ)) (reply : Vec ℕ Global) → IsRead schema last (with_last last read) (NotRead reply) → IsRead schema last (with_number number read) (NotRead reply)
  refused_is (Ok facts) reply is = absurd is
  refused_is (Err text) reply is = is

  empty_is : (read : Result (List Fact) (List ℕ)) (batch : List Fact) (own : Option ℕ) (reply : Vec ℕ Global) → IsRead schema last (with_last last read) (Batch batch own) → length batch ≡ 0
      → reply.items ≡ line (codes "refused empty") → IsRead schema last (with_number number read) (NotRead reply)
  empty_is (Ok []) batch own reply is zero said = said
  empty_is (Ok (x ∷ xs)) batch own reply is zero said = absurd (omega (arith, zero, ap length is.facts))
  empty_is (Err text) batch own reply is zero said = absurd is

  batch_is : (read : Result (List Fact) (List ℕ)) (batch : List Fact) (own : Option ℕ) → IsRead schema last (with_last last read) (Batch batch own) → 0 < length batch
      → IsRead schema last (with_number number read) (Batch batch (Some number))
  batch_is (Ok []) batch own is some = absurd (omega (arith, some, ap length is.facts))
  batch_is (Ok (x ∷ xs)) batch own is some = record { facts = is.facts; next = refl; fits = record { few = is.fits.few; agree = is.fits.agree; due = due; some = some } }
  batch_is (Err text) batch own is some = absurd is

  -- what was read without a number
  module _ (read : Result (List Fact) (List ℕ)) (given : Read) (is : IsRead schema last (with_last last read) given) where
    as_given : (other : Read) → given ≡ other → (next : Read) → (IsRead schema last (with_last last read) other → IsRead schema last (with_number number read) next)
        → IsRead schema last (in_turn last number (with_number number read)) next
    as_given other same next by = subst (λ (g : Given). IsRead schema last g next) (sym (in_its_turn (with_number number read))) (by (subst (IsRead schema last (with_last last read)) same is))

    pub next_refused : (reply : Vec ℕ Global) → given ≡ NotRead reply → IsRead schema last (in_turn last number (with_number number read)) (NotRead reply)
    next_refused reply same = as_given (NotRead reply) same (NotRead reply) (refused_is read reply)

    pub next_empty : (batch : List Fact) (own : Option ℕ) (reply : Vec ℕ Global) → given ≡ Batch batch own → length batch ≡ 0 → reply.items ≡ line (codes "refused empty")
        → IsRead schema last (in_turn last number (with_number number read)) (NotRead reply)
    next_empty batch own reply same none said = as_given (Batch batch own) same (NotRead reply) (λ its. empty_is read batch own reply its none said)

    pub next_batch : (batch : List Fact) (own : Option ℕ) → given ≡ Batch batch own → 0 < length batch
        → IsRead schema last (in_turn last number (with_number number read)) (Batch batch (Some number))
    next_batch batch own same some = as_given (Batch batch own) same (Batch batch (Some number)) (λ its. batch_is read batch own its some)
