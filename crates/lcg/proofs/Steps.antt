-- The states behind draws.
use Rattle.std.proofs.Common.{◌≡◌, ℕ, zero, suc, ◌+◌, sym, ap, ◌∙◌, arith}
use Rattle.lcg.specs.Draw.{next_state, state_after}

-- so many draws, and then some more
pub state_after_add : (state first more : ℕ) → state_after (state_after state first) more ≡ state_after state (first + more)
state_after_add state first zero = ap (state_after state) (omega arith)
state_after_add state first (suc more) =
    let further : first + suc more ≡ suc (first + more) = omega arith in
    ap next_state (state_after_add state first more) ∙ sym (ap (state_after state) further)
