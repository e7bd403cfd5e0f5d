-- What stands within quotes, taken byte by byte.
use Rattle.std.proofs.Common.{◌≡◌, ℕ, ◌-◌, List, ◌++◌, length, Option, Some, None}
use Rattle.std.specs.Prelude.{option_map}
use Rattle.sql_lang.specs.declared.token.TokenKind.TheVariants.{Quoted}
use Rattle.sql_lang.specs.Closed.{Closed, as_closed}
use Rattle.sql_lang.specs.Tokens.{quoted_or_stray}

-- the bytes are put in front of what stands within quotes
abbrev pub with_front : List ℕ → Option (List ℕ × List ℕ) → Option (List ℕ × List ℕ)
with_front bytes None = None
with_front bytes (Some closed) = Some (bytes ++ closed.0, closed.1)

-- the token of a text in quotes that is closed
pub closed-front : (text : List ℕ) (found : Option (List ℕ × List ℕ)) (w : Closed) → Some w ≡ option_map as_closed found
    → quoted_or_stray text found ≡ record { kind = Quoted; text = w.bytes; len = length text - length w.behind }
closed-front text None w e = cc
closed-front text (Some closed) w e = let same : as_closed closed ≡ w = cc in (λ i. record { kind = Quoted; text = (same i).bytes; len = length text - length (same i).behind })
