-- What stands within quotes, taken byte by byte.
use Rattle.std.proofs.Common.{◌≡◌, ℕ, true, List, ◌++◌, drop, Option, Some, None, Ok}
use Rattle.std.specs.Prelude.{codes, option_map}
use Rattle.cube_schema.specs.Words.{begins}
use Rattle.slice_lang.specs.Values.{Written, as_quoted, within_quotes, quoted_in, written_in}

-- the bytes are put in front of what stands within quotes
abbrev pub with_front : List ℕ → Option (List ℕ × List ℕ) → Option (List ℕ × List ℕ)
with_front front None = None
with_front front (Some closed) = Some (front ++ closed.0, closed.1)

closed-is : (end : ℕ) (found : Option (List ℕ × List ℕ)) (w : Written) → Some w ≡ option_map as_quoted found → quoted_in end found ≡ Ok w
closed-is end None w e = cc
closed-is end (Some closed) w e = cc

-- a value that begins with a quote is what stands within quotes
pub quoted_is : (end : ℕ) (text : List ℕ) (w : Written) → begins text (codes "\"") ≡ true → Some w ≡ option_map as_quoted (within_quotes (drop 1 text)) → written_in end text ≡ Ok w
unfolding written_in
quoted_is end text w quoted e = rw quoted (closed-is end (within_quotes (drop 1 text)) w e)
