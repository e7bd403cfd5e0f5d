-- What is within quotes, by what comes next.
use Rattle.std.specs.Prelude.{ℕ, ◌<◌, List, [], length, Option, Some, None}
use Rattle.sql_lang.specs.declared.quotes.Within.{Within}
use Rattle.sql_lang.specs.declared.quotes.Within.TheVariants.{Byte, Close, Nothing}
use Rattle.sql_lang.specs.Tokens.{after_byte, within_quotes}

abbrev pub from_next : Within → Option (List ℕ × List ℕ)
from_next (Byte byte more) = after_byte byte (within_quotes more.now)
from_next (Close behind) = Some ([], behind.now)
from_next Nothing = None

-- the text that follows is shorter than `len`
abbrev pub IsBehind : Within → ℕ → Type 0
IsBehind (Byte byte more) len = length more.now < len
IsBehind (Close behind) len = length behind.now < len
IsBehind Nothing len = Unit {0}
