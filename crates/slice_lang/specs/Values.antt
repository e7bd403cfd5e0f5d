-- The values in conditions.
use Rattle.std.specs.Prelude.{ℕ, ◌+◌, Bool, true, false, ◌||◌, ◌==◌, List, [], ◌∷◌, length, take, drop, nat_lt, nat_le, nat_eq, codes, if◌then◌else◌, Option, Some, None, Ok, Err, ℤ, pos, negsuc}
use Rattle.std.specs.Char.{is_ascii_digit, is_ascii_lowercase, is_ascii_uppercase}
use Rattle.std.specs.List.{prefix_len, starts_with}
use Rattle.fact_model.specs.Limits.{number_limit}
use Rattle.fact_model.specs.Number.{number_in}
use Rattle.fact_model.specs.declared.fact.Value.TheVariants as value
use Rattle.fact_model.specs.declared.slice.Cond.{Cond}
use Rattle.fact_model.specs.declared.slice.Cond.TheVariants.{Equal, Between}
use Rattle.cube_schema.specs.Words.{begins}
use Rattle.cube_schema.specs.declared.schema.Kind.{Kind}
use Rattle.cube_schema.specs.declared.schema.Kind.TheVariants.{Word, Number}
use Rattle.slice_lang.specs.Parts.{is_quote, byte_of}
use Rattle.slice_lang.specs.Answers.{Reading, judged}
use Rattle.slice_lang.specs.declared.refusal.SliceRefusal.{SliceRefusal}
use Rattle.slice_lang.specs.declared.refusal.SliceRefusal.TheVariants as refused

-- a value as it is written
pub record Written : Type 0 where
  pub quoted : Bool
  -- what stands for the value, where a doubled quote within quotes is one
  pub bytes : List ℕ
  -- what follows it
  pub behind : List ℕ

-- a letter, a digit, `_`, `.`, `-` or `+`
abbrev pub is_value_byte : ℕ → Bool
is_value_byte byte =
    is_ascii_lowercase byte || is_ascii_uppercase byte || is_ascii_digit byte || byte == 95 || byte == 46 || byte == 45 || byte == 43

-- the byte is put in front of what stands within quotes
abbrev pub after_byte : ℕ → Option (List ℕ × List ℕ) → Option (List ℕ × List ℕ)
after_byte byte None = None
after_byte byte (Some closed) = Some (byte ∷ closed.0, closed.1)

-- what stands within quotes behind the opening one, and what follows the closing one, if there is one; a doubled quote is one
abbrev pub within_quotes : List ℕ → Option (List ℕ × List ℕ)
within_quotes [] = None
within_quotes (a ∷ []) = if is_quote a then Some ([], []) else None
within_quotes (a ∷ (b ∷ more)) =
    if is_quote a then (if is_quote b then after_byte 34 (within_quotes more) else Some ([], b ∷ more))
    else after_byte a (within_quotes (b ∷ more))

abbrev pub as_quoted : List ℕ × List ℕ → Written
as_quoted closed = record { quoted = true; bytes = closed.0; behind = closed.1 }

-- the quoted value, if it is closed
abbrev pub quoted_in : ℕ → Option (List ℕ × List ℕ) → Reading Written
quoted_in end None = Err (refused.Syntax end)
quoted_in end (Some closed) = Ok (as_quoted closed)

abbrev pub plain_in : List ℕ → Written
plain_in text = record { quoted = false; bytes = take (prefix_len is_value_byte text) text; behind = drop (prefix_len is_value_byte text) text }

-- a value without quotes is not empty
abbrev pub plain_rules : ℕ → List ℕ → List (Bool × SliceRefusal)
plain_rules end text = (nat_lt 0 (length (plain_in text).bytes), refused.Syntax (byte_of end text)) ∷ []

-- the value at the front of a text
unfoldable pub written_in : ℕ → List ℕ → Reading Written
written_in end text = if begins text (codes "\"") then quoted_in end (within_quotes (drop 1 text)) else judged (plain_in text) (plain_rules end text)

-- a number that a number attribute may have
abbrev pub in_range : Option ℤ → Option ℕ
in_range None = None
in_range (Some (negsuc n)) = None
in_range (Some (pos n)) = if nat_le n number_limit then Some n else None

abbrev pub coordinate_in : List ℕ → Option ℕ
coordinate_in text = in_range (number_in text)

-- the place of the first `..`, or the length where there is none
abbrev pub place_of_dots : List ℕ → ℕ
place_of_dots [] = 0
place_of_dots (byte ∷ more) = if starts_with nat_eq (byte ∷ more) (codes "..") then 0 else 1 + place_of_dots more

abbrev pub equal_to : ℕ → Option ℕ → Option Cond
equal_to attr None = None
equal_to attr (Some n) = Some (Equal attr (value.Number n))

abbrev pub between : ℕ → Option ℕ → Option ℕ → Option Cond
between attr None high = None
between attr (Some low) None = None
between attr (Some low) (Some high) = Some (Between attr low high)

-- a number, or two with the first `..` between them
unfoldable pub number_cond : ℕ → List ℕ → Option Cond
number_cond attr text =
    if nat_lt (place_of_dots text) (length text) then between attr (coordinate_in (take (place_of_dots text) text)) (coordinate_in (drop (place_of_dots text + 2) text))
    else equal_to attr (coordinate_in text)

-- a text of at most 255 bytes for a text attribute, and numbers without quotes for a number attribute
unfoldable pub meaning : Kind → ℕ → Written → Option Cond
meaning (Word max) attr w = if nat_le (length w.bytes) 255 then Some (Equal attr (value.Word w.bytes)) else None
meaning Number attr w = if w.quoted then None else number_cond attr w.bytes
