-- The tokens of a text.
use Rattle.std.specs.Prelude.{ℕ, zero, suc, ◌+◌, ◌-◌, Bool, true, false, not, ◌&&◌, ◌||◌, ◌==◌, List, [], ◌∷◌, length, take, drop, codes, slice_index, if◌then◌else◌, Option, Some, None}
use Rattle.std.specs.Char.{is_ascii_digit, is_ascii_lowercase, is_ascii_uppercase}
use Rattle.std.specs.List.{list_any, prefix_len}
use Rattle.std.specs.Str.{bytes_eq, str_eq_ignore_ascii_case}
use Rattle.cube_schema.specs.Words.{begins}
use Rattle.sql_lang.specs.declared.token.Token.{Token}
use Rattle.sql_lang.specs.declared.token.TokenKind.{TokenKind}
use Rattle.sql_lang.specs.declared.token.TokenKind.TheVariants.{Word, Whole, Quoted, Mark, Stray, End}
use Rattle.sql_lang.specs.declared.token.TheConstants.{KEYWORDS}
use Rattle.sql_lang.specs.declared.front.Front.{Front}

-- ---- what a token is

abbrev pub word_or : TokenKind → Bool → Bool
word_or Word b = b
word_or Whole b = false
word_or Quoted b = false
word_or Mark b = false
word_or Stray b = false
word_or End b = false

abbrev pub mark_or : TokenKind → Bool → Bool
mark_or Word b = false
mark_or Whole b = false
mark_or Quoted b = false
mark_or Mark b = b
mark_or Stray b = false
mark_or End b = false

-- one of the words that cannot be names, in upper or lower case
unfoldable pub is_keyword : List ℕ → Bool
is_keyword text = list_any (λ word. str_eq_ignore_ascii_case word.now text) KEYWORDS

-- the token is this word, in upper or lower case
abbrev pub is_word : List ℕ → Token → Bool
is_word word t = word_or t.kind (str_eq_ignore_ascii_case word t.text)

-- the token is this mark
abbrev pub is_mark : List ℕ → Token → Bool
is_mark mark t = mark_or t.kind (bytes_eq t.text mark)

-- the token is a word that may be a name
abbrev pub is_name : Token → Bool
is_name t = word_or t.kind (not (is_keyword t.text))

abbrev pub is_quoted_kind : TokenKind → Bool
is_quoted_kind Quoted = true
is_quoted_kind Word = false
is_quoted_kind Whole = false
is_quoted_kind Mark = false
is_quoted_kind Stray = false
is_quoted_kind End = false

abbrev pub is_whole_kind : TokenKind → Bool
is_whole_kind Whole = true
is_whole_kind Word = false
is_whole_kind Quoted = false
is_whole_kind Mark = false
is_whole_kind Stray = false
is_whole_kind End = false

abbrev pub is_end_kind : TokenKind → Bool
is_end_kind End = true
is_end_kind Word = false
is_end_kind Whole = false
is_end_kind Quoted = false
is_end_kind Mark = false
is_end_kind Stray = false

-- a text in quotes
abbrev pub is_quoted : Token → Bool
is_quoted t = is_quoted_kind t.kind

-- a whole number
abbrev pub is_whole : Token → Bool
is_whole t = is_whole_kind t.kind

-- the end of the text
abbrev pub is_end : Token → Bool
is_end t = is_end_kind t.kind

-- ---- the token at the beginning of a text

abbrev pub is_letter : ℕ → Bool
is_letter byte = is_ascii_lowercase byte || is_ascii_uppercase byte

-- a letter, a digit or `_`
abbrev pub is_word_byte : ℕ → Bool
is_word_byte byte = is_letter byte || is_ascii_digit byte || byte == 95

abbrev pub is_plus_or_minus : ℕ → Bool
is_plus_or_minus byte = byte == 43 || byte == 45

abbrev pub is_quote : ℕ → Bool
is_quote byte = byte == 39

-- `=`, `<`, `>`, `,`, `(`, `)` or `*`
abbrev pub begins_mark : ℕ → Bool
begins_mark byte = byte == 61 || byte == 60 || byte == 62 || byte == 44 || byte == 40 || byte == 41 || byte == 42

-- a digit, or a sign and a digit
abbrev pub begins_whole : List ℕ → Bool
begins_whole text = is_ascii_digit (slice_index text 0) || (is_plus_or_minus (slice_index text 0) && is_ascii_digit (slice_index text 1))

-- the length of the longest run of letters, digits and `_`
abbrev pub word_len : List ℕ → ℕ
word_len text = prefix_len is_word_byte text

abbrev pub sign_len : List ℕ → ℕ
sign_len text = if is_plus_or_minus (slice_index text 0) then 1 else 0

-- the length of a sign, if there is one, and the longest run of digits
abbrev pub whole_len : List ℕ → ℕ
whole_len text = sign_len text + prefix_len is_ascii_digit (drop (sign_len text) text)

-- the length of the longest mark
abbrev pub mark_len : List ℕ → ℕ
mark_len text = if begins text (codes "<=") || begins text (codes ">=") then 2 else 1

-- the first `len` bytes as a token
abbrev pub front : TokenKind → ℕ → List ℕ → Front
front kind len text = record { kind = kind; text = take len text; len = len }

-- the byte put before what is within the quotes
abbrev pub after_byte : ℕ → Option (List ℕ × List ℕ) → Option (List ℕ × List ℕ)
after_byte byte None = None
after_byte byte (Some closed) = Some (byte ∷ closed.0, closed.1)

-- what is within quotes after the opening one, and what follows the closing one, if there is one; a doubled quote is one
abbrev pub within_quotes : List ℕ → Option (List ℕ × List ℕ)
within_quotes [] = None
within_quotes (a ∷ []) = if is_quote a then Some ([], []) else None
within_quotes (a ∷ (b ∷ more)) =
    if is_quote a then (if is_quote b then after_byte 39 (within_quotes more) else Some ([], b ∷ more))
    else after_byte a (within_quotes (b ∷ more))

-- the text in quotes at the beginning; a quote that is not closed is a stray byte
abbrev pub quoted_or_stray : List ℕ → Option (List ℕ × List ℕ) → Front
quoted_or_stray text None = front Stray 1 text
quoted_or_stray text (Some closed) = record { kind = Quoted; text = closed.0; len = length text - length closed.1 }

-- the token at the beginning of a text that is not empty
unfoldable pub front_of : List ℕ → Front
front_of text =
    if is_letter (slice_index text 0) then front Word (word_len text) text
    else (if begins_whole text then front Whole (whole_len text) text
    else (if is_quote (slice_index text 0) then quoted_or_stray text (within_quotes (drop 1 text))
    else (if begins_mark (slice_index text 0) then front Mark (mark_len text) text
    else front Stray 1 text)))

-- ---- all tokens

-- the token at the beginning of `rest`, the last part of a text that ends before byte `end`
abbrev pub placed : ℕ → List ℕ → Front → Token
placed end rest f = record { byte = end - length rest; kind = f.kind; text = f.text }

-- the end of a text that ends before this byte
abbrev pub end_at : ℕ → Token
end_at end = record { byte = end; kind = End; text = [] }

-- the tokens of a text whose first `left` bytes belong to the token before them; spaces may come between tokens
abbrev pub tokens_from : ℕ → ℕ → List ℕ → List Token
tokens_from end left [] = []
tokens_from end (suc left) (byte ∷ more) = tokens_from end left more
tokens_from end zero (byte ∷ more) =
    if byte == 32 then tokens_from end zero more
    else placed end (byte ∷ more) (front_of (byte ∷ more)) ∷ tokens_from end ((front_of (byte ∷ more)).len - 1) more

-- the tokens of a text that ends before this byte
unfoldable pub tokens_of : ℕ → List ℕ → List Token
tokens_of end text = tokens_from end zero text
