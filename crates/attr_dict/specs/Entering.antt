-- The entries of a names file as names.
use Rattle.std.specs.Prelude.{◌≡◌, ℕ, ◌+◌, ◌<◌, Bool, true, false, not, ◌&&◌, List, [], ◌∷◌, ◌++◌, length, slice_set, nat_lt}
use Rattle.std.specs.List.{list_any}
use Rattle.std.specs.Str.{bytes_eq}
use Rattle.cube_schema.specs.Kinds.{max_of}
use Rattle.spec_points.specs.Codes.{Text}
use Rattle.attr_dict.specs.Book.{Book, kind_at, names_at}
use Rattle.attr_dict.specs.Admitting.{entry_text, entries_text}

-- the names of the attribute have room for the text, and it is not one of them; a number attribute has no room
abbrev pub can_enter : Book → ℕ × Text → Bool
can_enter b e = nat_lt (length (names_at b e.0)) (max_of (kind_at b e.0)) && not (list_any (bytes_eq e.1) (names_at b e.0))

abbrev pub entered : Book → ℕ × Text → Book
entered b e = record { kinds = b.kinds; names = slice_set b.names e.0 (names_at b e.0 ++ e.1 ∷ []) }

-- each entry can enter behind those before it
abbrev pub all_enter : Book → List (ℕ × Text) → Bool
all_enter b [] = true
all_enter b (e ∷ es) = can_enter b e && all_enter (entered b e) es

abbrev pub after_entries : Book → List (ℕ × Text) → Book
after_entries b [] = b
after_entries b (e ∷ es) = after_entries (entered b e) es

-- the bytes are these entries, and then the rest
pub record HasRead (b now : Book) (bytes rest : List ℕ) : Type 0 where
  pub es : List (ℕ × Text)
  pub are : bytes ≡ entries_text es ++ rest
  pub enter : all_enter b es ≡ true
  pub book : now ≡ after_entries b es

-- no entry that can enter is in front of the bytes
abbrev pub IsFaulty : Book → List ℕ → Type 0
IsFaulty b bytes = (e : ℕ × Text) (tail : List ℕ) → bytes ≡ entry_text e ++ tail → can_enter b e ≡ false

-- the first faulty entry begins at this place
pub record IsDamagedAt (b : Book) (bytes : List ℕ) (place : ℕ) : Type 0 where
  pub now : Book
  pub rest : List ℕ
  pub front : HasRead b now bytes rest
  pub some : 0 < length rest
  pub at : place + length rest ≡ length bytes
  pub faulty : IsFaulty now rest

-- the entry in front of the bytes entered, and this is left
pub record EntersFront (b now : Book) (bytes tail : List ℕ) : Type 0 where
  pub entry : ℕ × Text
  pub are : bytes ≡ entry_text entry ++ tail
  pub enter : can_enter b entry ≡ true
  pub book : now ≡ entered b entry
