-- How many bytes of a names file the entries of names have.
use Rattle.std.specs.Prelude.{ℕ, zero, suc, ◌+◌, ◌*◌, List, length, sum_by}
use Rattle.spec_points.specs.Codes.{Text}
use Rattle.spec_points.specs.Points.{Names}
use Rattle.spec_points.specs.Agree.{name_limit}
use Rattle.attr_dict.specs.Book.{Book, names_at, shown_names}

-- an entry has two bytes and the bytes of its text
abbrev pub texts_len : List Text → ℕ
texts_len texts = sum_by (λ (t : Text). 2 + length t) texts

-- the entries of the names of the first so many attributes
unfoldable pub len_of : Names → ℕ → ℕ
len_of names zero = 0
len_of names (suc a) = len_of names a + texts_len (names a)

-- the entries of all names
abbrev pub entries_len : Book → ℕ
entries_len b = len_of (names_at b) (length b.kinds)

-- the entries of the first names of each attribute, as many as these numbers say
abbrev pub shown_len : Book → List ℕ → ℕ
shown_len b at = len_of (shown_names b at) (length b.kinds)

-- 16 attributes of 16,777,215 names, each name of 255 bytes
abbrev pub entries_limit : ℕ
entries_limit = 16 * name_limit * 257
