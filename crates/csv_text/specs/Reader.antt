-- A reader of `csv` between two records of a block.
use Rattle.std.specs.Prelude.{ℕ, suc, ◌≡◌, Bool, true, false, List, [], ◌∷◌, length, Option, Some, None}
use denote.Bor.{Bor}
use Rattle.csv.specs.Machine.{ends_at_end}
use Rattle.csv.specs.Reading.{Ready, default_config, is_flexible, reader_config, reader_state, reader_trim, records_from, source_of}
use Rattle.csv.specs.declared.parser.State.{State}
use Rattle.csv.specs.declared.reader.Reader.{Reader}
use Rattle.csv.specs.declared.reader.Trim.TheVariants as trim

-- the unread bytes of the block, if the reader still reads
abbrev pub unread_by : Reader (Bor (List ℕ)) → Option (List ℕ)
unread_by reader = source_of (λ s. Some s.now) reader

-- the records of these bytes, from a state between two records
unfoldable pub records_left : State → Option (List ℕ) → List (List (List ℕ))
records_left state None = []
records_left state (Some bytes) = records_from default_config (suc (length bytes)) state bytes

-- the records still to come
abbrev pub left_by : Reader (Bor (List ℕ)) → List (List (List ℕ))
left_by reader = records_left (reader_state reader) (unread_by reader)

pub record IsBlockReader (reader : Reader (Bor (List ℕ))) : Type 0 where
  pub config : reader_config reader ≡ default_config
  pub trim : reader_trim reader ≡ trim.None
  -- records may differ in their number of fields
  pub flexible : is_flexible reader ≡ true
  -- no header row is read
  pub ready : Ready reader
  pub bytes : List ℕ
  pub known : unread_by reader ≡ Some bytes
  pub between : ends_at_end (reader_state reader) ≡ false

-- these are the fields of the next record, or there is none
abbrev pub IsNext : List (List (List ℕ)) → List (List (List ℕ)) → List (List ℕ) → Bool → Type 0
IsNext left rest fields true = left ≡ fields ∷ rest
IsNext left rest fields false = left ≡ []
