-- The parts of an input: the block of a schema up to a line `end`, a line with the text of a slice, and replies.
use Rattle.std.specs.Prelude.{ℕ, ◌+◌, ◌-◌, ◌==◌, Bool, List, [], ◌∷◌, length, take, drop, codes, nat_eq, slice_index, if◌then◌else◌}
use Rattle.std.specs.List.{before_first, starts_with}

-- the place of the first line feed that is followed by a line `end`, or the length if there is none
abbrev pub place_of_end : List ℕ → ℕ
place_of_end [] = 0
place_of_end (byte ∷ more) = if starts_with nat_eq (byte ∷ more) (codes "\nend\n") then 0 else 1 + place_of_end more

-- the block of the schema: everything before the first line `end`
abbrev pub block_in : List ℕ → List ℕ
block_in input = take (place_of_end input) input

-- everything after that line
abbrev pub behind_end : List ℕ → List ℕ
behind_end input = drop (place_of_end input + 5) input

-- the text of the slice: the next line
abbrev pub text_in : List ℕ → List ℕ
text_in input = before_first (λ b. b == 10) (behind_end input)

-- what follows the text, from its line feed on
abbrev pub behind_text : List ℕ → List ℕ
behind_text input = drop (length (text_in input)) (behind_end input)

-- the last line ends with a line feed
abbrev pub is_whole : List ℕ → Bool
is_whole replies = slice_index replies (length replies - 1) == 10
