-- The current place in a script, and how the code stores it.
use Rattle.std.specs.Prelude.{ℕ, ◌+◌, ◌≤◌, List, length, take, drop, Option, Some, None}
use Rattle.script_lang.specs.Script.{Line, Begun}
use Rattle.script_lang.specs.declared.command.Block.{Block as Content}
use Rattle.script_lang.specs.declared.command.Block.TheVariants.{Whole, Long}
use Rattle.script_lang.specs.declared.reader.Inside.{Inside}
use Rattle.script_lang.specs.declared.reader.Inside.TheVariants.{Nothing, Block, LongBlock}

-- the open block, if there is one, and the line that has begun
pub record Place : Type 0 where
  pub block : Option Begun
  pub line : Line

-- how many bytes of a block are kept
abbrev pub kept_in : Content → ℕ
kept_in (Whole bytes) = length bytes
kept_in Long = 0

abbrev pub kept : Option Begun → ℕ
kept None = 0
kept (Some block) = kept_in block.content

-- the most bytes of a block and a line that are kept; with this many the line is too long for a command, or it makes its block too
-- long, and the line ends no block
abbrev pub most_in : Content → ℕ
most_in (Whole bytes) = 67108869
most_in Long = 5

abbrev pub most : Option Begun → ℕ
most None = 65537
most (Some block) = most_in block.content

-- no more is kept of the block and the line, however long they are
abbrev pub IsShort : Place → Type 0
IsShort place = kept place.block + length place.line ≤ most place.block

-- the open block; its whole lines are the first `start` bytes of a text
abbrev pub block_in : Inside → ℕ → List ℕ → Option Begun
block_in Nothing start text = None
block_in (Block what) start text = Some (record { what = what; content = Whole (take start text) })
block_in (LongBlock what) start text = Some (record { what = what; content = Long })

-- the place; the line that has begun is the rest of the text
abbrev pub place_in : Inside → ℕ → List ℕ → Place
place_in inside start text = record { block = block_in inside start text; line = drop start text }

-- the most bytes of whole lines that are kept
abbrev pub limit_of : Inside → ℕ
limit_of Nothing = 0
limit_of (Block what) = 67108864
limit_of (LongBlock what) = 0

-- a text of at least `start` bytes, which are within the limit, and of no more bytes than are kept
pub record IsReader (inside : Inside) (start : ℕ) (text : List ℕ) : Type 0 where
  pub within : start ≤ length text
  pub limit : start ≤ limit_of inside
  pub short : length text ≤ most (block_in inside start text)
