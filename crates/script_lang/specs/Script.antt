-- A script as a list of commands: its bytes are split into lines, and the lines are read as commands and blocks.
use Rattle.std.specs.Prelude.{ℕ, Bool, true, false, cond, List, [], ◌∷◌, ◌++◌, ◌==◌, length, nat_lt, ◌≤◌, Option, Some, None, option_to_list, is_some}
use Rattle.script_lang.specs.declared.command.Block.{Block}
use Rattle.script_lang.specs.declared.command.Block.TheVariants.{Whole, Long}
use Rattle.script_lang.specs.declared.command.Command.{Command}
use Rattle.script_lang.specs.declared.command.Command.TheVariants as says
use Rattle.script_lang.specs.declared.said.Opening.{Opening}
use Rattle.script_lang.specs.declared.said.Opening.TheVariants as opens
use Rattle.script_lang.specs.declared.said.Said.{Said}
use Rattle.script_lang.specs.declared.said.Said.TheVariants.{Nothing, Opens, Says}
use Rattle.script_lang.specs.Said.{said_by, is_end}

-- the bytes between two line feeds
abbrev pub Line : Type 0
Line = List ℕ

-- the lines, after one has begun; at the end of the script, any bytes after the last line feed are a line
abbrev pub lines_from : Bool → Line → List ℕ → List Line
lines_from over line [] = cond over (cond (length line == 0) [] (line ∷ [])) []
lines_from over line (b ∷ bs) = cond (b == 10) (line ∷ lines_from over [] bs) (lines_from over (line ++ b ∷ []) bs)

-- a block that has begun: what it is for, and its bytes so far
pub record Begun : Type 0 where
  pub what : Opening
  pub content : Block

-- the block of these bytes; more than 67,108,864 are too many
abbrev pub block_of : List ℕ → Block
block_of bytes = cond (nat_lt 67108864 (length bytes)) Long (Whole bytes)

-- the block with one more line
abbrev pub with_line : Block → Line → Block
with_line (Whole bytes) line = block_of (bytes ++ line ++ 10 ∷ [])
with_line Long line = Long

abbrev pub empty_block : Opening → Begun
empty_block what = record { what = what; content = Whole [] }

abbrev pub command_with : Opening → Block → Command
command_with opens.Schema block = says.Schema block
command_with opens.Load block = says.Load block
command_with (opens.Numbered n) block = says.LoadNumbered n block
command_with opens.Begin block = says.Begin block
command_with (opens.Level name attr) block = says.Level name attr block

-- the command of a block that ends
abbrev pub ended : Begun → Command
ended block = command_with block.what block.content

-- the command of a line between two blocks, if there is one, and the block that is open after it
abbrev pub after_saying : Said → Option Command × Option Begun
after_saying Nothing = (None, None)
after_saying (Opens what) = (None, Some (empty_block what))
after_saying (Says command) = (Some command, None)

-- the command that ends with a line, if one does, and the block that is open after it
abbrev pub after_line : Option Begun → Line → Option Command × Option Begun
after_line None line = after_saying (said_by line)
after_line (Some block) line =
    cond (is_end line) (Some (ended block), None) (None, Some (record { what = block.what; content = with_line block.content line }))

-- the commands of a block that is open at the end of the script
abbrev pub at_end : Bool → Option Begun → List Command
at_end over block = cond over (cond (is_some block) (says.OpenBlock ∷ []) []) []

-- the commands of these lines, with a block that may be open
abbrev pub commands_in : Bool → Option Begun → List Line → List Command
commands_in over block [] = at_end over block
commands_in over block (line ∷ lines) = option_to_list (after_line block line).0 ++ commands_in over (after_line block line).1 lines

-- the commands of a script
abbrev pub commands : List ℕ → List Command
commands bytes = commands_in true None (lines_from true [] bytes)

-- the commands that are whole in the first bytes of a script, for any bytes that follow
abbrev pub whole : List ℕ → List Command
whole bytes = commands_in false None (lines_from false [] bytes)

-- a whole block is within the limit
abbrev pub IsWithin : Block → Type 0
IsWithin (Whole bytes) = length bytes ≤ 67108864
IsWithin Long = Unit {0}

-- the command's block, if it has one, is within the limit
abbrev pub KeepsLimit : Command → Type 0
KeepsLimit (says.Schema block) = IsWithin block
KeepsLimit (says.Load block) = IsWithin block
KeepsLimit (says.LoadNumbered n block) = IsWithin block
KeepsLimit (says.Begin block) = IsWithin block
KeepsLimit (says.Level name attr block) = IsWithin block
KeepsLimit (says.Rollup text) = Unit {0}
KeepsLimit (says.Step count) = Unit {0}
KeepsLimit says.Finish = Unit {0}
KeepsLimit says.Abandon = Unit {0}
KeepsLimit (says.Slice text) = Unit {0}
KeepsLimit (says.Explain text) = Unit {0}
KeepsLimit (says.Sql text) = Unit {0}
KeepsLimit says.Status = Unit {0}
KeepsLimit says.Upgrade = Unit {0}
KeepsLimit says.Audit = Unit {0}
KeepsLimit (says.Generate start rows) = Unit {0}
KeepsLimit says.Unknown = Unit {0}
KeepsLimit says.LongLine = Unit {0}
KeepsLimit says.OpenBlock = Unit {0}

-- the command of a line, if there is one, is within the limit
abbrev pub SaysNoBlock : Said → Type 0
SaysNoBlock Nothing = Unit {0}
SaysNoBlock (Opens what) = Unit {0}
SaysNoBlock (Says command) = KeepsLimit command
