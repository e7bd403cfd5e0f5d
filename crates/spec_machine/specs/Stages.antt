-- What commands reply by the plain machine, and the stages that they make of what it knows.
use Rattle.std.specs.Prelude.{ℕ, ◌+◌, ◌-◌, Bool, cond, List, [], ◌∷◌, ◌++◌, length, nat_lt, nat_le, Some, None}
use Rattle.script_lang.specs.Script.{commands}
use Rattle.script_lang.specs.declared.command.Command.{Command}
use Rattle.spec_machine.specs.Machine.{act}
use Rattle.spec_machine.specs.World.{Kept, World}

-- the replies to all commands, joined
abbrev pub replies_from : World → List Command → List ℕ
replies_from world [] = []
replies_from world (command ∷ rest) = (act world command).1 ++ replies_from (act world command).0 rest

-- the replies of the plain machine to a script
abbrev pub replies : World → List ℕ → List ℕ
replies world script = replies_from world (commands script)

-- what is known behind all commands
abbrev pub final : World → List Command → World
final world [] = world
final world (command ∷ rest) = final (act world command).0 rest

-- it grows with each stage: with the schema, and with each batch that is not empty
abbrev pub size : Kept → ℕ
size None = 0
size (Some warehouse) = length warehouse.facts + 1

-- the command declares the schema, or commits a batch that is not empty
abbrev pub makes_stage : World → Command → Bool
makes_stage world command = nat_lt (size world.kept) (size (act world command).0.kept)

-- what files keep behind each command that makes a stage
abbrev pub stages_after : World → List Command → List Kept
stages_after world [] = []
stages_after world (command ∷ rest) =
    cond (makes_stage world command) ((act world command).0.kept ∷ []) [] ++ stages_after (act world command).0 rest

-- what they keep at the start, and behind each command that makes a stage
abbrev pub stages : World → List Command → List Kept
stages world commands = world.kept ∷ stages_after world commands

-- of the commands that make a stage, those whose whole reply stands among the first so many bytes
abbrev pub acked : World → List Command → ℕ → ℕ
acked world [] told = 0
acked world (command ∷ rest) told =
    cond (nat_le (length (act world command).1) told)
    (cond (makes_stage world command) 1 0 + acked (act world command).0 rest (told - length (act world command).1)) 0
