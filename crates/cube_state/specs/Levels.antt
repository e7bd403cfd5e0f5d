-- The levels of a session, and the reply when one is added, for any files.
use Rattle.std.specs.Prelude.{◌≡◌, ℕ, List, [], Option, Some, None}
use Rattle.cube_schema.specs.declared.schema.Schema.{Schema}
use Rattle.forest_root.specs.declared.forest.Store.{Store}
use Rattle.reply_text.specs.Replies.{line, no_schema}
use Rattle.roll_up.specs.Levels.{Fit}
use Rattle.roll_up.specs.declared.level.Level.{Level}
use Rattle.script_lang.specs.declared.command.Block.{Block}
use Rattle.spec_machine.specs.Machine.{level_reply}

-- the levels fit the declared schema; without one there are none
abbrev pub FitSchema : Option Schema → List Level → Type 0
FitSchema None levels = levels ≡ []
FitSchema (Some schema) levels = Fit schema levels

-- the reply to a level with this name over the attribute with this name, in a session with this store
abbrev pub leveled_by : List Level → Option Store → List ℕ → List ℕ → Block → List ℕ
leveled_by levels None name attr block = line no_schema
leveled_by levels (Some store) name attr block = level_reply store.forest.schema levels name attr block
