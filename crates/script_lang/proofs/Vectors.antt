-- Worked examples: the numbers and texts of commands, and the bytes of blocks.
use Rattle.std.specs.Prelude.{◌≡◌, [], ◌∷◌, ◌++◌, codes, refl}
use Rattle.script_lang.specs.declared.command.Block.TheVariants.{Whole}
use Rattle.script_lang.specs.declared.command.Command.TheVariants.{Schema, Load, LoadNumbered, Begin, Step, Slice, Generate, Level, Rollup, Upgrade, Audit, Unknown}
use Rattle.script_lang.specs.Script.{commands}

numbers : commands (codes "step 0\nstep 007\r\nstep 18446744073709551615\ngenerate 1 262145\ngenerate 0 0\n")
    ≡ Step 0 ∷ Step 7 ∷ Step 18446744073709551615 ∷ Generate 1 262145 ∷ Generate 0 0 ∷ []
numbers = refl

-- the lines `upgrade` and `audit` have nothing else
upgrades : commands (codes "upgrade\nupgrade\r\nupgrade \nupgrade 2\naudit\naudit\r\naudit \nAudit\n") ≡ Upgrade ∷ Upgrade ∷ Unknown ∷ Unknown ∷ Audit ∷ Audit ∷ Unknown ∷ Unknown ∷ []
upgrades = refl

-- a line loses one carriage return at its end
texts : commands (codes "slice count by a\nslice \nslice  a\r\nslice a\r\r\nslice " ++ 255 ∷ 10 ∷ [])
    ≡ Slice (codes "count by a") ∷ Slice [] ∷ Slice (codes " a") ∷ Slice (codes "a\r") ∷ Slice (255 ∷ []) ∷ []
texts = refl

-- a block keeps its bytes, and ends at the first line `end`
blocks : commands (codes "schema\nattr a text\nend\nload\n1,2\n\n3,4\nend\nbegin\nend\nload\n\"a\nend\nb\"\n")
    ≡ Schema (Whole (codes "attr a text\n")) ∷ Load (Whole (codes "1,2\n\n3,4\n")) ∷ Begin (Whole []) ∷ Load (Whole (codes "\"a\n")) ∷ Unknown ∷ []
blocks = refl

-- a number of a batch is not 0, and what is no such line begins no block
numbered : commands (codes "load 7\n1,2\nend\nload 007\nend\nload 18446744073709551615\r\nend\nload 0\nload x\nload 1 \nload \nload  1\nload +1\nload 18446744073709551616\n")
    ≡ LoadNumbered 7 (Whole (codes "1,2\n")) ∷ LoadNumbered 7 (Whole []) ∷ LoadNumbered 18446744073709551615 (Whole [])
    ∷ Unknown ∷ Unknown ∷ Unknown ∷ Unknown ∷ Unknown ∷ Unknown ∷ Unknown ∷ []
numbered = refl

ends : commands (codes "load\n end\nend \nEND\nends\nend\nload\na\r\n\r\nend\r\nload\nend\r\r\nend\r")
    ≡ Load (Whole (codes " end\nend \nEND\nends\n")) ∷ Load (Whole (codes "a\r\n\r\n")) ∷ Load (Whole (codes "end\r\r\n")) ∷ []
ends = refl

-- a level has two words that are not empty
levels : commands (codes "level kind part\nbolt,steel\nend\nlevel kind part\r\nend\nrollup count by kind\nrollup \nlevel kind\nlevel  part\nlevel kind \nlevel kind part x\nlevel kind  part\nrollup\n")
    ≡ Level (codes "kind") (codes "part") (Whole (codes "bolt,steel\n")) ∷ Level (codes "kind") (codes "part") (Whole []) ∷ Rollup (codes "count by kind") ∷ Rollup []
    ∷ Unknown ∷ Unknown ∷ Unknown ∷ Unknown ∷ Unknown ∷ Unknown ∷ []
levels = refl
