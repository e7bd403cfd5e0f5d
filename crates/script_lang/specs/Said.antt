-- What one line of a script says.
use Rattle.std.specs.Prelude.{ℕ, ◌^◌, Bool, cond, ◌&&◌, ◌||◌, ◌==◌, List, length, drop, nat_lt, nat_eq, codes, Option, Some, None}
use Rattle.std.specs.Cmp.Lexicographic.{pointwise}
use Rattle.std.specs.List.{starts_with, before_first, after_first, list_any}
use Rattle.std.specs.Str.Parse.{digits_value}
use Rattle.std.specs.Str.Lines.{strip_carriage_return}
use Rattle.fact_model.specs.Number.{is_numeral}
use Rattle.script_lang.specs.declared.command.Command.{Command}
use Rattle.script_lang.specs.declared.command.Command.TheVariants as says
use Rattle.script_lang.specs.declared.said.Opening.TheVariants as opens
use Rattle.script_lang.specs.declared.said.Said.{Said}
use Rattle.script_lang.specs.declared.said.Said.TheVariants.{Nothing, Opens, Says}

-- the line is this text
abbrev pub is_text : List ℕ → List ℕ → Bool
is_text text line = pointwise nat_eq line text

-- the number in decimal digits, if the bytes are digits and it is below 2 ^ 64
abbrev pub count_in : List ℕ → Option ℕ
count_in bytes = cond (is_numeral bytes && nat_lt (digits_value 10 bytes) (2 ^ 64)) (Some (digits_value 10 bytes)) None

-- a numbered block begins if there is a number and it is not 0
abbrev pub load_in : Option ℕ → Said
load_in None = Says says.Unknown
load_in (Some n) = cond (n == 0) (Says says.Unknown) (Opens (opens.Numbered n))

abbrev pub step_in : Option ℕ → Command
step_in None = says.Unknown
step_in (Some n) = says.Step n

abbrev pub generate_in : Option ℕ → Option ℕ → Command
generate_in None rows = says.Unknown
generate_in (Some start) None = says.Unknown
generate_in (Some start) (Some rows) = says.Generate start rows

abbrev pub is_space : ℕ → Bool
is_space byte = byte == 32

-- a level has a name and the name of an attribute: two words, neither of which is empty
abbrev pub level_in : List ℕ → List ℕ → Said
level_in name attr = cond (length name == 0 || (length attr == 0 || list_any is_space attr)) (Says says.Unknown) (Opens (opens.Level name attr))

-- what a line says if it is not one of the one-word commands
abbrev pub said_with : List ℕ → Said
said_with line =
    cond (starts_with nat_eq line (codes "load ")) (load_in (count_in (drop 5 line)))
    (cond (starts_with nat_eq line (codes "slice ")) (Says (says.Slice (drop 6 line)))
    (cond (starts_with nat_eq line (codes "explain ")) (Says (says.Explain (drop 8 line)))
    (cond (starts_with nat_eq line (codes "sql ")) (Says (says.Sql (drop 4 line)))
    (cond (starts_with nat_eq line (codes "rollup ")) (Says (says.Rollup (drop 7 line)))
    (cond (starts_with nat_eq line (codes "level ")) (level_in (before_first is_space (drop 6 line)) (after_first is_space (drop 6 line)))
    (cond (starts_with nat_eq line (codes "step ")) (Says (step_in (count_in (drop 5 line))))
    (cond (starts_with nat_eq line (codes "generate "))
    (Says (generate_in (count_in (before_first is_space (drop 9 line))) (count_in (after_first is_space (drop 9 line)))))
    (Says says.Unknown))))))))

-- what a line says, without the carriage return at its end
abbrev pub said_in : List ℕ → Said
said_in line =
    cond (length line == 0) Nothing
    (cond (is_text (codes "schema") line) (Opens opens.Schema)
    (cond (is_text (codes "load") line) (Opens opens.Load)
    (cond (is_text (codes "begin") line) (Opens opens.Begin)
    (cond (is_text (codes "finish") line) (Says says.Finish)
    (cond (is_text (codes "abandon") line) (Says says.Abandon)
    (cond (is_text (codes "status") line) (Says says.Status)
    (cond (is_text (codes "upgrade") line) (Says says.Upgrade)
    (cond (is_text (codes "audit") line) (Says says.Audit)
    (said_with line)))))))))

-- what a line between two blocks says; more than 65,536 bytes are too long
abbrev pub said_by : List ℕ → Said
said_by line = cond (nat_lt 65536 (length line)) (Says says.LongLine) (said_in (strip_carriage_return line))

-- the line ends a block
abbrev pub is_end : List ℕ → Bool
is_end line = is_text (codes "end") (strip_carriage_return line)
