-- The names of the four files.
use Rattle.std.specs.Prelude.{ℕ, List, codes, if◌then◌else◌, ◌==◌}

-- the name of the file with this number
abbrev pub file_name : ℕ → List ℕ
file_name file = if file == 0 then codes "root" else (if file == 1 then codes "names" else (if file == 2 then codes "side0" else codes "side1"))
