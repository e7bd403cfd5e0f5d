-- Which of four files is open.
use Rattle.std.specs.Prelude.{ℕ, List, Option, None, option_map, slice_index_or}
use Rattle.std.specs.declared.fs.File.{File}
use Rattle.site_host.specs.declared.data_file.DataFile.{DataFile}

-- the file with this number, if it is open
abbrev pub file_in : List (Option DataFile) → ℕ → Option File
file_in files number = option_map (λ kept. kept.file) (slice_index_or files number None)
