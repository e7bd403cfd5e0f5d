-- What a stop may leave of an example, byte by byte; the values were worked out apart from the program. Behind a sync there are
-- a write over stable bytes that failed, one past the end, and one into an empty file.
use Rattle.std.proofs.Common.{◌≡◌, ◌<◌, ◌+◌, ◌^◌, ℕ, List, [], ◌∷◌, length, refl, arith}
use Rattle.lcg.specs.Draw.{draw, next_state}
use Rattle.site_core.specs.Disk.{Files}
use Rattle.site_mem.specs.declared.step.Range.{Range}
use Rattle.site_mem.specs.declared.step.Step.{Step}
use Rattle.site_mem.specs.declared.step.Step.TheVariants.{Wrote, Tore, Synced}
use Rattle.site_mem.specs.History.{texts_of, read_after}
use Rattle.site_mem.specs.Image.{filled_files, drawn_files}
use Rattle.site_mem.specs.Unstable.{stable_after}

abbrev range : (file at : ℕ) (bytes : List ℕ) → file < 4 → at + length bytes + 1 < 2 ^ 64 → Range
range file at bytes within fits = record { file = file; at = at; bytes = bytes; within = within; fits = fits }

-- the bytes abcdef, and three empty files
abbrev first : Files
first = texts_of ((97 ∷ 98 ∷ 99 ∷ 100 ∷ 101 ∷ 102 ∷ []) ∷ [] ∷ [] ∷ [] ∷ [])

-- A at 0 and a sync; XY at 1, which fails; ghi at 5; q into the third file
abbrev steps : List Step
steps = Wrote (range 2 0 (113 ∷ []) (omega arith) (omega arith))
    ∷ Wrote (range 0 5 (103 ∷ 104 ∷ 105 ∷ []) (omega arith) (omega arith))
    ∷ Tore (range 0 1 (88 ∷ 89 ∷ []) (omega arith) (omega arith))
    ∷ Synced
    ∷ Wrote (range 0 0 (65 ∷ []) (omega arith) (omega arith)) ∷ []

-- the files as a read gives them, and as the sync made them stable
read-first : read_after first steps 0 ≡ 65 ∷ 98 ∷ 99 ∷ 100 ∷ 101 ∷ 103 ∷ 104 ∷ 105 ∷ []
read-first = refl

read-third : read_after first steps 2 ≡ 113 ∷ []
read-third = refl

stable-first : stable_after first steps 0 ≡ 65 ∷ 98 ∷ 99 ∷ 100 ∷ 101 ∷ 102 ∷ []
stable-first = refl

stable-third : stable_after first steps 2 ≡ []
stable-third = refl

-- one byte at all unstable places
ones-first : filled_files first steps 1 0 ≡ 65 ∷ 1 ∷ 1 ∷ 100 ∷ 101 ∷ 1 ∷ 1 ∷ 1 ∷ []
ones-first = refl

ones-third : filled_files first steps 1 2 ≡ 1 ∷ []
ones-third = refl

-- the first file, drawn
drawn-first-4 : drawn_files first steps 4 0 ≡ 65 ∷ 76 ∷ 254 ∷ 100 ∷ 101 ∷ 59 ∷ 33 ∷ 251 ∷ []
unfolding draw next_state
drawn-first-4 = refl

drawn-first-5 : drawn_files first steps 5 0 ≡ 65 ∷ 157 ∷ 186 ∷ 100 ∷ 101 ∷ 173 ∷ 15 ∷ []
unfolding draw next_state
drawn-first-5 = refl

drawn-first-8 : drawn_files first steps 8 0 ≡ 65 ∷ 144 ∷ 236 ∷ 100 ∷ 101 ∷ 3 ∷ 214 ∷ []
unfolding draw next_state
drawn-first-8 = refl

-- and the third, whose draws go on behind those of the two before it
drawn-third-4 : drawn_files first steps 4 2 ≡ 2 ∷ []
unfolding draw next_state
drawn-third-4 = refl

drawn-third-6 : drawn_files first steps 6 2 ≡ []
unfolding draw next_state
drawn-third-6 = refl

drawn-third-9 : drawn_files first steps 9 2 ≡ 107 ∷ []
unfolding draw next_state
drawn-third-9 = refl

-- behind one more sync there is one image
synced-first : drawn_files first (Synced ∷ steps) 4 0 ≡ 65 ∷ 98 ∷ 99 ∷ 100 ∷ 101 ∷ 103 ∷ 104 ∷ 105 ∷ []
unfolding draw next_state
synced-first = refl
