-- Why names are not read.
use Rattle.std.specs.Prelude.{◌≡◌, ℕ, List}
use Rattle.attr_dict.specs.Book.{Book}
use Rattle.attr_dict.specs.Entering.{IsDamagedAt, IsFaulty}
use Rattle.attr_dict.specs.declared.read.NamesStop.{NamesStop}
use Rattle.attr_dict.specs.declared.read.NamesStop.TheVariants as stops

abbrev pub HasCause : Book → List ℕ → NamesStop → Type 0
HasCause b bytes (stops.Damaged place) = IsDamagedAt b bytes place
HasCause b bytes stops.Memory = Unit {0}

-- the entry at this place is faulty
abbrev pub StopsAt : Book → List ℕ → ℕ → NamesStop → Type 0
StopsAt b rest place (stops.Damaged at) = (at ≡ place) × IsFaulty b rest
StopsAt b rest place stops.Memory = Unit {0}
