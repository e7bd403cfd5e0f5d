-- Files that keep something have a format.
use Rattle.std.proofs.Common.{ℕ, Some, None, refl}
use Rattle.site_core.specs.Disk.{Files}
use Rattle.forest_root.proofs.One.{held_is_live}
use Rattle.spec_store.specs.Held.{held}
use Rattle.spec_crash.specs.Keeps.{HasFormat, Keeps}
use Rattle.spec_machine.specs.World.{Kept}

pub has_format : (files : Files) (kept : Kept) → Keeps files kept → (format : ℕ) × HasFormat files kept format
has_format files None keeps = (1, refl)
has_format files (Some warehouse) keeps =
    let is = keeps.kept in
    let live = is.there.keeps.1 in
    (live.format, (live, held_is_live (held is.format warehouse.schema warehouse.facts warehouse.last) is.there.keeps.0 live files is.there.keeps.2, refl))
