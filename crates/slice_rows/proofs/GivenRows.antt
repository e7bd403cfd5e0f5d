-- What points give rows, by the groups that were made of them.
use Rattle.std.proofs.Common.{◌≡◌, Bool, List, ℕ, map, sym, ◌∙◌}
use Rattle.cube_point.specs.declared.point.Entry.{Entry}
use Rattle.spec_points.specs.Entries.{entry_of, pair_of}
use Rattle.spec_points.specs.Points.{View}
use Rattle.attr_dict.specs.Book.{Book}
use Rattle.point_groups.specs.Kept.{AllGather, gathered, grouped_dims}
use Rattle.slice_rows.specs.Grouped.{AreSound}
use Rattle.slice_rows.specs.Sound.{GiveRows}
use Rattle.slice_rows.proofs.FactPoints.{pairs-back}
use Rattle.slice_rows.proofs.GatheredSound.{sound-alike}

module _ (b : Book) (group : List ℕ) (view : View) (es gs : List Entry) (are : map pair_of gs ≡ gathered (grouped_dims group view) es) where
  abbrev dims : List Bool
  dims = grouped_dims group view

  same-pairs : map pair_of gs ≡ map pair_of (map entry_of (gathered dims es))
  same-pairs = are ∙ sym (pairs-back (gathered dims es))

  pub sound-gives : AllGather dims es → AreSound b view group gs → GiveRows b view group es
  sound-gives gather sound = record { gather = gather; sound = sound-alike b view group gs (map entry_of (gathered dims es)) same-pairs sound }

  pub gives-sound : GiveRows b view group es → AreSound b view group gs
  gives-sound give = sound-alike b view group (map entry_of (gathered dims es)) gs (sym same-pairs) give.sound
