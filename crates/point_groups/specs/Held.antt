-- What groups hold of the points that they were given.
use Rattle.std.specs.Prelude.{◌≡◌, ℕ, Bool, true, false, List, map}
use Rattle.std.specs.List.{All}
use Rattle.cube_point.specs.declared.point.Entry.{Entry}
use Rattle.cube_point.specs.Points.{point_cmp}
use Rattle.page_entry.specs.Cells.{EndsInZeros}
use Rattle.row_fold.specs.Ascends.{Ascends}
use Rattle.spec_points.specs.Entries.{pair_of}
use Rattle.point_groups.specs.Folded.{AllApart}
use Rattle.spec_points.specs.Points.{View}
use Rattle.point_groups.specs.Kept.{AllGather, gathered, grouped_dims, kept, place_of, same_place}
use Rattle.point_groups.specs.declared.groups.Groups.{Groups}

-- no two of the points have one place, and these are their places
pub record IsIndexed (gs : List Entry) (places : List (List ℕ)) : Type 0 where
  pub are : places ≡ map place_of gs
  pub apart : AllApart same_place (map pair_of gs)

-- the cells have no parts past their measures but zeros
abbrev pub AllEndInZeros : List Entry → Type 0
AllEndInZeros gs = All (λ (e : Entry). EndsInZeros e.cell) gs

-- the points have the coordinates that are kept alone
abbrev pub AreKept : List Bool → List Entry → Type 0
AreKept dims gs = All (λ (e : Entry). kept dims e.point.at ≡ e.point.at) gs

-- the points ascend, or else an index has their places
pub record ArePlaced (is_ascending : Bool) (gs : List Entry) (places : List (List ℕ)) : Type 0 where
  pub ascend : is_ascending ≡ true → Ascends point_cmp (map pair_of gs)
  pub indexed : is_ascending ≡ false → IsIndexed gs places
  pub zeros : AllEndInZeros gs

-- the points join, and these are they
pub record HoldsSound (dims : List Bool) (es : List Entry) (g : Groups) : Type 0 where
  pub items : map pair_of g.items ≡ gathered dims es
  pub joins : AllGather dims es
  pub placed : ArePlaced g.is_ascending g.items g.index.keys

-- groups were given these points: they hold them joined, or know that some of them do not join
pub record WereGiven (start : Groups) (es : List Entry) (g : Groups) : Type 0 where
  pub dims : g.dims ≡ start.dims
  pub sound : g.is_sound ≡ true → HoldsSound start.dims es g
  pub broken : g.is_sound ≡ false → AllGather start.dims es → ⊥

-- the groups are of the points of this view, by these attributes
abbrev pub AreOf : List ℕ → View → Groups → Type 0
AreOf group view g = (place : List ℕ) → kept g.dims place ≡ kept (grouped_dims group view) place
