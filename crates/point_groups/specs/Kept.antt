-- Points with the coordinates of the grouped attributes alone, those of one place joined as they come.
use Rattle.std.specs.Prelude.{◌≡◌, ℕ, Bool, ◌&&◌, ◌==◌, true, false, cond, List, [], ◌∷◌, map}
use Rattle.cube_point.specs.declared.point.Entry.{Entry}
use Rattle.cube_point.specs.declared.point.Point.{Point}
use Rattle.spec_points.specs.Agree.{among}
use Rattle.spec_points.specs.Entries.{pair_of}
use Rattle.spec_points.specs.Points.{PlacedCell, View}
use Rattle.point_groups.specs.Folded.{folded, taken, AllJoinInto, JoinsInto}

-- which attributes of the view are grouped
abbrev pub grouped_dims : List ℕ → View → List Bool
grouped_dims group view = map (among group) view

-- the coordinates that are kept; zero at the others
abbrev pub kept : List Bool → List ℕ → List ℕ
kept dims [] = []
kept [] (c ∷ place) = 0 ∷ kept [] place
kept (b ∷ dims) (c ∷ place) = cond b c 0 ∷ kept dims place

-- the same coordinates
abbrev pub same_place : List ℕ → List ℕ → Bool
same_place [] [] = true
same_place [] (d ∷ ds) = false
same_place (c ∷ cs) [] = false
same_place (c ∷ cs) (d ∷ ds) = (c == d) && same_place cs ds

module _ (dims : List Bool) where
  -- a point by the coordinates that are kept
  abbrev pub kept_pair : PlacedCell → PlacedCell
  kept_pair e = (kept dims e.0, e.1)

  -- the points with these coordinates alone, those of one place joined as they come
  abbrev pub gathered : List Entry → List PlacedCell
  gathered es = folded same_place [] (map kept_pair (map pair_of es))

  -- each point joins to those of its place that came before
  abbrev pub AllGather : List Entry → Type 0
  AllGather es = AllJoinInto same_place [] (map kept_pair (map pair_of es))

-- where a point stands
abbrev pub place_of : Entry → List ℕ
place_of e = e.point.at

-- an entry at another point
abbrev pub at_point : Point → Entry → Entry
at_point p e = record { point = p; cell = e.cell }

-- an entry by the coordinates that are kept
abbrev pub kept_entry : List Bool → Entry → Entry
kept_entry dims e = at_point (record { arity = e.point.arity; at = kept dims e.point.at }) e

-- a point was joined to the one of its place, or put behind the others where there was none
pub record TookIn (old new : List Entry) (e : Entry) : Type 0 where
  pub items : map pair_of new ≡ taken same_place (map pair_of old) (pair_of e)
  pub joins : JoinsInto same_place (map pair_of old) (pair_of e)

-- the point does not join to the one of its place
abbrev pub StaysApart : List Entry → Entry → Type 0
StaysApart gs e = JoinsInto same_place (map pair_of gs) (pair_of e) → ⊥
