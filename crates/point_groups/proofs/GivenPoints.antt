-- What groups hold, by the points that they were given.
use Rattle.std.proofs.Common.{◌≡◌, Bool, true, false, List, [], ◌∷◌, ℕ, map, sym, ◌∙◌, ap, refl, subst}
use Rattle.cube_point.specs.declared.point.Entry.{Entry}
use Rattle.spec_points.specs.Entries.{pair_of}
use Rattle.spec_points.specs.Points.{PlacedCell, View}
use Rattle.point_groups.specs.Folded.{AllJoinInto, folded}
use Rattle.point_groups.specs.Held.{AreOf, WereGiven}
use Rattle.point_groups.specs.Kept.{AllGather, gathered, grouped_dims, kept, kept_pair, same_place}
use Rattle.point_groups.specs.declared.groups.Groups.{Groups}

-- the same coordinates are kept
pub pairs-alike : (c d : List Bool) → ((place : List ℕ) → kept c place ≡ kept d place) → (ps : List PlacedCell) → map (kept_pair c) ps ≡ map (kept_pair d) ps
pairs-alike c d alike [] = refl
pairs-alike c d alike (p ∷ ps) = λ i. (alike p.0 i, p.1) ∷ pairs-alike c d alike ps i

module _ (group : List ℕ) (view : View) (start g : Groups) (es : List Entry) (of : AreOf group view start) (was : WereGiven start es g) where
  abbrev dims : List Bool
  dims = grouped_dims group view

  alike : map (kept_pair start.dims) (map pair_of es) ≡ map (kept_pair dims) (map pair_of es)
  alike = pairs-alike start.dims dims of (map pair_of es)

  module _ (sound : g.is_sound ≡ true) where
    pub given-items : map pair_of g.items ≡ gathered dims es
    given-items = (was.sound sound).items ∙ ap (folded same_place []) alike

    pub given-gather : AllGather dims es
    given-gather = subst (AllJoinInto same_place []) alike (was.sound sound).joins

  pub broken-apart : g.is_sound ≡ false → AllGather dims es → ⊥
  broken-apart broken all = was.broken broken (subst (AllJoinInto same_place []) (sym alike) all)
