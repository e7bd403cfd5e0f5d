-- Groups have the coordinates that are kept alone.
use Rattle.std.proofs.Common.{◌≡◌, ℕ, ◌-◌, ◌<◌, Bool, true, List, [], ◌∷◌, map, length, get_or, sym, ◌∙◌, ap, subst, arith}
use Rattle.std.specs.List.{AllByRecursion}
use Rattle.std.proofs.lemmas.List.Elements.{All-from_recursion}
use Rattle.cube_point.specs.declared.point.Entry.{Entry}
use Rattle.spec_points.specs.Entries.{pair_of}
use Rattle.spec_points.specs.Points.{PlacedCell}
use Rattle.point_groups.specs.Held.{AreKept, WereGiven}
use Rattle.point_groups.specs.Kept.{gathered, kept, kept_entry, kept_pair, same_place}
use Rattle.point_groups.specs.declared.groups.Groups.{Groups}
use Rattle.point_groups.proofs.FoldSteps.{every-folded}
use Rattle.point_groups.proofs.GatheredPlaces.{same-itself}
use Rattle.point_groups.proofs.KeptPlaces.{kept-twice}

module _ (dims : List Bool) where
  abbrev IsKept : List ℕ → Type 0
  IsKept place = kept dims place ≡ place

  all-kept : (es : List Entry) → AllByRecursion (λ (e : PlacedCell). IsKept e.0) (map (kept_pair dims) (map pair_of es))
  all-kept [] = tt
  all-kept (e ∷ es) = (kept-twice dims e.point.at, all-kept es)

  from-pairs : (gs : List Entry) → AllByRecursion (λ (e : PlacedCell). IsKept e.0) (map pair_of gs) → AllByRecursion (λ (e : Entry). IsKept e.point.at) gs
  from-pairs [] all = tt
  from-pairs (g ∷ gs) all = (all.0, from-pairs gs all.1)

  -- those of points that were given
  pub groups-kept : (es gs : List Entry) → map pair_of gs ≡ gathered dims es → AreKept dims gs
  groups-kept es gs is = All-from_recursion (λ (e : Entry). IsKept e.point.at) gs
      (from-pairs gs (subst (AllByRecursion (λ (e : PlacedCell). IsKept e.0)) (sym is) (every-folded IsKept [] (map (kept_pair dims) (map pair_of es)) tt (all-kept es))))

  -- a point with the kept coordinates of the last group has its place
  pub last-here : (gs lent : List Entry) (n : ℕ) (e : Entry) → n ≡ length gs → lent ≡ gs → AreKept dims gs
      → (0 < length lent) × (kept dims e.point.at ≡ kept dims (get_or lent (length lent - 1) (kept_entry dims e)).point.at)
      → same_place (get_or gs (n - 1) (kept_entry dims e)).point.at (kept dims e.point.at) ≡ true
  last-here gs lent n e long is are told =
      let last = get_or gs (n - 1) (kept_entry dims e) in
      let many : length lent ≡ n = ap length is ∙ sym long in
      let to : get_or lent (length lent - 1) (kept_entry dims e) ≡ last = λ i. get_or (is i) (many i - 1) (kept_entry dims e) in
      let same : kept dims e.point.at ≡ last.point.at =
      told.1 ∙ (ap (λ (g : Entry). kept dims g.point.at) to ∙ are (n - 1) (kept_entry dims e) (omega (arith, long, many, told.0))) in
      ap (same_place last.point.at) same ∙ same-itself last.point.at

-- those that groups hold
pub given-kept : (start g : Groups) (es : List Entry) → WereGiven start es g → g.is_sound ≡ true → AreKept g.dims g.items
given-kept start g es was sound = subst (λ (dims : List Bool). AreKept dims g.items) (sym was.dims) (groups-kept start.dims es g.items (was.sound sound).items)
