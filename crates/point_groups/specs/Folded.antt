-- Entries joined as they come: one for each place, in the order in which places come first.
use Rattle.std.specs.Prelude.{◌≡◌, Bool, true, false, cond, List, [], ◌∷◌}
use Rattle.std.specs.List.{AllByRecursion}
use Rattle.fact_model.specs.declared.cell.Cell.{Cell}
use Rattle.fact_model.specs.Cell.{join}
use Rattle.point_groups.specs.Joins.{Joins}

module _ {K : Type 0} (same : K → K → Bool) where
  -- one entry more: joined to that of its place, or behind the others where there is none
  abbrev pub taken : List (K × Cell) → K × Cell → List (K × Cell)
  taken [] e = e ∷ []
  taken (g ∷ gs) e = cond (same g.0 e.0) ((g.0, join g.1 e.1) ∷ gs) (g ∷ taken gs e)

  -- these entries more, one after another
  abbrev pub folded : List (K × Cell) → List (K × Cell) → List (K × Cell)
  folded gs [] = gs
  folded gs (e ∷ es) = folded (taken gs e) es

  -- the entry joins to that of its place, if there is one
  abbrev pub JoinsInto : List (K × Cell) → K × Cell → Type 0
  JoinsInto [] e = Unit {0}
  JoinsInto (g ∷ gs) e = (same g.0 e.0 ≡ true → Joins g.1 e.1) × JoinsInto gs e

  -- each of these entries joins to that of its place when it comes
  abbrev pub AllJoinInto : List (K × Cell) → List (K × Cell) → Type 0
  AllJoinInto gs [] = Unit {0}
  AllJoinInto gs (e ∷ es) = JoinsInto gs e × AllJoinInto (taken gs e) es

  -- none of the entries has the place
  abbrev pub NoneAt : K → List (K × Cell) → Type 0
  NoneAt k gs = AllByRecursion (λ (g : K × Cell). same g.0 k ≡ false) gs

  -- no two entries have one place
  abbrev pub AllApart : List (K × Cell) → Type 0
  AllApart [] = Unit {0}
  AllApart (g ∷ gs) = AllByRecursion (λ (h : K × Cell). same g.0 h.0 ≡ false) gs × AllApart gs
