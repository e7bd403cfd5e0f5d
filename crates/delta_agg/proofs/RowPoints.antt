-- The rows of a batch in the order of their places: their entries with those of one point joined are the points of the batch.
use Rattle.std.proofs.Common.{◌≡◌, ℕ, ◌<◌, List, [], map, length, get_or, min, IsPermutation, sym, ◌∙◌, ap, arith}
use Rattle.std.specs.List.{All, range_with_len, zip}
use Rattle.std.specs.List.Sorted.{IsSortedBy}
use Rattle.std.proofs.lemmas.List.{length-map, get_or-map}
use Rattle.std.proofs.lemmas.List.FromFn.{fill_by_all}
use Rattle.std.proofs.lemmas.List.Sorted.{IsPermutation-map}
use Rattle.std.proofs.lemmas.Slice.Zip.{length-zip, get_or-zip}
use Rattle.fact_model.specs.declared.fact.Fact.{Fact}
use Rattle.cube_point.specs.declared.point.Entry.{Entry}
use Rattle.cube_point.specs.Points.{comes_before}
use Rattle.spec_points.specs.Points.{View}
use Rattle.delta_agg.specs.Batch.{HasNumbers, batch_points, no_fact, own_entry, row_entry, squeezed_entries}
use Rattle.delta_agg.specs.Rows.{row_before}
use Rattle.delta_agg.proofs.Gathering.{batch-points}
use Rattle.delta_agg.proofs.Ordered.{sorted-seen}

module _ (n : ℕ) (view : View) (coded : List (List ℕ)) (facts : List Fact) (order : List ℕ) (lists : length coded ≡ length facts) (numbers : All (HasNumbers n) facts)
    (moved : IsPermutation (range_with_len 0 (length coded)) order) where
  abbrev pub E : ℕ → Entry
  E = row_entry view coded facts

  abbrev rows : List ℕ
  rows = range_with_len 0 (length coded)

  long : length (map (own_entry view) (zip coded facts)) ≡ length coded
  long = length-map (zip coded facts) (own_entry view) ∙ (length-zip coded facts ∙ least (length coded) (length facts) lists)
    where
      least : (a b : ℕ) → a ≡ b → min a b ≡ a
      least a b e = omega arith

  at : (k : ℕ) → k < length coded → get_or (map (own_entry view) (zip coded facts)) k (E 0) ≡ E k
  at k low =
      get_or-map (own_entry view) (zip coded facts) k ([], no_fact) (E 0) (omega (arith, low, long, length-map (zip coded facts) (own_entry view)))
      ∙ ap (own_entry view) (get_or-zip coded facts k ([], no_fact) low (omega (arith, low, lists)))

  are : map E rows ≡ map (own_entry view) (zip coded facts)
  are = sym (fill_by_all E (map (own_entry view) (zip coded facts)) (length coded) (E 0) long at)

  entries-moved : IsPermutation (map E rows) (map E order)
  entries-moved = IsPermutation-map E rows order moved

  pub rows-points : IsSortedBy (row_before view coded) order → squeezed_entries (map E order) ≡ batch_points n view coded facts
  rows-points up = batch-points n view coded facts (map E rows) (map E order) numbers lists are entries-moved (sorted-seen (λ d e. comes_before d.point e.point) E 0 order up)
