-- Points with the ranks of their grouped values.
use Rattle.std.specs.Prelude.{◌≡◌, ◌<◌, ◌+◌, ℕ, Bool, true, List, get_or, length}
use Rattle.std.specs.Ordering.{is_lt, nat_cmp, ordering_then}
use Rattle.fact_model.specs.Value.{key_cmp}
use Rattle.cube_point.specs.declared.point.Entry.{Entry}
use Rattle.spec_points.specs.Points.{View}
use Rattle.attr_dict.specs.Book.{Book}
use Rattle.point_groups.specs.Bare.{nowhere}
use Rattle.slice_rows.specs.Grouped.{key_of_entry}
use Rattle.slice_rows.specs.Ranks.{rank_behind}
use Rattle.slice_rows.specs.declared.rank_sort.Ranked.{Ranked}
use Rattle.slice_rows.specs.declared.value_ranks.Ranks.{Ranks}

-- its number
abbrev pub number_in : Ranked → ℕ
number_in r = r.number

-- the point of its number
abbrev pub entry_in : List Entry → Ranked → Entry
entry_in es r = get_or es r.number nowhere

module _ (b : Book) (view : View) where
  -- its number is that of a point, and its rank that of the point's place
  pub record IsRanked (rs : List Ranks) (es : List Entry) (r : Ranked) : Type 0 where
    pub low : r.number < length es
    pub rank : r.rank ≡ rank_behind b view (entry_in es r).point.at rs 0

  -- the first comes before the second by its rank, and then by its values of these attributes
  abbrev pub comes_before : List ℕ → List Entry → Ranked → Ranked → Bool
  comes_before rest es r s = is_lt (ordering_then (nat_cmp r.rank s.rank) (key_cmp (key_of_entry b view rest (entry_in es r)) (key_of_entry b view rest (entry_in es s))))

  -- each comes before the next
  abbrev pub RanksAscend : List ℕ → List Entry → List Ranked → Type 0
  RanksAscend rest es rs = (k : ℕ) (d : Ranked) → k + 1 < length rs → comes_before rest es (get_or rs k d) (get_or rs (k + 1) d) ≡ true
