-- What folding rows of facts gives.
use Rattle.std.specs.Prelude.{◌≡◌, Bool, true, List, flat_map, map}
use Rattle.std.specs.List.{All}
use Rattle.fact_model.specs.declared.fact.Fact.{Fact}
use Rattle.fact_model.specs.declared.slice.Slice.{Slice}
use Rattle.fact_model.specs.Adds.{AddUp}
use Rattle.fact_model.specs.Rows.{as_row, rows}
use Rattle.fact_model.specs.Value.{Key}
use Rattle.row_fold.specs.Folds.{KeepsMass, folded, parted}

-- the rows of facts fold to what the facts themselves give
abbrev pub RowsFold : Type 0
RowsFold = (s : Slice) (test : Key → Bool) (part : Key → Key) (facts : List Fact) → folded s.columns test part (rows facts s) ≡ parted s test part facts

-- the rows of several lists of facts, one after another, fold to what all the facts give
abbrev pub ListsFold : Type 0
ListsFold = (s : Slice) (test : Key → Bool) (part : Key → Key) (lists : List (List Fact))
    → folded s.columns test part (flat_map (λ facts. rows facts s) lists) ≡ parted s test part (flat_map (λ facts. facts) lists)

-- folded by their whole keys, they are the rows of all the facts
abbrev pub ListsJoin : Type 0
ListsJoin = (s : Slice) (lists : List (List Fact))
    → map as_row (folded s.columns (λ k. true) (λ k. k) (flat_map (λ facts. rows facts s) lists)) ≡ rows (flat_map (λ facts. facts) lists) s

-- if the magnitudes of each column fit, the rows of the facts add up
abbrev pub RowsAdd : Type 0
RowsAdd = (s : Slice) (facts : List Fact) → All (KeepsMass facts) s.columns → AddUp (rows facts s)
