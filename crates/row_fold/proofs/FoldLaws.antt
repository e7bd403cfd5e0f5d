-- Folding the rows of facts is grouping the facts.
use Rattle.std.proofs.Common.{◌≡◌, Bool, true, false, cond, ◌&&◌, List, [], ◌∷◌, ◌++◌, map, filter, ℤ, refl, sym, ◌∙◌, ap}
use Rattle.std.proofs.lemmas.List.Elements.{filter-append}
use Rattle.std.specs.List.{flat_map}
use Rattle.fact_model.specs.declared.fact.Fact.{Fact}
use Rattle.fact_model.specs.declared.slice.Column.{Column}
use Rattle.fact_model.specs.declared.slice.Row.{Row}
use Rattle.fact_model.specs.declared.slice.Slice.{Slice}
use Rattle.fact_model.specs.Fact.{key_of}
use Rattle.fact_model.specs.Groups.{groups}
use Rattle.fact_model.specs.Rows.{as_row, numbers_of, rows}
use Rattle.fact_model.specs.Slice.{holds}
use Rattle.fact_model.specs.Value.{Key, key_cmp}
use Rattle.fact_model.proofs.ValueOrder.{key_cmp-IsAntisymmetric, key-total}
use Rattle.row_fold.specs.Folds.{all_joined}
use Rattle.row_fold.specs.Joins.{join_numbers}
use Rattle.row_fold.specs.Laws.{ListsFold, ListsJoin, RowsFold}
use Rattle.row_fold.specs.Merge.{together}
use Rattle.row_fold.proofs.Grouping.{grouped, put}
use Rattle.row_fold.proofs.Groups.{filter-filter}
use Rattle.row_fold.proofs.NumberJoins.{numbers-assoc, numbers-comm, numbers-more, one}
use Rattle.row_fold.proofs.Regroup.{cell-law, grouped-append, groups-grouped, regroup}

-- ---- what stands in rows

-- entries as rows, by a test and a key of theirs
entries-filter : (p : Key → Bool) (es : List (Key × List ℤ)) → filter (λ (r : Row). p r.key) (map as_row es) ≡ map as_row (filter (λ (e : Key × List ℤ). p e.0) es)
entries-filter p [] = refl
entries-filter p (e ∷ es) = ap (λ rs. cond (p e.0) (as_row e ∷ rs) rs) (entries-filter p es) ∙ by (p e.0)
  where
    by : (b : Bool) → cond b (as_row e ∷ map as_row (filter (λ (e : Key × List ℤ). p e.0) es)) (map as_row (filter (λ (e : Key × List ℤ). p e.0) es))
        ≡ map as_row (cond b (e ∷ filter (λ (e : Key × List ℤ). p e.0) es) (filter (λ (e : Key × List ℤ). p e.0) es))
    by true = refl
    by false = refl

entries-grouped : (cs : List Column) (part : Key → Key) (es : List (Key × List ℤ))
    → grouped key_cmp (join_numbers cs) (λ (r : Row). part r.key) (λ r. r.numbers) (map as_row es) ≡ grouped key_cmp (join_numbers cs) (λ (e : Key × List ℤ). part e.0) (λ e. e.1) es
entries-grouped cs part [] = refl
entries-grouped cs part (e ∷ es) = ap (put key_cmp (join_numbers cs) (part e.0) e.1) (entries-grouped cs part es)

-- ---- groups, item by item

module _ (cs : List Column) where
  -- of facts
  pub facts-grouped : (key : Fact → Key) (xs : List Fact) → groups key_cmp key (numbers_of cs) xs ≡ grouped key_cmp (join_numbers cs) key (one cs) xs
  facts-grouped key xs = groups-grouped key_cmp key-total key_cmp-IsAntisymmetric (join_numbers cs) (numbers-comm cs) (numbers-assoc cs) key (one cs) (numbers_of cs)
      (cell-law (join_numbers cs) (one cs) (numbers_of cs) (λ x. refl) (numbers-more cs)) xs

  -- of rows
  pub rows-grouped : (key : Row → Key) (rs : List Row) → groups key_cmp key (all_joined cs) rs ≡ grouped key_cmp (join_numbers cs) key (λ r. r.numbers) rs
  rows-grouped key rs = groups-grouped key_cmp key-total key_cmp-IsAntisymmetric (join_numbers cs) (numbers-comm cs) (numbers-assoc cs) key (λ r. r.numbers) (all_joined cs)
      (cell-law (join_numbers cs) (λ (r : Row). r.numbers) (all_joined cs) (λ r. refl) (λ r q rs. refl)) rs

-- ---- the laws

module _ (s : Slice) (test : Key → Bool) (part : Key → Key) where
  abbrev of_rows : List Row → List (Key × List ℤ)
  of_rows rs = grouped key_cmp (join_numbers s.columns) (λ (r : Row). part r.key) (λ r. r.numbers) (filter (λ (r : Row). test r.key) rs)

  abbrev is_kept : Fact → Bool
  is_kept x = holds s x && test (key_of s.group x)

  abbrev of_facts : List Fact → List (Key × List ℤ)
  of_facts xs = grouped key_cmp (join_numbers s.columns) (λ x. part (key_of s.group x)) (one s.columns) (filter is_kept xs)

  list-folds : (facts : List Fact) → of_rows (rows facts s) ≡ of_facts facts
  list-folds facts =
      let cs : List Column = s.columns in
      let met : List Fact = filter (holds s) facts in
      ap (grouped key_cmp (join_numbers cs) (λ (r : Row). part r.key) (λ r. r.numbers)) (entries-filter test (groups key_cmp (key_of s.group) (numbers_of cs) met))
      ∙ (entries-grouped cs part (filter (λ (e : Key × List ℤ). test e.0) (groups key_cmp (key_of s.group) (numbers_of cs) met))
      ∙ (ap (λ es. grouped key_cmp (join_numbers cs) (λ (e : Key × List ℤ). part e.0) (λ e. e.1) (filter (λ (e : Key × List ℤ). test e.0) es)) (facts-grouped cs (key_of s.group) met)
      ∙ (regroup (join_numbers cs) (numbers-comm cs) (numbers-assoc cs) key_cmp key-total key_cmp-IsAntisymmetric key_cmp key-total key_cmp-IsAntisymmetric (key_of s.group) (one cs) part test met
      ∙ ap (grouped key_cmp (join_numbers cs) (λ x. part (key_of s.group x)) (one cs)) (filter-filter (λ x. test (key_of s.group x)) (holds s) facts))))

  rows-append : (rs qs : List Row) → of_rows (rs ++ qs) ≡ together key_cmp (join_numbers s.columns) (of_rows rs) (of_rows qs)
  rows-append rs qs = ap (grouped key_cmp (join_numbers s.columns) (λ (r : Row). part r.key) (λ r. r.numbers)) (filter-append (λ (r : Row). test r.key) rs qs)
      ∙ grouped-append key_cmp key-total key_cmp-IsAntisymmetric (join_numbers s.columns) (numbers-comm s.columns) (numbers-assoc s.columns) (λ (r : Row). part r.key) (λ r. r.numbers)
      (filter (λ (r : Row). test r.key) rs) (filter (λ (r : Row). test r.key) qs)

  facts-append : (xs ys : List Fact) → of_facts (xs ++ ys) ≡ together key_cmp (join_numbers s.columns) (of_facts xs) (of_facts ys)
  facts-append xs ys = ap (grouped key_cmp (join_numbers s.columns) (λ x. part (key_of s.group x)) (one s.columns)) (filter-append is_kept xs ys)
      ∙ grouped-append key_cmp key-total key_cmp-IsAntisymmetric (join_numbers s.columns) (numbers-comm s.columns) (numbers-assoc s.columns) (λ x. part (key_of s.group x)) (one s.columns)
      (filter is_kept xs) (filter is_kept ys)

  lists-fold-so : (lists : List (List Fact)) → of_rows (flat_map (λ facts. rows facts s) lists) ≡ of_facts (flat_map (λ facts. facts) lists)
  lists-fold-so [] = refl
  lists-fold-so (facts ∷ lists) =
      rows-append (rows facts s) (flat_map (λ facts. rows facts s) lists)
      ∙ ((λ i. together key_cmp (join_numbers s.columns) (list-folds facts i) (lists-fold-so lists i))
      ∙ sym (facts-append facts (flat_map (λ facts. facts) lists)))

pub rows-fold : RowsFold
rows-fold s test part facts =
    rows-grouped s.columns (λ (r : Row). part r.key) (filter (λ (r : Row). test r.key) (rows facts s))
    ∙ (list-folds s test part facts ∙ sym (facts-grouped s.columns (λ x. part (key_of s.group x)) (filter (is_kept s test part) facts)))

pub lists-fold : ListsFold
lists-fold s test part lists =
    rows-grouped s.columns (λ (r : Row). part r.key) (filter (λ (r : Row). test r.key) (flat_map (λ facts. rows facts s) lists))
    ∙ (lists-fold-so s test part lists ∙ sym (facts-grouped s.columns (λ x. part (key_of s.group x)) (filter (is_kept s test part) (flat_map (λ facts. facts) lists))))

filter-too : {X : Type 0} (p : X → Bool) (xs : List X) → filter (λ x. p x && true) xs ≡ filter p xs
filter-too p [] = refl
filter-too p (x ∷ xs) = (λ i. cond (too (p x) i) (x ∷ filter-too p xs i) (filter-too p xs i))
  where
    too : (b : Bool) → (b && true) ≡ b
    too true = refl
    too false = refl

pub lists-join : ListsJoin
lists-join s lists =
    ap (map as_row) (lists-fold s (λ k. true) (λ k. k) lists
    ∙ ap (groups key_cmp (key_of s.group) (numbers_of s.columns)) (filter-too (holds s) (flat_map (λ facts. facts) lists)))
