-- Rows that stand in the order of a part of their keys are folded by joining neighbours.
use Rattle.std.proofs.Common.{◌≡◌, Bool, true, false, cond, List, [], ◌∷◌, map, filter, ℤ, refl, sym, ◌∙◌, ap, subst}
use Rattle.std.specs.declared.cmp.Ordering.TheVariants.{Less}
use Rattle.std.specs.Ordering.{is_gt}
use Rattle.fact_model.specs.declared.fact.Fact.{Fact}
use Rattle.fact_model.specs.declared.slice.Column.{Column}
use Rattle.fact_model.specs.declared.slice.Row.{Row}
use Rattle.fact_model.specs.declared.slice.Slice.{Slice}
use Rattle.fact_model.specs.Fact.{key_of}
use Rattle.fact_model.specs.Groups.{groups}
use Rattle.fact_model.specs.Rows.{as_row, numbers_of, rows}
use Rattle.fact_model.specs.Slice.{holds}
use Rattle.fact_model.specs.Value.{Key, key_cmp}
use Rattle.fact_model.proofs.ValueOrder.{key_cmp-IsAntisymmetric, key-total}
use Rattle.row_fold.specs.Ascends.{Ascends, Below}
use Rattle.row_fold.specs.Folds.{entry_of, folded}
use Rattle.row_fold.specs.Joins.{join_numbers}
use Rattle.row_fold.specs.Squeezed.{squeezed}
use Rattle.row_fold.proofs.FoldLaws.{facts-grouped, rows-grouped}
use Rattle.row_fold.proofs.Grouping.{grouped, put}
use Rattle.row_fold.proofs.NumberJoins.{numbers-assoc, numbers-comm, one}
use Rattle.row_fold.proofs.Regroup.{grouped-ascends}
use Rattle.row_fold.proofs.Sorts.{InOrder, squeezed-grouped}

module _ (part : Key → Key) where
  entries-of-rows : (cs : List Column) (rs : List Row) → grouped key_cmp (join_numbers cs) (λ (e : Key × List ℤ). e.0) (λ e. e.1) (map (entry_of part) rs) ≡ grouped key_cmp (join_numbers cs) (λ (r : Row). part r.key) (λ r. r.numbers) rs
  entries-of-rows cs [] = refl
  entries-of-rows cs (r ∷ rs) = ap (put key_cmp (join_numbers cs) (part r.key) r.numbers) (entries-of-rows cs rs)

  -- neighbours of one part joined
  pub neighbours-fold : (cs : List Column) (test : Key → Bool) (rs : List Row) → InOrder key_cmp (map (entry_of part) (filter (λ (r : Row). test r.key) rs))
      → squeezed key_cmp (join_numbers cs) (map (entry_of part) (filter (λ (r : Row). test r.key) rs)) ≡ folded cs test part rs
  neighbours-fold cs test rs h =
      squeezed-grouped key_cmp (join_numbers cs) (map (entry_of part) (filter (λ (r : Row). test r.key) rs)) h
      ∙ (entries-of-rows cs (filter (λ (r : Row). test r.key) rs) ∙ sym (rows-grouped cs (λ (r : Row). part r.key) (filter (λ (r : Row). test r.key) rs)))

-- ---- the rows of facts

module _ (test : Key → Bool) where
  below-kept : (k : Key) (es : List (Key × List ℤ)) → Below key_cmp k es → Below key_cmp k (filter (λ (e : Key × List ℤ). test e.0) es)
  below-kept k [] h = tt
  below-kept k (e ∷ es) h = elim (test e.0) as (λ b. Below key_cmp k (cond b (e ∷ filter (λ (e : Key × List ℤ). test e.0) es) (filter (λ (e : Key × List ℤ). test e.0) es))) [
    | true ↦ (h.0, below-kept k es h.1)
    | false ↦ below-kept k es h.1
  ]

  ascends-kept : (es : List (Key × List ℤ)) → Ascends key_cmp es → Ascends key_cmp (filter (λ (e : Key × List ℤ). test e.0) es)
  ascends-kept [] h = tt
  ascends-kept (e ∷ es) h = elim (test e.0) as (λ b. Ascends key_cmp (cond b (e ∷ filter (λ (e : Key × List ℤ). test e.0) es) (filter (λ (e : Key × List ℤ). test e.0) es))) [
    | true ↦ (below-kept e.0 es h.0, ascends-kept es h.1)
    | false ↦ ascends-kept es h.1
  ]

  module _ (part : Key → Key) where
    kept-entries : (es : List (Key × List ℤ)) → map (entry_of part) (filter (λ (r : Row). test r.key) (map as_row es)) ≡ map (λ (e : Key × List ℤ). (part e.0, e.1)) (filter (λ (e : Key × List ℤ). test e.0) es)
    kept-entries [] = refl
    kept-entries (e ∷ es) = elim (test e.0) as (λ b. map (entry_of part) (cond b (as_row e ∷ filter (λ (r : Row). test r.key) (map as_row es)) (filter (λ (r : Row). test r.key) (map as_row es)))
        ≡ map (λ (e : Key × List ℤ). (part e.0, e.1)) (cond b (e ∷ filter (λ (e : Key × List ℤ). test e.0) es) (filter (λ (e : Key × List ℤ). test e.0) es))) [
          | true ↦ ap (λ r. (part e.0, e.1) ∷ r) (kept-entries es)
          | false ↦ kept-entries es
        ]

    module _ (keeps : (a b : Key) → key_cmp a b ≡ Less → is_gt (key_cmp (part a) (part b)) ≡ false) where
      parts-in-order : (es : List (Key × List ℤ)) → Ascends key_cmp es → InOrder key_cmp (map (λ (e : Key × List ℤ). (part e.0, e.1)) es)
      parts-in-order [] h = tt
      parts-in-order (e ∷ []) h = tt
      parts-in-order (e ∷ d ∷ es) h = (keeps e.0 d.0 h.0.0, parts-in-order (d ∷ es) h.1)

      -- the rows of facts stand in the order of a part that keeps the order of keys
      pub rows-in-order : (s : Slice) (facts : List Fact) → InOrder key_cmp (map (entry_of part) (filter (λ (r : Row). test r.key) (rows facts s)))
      rows-in-order s facts =
          let met : List Fact = filter (holds s) facts in
          let es : List (Key × List ℤ) = groups key_cmp (key_of s.group) (numbers_of s.columns) met in
          subst (InOrder key_cmp) (sym (kept-entries es)) (parts-in-order (filter (λ (e : Key × List ℤ). test e.0) es) (ascends-kept es
          (subst (Ascends key_cmp) (sym (facts-grouped s.columns (key_of s.group) met))
          (grouped-ascends key_cmp key-total key_cmp-IsAntisymmetric (join_numbers s.columns) (numbers-comm s.columns) (numbers-assoc s.columns) (key_of s.group) (one s.columns) met))))
