-- The plain machine's reply stays the same where facts change places.
use Rattle.std.proofs.Common.{◌≡◌, ◌&&◌, Bool, cond, List, [], ◌∷◌, filter, map, ℕ, Some, None, Result, Ok, Err, IsPermutation, refl, sym, ◌∙◌, ap}
use Rattle.std.specs.declared.cmp.Ordering.{Ordering}
use Rattle.std.specs.Cmp.{IsTotalOrder}
use Rattle.std.specs.FinMap.{IsAntisymmetric}
use Rattle.fact_model.specs.declared.fact.Fact.{Fact}
use Rattle.fact_model.specs.declared.slice.Slice.{Slice}
use Rattle.fact_model.specs.Fact.{key_of}
use Rattle.fact_model.specs.Groups.{is}
use Rattle.fact_model.specs.Rows.{as_row, rows}
use Rattle.fact_model.specs.Slice.{holds}
use Rattle.fact_model.specs.Value.{key_cmp}
use Rattle.fact_model.proofs.ValueOrder.{key_cmp-IsAntisymmetric, key-total}
use Rattle.cube_schema.specs.declared.schema.Schema.{Schema}
use Rattle.slice_lang.specs.Reading.{slice_of}
use Rattle.slice_lang.specs.declared.refusal.SliceRefusal.{SliceRefusal}
use Rattle.reply_text.specs.Replies.{answer_text, line, not_covered}
use Rattle.spec_machine.specs.Machine.{is_covered, slice_reply}
use Rattle.row_fold.specs.Joins.{join_numbers}
use Rattle.row_fold.proofs.FoldLaws.{facts-grouped}
use Rattle.row_fold.proofs.Grouping.{at, grouped, sum_of}
use Rattle.row_fold.proofs.Groups.{filter-filter, same-entries, sum-filter}
use Rattle.row_fold.proofs.Grouping.{plus}
use Rattle.row_fold.proofs.NumberJoins.{numbers-assoc, numbers-comm, one}
use Rattle.row_fold.proofs.Regroup.{at-grouped, grouped-ascends}
use Rattle.row_fold.proofs.Shuffles.{sum-permutation, sum_all}
use Rattle.reply_fold.specs.Whole.{reply_over}

-- ---- groups of the items that pass a test

module _ {K : Type 0} (R : K → K → Ordering) (o : IsTotalOrder R) (only : IsAntisymmetric R) {C : Type 0} (join : C → C → C) (comm : (a b : C) → join a b ≡ join b a)
    (assoc : (a b c : C) → join (join a b) c ≡ join a (join b c)) {X : Type 0} (key : X → K) (cell : X → C) (passes : X → Bool) where
  of-all : (p : X → Bool) (xs : List X) → sum_of join cell (filter p xs) ≡ sum_all join comm assoc (λ x. cond (p x) (Some (cell x)) None) xs
  of-all p [] = refl
  of-all p (x ∷ xs) = sum-filter join comm assoc cell p x xs ∙ ap (plus join (cond (p x) (Some (cell x)) None)) (of-all p xs)

  at-key : (k : K) (xs : List X) → at join (is R k) (grouped R join key cell (filter passes xs)) ≡ sum_all join comm assoc (λ x. cond (passes x && is R k (key x)) (Some (cell x)) None) xs
  at-key k xs = at-grouped R o only join comm assoc key cell (is R k) (filter passes xs)
      ∙ (ap (sum_of join cell) (filter-filter (λ x. is R k (key x)) passes xs) ∙ of-all (λ x. passes x && is R k (key x)) xs)

  pub grouped-shuffled : (xs ys : List X) → IsPermutation xs ys → grouped R join key cell (filter passes ys) ≡ grouped R join key cell (filter passes xs)
  grouped-shuffled xs ys moved = same-entries R o only join comm assoc (grouped R join key cell (filter passes ys)) (grouped R join key cell (filter passes xs))
      (grouped-ascends R o only join comm assoc key cell (filter passes ys)) (grouped-ascends R o only join comm assoc key cell (filter passes xs))
      (λ k. at-key k ys ∙ (sum-permutation join comm assoc (λ x. cond (passes x && is R k (key x)) (Some (cell x)) None) xs ys moved ∙ sym (at-key k xs)))

-- ---- rows and replies

rows-shuffled : (q : Slice) (xs ys : List Fact) → IsPermutation xs ys → rows ys q ≡ rows xs q
rows-shuffled q xs ys moved = ap (map as_row)
    (facts-grouped q.columns (key_of q.group) (filter (holds q) ys)
    ∙ (grouped-shuffled key_cmp key-total key_cmp-IsAntisymmetric (join_numbers q.columns) (numbers-comm q.columns) (numbers-assoc q.columns) (key_of q.group) (one q.columns) (holds q) xs ys moved
    ∙ sym (facts-grouped q.columns (key_of q.group) (filter (holds q) xs))))

slice-shuffled : (schema : Schema) (xs ys : List Fact) → IsPermutation xs ys → (asked : Result Slice SliceRefusal) → slice_reply schema ys asked ≡ slice_reply schema xs asked
slice-shuffled schema xs ys moved (Err refusal) = refl
slice-shuffled schema xs ys moved (Ok q) = ap (λ rs. cond (is_covered schema q) (answer_text rs) (line not_covered)) (rows-shuffled q xs ys moved)

pub reply-shuffled : (schema : Schema) (text : List ℕ) (xs ys : List Fact) → IsPermutation xs ys → reply_over schema text ys ≡ reply_over schema text xs
reply-shuffled schema text xs ys moved = slice-shuffled schema xs ys moved (slice_of schema text)
