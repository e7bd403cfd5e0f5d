use Rattle.std.proofs.Common.{◌≡◌, ◌<◌, ◌+◌, ℕ, List, IsPermutation, Some, get_or, length, nat_eq, sym, ap, subst}
use Rattle.std.proofs.lemmas.List.Sorted.{length_permutation}
use Rattle.indexmap.specs.IndexMap.{get}
use Rattle.fact_model.specs.Limits.{number_limit}
use Rattle.slice_rows.specs.Ranks.{rank_among}
use Rattle.slice_rows.specs.declared.value_ranks.Ranks.{Ranks}
use Rattle.slice_rows.proofs.CodeRanks.{ranks-below, tell-order, within-both}
use Rattle.slice_rows.proofs.value_ranks.Ranks.of_values.Goals as goal

module _ (c : goal.After-drop-sorted-2) where
  abbrev sorted : List ℕ
  sorted = c.in_ok-sorted.sorted.items

  -- the ranks that are made
  abbrev ranks : Ranks
  ranks = record { attr = c.args.attr; count = c.len.result + c.min.result + 1; codes = c.in_ok-codes.codes; texts = c.in_ok-texts.texts; firsts = c.new.result }

  moved : IsPermutation c.in_ok-codes.codes.keys sorted
  moved = subst (λ (ks : List ℕ). IsPermutation ks sorted) c.as_slice.ensures.keys c.in_ok-sorted.ensures.moved

  told : (i : ℕ) → i < length sorted → get nat_eq c.in_ok-texts.texts (get_or sorted i 0) ≡ Some (rank_among c.args.names.now c.args.attr sorted (get_or sorted i 0))
  told = subst (λ (s : List ℕ). (i : ℕ) → i < length s → get nat_eq c.in_ok-texts.texts (get_or s i 0) ≡ Some (rank_among c.args.names.now c.args.attr s (get_or s i 0)))
      c.deref.ensures.value c.in_ok-texts.ensures

pub returns-clause-tell : goal.returns-clause-tell
returns-clause-tell c =
    let codes = c.in_ok-codes.codes.keys in
    tell-order c.args.names.now c.args.view.now (ranks c) (sorted c) (sym (length_permutation codes (sorted c) (moved c))) (told c) c.args.points.now codes (moved c) c.in_ok-codes.ensures

pub returns-clause-below : goal.returns-clause-below
returns-clause-below c =
    let codes = c.in_ok-codes.codes.keys in
    let greatest = c.args.greatest in
    ranks-below c.args.names.now c.args.view.now (ranks c) (sorted c) (sym (length_permutation codes (sorted c) (moved c))) (told c) c.args.points.now codes
    greatest c.min.result (moved c) c.in_ok-codes.ensures c.requires.greatest
    (λ n low limit. within-both n greatest number_limit c.min.result c.min.ensures low limit)
    (ap (λ (len : ℕ). len + c.min.result + 1) c.len.ensures.len)
