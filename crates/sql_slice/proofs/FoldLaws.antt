-- The rows of a slice, joined by the front of their keys, are the groups of the facts by that front.
use Rattle.std.proofs.Common.{◌≡◌, ℕ, Bool, ◌&&◌, List, [], ◌∷◌, ◌++◌, filter, take, length, refl, ◌∙◌, ap}
use Rattle.fact_model.specs.declared.fact.Fact.{Fact}
use Rattle.fact_model.specs.declared.slice.Slice.{Slice}
use Rattle.fact_model.specs.Fact.{key_of, value_at}
use Rattle.fact_model.specs.Groups.{groups}
use Rattle.fact_model.specs.Rows.{rows, numbers_of}
use Rattle.fact_model.specs.Slice.{holds}
use Rattle.fact_model.specs.Value.{Key, key_cmp}
use Rattle.row_fold.proofs.FoldLaws.{rows-fold}
use Rattle.row_fold.proofs.Neighbours.{neighbours-fold, rows-in-order}
use Rattle.sql_lang.specs.declared.query.Test.{Test}
use Rattle.sql_slice.specs.RowFold.{front_of, key_passes, joined_rows}
use Rattle.sql_slice.proofs.Fronts.{front-not_greater}

-- the front of the key of attributes is the key of those in front
front-of_key : (group more : List ℕ) (x : Fact) → take (length group) (key_of (group ++ more) x) ≡ key_of group x
front-of_key [] more x = refl
front-of_key (a ∷ group) more x = ap (λ k. value_at x a ∷ k) (front-of_key group more x)

-- the rows of a slice that groups by `group` and then by more, of which some pass, joined by the front of their keys: the groups by `group` of the facts
-- that meet the conditions and whose keys pass
module _ (s : Slice) (group more : List ℕ) (by : s.group ≡ group ++ more) (tests : List Test) (facts : List Fact) where
  abbrev passes : Key → Bool
  passes key = key_passes s.group tests key

  abbrev kept : Fact → Bool
  kept x = holds s x && passes (key_of s.group x)

  front : (x : Fact) → front_of (length group) (key_of s.group x) ≡ key_of group x
  front x = ap (λ g. take (length group) (key_of g x)) by ∙ front-of_key group more x

  pub folded-rows : joined_rows s.columns (length group) s.group tests (rows facts s) ≡ groups key_cmp (key_of group) (numbers_of s.columns) (filter kept facts)
  folded-rows =
      let part : Key → Key = front_of (length group) in
      neighbours-fold part s.columns passes (rows facts s) (rows-in-order passes part (front-not_greater (length group)) s facts)
      ∙ (rows-fold s passes part facts
      ∙ (λ i. groups key_cmp (λ x. front x i) (numbers_of s.columns) (filter kept facts)))
