-- Rows of the base slice, rolled up, are the rows of the lifted facts.
use Rattle.std.proofs.Common.{◌≡◌, ℕ, ◌&&◌, Bool, true, false, cond, List, [], ◌∷◌, map, length, filter, refl, sym, ◌∙◌, ap}
use Rattle.std.specs.List.{All, AllByRecursion}
use Rattle.fact_model.specs.Fact.{key_of}
use Rattle.fact_model.specs.Groups.{groups}
use Rattle.fact_model.specs.Rows.{as_row, number_of, numbers_of, rows}
use Rattle.fact_model.specs.Slice.{holds}
use Rattle.fact_model.specs.Value.{Key, key_cmp}
use Rattle.fact_model.specs.declared.fact.Fact.{Fact}
use Rattle.fact_model.specs.declared.slice.Column.{Column}
use Rattle.fact_model.specs.declared.slice.Column.TheVariants.{Count, Sum, Min, Max}
use Rattle.fact_model.specs.declared.slice.Slice.{Slice}
use Rattle.row_fold.specs.Joins.{join_numbers}
use Rattle.row_fold.proofs.FoldLaws.{facts-grouped, rows-fold}
use Rattle.row_fold.proofs.Grouping.{grouped, put}
use Rattle.row_fold.proofs.NumberJoins.{one}
use Rattle.row_fold.proofs.Regroup.{grouped-same}
use Rattle.spec_points.proofs.Members.{every-filter, every-from_All, every-map, filter-same}
use Rattle.roll_up.specs.declared.level.Level.{Level}
use Rattle.roll_up.specs.Bases.{base}
use Rattle.roll_up.specs.Levels.{lift}
use Rattle.roll_up.specs.Lifted.{is_kept, rolled, rolled_up}
use Rattle.roll_up.proofs.Bases.{ComeFrom, holds-lifted, keys-lifted}

-- ---- lifted facts in groups

filter-map : {X Y : Type 0} (f : X → Y) (p : Y → Bool) (xs : List X) → filter p (map f xs) ≡ map f (filter (λ x. p (f x)) xs)
filter-map f p [] = refl
filter-map f p (x ∷ xs) = ap (λ r. cond (p (f x)) (f x ∷ r) r) (filter-map f p xs) ∙ by (p (f x))
  where
    by : (b : Bool) → cond b (f x ∷ map f (filter (λ x. p (f x)) xs)) (map f (filter (λ x. p (f x)) xs)) ≡ map f (cond b (x ∷ filter (λ x. p (f x)) xs) (filter (λ x. p (f x)) xs))
    by true = refl
    by false = refl

module _ (levels : List Level) where
  -- levels leave the numbers alone
  number-lifted : (c : Column) (x : Fact) → number_of (lift levels x ∷ []) c ≡ number_of (x ∷ []) c
  number-lifted Count x = refl
  number-lifted (Sum m) x = refl
  number-lifted (Min m) x = refl
  number-lifted (Max m) x = refl

  numbers-lifted : (cs : List Column) (x : Fact) → one cs (lift levels x) ≡ one cs x
  numbers-lifted [] x = refl
  numbers-lifted (c ∷ cs) x = (λ i. number-lifted c x i ∷ numbers-lifted cs x i)

  -- so the groups of lifted facts are those of the facts by the lifted key
  lifted-grouped : (cs : List Column) (key : Fact → Key) (xs : List Fact) → grouped key_cmp (join_numbers cs) key (one cs) (map (lift levels) xs) ≡ grouped key_cmp (join_numbers cs) (λ x. key (lift levels x)) (one cs) xs
  lifted-grouped cs key [] = refl
  lifted-grouped cs key (x ∷ xs) = (λ i. put key_cmp (join_numbers cs) (key (lift levels x)) (numbers-lifted cs x i) (lifted-grouped cs key xs i))

module _ (n : ℕ) (levels : List Level) (s : Slice) (from : ComeFrom n levels s) where
  -- the theorem
  pub rolled-rows : (facts : List Fact) → All (λ (x : Fact). length x.values ≡ n) facts → rolled_up n levels s (rows facts (base n levels s)) ≡ rows (map (lift levels) facts) s
  rolled-rows facts wide =
      let b : Slice = base n levels s in
      let cs : List Column = s.columns in
      let kept : Key → Bool = is_kept n levels s in
      let up : Key → Key = rolled n levels s in
      let all = every-from_All (λ (x : Fact). length x.values ≡ n) facts wide in
      let met : List Fact = filter (λ x. holds s (lift levels x)) facts in
      let same-test : AllByRecursion (λ x. (holds b x && kept (key_of b.group x)) ≡ holds s (lift levels x)) facts
      = every-map (λ (x : Fact). length x.values ≡ n) (λ x. (holds b x && kept (key_of b.group x)) ≡ holds s (lift levels x)) (λ x w. holds-lifted n levels s from x w) facts all in
      let same-key : AllByRecursion (λ x. up (key_of b.group x) ≡ key_of s.group (lift levels x)) facts
      = every-map (λ (x : Fact). length x.values ≡ n) (λ x. up (key_of b.group x) ≡ key_of s.group (lift levels x)) (λ x w. keys-lifted n levels s from x w) facts all in
      ap (map as_row)
      (rows-fold b kept up facts
      ∙ (ap (groups key_cmp (λ x. up (key_of b.group x)) (numbers_of cs)) (filter-same (λ x. holds b x && kept (key_of b.group x)) (λ x. holds s (lift levels x)) facts same-test)
      ∙ (facts-grouped cs (λ x. up (key_of b.group x)) met
      ∙ (grouped-same key_cmp (join_numbers cs) (λ x. up (key_of b.group x)) (λ x. key_of s.group (lift levels x)) (one cs) met
      (every-filter (λ x. up (key_of b.group x) ≡ key_of s.group (lift levels x)) (λ x. holds s (lift levels x)) facts same-key)
      ∙ (sym (lifted-grouped levels cs (key_of s.group) met)
      ∙ (ap (grouped key_cmp (join_numbers cs) (key_of s.group) (one cs)) (sym (filter-map (lift levels) (holds s) facts))
      ∙ sym (facts-grouped cs (key_of s.group) (filter (holds s) (map (lift levels) facts)))))))))
