-- Answers of items, read one after the other.
use Rattle.std.proofs.Common.{◌≡◌, ℕ, ◌+◌, ◌<◌, ◌≤◌, List, [], ◌∷◌, ◌++◌, length, get_or, map, Result, Ok, Err, sym, ◌∙◌, ap, subst}
use Rattle.std.specs.Prelude.{◌≢◌, IsErrAnd}
use Rattle.std.proofs.lemmas.List.{get_or-map, length-map}
use Rattle.fact_csv.specs.Gathered.{gathered}
use Rattle.fact_csv.proofs.Gathering.{AreTaken, goes_on, stops, ends}
use Rattle.cube_schema.specs.declared.schema.Kind.{Kind}
use Rattle.fact_model.specs.declared.fact.Value.{Value}
use Rattle.reply_fold.specs.Answers.{Answers}
use Rattle.reply_fold.specs.Rows.{value_in}
use Rattle.reply_fold.specs.declared.fault.Fault.{Fault}
use Rattle.reply_fold.specs.declared.fault.Fault.TheVariants as faults

-- the fault that a `?` hands on
pub handed : {A : Type 0} (result : Result A Fault) (e : Fault) (want : Result A Fault) → IsErrAnd result (λ s. s ≡ e) → (e ≢ faults.Memory → want ≡ Err e) → Answers result want
handed (Ok x) e want is why = absurd is
handed (Err s) e want is why = subst (λ f. f ≢ faults.Memory → want ≡ Err f) (sym is) why

module _ {X Y : Type 0} (f : X → Result Y Fault) (xs : List X) where
  module _ (i : ℕ) (x : X) (low : i < length xs) (at : get_or xs i x ≡ x) (front : List Y) (so_far : AreTaken front i (map f xs)) where
    answer-at : get_or (map f xs) i (f x) ≡ f x
    answer-at = get_or-map f xs i x (f x) low ∙ ap f at

    there : i < length (map f xs)
    there = subst (λ n. i < n) (sym (length-map xs f)) low

    -- a good answer is one value more
    pub one-more : (y : Y) (new : List Y) (next : ℕ) → f x ≡ Ok y → new ≡ front ++ y ∷ [] → next ≡ i + 1 → AreTaken new next (map f xs)
    one-more y new next good more after =
        subst (λ n. AreTaken new n (map f xs)) (sym after) (subst (λ l. AreTaken l (i + 1) (map f xs)) (sym more) (goes_on (map f xs) i front (f x) there so_far y (answer-at ∙ good)))

    -- the first that is not good is the answer of all
    pub first-fault : (e : Fault) → f x ≡ Err e → gathered (map f xs) ≡ Err e
    first-fault e is = stops (map f xs) i front (f x) there so_far e (answer-at ∙ is)

  -- behind the last item the values are all
  pub all-read : (i : ℕ) (front : List Y) → length xs ≤ i → AreTaken front i (map f xs) → gathered (map f xs) ≡ Ok front
  all-read i front past so_far = ends (map f xs) i front (subst (λ n. n ≤ i) (sym (length-map xs f)) past) so_far

-- the answer for a kind that is known
pub same-answer : (n : ℕ) (field : List ℕ) {k j : Kind} {answer : Result Value Fault} → k ≡ j → value_in k n field ≡ answer → value_in j n field ≡ answer
same-answer n field {k} {j} {answer} same is = subst (λ kind. value_in kind n field ≡ answer) same is
