-- The answers that numbered items give, taken one after the other.
use Rattle.std.proofs.Common.{◌≡◌, ℕ, ◌+◌, ◌<◌, ◌≤◌, List, [], ◌∷◌, ◌++◌, length, get_or, map, Result, Ok, Err, IfErr, sym, ◌∙◌, ap, subst}
use Rattle.std.specs.Prelude.{IsErrAnd}
use Rattle.std.proofs.lemmas.List.{get_or-map, length-map}
use Rattle.std.proofs.lemmas.List.FromFn.{get_or-enumerate_from, length-enumerate_from}
use Rattle.std.specs.List.{enumerate_from}
use Rattle.fact_csv.specs.Gathered.{gathered}
use Rattle.fact_csv.specs.declared.refusal.RowRefusal.{RowRefusal}
use Rattle.fact_csv.specs.Batch.{Refuses}
use Rattle.fact_csv.proofs.Gathering.{AreTaken, goes_on, stops, ends}

-- what holds of the error holds of the one that a `?` hands on
pub handed_on : {A : Type 0} (P : RowRefusal → Type 0) (result : Result A RowRefusal) (e : RowRefusal) → IsErrAnd result (λ s. s ≡ e) → P e → IfErr result P
handed_on P (Ok x) e is holds = absurd is
handed_on P (Err s) e is holds = subst P (sym is) holds

module _ {X Y : Type 0} (f : ℕ → X → Result Y RowRefusal) (first : ℕ) (xs : List X) where
  abbrev answers : List (Result Y RowRefusal)
  answers = map (λ p. f p.0 p.1) (enumerate_from first xs)

  as_many : length answers ≡ length xs
  as_many = length-map (enumerate_from first xs) (λ p. f p.0 p.1) ∙ length-enumerate_from first xs

  module _ (i number : ℕ) (x : X) (low : i < length xs) (is : number ≡ first + i) (at : get_or xs i x ≡ x) where
    -- the answer of the item at this place
    answer_at : get_or answers i (f number x) ≡ f number x
    answer_at =
        get_or-map (λ p. f p.0 p.1) (enumerate_from first xs) i (0, x) (f number x) (subst (λ n. i < n) (sym (length-enumerate_from first xs)) low)
        ∙ ap (λ (p : ℕ × X). f p.0 p.1) (get_or-enumerate_from first xs i (0, x) low)
        ∙ ap (λ k. f k (get_or xs i x)) (sym is) ∙ ap (f number) at

    there : i < length answers
    there = subst (λ n. i < n) (sym as_many) low

    module _ (front : List Y) (so_far : AreTaken front i answers) where
      -- a good answer is one value more
      pub taken : (y : Y) (new : List Y) (next : ℕ) → f number x ≡ Ok y → new ≡ front ++ y ∷ [] → next ≡ i + 1 → AreTaken new next answers
      taken y new next good more after =
          subst (λ n. AreTaken new n answers) (sym after) (subst (λ l. AreTaken l (i + 1) answers) (sym more) (goes_on answers i front (f number x) there so_far y (answer_at ∙ good)))

      -- the first that is not good is the answer of all
      pub refused : {A : Type 0} (result : Result A RowRefusal) (e : RowRefusal) → IsErrAnd result (λ s. s ≡ e) → Refuses (f number x) e
          → IfErr result (Refuses (gathered answers))
      refused result e handed bad =
          handed_on (Refuses (gathered answers)) result e handed
          (λ other. stops answers i front (f number x) there so_far e (answer_at ∙ bad other))

  -- behind the last item the values are all
  pub finished : (i : ℕ) (front : List Y) → length xs ≤ i → AreTaken front i answers → gathered answers ≡ Ok front
  finished i front past so_far = ends answers i front (subst (λ n. n ≤ i) (sym as_many) past) so_far
