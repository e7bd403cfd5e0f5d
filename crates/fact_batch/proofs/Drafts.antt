-- Facts whose values and numbers lie one behind the other, and the next that is being made.
use Rattle.std.proofs.Common.{◌≡◌, ◌≤◌, ◌<◌, ◌+◌, ◌*◌, ◌&&◌, ℕ, ℤ, Bool, List, [], ◌∷◌, ◌++◌, length, drop, get_or, map, refl, sym, ap, ◌∙◌, arith}
use Rattle.std.specs.List.{list_all, range_with_len}
use Rattle.std.proofs.lemmas.List.{take_all, length-drop}
use Rattle.std.proofs.lemmas.List.Folds.{flat_map-map, list_all-append}
use Rattle.std.proofs.lemmas.List.FromFn.{get_or-map-range_with_len, map-range_with_len_more}
use Rattle.fact_model.specs.declared.fact.Fact.{Fact}
use Rattle.fact_model.specs.declared.fact.Value.{Value}
use Rattle.fact_batch.specs.Batch.{fact_at, measures_in, values_in}
use Rattle.fact_batch.specs.Rows.{row_at, rows_of}
use Rattle.fact_batch.proofs.Flats.{flat-rows, map-map, row-front, same-range}

-- the facts of values and numbers
abbrev pub facts_over : ℕ → ℕ → ℕ → List Value → List ℤ → List Fact
facts_over width measures rows values numbers = map (fact_at width measures values numbers) (range_with_len 0 rows)

-- the numbers of the facts
pub measures-rows : (w m n : ℕ) (vs : List Value) (ns : List ℤ) → rows_of m n ns ≡ measures_in (facts_over w m n vs ns)
measures-rows w m n vs ns = sym (map-map (λ (x : Fact). x.measures) (fact_at w m vs ns) (range_with_len 0 n))

pub measures-at : (w m n at : ℕ) (vs : List Value) (ns : List ℤ) → at < n → row_at m ns at ≡ get_or (measures_in (facts_over w m n vs ns)) at []
measures-at w m n at vs ns lt =
    sym (get_or-map-range_with_len (row_at m ns) 0 n at at [] lt (omega arith))
    ∙ ap (λ (rows : List (List ℤ)). get_or rows at []) (measures-rows w m n vs ns)

-- the values of all facts are those that lie there
pub values-flat : (w m n : ℕ) (vs : List Value) (ns : List ℤ) → length vs ≡ w * n → vs ≡ values_in (facts_over w m n vs ns)
values-flat w m n vs ns long =
    sym (flat_map-map (λ (x : Fact). x.values) (fact_at w m vs ns) (range_with_len 0 n)
    ∙ (sym (flat_map-map (λ (row : List Value). row) (row_at w vs) (range_with_len 0 n))
    ∙ (flat-rows w n vs ∙ take_all (w * n) vs (omega (arith, long)))))

-- a test of them is a test of the values of each fact
pub values-tested : (p : Value → Bool) (facts : List Fact) → list_all p (values_in facts) ≡ list_all (λ (x : Fact). list_all p x.values) facts
values-tested p [] = refl
values-tested p (x ∷ facts) = list_all-append p x.values (values_in facts) ∙ ap (λ rest. list_all p x.values && rest) (values-tested p facts)

-- values and numbers behind those of the facts leave the facts as they are
pub facts-front : (w m n : ℕ) (vs more : List Value) (ns rest : List ℤ) → w * n ≤ length vs → m * n ≤ length ns
    → facts_over w m n (vs ++ more) (ns ++ rest) ≡ facts_over w m n vs ns
facts-front w m n vs more ns rest long wide =
    same-range (fact_at w m (vs ++ more) (ns ++ rest)) (fact_at w m vs ns) n
    (λ k lt. let one = row-front w k n vs more lt long in let two = row-front m k n ns rest lt wide in λ j. record { values = one j; measures = two j })

pub facts-values : (w m n : ℕ) (vs more : List Value) (ns : List ℤ) → w * n ≤ length vs → facts_over w m n (vs ++ more) ns ≡ facts_over w m n vs ns
facts-values w m n vs more ns long =
    same-range (fact_at w m (vs ++ more) ns) (fact_at w m vs ns) n
    (λ k lt. let one = row-front w k n vs more lt long in λ j. record { values = one j; measures = row_at m ns k })

pub facts-numbers : (w m n : ℕ) (vs : List Value) (ns rest : List ℤ) → m * n ≤ length ns → facts_over w m n vs (ns ++ rest) ≡ facts_over w m n vs ns
facts-numbers w m n vs ns rest wide =
    same-range (fact_at w m vs (ns ++ rest)) (fact_at w m vs ns) n
    (λ k lt. let two = row-front m k n ns rest lt wide in λ j. record { values = row_at w vs k; measures = two j })

-- the fact behind the others is of the values and numbers that are left, where they are a row
pub facts-more : (w m n : ℕ) (vs : List Value) (ns : List ℤ) → length (drop (w * n) vs) ≡ w → length (drop (m * n) ns) ≡ m
    → facts_over w m (n + 1) vs ns ≡ facts_over w m n vs ns ++ (record { values = drop (w * n) vs; measures = drop (m * n) ns }) ∷ []
facts-more w m n vs ns one two =
    let values = take_all w (drop (w * n) vs) (omega (arith, one)) in
    let numbers = take_all m (drop (m * n) ns) (omega (arith, two)) in
    map-range_with_len_more (fact_at w m vs ns) 0 n n (omega arith)
    ∙ (λ j. facts_over w m n vs ns ++ (record { values = values j; measures = numbers j }) ∷ [])

-- behind a row that is whole nothing is left
pub row-ends : {A : Type 0} (w n : ℕ) (xs : List A) → w * n ≤ length xs → length (drop (w * n) xs) ≡ w → length xs ≡ w * (n + 1)
row-ends w n xs le one =
    let next : w * (n + 1) ≡ w * n + w = grind arith in
    omega (arith, next, le, one, length-drop (w * n) xs)
