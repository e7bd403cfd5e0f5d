-- Numbers from one up to another.
use Rattle.std.proofs.Common.{◌≡◌, ℕ, suc, ◌+◌, ◌-◌, ◌<◌, ◌≤◌, Bool, true, false, cond, List, [], ◌∷◌, ◌++◌, filter, sym, ◌∙◌, ap, append_assoc, arith}
use Rattle.std.specs.Prelude.{flat_map}
use Rattle.std.specs.List.{range_with_len}
use Rattle.fact_model.specs.declared.slice.Cond.{Cond}
use Rattle.sql_lang.specs.declared.query.Query.{Query}
use Rattle.sql_slice.specs.Plans.{is_more}

pub range_step : (i n : ℕ) → i < n → range_with_len i (n - i) ≡ i ∷ range_with_len (i + 1) (n - (i + 1))
range_step i n l = let e : n - i ≡ suc (n - (i + 1)) = omega arith in ap (range_with_len i) e

pub range_end : (i n : ℕ) → n ≤ i → range_with_len i (n - i) ≡ []
range_end i n l = let e : n - i ≡ 0 = omega arith in ap (range_with_len i) e

-- an attribute more, if it is one
pub more-step : (q : Query) (old new : List ℕ) (i n : ℕ) (all : List ℕ) → i < n → (b : Bool) → is_more q i ≡ b → new ≡ cond b (old ++ i ∷ []) old
    → old ++ filter (is_more q) (range_with_len i (n - i)) ≡ all → new ++ filter (is_more q) (range_with_len (i + 1) (n - (i + 1))) ≡ all
more-step q old new i n all low true test is so_far =
    ap (λ ns. ns ++ filter (is_more q) (range_with_len (i + 1) (n - (i + 1)))) is
    ∙ append_assoc old (i ∷ []) (filter (is_more q) (range_with_len (i + 1) (n - (i + 1))))
    ∙ ap (λ ns. old ++ ns) (sym (ap (filter (is_more q)) (range_step i n low)
    ∙ ap (λ c. cond c (i ∷ filter (is_more q) (range_with_len (i + 1) (n - (i + 1)))) (filter (is_more q) (range_with_len (i + 1) (n - (i + 1))))) test))
    ∙ so_far
more-step q old new i n all low false test is so_far =
    ap (λ ns. ns ++ filter (is_more q) (range_with_len (i + 1) (n - (i + 1)))) is
    ∙ ap (λ ns. old ++ ns) (sym (ap (filter (is_more q)) (range_step i n low)
    ∙ ap (λ c. cond c (i ∷ filter (is_more q) (range_with_len (i + 1) (n - (i + 1)))) (filter (is_more q) (range_with_len (i + 1) (n - (i + 1))))) test))
    ∙ so_far

-- the conditions of an attribute more
pub conds-step : (f : ℕ → List Cond) (old new : List Cond) (i n : ℕ) (all : List Cond) → i < n → new ≡ old ++ f i
    → old ++ flat_map f (range_with_len i (n - i)) ≡ all → new ++ flat_map f (range_with_len (i + 1) (n - (i + 1))) ≡ all
conds-step f old new i n all low is so_far =
    ap (λ cs. cs ++ flat_map f (range_with_len (i + 1) (n - (i + 1)))) is
    ∙ append_assoc old (f i) (flat_map f (range_with_len (i + 1) (n - (i + 1))))
    ∙ ap (λ cs. old ++ cs) (sym (ap (flat_map f) (range_step i n low)))
    ∙ so_far
