-- The value of an attribute in a key, place by place.
use Rattle.std.proofs.Common.{◌≡◌, ℕ, zero, suc, ◌+◌, ◌<◌, true, false, cond, List, [], ◌∷◌, length, drop, get_or, Some, None, refl, sym, ◌∙◌, ap, arith}
use Rattle.std.specs.Prelude.{slice_get, ◌==◌}
use Rattle.fact_model.specs.Value.{Key}
use Rattle.sql_slice.specs.SqlRows.{value_in}

value-none : (group : List ℕ) (a : ℕ) → value_in group [] a ≡ None
value-none [] a = refl
value-none (g ∷ group) a = refl

pub found-here : (group : List ℕ) (key : Key) (a i : ℕ) → i < length group → (get_or group i 0 == a) ≡ true → value_in (drop i group) (drop i key) a ≡ slice_get key i
found-here [] key a i l e = absurd (omega arith)
found-here (g ∷ group) [] a zero l e = refl
found-here (g ∷ group) (v ∷ key) a zero l e = ap (λ b. cond b (Some v) (value_in group key a)) e
found-here (g ∷ group) [] a (suc i) l e = value-none (drop i group) a
found-here (g ∷ group) (v ∷ key) a (suc i) l e = found-here group key a i (omega arith) e

pub found-later : (group : List ℕ) (key : Key) (a i : ℕ) → i < length group → (get_or group i 0 == a) ≡ false → value_in (drop i group) (drop i key) a ≡ value_in (drop (i + 1) group) (drop (i + 1) key) a
found-later [] key a i l e = absurd (omega arith)
found-later (g ∷ group) [] a zero l e = sym (value-none group a)
found-later (g ∷ group) (v ∷ key) a zero l e = ap (λ b. cond b (Some v) (value_in group key a)) e
found-later (g ∷ group) [] a (suc i) l e =
    let next : suc i + 1 ≡ suc (i + 1) = omega arith in
    value-none (drop i group) a ∙ sym (value-none (drop (i + 1) group) a) ∙ ap (λ k. value_in (drop k (g ∷ group)) (drop k []) a) (sym next)
found-later (g ∷ group) (v ∷ key) a (suc i) l e =
    let next : suc i + 1 ≡ suc (i + 1) = omega arith in
    found-later group key a i (omega arith) e ∙ ap (λ k. value_in (drop k (g ∷ group)) (drop k (v ∷ key)) a) (sym next)
