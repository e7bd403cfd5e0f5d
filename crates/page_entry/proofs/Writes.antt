-- Steps of loops that write.
use Rattle.std.proofs.Common.{◌≡◌, ◌<◌, ◌+◌, ◌++◌, ℕ, zero, suc, List, [], ◌∷◌, length, take, get_or, sym, ap, ◌∙◌, arith}
use Rattle.std.specs.Prelude.{flat_map}
use Rattle.be_numbers.specs.Formats.{AreMany}
use Rattle.std.proofs.lemmas.List.{take_more, flat_map_more}

-- the next value is written behind those before it
pub put-next : {A : Type 0} (w : A → List ℕ) (xs : List A) (i : ℕ) (x : A) (front so_far now : List ℕ) → i < length xs → x ≡ get_or xs i x → so_far ≡ front ++ flat_map w (take i xs) → now ≡ so_far ++ w x → now ≡ front ++ flat_map w (take (i + 1) xs)
put-next w xs i x front so_far now lt is before this =
    this ∙ (ap (λ (l : List ℕ). l ++ w x) before ∙ (flat_map_more w front (take i xs) x ∙ ap (λ (l : List _). front ++ flat_map w l) (ap (λ (y : _). take i xs ++ y ∷ []) is ∙ sym (take_more xs i x lt))))

pub each-of : {A : Type 0} (P : A → Type 0) (n : ℕ) (xs : List A) (i : ℕ) (d : A) → AreMany P n xs → i < n → P (get_or xs i d)
each-of P zero xs i d h lt = absurd (omega arith)
each-of P (suc n) [] i d h lt = absurd h
each-of P (suc n) (x ∷ xs) zero d h lt = h.0
each-of P (suc n) (x ∷ xs) (suc i) d h lt = each-of P n xs i d h.1 (omega arith)
