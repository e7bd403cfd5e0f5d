-- Coordinates, one more of them.
use Rattle.std.proofs.Common.{◌≡◌, ℕ, suc, ◌+◌, ◌-◌, ◌<◌, List, [], ◌∷◌, ◌++◌, length, set, replicate, sym, ◌∙◌, ap, append_assoc, arith}
use Rattle.std.proofs.lemmas.List.{set_at, length_push}
use Rattle.spec_points.specs.Points.{padded}

-- one coordinate more
pub padded-more : (codes : List ℕ) (i c : ℕ) → length codes ≡ i → i < 8 → set (padded codes) i c ≡ padded (codes ++ c ∷ [])
padded-more codes i c long low =
    ap (λ n. set (codes ++ replicate n 0) i c) (room (length codes) (omega arith))
    ∙ (set_at codes 0 (replicate (7 - length codes) 0) c i long
    ∙ (sym (append_assoc codes (c ∷ []) (replicate (7 - length codes) 0)) ∙ ap (λ n. (codes ++ c ∷ []) ++ replicate n 0) (left (length codes) (length (codes ++ c ∷ [])) (length_push codes c))))
  where
    room : (n : ℕ) → n < 8 → 8 - n ≡ suc (7 - n)
    room n l = omega arith

    left : (n m : ℕ) → m ≡ n + 1 → 7 - n ≡ 8 - m
    left n m e = omega arith
