-- Counts added up point by point.
use Rattle.std.proofs.Common.{◌≡◌, ◌≤◌, ◌<◌, ◌+◌, ℕ, zero, suc, List, [], ◌∷◌, get_or, length, map, take, ap, arith}
use Rattle.cube_point.specs.declared.point.Entry.{Entry}
use Rattle.spec_points.specs.Entries.{pair_of}
use Rattle.spec_points.specs.Weights.{count_in, weight}

abbrev pub counts : List Entry → ℕ
counts es = weight count_in (map pair_of es)

pub counts-more : (es : List Entry) (n : ℕ) (d : Entry) → n < length es → counts (take (n + 1) es) ≡ counts (take n es) + (get_or es n d).cell.count
counts-more [] n d lt = absurd (omega (arith, lt))
counts-more (e ∷ es) zero d lt = omega arith
counts-more (e ∷ es) (suc n) d lt =
    let more : suc n + 1 ≡ suc (n + 1) = omega arith in
    omega (arith, ap (λ (k : ℕ). counts (take k (e ∷ es))) more, counts-more es n d (omega (arith, lt)))

pub counts-front : (es : List Entry) (n : ℕ) → counts (take n es) ≤ counts es
counts-front es zero = omega arith
counts-front [] (suc n) = omega arith
counts-front (e ∷ es) (suc n) = omega (arith, counts-front es n)
