-- Rows of one width that lie one behind the other.
use Rattle.std.proofs.Common.{◌≡◌, ◌≤◌, ◌<◌, ◌+◌, ◌*◌, ℕ, zero, suc, List, [], ◌∷◌, ◌++◌, length, take, drop, get_or, map, refl, sym, ap, ◌∙◌, arith}
use Rattle.std.specs.Prelude.{flat_map}
use Rattle.std.specs.List.{All, range_with_len}
use Rattle.std.proofs.Math.Nat.{mul-le-mul_left}
use Rattle.std.proofs.Math.Seq.{drop-append-add, take-add}
use Rattle.std.proofs.lemmas.Grind.{flat_map-append}
use Rattle.std.proofs.lemmas.List.{append-nil, drop-append-le, take-append-le, take_at, length-drop}
use Rattle.std.proofs.lemmas.List.Elements.{All-tail}
use Rattle.std.proofs.lemmas.List.FromFn.{fill_by_all, get_or-map-range_with_len, length-map-range_with_len, map-range_with_len_more}
use Rattle.fact_batch.specs.Rows.{row_at, rows_of}

-- two functions that agree on the first places give the same list
pub same-range : {X : Type 0} (f g : ℕ → X) (n : ℕ) → ((k : ℕ) → k < n → f k ≡ g k) → map f (range_with_len 0 n) ≡ map g (range_with_len 0 n)
same-range f g n h =
    fill_by_all g (map f (range_with_len 0 n)) n (f 0) (length-map-range_with_len f 0 n)
    (λ k lt. get_or-map-range_with_len f 0 n k k (f 0) lt (omega arith) ∙ h k lt)

pub map-map : {X Y Z : Type 0} (h : Y → Z) (f : X → Y) (xs : List X) → map h (map f xs) ≡ map (λ x. h (f x)) xs
map-map h f [] = refl
map-map h f (x ∷ xs) = ap (λ rest. h (f x) ∷ rest) (map-map h f xs)

-- a row ends before the rows do
pub row-within : (w k n : ℕ) → k < n → w * k + w ≤ w * n
row-within w k n lt =
    let next : w * (k + 1) ≡ w * k + w = grind arith in
    let le : k + 1 ≤ n = omega (arith, lt) in
    omega (arith, next, mul-le-mul_left w le)

-- what lies behind the rows does not change them
pub row-front : {A : Type 0} (w k n : ℕ) (xs ys : List A) → k < n → w * n ≤ length xs → row_at w (xs ++ ys) k ≡ row_at w xs k
row-front w k n xs ys lt le =
    let within = row-within w k n lt in
    ap (take w) (drop-append-le (w * k) xs ys (omega (arith, within, le)))
    ∙ take-append-le w (drop (w * k) xs) ys (omega (arith, within, le, length-drop (w * k) xs))

pub rows-more : {A : Type 0} (w n : ℕ) (xs : List A) → rows_of w (n + 1) xs ≡ rows_of w n xs ++ row_at w xs n ∷ []
rows-more w n xs = map-range_with_len_more (row_at w xs) 0 n n (omega arith)

-- all rows, one behind the other
pub flat-rows : {A : Type 0} (w n : ℕ) (xs : List A) → flat_map (λ row. row) (rows_of w n xs) ≡ take (w * n) xs
flat-rows {A = A} w zero xs = let none : 0 ≡ w * 0 = omega arith in ap (λ k. take k xs) none
flat-rows {A = A} w (suc n) xs =
    let next : w * n + w ≡ w * suc n = grind arith in
    let up : suc n ≡ n + 1 = omega arith in
    ap (λ k. flat_map (λ (row : List A). row) (rows_of w k xs)) up
    ∙ (ap (flat_map (λ (row : List A). row)) (rows-more w n xs)
    ∙ (flat_map-append (λ (row : List A). row) (rows_of w n xs) (row_at w xs n ∷ [])
    ∙ (ap (λ (front : List A). front ++ (row_at w xs n ++ [])) (flat-rows w n xs)
    ∙ (ap (λ (row : List A). take (w * n) xs ++ row) (append-nil (row_at w xs n))
    ∙ (sym (take-add (w * n) w xs) ∙ ap (λ k. take k xs) next)))))

pub row-flat : {A : Type 0} (w : ℕ) (rows : List (List A)) (k : ℕ) → All (λ (row : List A). length row ≡ w) rows → k < length rows → row_at w (flat_map (λ row. row) rows) k ≡ get_or rows k []
row-flat w [] k alike lt = absurd (omega (arith, lt))
row-flat {A = A} w (r ∷ rows) zero alike lt =
    let first : length r ≡ w = alike 0 r (omega arith) in
    let none : w * 0 ≡ 0 = omega arith in
    ap (λ k. take w (drop k (r ++ flat_map (λ (row : List A). row) rows))) none ∙ take_at r (flat_map (λ (row : List A). row) rows) w first
row-flat {A = A} w (r ∷ rows) (suc k) alike lt =
    let first : length r ≡ w = alike 0 r (omega arith) in
    let next : w * suc k ≡ w + w * k = grind arith in
    let at : w * suc k ≡ length r + w * k = omega (arith, next, first) in
    ap (λ m. take w (drop m (r ++ flat_map (λ (row : List A). row) rows))) at
    ∙ (ap (take w) (drop-append-add r (flat_map (λ (row : List A). row) rows) (w * k))
    ∙ row-flat w rows k (All-tail (λ (row : List A). length row ≡ w) r rows alike) (omega (arith, lt)))

-- rows of one width that are laid flat are these rows
pub rows-back : {A : Type 0} (width : ℕ) (rows : List (List A)) → All (λ (row : List A). length row ≡ width) rows → rows_of width (length rows) (flat_map (λ row. row) rows) ≡ rows
rows-back width rows alike =
    sym (fill_by_all (row_at width (flat_map (λ row. row) rows)) rows (length rows) [] refl (λ k lt. sym (row-flat width rows k alike lt)))
