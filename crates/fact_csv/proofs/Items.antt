-- Items at places of lists.
use Rattle.std.proofs.Common.{Bor, ◌≡◌, ◌<◌, ◌≤◌, ℕ, ◌+◌, ◌-◌, zero, suc, List, [], ◌∷◌, Option, Some, None, length, drop, get_or, map, sym, ◌∙◌, ap, arith}
use Rattle.std.specs.Option.{unwrap_or}
use Rattle.std.specs.Prelude.{option_map}
use Rattle.std.proofs.lemmas.List.{get_or-map, get_or_default, get_or-drop, length-drop}
use Rattle.std.proofs.lemmas.Slice.Zip.{length-zip, get_or-zip}
use Rattle.std.specs.List.{zip}
use Rattle.csv.specs.Records.{field_at}

-- the field that a record lends, or an empty one
pub lent : (fs : List (List ℕ)) (i : ℕ) (found : Option (Bor (List ℕ))) (none : Bor (List ℕ)) → option_map (λ s. s.now) found ≡ field_at fs i → none.now ≡ [] → (unwrap_or found none).now ≡ get_or fs i []
unfolding field_at
lent [] i (Some s) none is empty = cc is
lent [] i None none is empty = empty
lent (f ∷ fs) zero (Some s) none is empty = ap (λ o. unwrap_or o []) is
lent (f ∷ fs) zero None none is empty = cc is
lent (f ∷ fs) (suc i) found none is empty = lent fs i found none is empty

-- an item of a list that is read as another
pub mapped : {X Y : Type 0} (f : X → Y) (xs : List X) (i : ℕ) (x : X) → i < length xs → x ≡ get_or xs i x → get_or (map f xs) i (f x) ≡ f x
mapped f xs i x low is = get_or-map f xs i x (f x) low ∙ sym (ap f is)

-- an item of two lists, place by place
pub zipped : {A B : Type 0} (xs : List A) (ys : List B) (i : ℕ) (x : A) (y d : B) → i < length xs → i < length ys → x ≡ get_or xs i x → y ≡ get_or ys i d → get_or (zip xs ys) i (x, y) ≡ (x, y)
zipped xs ys i x y d low low2 is is2 = get_or-zip xs ys i (x, y) low low2 ∙ ap (λ a. (a, get_or ys i y)) (sym is) ∙ ap (λ b. (x, b)) (get_or_default ys i y d low2 ∙ sym is2)

pub both : {A B : Type 0} (xs : List A) (ys : List B) (i : ℕ) → i < length xs → length xs ≤ length ys → i < length (zip xs ys)
both xs ys i low short = omega (arith, length-zip xs ys)

-- an item behind the first so many
pub behind : {A : Type 0} (n : ℕ) (xs : List A) (i : ℕ) (x d : A) → n ≤ i → i < length xs → x ≡ get_or xs i d → get_or (drop n xs) (i - n) x ≡ x
behind n xs i x d from low is =
    let same : n + (i - n) ≡ i = omega arith in
    get_or-drop n xs (i - n) x ∙ ap (λ k. get_or xs k x) same ∙ get_or_default xs i x d low ∙ sym is

pub as_far : {A : Type 0} (n : ℕ) (xs : List A) (i : ℕ) → n ≤ i → i < length xs → i - n < length (drop n xs)
as_far n xs i from low = omega (arith, length-drop n xs)

pub past_all : {A : Type 0} (n : ℕ) (xs : List A) (i : ℕ) → length xs ≤ i → length (drop n xs) ≤ i - n
past_all n xs i past = omega (arith, length-drop n xs)
