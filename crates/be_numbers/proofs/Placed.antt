-- Bytes at a place of a list, and the law from bytes to a number and back.
use Rattle.std.proofs.Common.{◌≡◌, ◌≤◌, ◌<◌, ◌+◌, ◌-◌, ◌*◌, ◌^◌, ◌/◌, ◌%◌, ℕ, zero, suc, List, [], ◌∷◌, ◌++◌, length, take, drop, refl, sym, ap, ◌∙◌, arith}
use Rattle.std.proofs.lemmas.List.{drop-drop, drop_at, take_all, length-drop, drop_all, append-nil, take_at, length-take-le, length-append, append_assoc}
use Rattle.std.specs.Int.{byte_at, bytes_high_first}
use Rattle.be_numbers.specs.Formats.{IsBytes}
use borrow.Rule.Slice.PartMut.{put_mid, mid_of}
use Rattle.byteorder.specs.Endian.{big_bytes, big_number, big_from}
use Rattle.byteorder.specs.Numbers.{big_from-cons, big_from-lt}
use Rattle.std.proofs.Math.Nat.{div-one, mul-add-div_right, mul-add-mod_self_right, mod-eq_of_lt, one-le-pow, pow-succ'}
use Rattle.std.proofs.lemmas.Nat.{pow-add, div-mul-add}

-- what a write into `xs[a..]` leaves
pub write_at : (a n all : ℕ) (xs bs new : List ℕ) → length xs ≡ all → a + n ≤ all → length bs ≡ n
    → new ≡ bs ++ drop n (mid_of a (all - a) xs)
    → put_mid a (all - a) xs new ≡ take a xs ++ (bs ++ drop (a + n) xs)
write_at a n all xs bs new len fits size e =
    let long : length (drop a xs) ≡ length xs - a = length-drop a xs in
    let whole : mid_of a (all - a) xs ≡ drop a xs = take_all (all - a) (drop a xs) (omega arith) in
    let none : drop (all - a) (drop a xs) ≡ [] = drop_all (all - a) (drop a xs) (omega arith) in
    let rest : new ≡ bs ++ drop (a + n) xs = e ∙ ap (λ (l : List ℕ). bs ++ drop n l) whole ∙ ap (λ (l : List ℕ). bs ++ l) (drop-drop n a xs) in
    rw (none, rest) (ap (λ (l : List ℕ). take a xs ++ l) (append-nil (bs ++ drop (a + n) xs)))

byte_at-pow : (k x : ℕ) → byte_at k x ≡ x / 256 ^ k % 256
byte_at-pow zero x = ap (λ (y : ℕ). y % 256) (sym (div-one x))
byte_at-pow (suc k) x = refl

pow_pos256 : (n : ℕ) → zero < 256 ^ n
pow_pos256 n = let h = one-le-pow n 256 (omega arith) in omega arith

spread : (c p q : ℕ) → c * (p * (256 * q)) ≡ (c * q * 256) * p
spread c p q = omega arith

-- a low byte does not read what stands above it
low_byte : (k j c y : ℕ) → byte_at k (c * 256 ^ (k + suc j) + y) ≡ byte_at k y
low_byte k j c y =
    let split : 256 ^ (k + suc j) ≡ 256 ^ k * 256 ^ suc j = pow-add 256 k (suc j) in
    let next : 256 ^ suc j ≡ 256 * 256 ^ j = pow-succ' 256 j in
    let e : c * 256 ^ (k + suc j) ≡ (c * 256 ^ j * 256) * 256 ^ k = ap (λ (p : ℕ). c * p) (split ∙ ap (λ (p : ℕ). 256 ^ k * p) next) ∙ spread c (256 ^ k) (256 ^ j) in
    let d = mul-add-div_right (pow_pos256 k) (c * 256 ^ j * 256) y in
    rw (byte_at-pow k (c * 256 ^ (k + suc j) + y), byte_at-pow k y, e, d) (mul-add-mod_self_right (c * 256 ^ j) 256 (y / 256 ^ k))

low_bytes_of : (k j c y : ℕ) → bytes_high_first k (c * 256 ^ (k + j) + y) ≡ bytes_high_first k y
low_bytes_of zero j c y = refl
low_bytes_of (suc k) j c y =
    let e : suc k + j ≡ k + suc j = omega arith in
    let top = low_byte k j c y in
    let rest = low_bytes_of k (suc j) c y in
    rw (e, top, rest) refl

-- the bytes of the number that bytes stand for are these bytes
pub bytes_of_number : (xs : List ℕ) → IsBytes xs → big_bytes (length xs) (big_number (length xs) xs) ≡ xs
bytes_of_number [] h = refl
bytes_of_number (b ∷ xs) h =
    let moved = big_from-cons 0 (length xs) b xs in
    let small = big_from-lt 0 (length xs) xs (λ i. h (suc i)) in
    let head : byte_at (length xs) (b * 256 ^ length xs + big_from 0 (length xs) xs) ≡ b =
    byte_at-pow (length xs) (b * 256 ^ length xs + big_from 0 (length xs) xs)
    ∙ ap (λ (y : ℕ). y % 256) (div-mul-add b (256 ^ length xs) (big_from 0 (length xs) xs) small)
    ∙ mod-eq_of_lt (h 0) in
    let same : length xs + 0 ≡ length xs = omega arith in
    let tail : bytes_high_first (length xs) (b * 256 ^ length xs + big_from 0 (length xs) xs) ≡ xs =
    ap (λ (m : ℕ). bytes_high_first (length xs) (b * 256 ^ m + big_from 0 (length xs) xs)) (sym same)
    ∙ low_bytes_of (length xs) 0 b (big_from 0 (length xs) xs)
    ∙ bytes_of_number xs (λ i. h (suc i)) in
    rw moved (λ i. head i ∷ tail i)

-- what `&xs[a..]` shows
pub part_at : (a all : ℕ) (xs : List ℕ) → length xs ≡ all → mid_of a (all - a) xs ≡ drop a xs
part_at a all xs len =
    let long : length (drop a xs) ≡ length xs - a = length-drop a xs in
    take_all (all - a) (drop a xs) (omega arith)

-- what stands in front of the place after it
pub written_at : (a n all : ℕ) (xs bs new : List ℕ) → length xs ≡ all → a + n ≤ all → length bs ≡ n
    → new ≡ bs ++ drop n (mid_of a (all - a) xs)
    → take (a + n) (put_mid a (all - a) xs new) ≡ take a xs ++ bs
written_at a n all xs bs new len fits size e =
    let front : length (take a xs) ≡ a = length-take-le a xs (omega arith) in
    let both : length (take a xs ++ bs) ≡ a + n = omega (arith, length-append (take a xs) bs) in
    ap (take (a + n)) (write_at a n all xs bs new len fits size e ∙ sym (append_assoc (take a xs) bs (drop (a + n) xs)))
    ∙ take_at (take a xs ++ bs) (drop (a + n) xs) (a + n) both

-- what stands behind is as it was
pub kept_at : (a n all : ℕ) (xs bs new : List ℕ) → length xs ≡ all → a + n ≤ all → length bs ≡ n
    → new ≡ bs ++ drop n (mid_of a (all - a) xs)
    → drop (a + n) (put_mid a (all - a) xs new) ≡ drop (a + n) xs
kept_at a n all xs bs new len fits size e =
    let front : length (take a xs) ≡ a = length-take-le a xs (omega arith) in
    let both : length (take a xs ++ bs) ≡ a + n = omega (arith, length-append (take a xs) bs) in
    ap (drop (a + n)) (write_at a n all xs bs new len fits size e ∙ sym (append_assoc (take a xs) bs (drop (a + n) xs)))
    ∙ drop_at (take a xs ++ bs) (drop (a + n) xs) (a + n) both
