-- The order of two points by their last two coordinates, each pair as one number.
use Rattle.std.proofs.Common.{◌≡◌, ◌≢◌, ◌≤◌, ◌<◌, ◌+◌, ◌-◌, ◌*◌, ◌/◌, ◌%◌, ◌^◌, ℕ, zero, suc, Bool, List, false, inl, inr, drop, length, refl, sym, ap, ◌∙◌, arith}
use Rattle.std.specs.Ordering.{is_lt, nat_cmp, ordering_then}
use Rattle.std.specs.Prelude.{nat_lt, slice_index}
use Rattle.std.proofs.lemmas.Bool.{cases_eq, cases_lt, lt-ltb, le-ltb}
use Rattle.std.proofs.lemmas.List.{drop-drop, length-drop}
use Rattle.be_numbers.specs.Formats.{IsBytes}
use Rattle.be_numbers.specs.Numbers.{number}
use Rattle.be_numbers.proofs.Format.{bytes-drop, is_number}
use Rattle.be_numbers.proofs.Halves.{number-halves}
use Rattle.cube_point.specs.Points.{comes_before, point_cmp}
use Rattle.cube_point.proofs.PointOrder.{cmp_down}
use Rattle.page_entry.specs.Bytes.{width}
use Rattle.page_entry.specs.Entries.{point_of}
use Rattle.page_entry.proofs.Coordinates.{below-is, coordinates, down-differ, down-same, used-at, walk}
use Rattle.page_entry.proofs.Widths.{narrow-is}

-- the greatest coordinate that differs tells the order
pub differ-tells : (wide : Bool) (arity i k : ℕ) (left right : List ℕ) (a b : ℕ) → arity ≤ 8 → suc i ≡ k → a ≡ slice_index (coordinates wide arity left) i → b ≡ slice_index (coordinates wide arity right) i → a ≢ b
    → cmp_down k (coordinates wide arity left) (coordinates wide arity right) ≡ cmp_down arity (coordinates wide arity left) (coordinates wide arity right)
    → nat_lt a b ≡ comes_before (point_of wide arity left) (point_of wide arity right)
differ-tells wide arity i k left right a b le next a-is b-is differ down =
    let x = slice_index (coordinates wide arity left) i in
    let y = slice_index (coordinates wide arity right) i in
    let apart : x ≢ y = λ e. differ (a-is ∙ (e ∙ sym b-is)) in
    (λ j. nat_lt (a-is j) (b-is j))
    ∙ (sym (below-is x y)
    ∙ ap is_lt (sym (down-differ i (coordinates wide arity left) (coordinates wide arity right) apart)
    ∙ (ap (λ (n : ℕ). cmp_down n (coordinates wide arity left) (coordinates wide arity right)) next ∙ (down ∙ walk wide arity left right le))))

-- the last two coordinates, of which the last one counts more
abbrev pub pair : Bool → ℕ → List ℕ → ℕ
pair wide arity b = slice_index (coordinates wide arity b) (arity - 1) * 2 ^ 32 + slice_index (coordinates wide arity b) (arity - 2)

same-lt : (p q x y : ℕ) → (x < y → p < q) → (y ≤ x → q ≤ p) → nat_lt p q ≡ nat_lt x y
same-lt p q x y below above = elim (cases_lt x y) [
  | inl lt ↦ lt-ltb p q (below lt) ∙ sym (lt-ltb x y lt)
  | inr le ↦ le-ltb p q (above (omega (arith, le))) ∙ sym (le-ltb x y (omega (arith, le)))
]

module _ (wide : Bool) (arity : ℕ) (left right : List ℕ) (two : 2 ≤ arity) (le : arity ≤ 8)
    (low-left : slice_index (coordinates wide arity left) (arity - 2) < 2 ^ 32) (low-right : slice_index (coordinates wide arity right) (arity - 2) < 2 ^ 32) where
  abbrev a : List ℕ
  a = coordinates wide arity left

  abbrev b : List ℕ
  b = coordinates wide arity right

  -- two pairs that differ tell the order
  pub pair-tells : pair wide arity left ≢ pair wide arity right → nat_lt (pair wide arity left) (pair wide arity right) ≡ comes_before (point_of wide arity left) (point_of wide arity right)
  pair-tells differ =
      let x = slice_index a (arity - 1) in
      let y = slice_index b (arity - 1) in
      let u = slice_index a (arity - 2) in
      let v = slice_index b (arity - 2) in
      let last : suc (arity - 1) ≡ arity = omega (arith, two) in
      let before : suc (arity - 2) ≡ arity - 1 = omega (arith, two) in
      elim (cases_eq x y) [
        | inl same ↦
            let other : u ≢ v = λ e. differ (λ i. same i * 2 ^ 32 + e i) in
            let down : cmp_down (arity - 1) a b ≡ cmp_down arity a b = sym (down-same (arity - 1) a b same) ∙ ap (λ (n : ℕ). cmp_down n a b) last in
            same-lt (x * 2 ^ 32 + u) (y * 2 ^ 32 + v) u v (λ lt. omega (arith, lt, same)) (λ above. omega (arith, above, same))
            ∙ differ-tells wide arity (arity - 2) (arity - 1) left right u v le before (λ i. u) (λ i. v) other down
        | inr other ↦
            same-lt (x * 2 ^ 32 + u) (y * 2 ^ 32 + v) x y (λ lt. omega (arith, lt, low-left)) (λ above. omega (arith, above, other, low-right))
            ∙ differ-tells wide arity (arity - 1) arity left right x y le last (λ i. x) (λ i. y) other (λ i. cmp_down arity a b)
      ]

-- the walk over two points' first coordinates alone
down-front : (k : ℕ) (a b c d : List ℕ) → ((i : ℕ) → i < k → slice_index a i ≡ slice_index c i) → ((i : ℕ) → i < k → slice_index b i ≡ slice_index d i) → cmp_down k a b ≡ cmp_down k c d
down-front zero a b c d left right = refl
down-front (suc k) a b c d left right = λ j. ordering_then
    (nat_cmp (left k (omega arith) j) (right k (omega arith) j))
    (down-front k a b c d (λ i lt. left i (omega (arith, lt))) (λ i lt. right i (omega (arith, lt))) j)

-- the first coordinates are those of a point of so many
front-at : (wide : Bool) (arity i : ℕ) (b : List ℕ) → i < arity - 2 → slice_index (coordinates wide arity b) i ≡ slice_index (coordinates wide (arity - 2) b) i
front-at wide arity i b lt = sym (used-at wide arity i 0 b (omega (arith, lt))) ∙ used-at wide (arity - 2) i 0 b lt

-- where the last two are equal, the ones before tell the order
pub tied-walk : (wide : Bool) (arity : ℕ) (left right : List ℕ) → 2 ≤ arity → arity ≤ 8
    → slice_index (coordinates wide arity left) (arity - 1) ≡ slice_index (coordinates wide arity right) (arity - 1)
    → slice_index (coordinates wide arity left) (arity - 2) ≡ slice_index (coordinates wide arity right) (arity - 2)
    → point_cmp (coordinates wide arity left) (coordinates wide arity right) ≡ point_cmp (coordinates wide (arity - 2) left) (coordinates wide (arity - 2) right)
tied-walk wide arity left right two le last before =
    let a = coordinates wide arity left in
    let b = coordinates wide arity right in
    let whole : arity ≡ suc (arity - 1) = omega (arith, two) in
    let less : arity - 1 ≡ suc (arity - 2) = omega (arith, two) in
    sym (walk wide arity left right le)
    ∙ (ap (λ (n : ℕ). cmp_down n a b) whole ∙ (down-same (arity - 1) a b last
    ∙ (ap (λ (n : ℕ). cmp_down n a b) less ∙ (down-same (arity - 2) a b before
    ∙ (down-front (arity - 2) a b (coordinates wide (arity - 2) left) (coordinates wide (arity - 2) right) (λ i lt. front-at wide arity i left lt) (λ i lt. front-at wide arity i right lt)
    ∙ walk wide (arity - 2) left right (omega (arith, le)))))))

-- ---- both are read as one number

-- the halves of a number exchanged
pub swapped : (n high low : ℕ) → n ≡ high * 2 ^ 32 + low → low < 2 ^ 32 → high < 2 ^ 32 → n % 4294967296 * 4294967296 + n / 4294967296 ≡ low * 2 ^ 32 + high
swapped n high low is few some = omega (arith, is, few, some)

module _ (wide : Bool) (arity at : ℕ) (p : List ℕ) (narrow : wide ≡ false) (two : 2 ≤ arity) (are : IsBytes p) (inside : at + arity * width wide ≤ length p) where
  abbrev place : ℕ
  place = at + (arity - 2) * 4

  four : width wide ≡ 4
  four = narrow-is wide narrow

  pub pair-inside : place + 8 ≤ length p
  pair-inside = omega (arith, inside, two, ap (λ (k : ℕ). arity * k) four)

  first : number 4 (drop place p) ≡ slice_index (coordinates wide arity (drop at p)) (arity - 2)
  first = (λ i. number (sym four i) (drop (at + (arity - 2) * sym four i) p)) ∙ used-at wide arity (arity - 2) at p (omega (arith, two))

  second : number 4 (drop 4 (drop place p)) ≡ slice_index (coordinates wide arity (drop at p)) (arity - 1)
  second =
      let next : place + 4 ≡ at + (arity - 1) * 4 = omega (arith, two) in
      ap (number 4) (drop-drop 4 place p) ∙ (ap (λ (k : ℕ). number 4 (drop k p)) next
      ∙ ((λ i. number (sym four i) (drop (at + (arity - 1) * sym four i) p)) ∙ used-at wide arity (arity - 1) at p (omega (arith, two))))

  left : length (drop place p) ≡ length p - place
  left = length-drop place p

  pub pair-low : slice_index (coordinates wide arity (drop at p)) (arity - 2) < 2 ^ 32
  pair-low = omega (arith, sym first, (is_number 4).fits (drop place p) (bytes-drop place p are) (omega (arith, left, pair-inside)))

  pub pair-read : (n : ℕ) → n ≡ number 8 (drop place p) → n % 4294967296 * 4294967296 + n / 4294967296 ≡ pair wide arity (drop at p)
  pair-read n is =
      let after : length (drop 4 (drop place p)) ≡ length (drop place p) - 4 = length-drop 4 (drop place p) in
      let low = (is_number 4).fits (drop 4 (drop place p)) (bytes-drop 4 (drop place p) (bytes-drop place p are)) (omega (arith, after, left, pair-inside)) in
      let high = (is_number 4).fits (drop place p) (bytes-drop place p are) (omega (arith, left, pair-inside)) in
      swapped n (number 4 (drop place p)) (number 4 (drop 4 (drop place p))) (is ∙ number-halves (drop place p)) low high
      ∙ (λ i. second i * 2 ^ 32 + first i)
