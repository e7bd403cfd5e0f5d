-- How many views of an arity stand before a place.
use Rattle.std.proofs.Common.{◌≡◌, ℕ, zero, suc, ◌+◌, ◌<◌, ◌≤◌, max, cond, List, [], length, take, map, refl, sym, ap, subst, ◌∙◌, ⊎_elim, arith}
use Rattle.std.specs.Prelude.{fold, count_by}
use Rattle.std.specs.List.{range_with_len}
use Rattle.std.specs.Ordering.{nat_cmp, ord_max}
use Rattle.std.proofs.lemmas.Bool.{eq-eqb, ne_eqb, cases_eq, cases_lt}
use Rattle.std.proofs.lemmas.Bool.Decides.{nat_tests}
use Rattle.std.proofs.lemmas.List.{take-take, take_all, length-take}
use Rattle.std.proofs.lemmas.List.FromFn.{map-range_with_len_more}
use Rattle.std.proofs.lemmas.List.Sums.{count_by_more_yes, count_by_more_no, count_by-le-length, sum_by-take-le, fold_push}
use Rattle.select_map.specs.Views.{View, has_arity, arity_at, tree_number}

-- how many of the first k views have this arity
abbrev pub count : List View → ℕ → ℕ → ℕ
count views arity k = count_by (has_arity arity) (take k views)

pub count-yes : (views : List View) (arity k : ℕ) → k < length views → arity_at views k ≡ arity → count views arity (k + 1) ≡ count views arity k + 1
count-yes views arity k lt is = count_by_more_yes (has_arity arity) views k [] lt (eq-eqb (arity_at views k) arity is)

pub count-no : (views : List View) (arity k : ℕ) → k < length views → (arity_at views k ≡ arity → ⊥) → count views arity (k + 1) ≡ count views arity k
count-no views arity k lt is = count_by_more_no (has_arity arity) views k [] lt (ne_eqb (arity_at views k) arity is)

count-mono : (views : List View) (arity j k : ℕ) → j ≤ k → count views arity j ≤ count views arity k
count-mono views arity j k le =
    subst (λ (front : List View). count_by (has_arity arity) front ≤ count views arity k) (take-take j k views le) (sum_by-take-le (λ v. cond (has_arity arity v) 1 0) (take k views) j)

pub count-strict : (views : List View) (arity v k : ℕ) → v < k → v < length views → arity_at views v ≡ arity → count views arity v < count views arity k
count-strict views arity v k lt there is =
    let more = count-yes views arity v there is in
    let mono = count-mono views arity (v + 1) k (omega arith) in
    omega arith

pub count-all : (views : List View) (arity : ℕ) → count views arity (length views) ≡ count_by (has_arity arity) views
count-all views arity = ap (count_by (has_arity arity)) (take_all (length views) views (omega arith))

-- a view's tree is below the count of all views of its arity
pub number-below : (views : List View) (v : ℕ) → v < length views → tree_number views v < count_by (has_arity (arity_at views v)) views
number-below views v lt =
    let strict = count-strict views (arity_at views v) v (length views) lt lt refl in
    let all = count-all views (arity_at views v) in
    omega arith

pub number-le : (views : List View) (v : ℕ) → tree_number views v ≤ v
number-le views v =
    let few = count_by-le-length (has_arity (arity_at views v)) (take v views) in
    omega (arith, length-take v views)

-- two views of one arity have two numbers
pub number-strict : (views : List View) (v w : ℕ) → v < w → w < length views → arity_at views v ≡ arity_at views w → tree_number views v < tree_number views w
number-strict views v w lt there same =
    let strict = count-strict views (arity_at views w) v w lt (omega arith) same in
    let is : tree_number views v ≡ count views (arity_at views w) v = ap (λ a. count views a v) same in
    omega arith

pub suc-more : (k : ℕ) → suc k ≡ k + 1
suc-more k = omega arith

-- there is a view of this arity with each number below their count
pub numbered : (views : List View) (arity t k : ℕ) → k ≤ length views → t < count views arity k → (v : ℕ) × (v < k) × (arity_at views v ≡ arity) × (count views arity v ≡ t)
numbered views arity t zero le lt = absurd (omega arith)
numbered views arity t (suc k) le lt =
    let next : count views arity (suc k) ≡ count views arity (k + 1) = ap (count views arity) (suc-more k) in
    ⊎_elim
    (λ (is : arity_at views k ≡ arity).
    (let yes = count-yes views arity k (omega arith) is in
    ⊎_elim
    (λ (e : count views arity k ≡ t). (k, omega arith, is, e))
    (λ (n : count views arity k ≡ t → ⊥). (let there = numbered views arity t k (omega arith) (omega arith) in (there.0, omega arith, there.2, there.3)))
    (cases_eq (count views arity k) t)))
    (λ (is : arity_at views k ≡ arity → ⊥).
    (let no = count-no views arity k (omega arith) is in
    let there = numbered views arity t k (omega arith) (omega arith) in
    (there.0, omega arith, there.2, there.3)))
    (cases_eq (arity_at views k) arity)

pub max-is : (a b : ℕ) → ord_max nat_cmp a b ≡ max a b
max-is a b = grind (arith, nat_tests)

-- the greatest value of a function below a number
abbrev pub most : (ℕ → ℕ) → ℕ → ℕ
most f zero = 0
most f (suc n) = max (most f n) (f n)

pub most_more : (f : ℕ → ℕ) (n top here : ℕ) → top ≡ fold max 0 (map f (range_with_len 0 n)) → here ≡ f n → max top here ≡ fold max 0 (map f (range_with_len 0 (n + 1)))
most_more f n top here is at =
    (λ i. max (is i) (at i)) ∙ sym (fold_push max 0 (map f (range_with_len 0 n)) (f n)) ∙ ap (fold max 0) (sym (map-range_with_len_more f 0 n n (omega arith)))

pub most-is : (f : ℕ → ℕ) (n : ℕ) → most f n ≡ fold max 0 (map f (range_with_len 0 n))
most-is f zero = refl
most-is f (suc n) = most_more f n (most f n) (f n) (most-is f n) refl ∙ ap (λ k. fold max 0 (map f (range_with_len 0 k))) (sym (suc-more n))

pub most-bounds : (f : ℕ → ℕ) (n k : ℕ) → k < n → f k ≤ most f n
most-bounds f zero k lt = absurd (omega arith)
most-bounds f (suc n) k lt =
    ⊎_elim (λ (e : k ≡ n). (let at = ap f e in omega arith)) (λ (d : k ≡ n → ⊥). (let below = most-bounds f n k (omega arith) in omega arith)) (cases_eq k n)

pub most-reached : (f : ℕ → ℕ) (n : ℕ) → 0 < most f n → (k : ℕ) × (k < n) × (f k ≡ most f n)
most-reached f zero some = absurd (omega arith)
most-reached f (suc n) some =
    ⊎_elim
    (λ (lt : most f n < f n). (n, omega arith, omega arith))
    (λ (le : f n ≤ most f n). (let there = most-reached f n (omega arith) in (there.0, omega arith, (let is = there.2 in omega arith))))
    (cases_lt (most f n) (f n))
