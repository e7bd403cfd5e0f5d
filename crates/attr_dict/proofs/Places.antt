-- The places of texts among names.
use Rattle.std.proofs.Common.{◌≡◌, ℕ, zero, suc, ◌+◌, ◌<◌, ◌≤◌, Bool, true, false, not, ◌||◌, cond, List, [], ◌∷◌, ◌++◌, Option, Some, None, length, take, refl, sym, ap, ◌∙◌, ⊎_elim, arith}
use Rattle.std.specs.Prelude.{nat_lt, is_some, option_map, position, unwrap_or}
use Rattle.std.specs.List.{list_any, position_or_len}
use Rattle.std.specs.Str.{bytes_eq}
use Rattle.std.specs.Cmp.Lexicographic.{bytes_decides}
use Rattle.std.proofs.lemmas.Bool.{true≢false, cond-false, lt-ltb, le-ltb, cases_lt}
use Rattle.spec_points.specs.Codes.{Text, place}

known-some : (o : Option ℕ) → is_some (option_map suc o) ≡ is_some o
known-some None = refl
known-some (Some n) = refl

-- a text has a place where it is one of the names
pub place-known : (t : Text) (ns : List Text) → is_some (place bytes_eq t ns) ≡ list_any (bytes_eq t) ns
place-known t [] = refl
place-known t (n ∷ ns) =
    elim (bytes_eq t n) as (λ b. is_some (cond b (Some 0) (option_map suc (place bytes_eq t ns))) ≡ (b || list_any (bytes_eq t) ns)) [ true ↦ refl | false ↦ known-some (place bytes_eq t ns) ∙ place-known t ns ]

next-lt : (k n : ℕ) → nat_lt (1 + k) (suc n) ≡ nat_lt k n
next-lt k n =
    ⊎_elim (λ (lt : k < n). lt-ltb (1 + k) (suc n) (omega arith) ∙ sym (lt-ltb k n lt)) (λ (le : n ≤ k). le-ltb (1 + k) (suc n) (omega arith) ∙ sym (le-ltb k n le)) (cases_lt k n)

next-place : (b : Bool) (k : ℕ) → cond b (Some (1 + k)) None ≡ option_map suc (cond b (Some k) None)
next-place true k = ap (λ n. Some n) (omega arith)
next-place false k = refl

-- the place is the position
pub place-position : (t : Text) (ns : List Text) → place bytes_eq t ns ≡ position (bytes_eq t) ns
place-position t [] = refl
place-position t (n ∷ ns) =
    elim (bytes_eq t n) as (λ b. cond b (Some 0) (option_map suc (place bytes_eq t ns))
    ≡ cond (nat_lt (cond (not b) (1 + position_or_len (bytes_eq t) ns) 0) (suc (length ns))) (Some (cond (not b) (1 + position_or_len (bytes_eq t) ns) 0)) None) [
      | true ↦ sym (ap (λ c. cond c (Some 0) None) (lt-ltb 0 (suc (length ns)) (omega arith)))
      | false ↦
          (let k = position_or_len (bytes_eq t) ns in
          ap (option_map suc) (place-position t ns) ∙ sym (next-place (nat_lt k (length ns)) k) ∙ ap (λ c. cond c (Some (1 + k)) None) (sym (next-lt k (length ns))))
    ]

-- the code of a position
pub code-at : (t : Text) (ns : List Text) (k : ℕ) → Some k ≡ position (bytes_eq t) ns → Some (k + 1) ≡ option_map suc (place bytes_eq t ns)
code-at t ns k is = ap (λ n. Some n) (omega arith) ∙ ap (option_map suc) (is ∙ sym (place-position t ns))

pub no-code : (t : Text) (ns : List Text) → None ≡ position (bytes_eq t) ns → None ≡ option_map suc (place bytes_eq t ns)
no-code t ns is = ap (option_map suc) (is ∙ sym (place-position t ns))

-- a text with a code is one of the names
pub coded-known : (t : Text) (ns : List Text) (c : ℕ) → Some c ≡ option_map suc (place bytes_eq t ns) → list_any (bytes_eq t) ns ≡ true
coded-known t ns c is = sym (place-known t ns) ∙ sym (known-some (place bytes_eq t ns)) ∙ ap is_some (sym is)

pub uncoded-new : (t : Text) (ns : List Text) → None ≡ option_map suc (place bytes_eq t ns) → list_any (bytes_eq t) ns ≡ false
uncoded-new t ns is = sym (place-known t ns) ∙ sym (known-some (place bytes_eq t ns)) ∙ ap is_some (sym is)

-- a new text has the place behind the names
pub place-behind : (t : Text) (ns : List Text) → list_any (bytes_eq t) ns ≡ false → place bytes_eq t (ns ++ t ∷ []) ≡ Some (length ns)
place-behind t [] new = ap (λ b. cond b (Some 0) None) ((bytes_decides t t).1 refl)
place-behind t (n ∷ ns) new =
    elim (bytes_eq t n) as (λ b. (b || list_any (bytes_eq t) ns) ≡ false → cond b (Some 0) (option_map suc (place bytes_eq t (ns ++ t ∷ []))) ≡ Some (suc (length ns))) [
      | true ↦ λ e. absurd (true≢false e)
      | false ↦ λ e. ap (option_map suc) (place-behind t ns e)
    ] new

pub position-behind : (t : Text) (ns : List Text) → list_any (bytes_eq t) ns ≡ false → position_or_len (bytes_eq t) ns ≡ length ns
position-behind t [] new = refl
position-behind t (n ∷ ns) new =
    elim (bytes_eq t n) as (λ b. (b || list_any (bytes_eq t) ns) ≡ false → cond (not b) (1 + position_or_len (bytes_eq t) ns) 0 ≡ suc (length ns)) [
      | true ↦ λ e. absurd (true≢false e)
      | false ↦ λ e. (let rest = position-behind t ns e in omega arith)
    ] new

-- a new text that is put behind the names
pub added-names : (t copy : Text) (ns keys new : List Text) → copy ≡ t → keys ≡ ns → list_any (bytes_eq t) ns ≡ false → new ≡ cond (list_any (bytes_eq copy) keys) keys (keys ++ copy ∷ []) → new ≡ ns ++ t ∷ []
added-names t copy ns keys new copied same fresh is =
    is ∙ (λ i. cond (list_any (bytes_eq (copied i)) (same i)) (same i) (same i ++ copied i ∷ [])) ∙ cond-false (list_any (bytes_eq t) ns) ns (ns ++ t ∷ []) fresh

pub added-code : (t copy : Text) (ns keys new : List Text) (k : ℕ) → copy ≡ t → keys ≡ ns → list_any (bytes_eq t) ns ≡ false → new ≡ ns ++ t ∷ [] → k ≡ position_or_len (bytes_eq copy) keys
    → Some (k + 1) ≡ option_map suc (place bytes_eq t new)
added-code t copy ns keys new k copied same fresh is at =
    let place-is : k ≡ length ns = at ∙ (λ i. position_or_len (bytes_eq (copied i)) (same i)) ∙ position-behind t ns fresh in
    ap (λ n. Some n) (omega arith) ∙ ap (option_map suc) (sym (place-behind t ns fresh) ∙ ap (place bytes_eq t) (sym is))

-- ---- among the first names

-- a place below this number, or none
abbrev pub below : ℕ → Option ℕ → Option ℕ
below len None = None
below len (Some k) = cond (nat_lt k len) (Some k) None

below-none : (o : Option ℕ) → below zero o ≡ None
below-none None = refl
below-none (Some k) = ap (λ b. cond b (Some k) None) (le-ltb k 0 (omega arith))

below-next : (len : ℕ) (o : Option ℕ) → option_map suc (below len o) ≡ below (suc len) (option_map suc o)
below-next len None = refl
below-next len (Some k) = sym (next-place (nat_lt k len) k) ∙ ((λ i. cond (sym (next-lt k len) i) (Some (1 + k)) None) ∙ ap (λ n. cond (nat_lt n (suc len)) (Some n) None) (omega arith))

-- the place of a text among the first names is its place, where that is one of theirs
pub place-take : (t : Text) (len : ℕ) (ns : List Text) → place bytes_eq t (take len ns) ≡ below len (place bytes_eq t ns)
place-take t zero ns = sym (below-none (place bytes_eq t ns))
place-take t (suc len) [] = refl
place-take t (suc len) (n ∷ ns) =
    elim (bytes_eq t n) as (λ b. cond b (Some 0) (option_map suc (place bytes_eq t (take len ns))) ≡ below (suc len) (cond b (Some 0) (option_map suc (place bytes_eq t ns)))) [
      | true ↦ sym (ap (λ b. cond b (Some 0) None) (lt-ltb 0 (suc len) (omega arith)))
      | false ↦ ap (option_map suc) (place-take t len ns) ∙ below-next len (place bytes_eq t ns)
    ]

module _ (t : Text) (len : ℕ) (ns : List Text) where
  -- so is its code
  code-take : option_map suc (place bytes_eq t (take len ns)) ≡ option_map suc (below len (place bytes_eq t ns))
  code-take = ap (option_map suc) (place-take t len ns)

  pub no-front_code : None ≡ option_map suc (place bytes_eq t ns) → None ≡ option_map suc (place bytes_eq t (take len ns))
  no-front_code is = by (place bytes_eq t ns) is ∙ sym code-take
    where
      by : (o : Option ℕ) → None ≡ option_map suc o → None ≡ option_map suc (below len o)
      by None e = refl
      by (Some k) e = cc

  module _ (c : ℕ) (is : Some c ≡ option_map suc (place bytes_eq t ns)) where
    next : (k : ℕ) → Some c ≡ Some (suc k) → c ≡ suc k
    next k e = ap (λ o. unwrap_or o 0) e

    pub front-code : c ≤ len → Some c ≡ option_map suc (place bytes_eq t (take len ns))
    front-code low = by (place bytes_eq t ns) is ∙ sym code-take
      where
        by : (o : Option ℕ) → Some c ≡ option_map suc o → Some c ≡ option_map suc (below len o)
        by None e = cc
        by (Some k) e = e ∙ ap (λ b. option_map suc (cond b (Some k) None)) (sym (lt-ltb k len (omega (arith, low, next k e))))

    pub behind-code : len < c → None ≡ option_map suc (place bytes_eq t (take len ns))
    behind-code high = by (place bytes_eq t ns) is ∙ sym code-take
      where
        by : (o : Option ℕ) → Some c ≡ option_map suc o → None ≡ option_map suc (below len o)
        by None e = cc
        by (Some k) e = ap (λ b. option_map suc (cond b (Some k) None)) (sym (le-ltb k len (omega (arith, high, next k e))))
