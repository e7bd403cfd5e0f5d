-- The extended schema and the base slice: that they are lawful, and where the slice's attributes come from.
use Rattle.std.proofs.Common.{◌≡◌, ℕ, zero, suc, ◌+◌, ◌-◌, ◌<◌, ◌≤◌, ◌||◌, Bool, true, false, not, cond, List, [], ◌∷◌, map, length, filter, get_or, nat_eq, nat_lt, refl, sym, ◌∙◌, ap, subst, arith, true≢false, inl, inr}
use Rattle.std.proofs.lemmas.Bool.{and_parts, and_from, cases_lt}
use Rattle.std.proofs.lemmas.Bool.Decides.{nat_tests}
use Rattle.std.proofs.lemmas.List.{length-append, length-map}
use Rattle.std.proofs.lemmas.List.Elements.{recursion_from_All}
use Rattle.std.specs.List.{AllByRecursion, list_all, list_any, range_with_len}
use Rattle.cube_schema.specs.Kinds.{arity, kind_at, no_attr}
use Rattle.cube_schema.specs.Reading.{are_distinct}
use Rattle.cube_schema.specs.declared.schema.Attr.{Attr}
use Rattle.cube_schema.specs.declared.schema.Schema.{Schema}
use Rattle.fact_model.specs.Slice.{attr_of}
use Rattle.fact_model.specs.declared.slice.Slice.{Slice}
use Rattle.slice_lang.specs.Agreeing.{SliceAgrees, FitsKind}
use Rattle.spec_points.specs.Agree.{among}
use Rattle.spec_points.proofs.Members.{all-every, every-map, every-filter, every-both}
use Rattle.roll_up.specs.Bases.{base, is_on_attr, source_of, sources}
use Rattle.roll_up.specs.Levels.{Fit, IsLevelOf, as_attr, extended}
use Rattle.roll_up.specs.declared.level.Level.{Level}
use Rattle.roll_up.proofs.Bases.{ComeFrom}
use Rattle.roll_up.proofs.Lifts.{low-source, high-source, get_or-front}

lt-from : (m n : ℕ) → nat_lt m n ≡ true → m < n
lt-from m n e = grind (arith, nat_tests)

lt-to : (m n : ℕ) → m < n → nat_lt m n ≡ true
lt-to m n l = grind (arith, nat_tests)

-- ---- sources

attr-low : (n : ℕ) (levels : List Level) (i : ℕ) → i < length levels → AllByRecursion (λ (l : Level). l.attr < n) levels → get_or (map (λ (l : Level). l.attr) levels) i 0 < n
attr-low n [] i l h = absurd (omega arith)
attr-low n (v ∷ levels) zero l h = h.0
attr-low n (v ∷ levels) (suc i) l h = attr-low n levels i (omega arith) h.1

source-low : (n : ℕ) (levels : List Level) → AllByRecursion (λ (l : Level). l.attr < n) levels → (a : ℕ) → a < n + length levels → source_of n levels a < n
source-low n levels h a l = elim (cases_lt a n) [
  | inl low ↦ subst (λ b. b < n) (sym (low-source n levels a low)) low
  | inr high ↦ subst (λ b. b < n) (sym (high-source n levels a high)) (attr-low n levels (a - n) (omega (arith, l, high)) h)
]

module _ (schema : Schema) (levels : List Level) (s : Slice) (fit : Fit schema levels) (agrees : SliceAgrees (extended schema levels) s) where
  extended-arity : arity (extended schema levels) ≡ arity schema + length levels
  extended-arity = length-append schema.attrs (map as_attr levels) ∙ ap (λ k. arity schema + k) (length-map levels as_attr)

  attrs-low : AllByRecursion (λ (l : Level). l.attr < arity schema) levels
  attrs-low = every-map (IsLevelOf schema) (λ (l : Level). l.attr < arity schema) (λ l h. lt-from l.attr (arity schema) h.declared) levels (recursion_from_All (IsLevelOf schema) levels fit.each)

  from-low : (a : ℕ) → nat_lt a (arity (extended schema levels)) ≡ true → source_of (arity schema) levels a < arity schema
  from-low a e = source-low (arity schema) levels attrs-low a (omega (arith, lt-from a (arity (extended schema levels)) e, extended-arity))

  -- what is asked for comes from attributes that there are
  pub come-from : ComeFrom (arity schema) levels s
  come-from = record {
    group = every-map (λ a. nat_lt a (arity (extended schema levels)) ≡ true) (λ a. source_of (arity schema) levels a < arity schema) from-low s.group (all-every (λ a. nat_lt a (arity (extended schema levels))) s.group agrees.group);
    conds = every-map (λ c. nat_lt (attr_of c) (arity (extended schema levels)) ≡ true) (λ c. source_of (arity schema) levels (attr_of c) < arity schema) (λ c e. from-low (attr_of c) e) s.conds
        (all-every (λ c. nat_lt (attr_of c) (arity (extended schema levels))) s.conds agrees.conds);
  }

-- ---- the base slice agrees

range-low : (p : ℕ → Bool) (n from count : ℕ) → from + count ≤ n → list_all (λ a. nat_lt a n) (filter p (range_with_len from count)) ≡ true
range-low p n from zero l = refl
range-low p n from (suc count) l = by (p from) (range-low p n (from + 1) count (omega (arith, l)))
  where
    by : (b : Bool) → list_all (λ a. nat_lt a n) (filter p (range_with_len (from + 1) count)) ≡ true
        → list_all (λ a. nat_lt a n) (cond b (from ∷ filter p (range_with_len (from + 1) count)) (filter p (range_with_len (from + 1) count))) ≡ true
    by true h = and_from (nat_lt from n) (list_all (λ a. nat_lt a n) (filter p (range_with_len (from + 1) count))) (lt-to from n (omega (arith, l))) h
    by false h = h

not-later : (p : ℕ → Bool) (a from count : ℕ) → a < from → list_any (nat_eq a) (filter p (range_with_len from count)) ≡ false
not-later p a from zero l = refl
not-later p a from (suc count) l = by (p from) (not-later p a (from + 1) count (omega (arith, l)))
  where
    other : nat_eq a from ≡ false
    other = grind (arith, nat_tests)

    by : (b : Bool) → list_any (nat_eq a) (filter p (range_with_len (from + 1) count)) ≡ false
        → list_any (nat_eq a) (cond b (from ∷ filter p (range_with_len (from + 1) count)) (filter p (range_with_len (from + 1) count))) ≡ false
    by true h = ap (λ b. b || list_any (nat_eq a) (filter p (range_with_len (from + 1) count))) other ∙ h
    by false h = h

range-apart : (p : ℕ → Bool) (from count : ℕ) → are_distinct nat_eq (filter p (range_with_len from count)) ≡ true
range-apart p from zero = refl
range-apart p from (suc count) = by (p from) (range-apart p (from + 1) count)
  where
    by : (b : Bool) → are_distinct nat_eq (filter p (range_with_len (from + 1) count)) ≡ true
        → are_distinct nat_eq (cond b (from ∷ filter p (range_with_len (from + 1) count)) (filter p (range_with_len (from + 1) count))) ≡ true
    by true h = and_from _ _ (ap not (not-later p from (from + 1) count (omega arith))) h
    by false h = h

filter-all : {X : Type 0} (p : X → Bool) (xs : List X) → list_all p (filter p xs) ≡ true
filter-all p [] = refl
filter-all p (x ∷ xs) = by (p x) refl (filter-all p xs)
  where
    by : (b : Bool) → p x ≡ b → list_all p (filter p xs) ≡ true → list_all p (cond b (x ∷ filter p xs) (filter p xs)) ≡ true
    by true e rest = and_from (p x) (list_all p (filter p xs)) e rest
    by false e rest = rest

not-among-some : {X : Type 0} (f : X → ℕ) (p : X → Bool) (a : ℕ) (xs : List X) → list_any (nat_eq a) (map f xs) ≡ false → list_any (nat_eq a) (map f (filter p xs)) ≡ false
not-among-some f p a [] h = refl
not-among-some f p a (x ∷ xs) h = by (nat_eq a (f x)) refl (not-among-some f p a xs)
  where
    by : (b : Bool) → nat_eq a (f x) ≡ b → (list_any (nat_eq a) (map f xs) ≡ false → list_any (nat_eq a) (map f (filter p xs)) ≡ false) → list_any (nat_eq a) (map f (filter p (x ∷ xs))) ≡ false
    by true e others = absurd (true≢false (sym (ap (λ b. b || list_any (nat_eq a) (map f xs)) e) ∙ h))
    by false e others =
        let rest = others (sym (ap (λ b. b || list_any (nat_eq a) (map f xs)) e) ∙ h) in
        elim (p x) as (λ b. list_any (nat_eq a) (map f (cond b (x ∷ filter p xs) (filter p xs))) ≡ false) [
          | true ↦ ap (λ b. b || list_any (nat_eq a) (map f (filter p xs))) e ∙ rest
          | false ↦ rest
        ]

some-apart : {X : Type 0} (f : X → ℕ) (p : X → Bool) (xs : List X) → are_distinct nat_eq (map f xs) ≡ true → are_distinct nat_eq (map f (filter p xs)) ≡ true
some-apart f p [] h = refl
some-apart f p (x ∷ xs) h =
    let both = and_parts (not (list_any (nat_eq (f x)) (map f xs))) (are_distinct nat_eq (map f xs)) h in
    let rest = some-apart f p xs both.1 in
    elim (p x) as (λ b. are_distinct nat_eq (map f (cond b (x ∷ filter p xs) (filter p xs))) ≡ true) [
      | true ↦ and_from _ _ (ap not (not-among-some f p (f x) xs (none (list_any (nat_eq (f x)) (map f xs)) both.0))) rest
      | false ↦ rest
    ]
  where
    none : (b : Bool) → not b ≡ true → b ≡ false
    none true e = absurd (true≢false (sym e))
    none false e = refl

module _ (schema : Schema) (levels : List Level) (s : Slice) (agrees : SliceAgrees (extended schema levels) s) where
  kind-same : (a : ℕ) → a < arity schema → kind_at (extended schema levels) a ≡ kind_at schema a
  kind-same a l = ap (λ (x : Attr). x.kind) (get_or-front schema.attrs (map as_attr levels) a no_attr l)

  pub base-agrees : SliceAgrees schema (base (arity schema) levels s)
  base-agrees = record {
    some = agrees.some;
    columns = agrees.columns;
    group = range-low (among (sources (arity schema) levels s)) (arity schema) 0 (arity schema) (omega arith);
    group_apart = range-apart (among (sources (arity schema) levels s)) 0 (arity schema);
    conds = filter-all (is_on_attr (arity schema)) s.conds;
    conds_apart = some-apart attr_of (is_on_attr (arity schema)) s.conds agrees.conds_apart;
    values =
        every-map (λ c. (is_on_attr (arity schema) c ≡ true) × FitsKind (kind_at (extended schema levels) (attr_of c)) c) (λ c. FitsKind (kind_at schema (attr_of c)) c)
        (λ c h. subst (λ k. FitsKind k c) (kind-same (attr_of c) (lt-from (attr_of c) (arity schema) h.0)) h.1) (filter (is_on_attr (arity schema)) s.conds)
        (every-both (λ c. is_on_attr (arity schema) c ≡ true) (λ c. FitsKind (kind_at (extended schema levels) (attr_of c)) c) (filter (is_on_attr (arity schema)) s.conds)
        (all-every (is_on_attr (arity schema)) (filter (is_on_attr (arity schema)) s.conds) (filter-all (is_on_attr (arity schema)) s.conds))
        (every-filter (λ c. FitsKind (kind_at (extended schema levels) (attr_of c)) c) (is_on_attr (arity schema)) s.conds agrees.values));
  }
