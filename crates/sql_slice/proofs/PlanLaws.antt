-- A fact meets the tests but those by IN exactly where it meets the conditions of the plan, unless two tests clash; and no fact meets tests that clash.
use Rattle.std.proofs.Common.{◌≡◌, ℕ, zero, suc, ◌+◌, ◌-◌, ◌<◌, ◌≤◌, Bool, true, false, not, cond, ◌&&◌, ◌||◌, List, [], ◌∷◌, ◌++◌, refl, sym, ◌∙◌, ap, arith, true≢false, inl, inr}
use Rattle.std.specs.Prelude.{nat_lt, nat_le, ◌==◌, flat_map, option_to_list}
use Rattle.std.specs.List.{list_all, list_any, range_with_len, AllByRecursion}
use Rattle.std.specs.Str.{bytes_eq}
use Rattle.std.specs.declared.cmp.Ordering.{Ordering}
use Rattle.std.specs.declared.cmp.Ordering.TheVariants as order
use Rattle.std.specs.Ordering.{nat_cmp, is_eq, MatchOrdering}
use Rattle.std.specs.Cmp.{Equal-is, ranks}
use Rattle.std.specs.Cmp.Lexicographic.{bytes_decides}
use Rattle.std.proofs.lemmas.Bool.{and_parts, and_from, or_from, cases_Bool, not-false, false_from_ne_true, eqb-true, eq-eqb, ltb-true, ltb-false}
use Rattle.std.proofs.lemmas.Bool.Decides.{nat_tests}
use Rattle.fact_model.specs.declared.fact.Fact.{Fact}
use Rattle.fact_model.specs.declared.fact.Value.{Value}
use Rattle.fact_model.specs.declared.fact.Value.TheVariants.{Word, Number}
use Rattle.fact_model.specs.declared.slice.Cond.TheVariants as conds
use Rattle.fact_model.specs.Fact.{value_at}
use Rattle.fact_model.specs.Slice.{meets, is_between}
use Rattle.fact_model.specs.Value.{same_value, value_cmp}
use Rattle.fact_model.proofs.ValueOrder.{value_cmp-IsAntisymmetric}
use Rattle.cube_schema.specs.Agreeing.{IsOfKind}
use Rattle.cube_schema.specs.Kinds.{arity, kind_at}
use Rattle.cube_schema.specs.declared.schema.Kind.{Kind}
use Rattle.cube_schema.specs.declared.schema.Kind.TheVariants as kind
use Rattle.cube_schema.specs.declared.schema.Schema.{Schema}
use Rattle.sql_lang.specs.declared.query.Operand.TheVariants as operand
use Rattle.sql_lang.specs.declared.query.Sign.TheVariants as sign
use Rattle.sql_lang.specs.declared.query.Test.{Test}
use Rattle.sql_lang.specs.declared.query.Test.TheVariants.{Compare, Between, OneOf}
use Rattle.sql_lang.specs.Agreeing.{fits_kind, is_test}
use Rattle.sql_slice.specs.Ends.{number_cond, start_in, end_in}
use Rattle.sql_slice.specs.Plans.{attrs_of, bounds, cond_among, numbers_in, wanted, texts_in, text_cond, is_bound, cond_on, cond_of, do_differ, clash_on, clash_of}
use Rattle.sql_lang.specs.Tests as tests
use Rattle.sql_lang.specs.Tests.{attr_of, is_list, passes, holds_ends}
use Rattle.sql_slice.proofs.Among.{number_among}
use Rattle.sql_slice.proofs.EndLaws.{number-ends}
use Rattle.sql_slice.proofs.Members.{every-map}
use Rattle.sql_slice.proofs.TextLaws.{is, text-wanted}

-- ---- tests of all members

and-true : (b : Bool) → (b && true) ≡ b
and-true true = refl
and-true false = refl

and-swap : (p q r s : Bool) → ((p && q) && (r && s)) ≡ ((p && r) && (q && s))
and-swap true true r s = refl
and-swap true false true s = refl
and-swap true false false s = refl
and-swap false q r s = refl

pub or-parts : (p q : Bool) → (p || q) ≡ false → (p ≡ false) × (q ≡ false)
or-parts true q h = cc
or-parts false q h = (refl, h)

and-assoc : (p q r : Bool) → (p && (q && r)) ≡ ((p && q) && r)
and-assoc true q r = refl
and-assoc false q r = refl

all-append : {Z : Type 0} (p : Z → Bool) (xs ys : List Z) → list_all p (xs ++ ys) ≡ (list_all p xs && list_all p ys)
all-append p [] ys = refl
all-append p (x ∷ xs) ys = ap (λ b. p x && b) (all-append p xs ys) ∙ and-assoc (p x) (list_all p xs) (list_all p ys)

module _ {X : Type 0} where
  pub all-same : (p q : X → Bool) (xs : List X) → ((x : X) → p x ≡ q x) → list_all p xs ≡ list_all q xs
  all-same p q [] h = refl
  all-same p q (x ∷ xs) h = (λ i. h x i && all-same p q xs h i)

  pub all-both : (p q : X → Bool) (xs : List X) → list_all (λ x. p x && q x) xs ≡ (list_all p xs && list_all q xs)
  all-both p q [] = refl
  all-both p q (x ∷ xs) = ap (λ b. (p x && q x) && b) (all-both p q xs) ∙ and-swap (p x) (q x) (list_all p xs) (list_all q xs)

  pub all-flat : {Y : Type 0} (p : Y → Bool) (f : X → List Y) (xs : List X) → list_all p (flat_map f xs) ≡ list_all (λ x. list_all p (f x)) xs
  all-flat p f [] = refl
  all-flat p f (x ∷ xs) = all-append p (f x) (flat_map f xs) ∙ ap (λ b. list_all p (f x) && b) (all-flat p f xs)

  all-true : (xs : List X) → list_all (λ x. true) xs ≡ true
  all-true [] = refl
  all-true (x ∷ xs) = all-true xs

-- the number is among these
abbrev pub has : List ℕ → ℕ → Bool
has atts a = list_any (λ b. b == a) atts

range-has : (k n a : ℕ) → k ≤ a → a < k + n → has (range_with_len k n) a ≡ true
range-has k zero a l m = absurd (omega arith)
range-has k (suc n) a l m = elim (cases_Bool (k == a)) [
  | inl e ↦ ap (λ b. b || has (range_with_len (k + 1) n) a) e
  | inr e ↦ ap (λ b. b || has (range_with_len (k + 1) n) a) e ∙ range-has (k + 1) n a (grind (arith, nat_tests)) (omega arith)
]

pub attrs-has : (s : Schema) (a : ℕ) → a < arity s → has (attrs_of s) a ≡ true
attrs-has s a l = range-has 0 (arity s) a (omega arith) (omega arith)

-- ---- each test by its attribute

module _ (v : ℕ → Value) where
  -- a test that is not on the attribute, or passes there
  abbrev passes_on : Test → ℕ → Bool
  passes_on t a = not (bounds a t) || passes t (v a)

  -- the test is by IN, or passes at its attribute
  abbrev passes_own : Test → Bool
  passes_own t = is_list t || passes t (v (attr_of t))

  -- a test by IN is on no attribute
  list-none : (t : Test) (atts : List ℕ) → is_list t ≡ true → list_all (passes_on t) atts ≡ true
  list-none t [] e = refl
  list-none t (a ∷ atts) e = (λ i. (not (not (e i) && attr_of t == a) || passes t (v a)) && list-none t atts e i)

  -- where the test is not by IN
  module _ (t : Test) (plain : is_list t ≡ false) where
    abbrev own : Bool
    own = passes t (v (attr_of t))

    abbrev is_other : ℕ → Bool
    is_other a = not (attr_of t == a) || own

    at-own : (a : ℕ) → passes_on t a ≡ is_other a
    at-own a = elim (cases_Bool (attr_of t == a)) [
      | inl e ↦ (λ i. not (not (plain i) && attr_of t == a) || passes t (v (sym (eqb-true (attr_of t) a e) i)))
      | inr e ↦ (λ i. not (not (plain i) && e i) || passes t (v a)) ∙ (λ i. not (sym e i) || own)
    ]

    others-true : (atts : List ℕ) → own ≡ true → list_all is_other atts ≡ true
    others-true [] o = refl
    others-true (a ∷ atts) o = (λ i. or-true (not (attr_of t == a)) own o i && others-true atts o i)
      where
        or-true : (p q : Bool) → q ≡ true → (p || q) ≡ true
        or-true true q h = refl
        or-true false q h = h

    others-false : (atts : List ℕ) → own ≡ false → has atts (attr_of t) ≡ true → list_all is_other atts ≡ false
    others-false [] o h = cc
    others-false (a ∷ atts) o h = elim (cases_Bool (a == attr_of t)) [
      | inl e ↦ (λ i. (not (eq-eqb (attr_of t) a (sym (eqb-true a (attr_of t) e)) i) || o i) && list_all is_other atts)
      | inr e ↦ ap (λ b. is_other a && b) (others-false atts o (ap (λ b. b || has atts (attr_of t)) (sym e) ∙ h)) ∙ and-false (is_other a)
    ]
      where
        and-false : (p : Bool) → (p && false) ≡ false
        and-false true = refl
        and-false false = refl

    plain-own : (atts : List ℕ) → has atts (attr_of t) ≡ true → list_all (passes_on t) atts ≡ own
    plain-own atts h = all-same (passes_on t) is_other atts at-own ∙ elim (cases_Bool own) [
      | inl e ↦ others-true atts e ∙ sym e
      | inr e ↦ others-false atts e h ∙ sym e
    ]

  test-own : (t : Test) (atts : List ℕ) → has atts (attr_of t) ≡ true → list_all (passes_on t) atts ≡ passes_own t
  test-own t atts h = elim (cases_Bool (is_list t)) [
    | inl e ↦ list-none t atts e ∙ ap (λ b. b || passes t (v (attr_of t))) (sym e)
    | inr e ↦ plain-own t e atts h ∙ ap (λ b. b || passes t (v (attr_of t))) (sym e)
  ]

  -- attribute by attribute, all tests are passed but those by IN
  by-attrs : (atts : List ℕ) (ts : List Test) → AllByRecursion (λ t. has atts (attr_of t) ≡ true) ts
      → list_all (λ a. list_all (λ t. passes_on t a) ts) atts ≡ list_all passes_own ts
  by-attrs atts [] h = all-true atts
  by-attrs atts (t ∷ ts) h =
      all-both (passes_on t) (λ a. list_all (λ t. passes_on t a) ts) atts
      ∙ (λ i. test-own t atts h.0 i && by-attrs atts ts h.1 i)

-- ---- numbers

equal-first : (first n past : ℕ) → past ≡ first + 1 → (is_eq (nat_cmp first n) && true) ≡ (nat_le first n && nat_lt n past)
equal-first first n past e = by (nat_cmp first n) (ranks first n)
  where
    less : first < n → false ≡ (nat_le first n && nat_lt n past)
    less l = grind (arith, nat_tests)

    same : first ≡ n → true ≡ (nat_le first n && nat_lt n past)
    same l = grind (arith, nat_tests)

    more : n < first → false ≡ (nat_le first n && nat_lt n past)
    more l = grind (arith, nat_tests)

    by : (r : Ordering) → MatchOrdering r (first < n) (first ≡ n) (n < first) → (is_eq r && true) ≡ (nat_le first n && nat_lt n past)
    by order.Less m = less m
    by order.Equal m = same m
    by order.Greater m = more m

between-ends : (first n past : ℕ) → first < past → ((nat_le first n && nat_le n (past - 1)) && true) ≡ (nat_le first n && nat_lt n past)
between-ends first n past l = grind (arith, nat_tests)

nothing-between : (first n past : ℕ) → past ≤ first → ((nat_le 1 n && nat_le n 0) && true) ≡ (nat_le first n && nat_lt n past)
nothing-between first n past l = grind (arith, nat_tests)

-- the condition is met exactly by the numbers from the first on that come before the end
number-cond_met : (a first past n : ℕ) (x : Fact) → value_at x a ≡ Number n → (meets (number_cond a first past) x && true) ≡ (nat_le first n && nat_lt n past)
number-cond_met a first past n x is = by (nat_lt first past) (first + 1 == past) refl refl
  where
    by : (b c : Bool) → nat_lt first past ≡ b → (first + 1 == past) ≡ c
        → (meets (cond b (cond c (conds.Equal a (Number first)) (conds.Between a first (past - 1))) (conds.Between a 1 0)) x && true) ≡ (nat_le first n && nat_lt n past)
    by true true e f = ap (λ w. same_value (Number first) w && true) is ∙ equal-first first n past (sym (eqb-true (first + 1) past f))
    by true false e f = ap (λ w. is_between first (past - 1) w && true) is ∙ between-ends first n past (ltb-true first past e)
    by false c e f = ap (λ w. is_between 1 0 w && true) is ∙ nothing-between first n past (ltb-false first past e)

-- ---- texts

same-texts : (u text : List ℕ) (texts : List (List ℕ)) → list_any (λ other. not (bytes_eq text other)) texts ≡ false → is u text ≡ true → list_all (is u) texts ≡ true
same-texts u text [] none here = refl
same-texts u text (other ∷ texts) none here =
    let parts = or-parts (not (bytes_eq text other)) (list_any (λ other. not (bytes_eq text other)) texts) none in
    let same : text ≡ other = (bytes_decides text other).0 (not-false (bytes_eq text other) parts.0) in
    and_from (is u other) (list_all (is u) texts) (ap (is u) (sym same) ∙ here) (same-texts u text texts parts.1 here)

-- where the texts do not differ, the first tells
first-text : (u : List ℕ) (a : ℕ) (texts : List (List ℕ)) (x : Fact) → value_at x a ≡ Word u → do_differ texts ≡ false → list_all (λ c. meets c x) (text_cond a texts) ≡ list_all (is u) texts
first-text u a [] x at none = refl
first-text u a (text ∷ texts) x at none = ap (λ w. same_value (Word text) w && true) at ∙ elim (cases_Bool (is u text)) [
  | inl e ↦ and-true (is u text) ∙ e ∙ sym (and_from (is u text) (list_all (is u) texts) e (same-texts u text texts (or-parts (not (bytes_eq text text)) (list_any (λ other. not (bytes_eq text other)) texts) none).1 e))
  | inr e ↦ (λ i. e i && true) ∙ (λ i. sym e i && list_all (is u) texts)
]

-- ---- one attribute

unbound : (a : ℕ) (ts : List Test) (v : Value) → is_bound a ts ≡ false → list_all (λ t. not (bounds a t) || passes t v) ts ≡ true
unbound a [] v none = refl
unbound a (t ∷ ts) v none =
    let parts = or-parts (bounds a t) (is_bound a ts) none in
    (λ i. (not (parts.0 i) || passes t v) && unbound a ts v parts.1 i)

-- the condition on an attribute is met exactly where all tests on it but those by IN are passed
cond-met : (a : ℕ) (k : Kind) (ts : List Test) (x : Fact) (v : Value) → value_at x a ≡ v → IsOfKind k v → list_all (λ t. not (bounds a t) || fits_kind k t) ts ≡ true → clash_on ts a k ≡ false
    → list_all (λ c. meets c x) (cond_on ts a k) ≡ list_all (λ t. not (bounds a t) || passes t v) ts
cond-met a (kind.Word most) ts x (Word u) at of fit none = first-text u a (texts_in a ts) x at none ∙ sym (text-wanted u most a ts fit)
cond-met a (kind.Word most) ts x (Number n) at of fit none = absurd of
cond-met a kind.Number ts x (Word u) at of fit none = absurd of
cond-met a kind.Number ts x (Number n) at of fit none = by (is_bound a ts) refl
  where
    by : (b : Bool) → is_bound a ts ≡ b → list_all (λ c. meets c x) (cond b (cond_among a (numbers_in a ts) ∷ []) []) ≡ list_all (λ t. not (bounds a t) || passes t (Number n)) ts
    by true e =
        ap (λ c. meets c x && true) (number_among a ts) ∙ number-cond_met a (start_in a ts) (end_in a ts) n x at ∙ sym (number-ends n of a ts)
    by false e = sym (unbound a ts (Number n) e)

-- ---- all attributes

-- tests that fit their attributes fit each attribute that they are on
pub fits-on : (s : Schema) (a : ℕ) (ts : List Test) → AllByRecursion (λ t. fits_kind (kind_at s (attr_of t)) t ≡ true) ts → list_all (λ t. not (bounds a t) || fits_kind (kind_at s a) t) ts ≡ true
fits-on s a [] h = refl
fits-on s a (t ∷ ts) h = and_from (not (bounds a t) || fits_kind (kind_at s a) t) (list_all (λ t. not (bounds a t) || fits_kind (kind_at s a) t) ts) (by (bounds a t) refl) (fits-on s a ts h.1)
  where
    by : (b : Bool) → bounds a t ≡ b → (not b || fits_kind (kind_at s a) t) ≡ true
    by false e = refl
    by true e = ap (λ k. fits_kind (kind_at s k) t) (sym (eqb-true (attr_of t) a (and_parts (not (is_list t)) (attr_of t == a) e).1)) ∙ h.0

-- where no attribute of a list passes, each fails
none-of : (p : ℕ → Bool) (atts : List ℕ) → list_any p atts ≡ false → AllByRecursion (λ a. p a ≡ false) atts
none-of p [] h = tt
none-of p (a ∷ atts) h = let parts = or-parts (p a) (list_any p atts) h in (parts.0, none-of p atts parts.1)

all-along : (p q : ℕ → Bool) (atts : List ℕ) → AllByRecursion (λ a. p a ≡ q a) atts → list_all p atts ≡ list_all q atts
all-along p q [] h = refl
all-along p q (a ∷ atts) h = (λ i. h.0 i && all-along p q atts h.1 i)

-- the tests are of declared attributes and fit them
pub record Fit (s : Schema) (ts : List Test) : Type 0 where
  pub declared : AllByRecursion (λ t. has (attrs_of s) (attr_of t) ≡ true) ts
  pub kinds : AllByRecursion (λ t. fits_kind (kind_at s (attr_of t)) t ≡ true) ts

pub fit-from : (s : Schema) (ts : List Test) → list_all (is_test s) ts ≡ true → Fit s ts
fit-from s [] h = record { declared = tt; kinds = tt }
fit-from s (t ∷ ts) h =
    let each = and_parts (is_test s t) (list_all (is_test s) ts) h in
    let here = and_parts (nat_lt (attr_of t) (arity s)) (fits_kind (kind_at s (attr_of t)) t) each.0 in
    let rest = fit-from s ts each.1 in
    record { declared = (attrs-has s (attr_of t) (ltb-true (attr_of t) (arity s) here.0), rest.declared); kinds = (here.1, rest.kinds) }

-- each value of the fact is of its attribute's kind
abbrev pub IsOfKinds : Schema → Fact → Type 0
IsOfKinds s x = (a : ℕ) → IsOfKind (kind_at s a) (value_at x a)

-- the conditions of the plan are met exactly where all tests but those by IN are
pub conds-met : (s : Schema) (ts : List Test) (x : Fact) → Fit s ts → IsOfKinds s x → list_any (clash_of s ts) (attrs_of s) ≡ false
    → list_all (λ c. meets c x) (flat_map (cond_of s ts) (attrs_of s)) ≡ holds_ends ts x
conds-met s ts x fit of none =
    all-flat (λ c. meets c x) (cond_of s ts) (attrs_of s)
    ∙ (all-along (λ a. list_all (λ c. meets c x) (cond_of s ts a)) (λ a. list_all (λ t. not (bounds a t) || passes t (value_at x a)) ts) (attrs_of s)
    (every-map (λ a. clash_of s ts a ≡ false) (λ a. list_all (λ c. meets c x) (cond_of s ts a) ≡ list_all (λ t. not (bounds a t) || passes t (value_at x a)) ts)
    (λ a e. cond-met a (kind_at s a) ts x (value_at x a) refl (of a) (fits-on s a ts fit.kinds) e) (attrs_of s) (none-of (clash_of s ts) (attrs_of s) none))
    ∙ by-attrs (value_at x) (attrs_of s) ts fit.declared)

-- ---- tests that clash

-- a text that is wanted is that of the fact
wants : (t : Test) (x : Fact) → tests.meets t x ≡ true → list_all (λ text. same_value (Word text) (value_at x (attr_of t))) (option_to_list (wanted t)) ≡ true
wants (Compare a sign.Equal (operand.Word text)) x h = and-true (same_value (Word text) (value_at x a)) ∙ h
wants (Compare a sign.Equal (operand.Whole z)) x h = refl
wants (Compare a sign.Less v) x h = refl
wants (Compare a sign.LessEqual v) x h = refl
wants (Compare a sign.More v) x h = refl
wants (Compare a sign.MoreEqual v) x h = refl
wants (Between a low high) x h = refl
wants (OneOf a vs) x h = refl

all-wanted : (a : ℕ) (ts : List Test) (x : Fact) → tests.holds ts x ≡ true → list_all (λ text. same_value (Word text) (value_at x a)) (texts_in a ts) ≡ true
all-wanted a [] x h = refl
all-wanted a (t ∷ ts) x h =
    let each = and_parts (tests.meets t x) (tests.holds ts x) h in
    all-append (λ text. same_value (Word text) (value_at x a)) (cond (bounds a t) (option_to_list (wanted t)) []) (texts_in a ts)
    ∙ and_from (list_all (λ text. same_value (Word text) (value_at x a)) (cond (bounds a t) (option_to_list (wanted t)) [])) (list_all (λ text. same_value (Word text) (value_at x a)) (texts_in a ts))
    (by (bounds a t) refl each.0) (all-wanted a ts x each.1)
  where
    by : (b : Bool) → bounds a t ≡ b → tests.meets t x ≡ true → list_all (λ text. same_value (Word text) (value_at x a)) (cond b (option_to_list (wanted t)) []) ≡ true
    by false e m = refl
    by true e m =
        ap (λ k. list_all (λ text. same_value (Word text) (value_at x k)) (option_to_list (wanted t))) (sym (eqb-true (attr_of t) a (and_parts (not (is_list t)) (attr_of t == a) e).1))
        ∙ wants t x m

-- texts that are all one value do not differ
one-value : (v : Value) (text : List ℕ) (texts : List (List ℕ)) → same_value (Word text) v ≡ true → list_all (λ other. same_value (Word other) v) texts ≡ true
    → list_any (λ other. not (bytes_eq text other)) texts ≡ false
one-value v text [] here h = refl
one-value v text (other ∷ texts) here h =
    let each = and_parts (same_value (Word other) v) (list_all (λ other. same_value (Word other) v) texts) h in
    let first : Word text ≡ v = value_cmp-IsAntisymmetric (Word text) v ((Equal-is (value_cmp (Word text) v)).0 here) in
    let next : Word other ≡ v = value_cmp-IsAntisymmetric (Word other) v ((Equal-is (value_cmp (Word other) v)).0 each.0) in
    let alike : text ≡ other = one-text text other (first ∙ sym next) in
    or_from (not (bytes_eq text other)) (list_any (λ other. not (bytes_eq text other)) texts) (ap not ((bytes_decides text other).1 alike)) (one-value v text texts here each.1)
  where
    one-text : (a b : List ℕ) → Word a ≡ Word b → a ≡ b
    one-text a b e = cc

no-difference : (v : Value) (texts : List (List ℕ)) → list_all (λ text. same_value (Word text) v) texts ≡ true → do_differ texts ≡ false
no-difference v [] h = refl
no-difference v (text ∷ texts) h = one-value v text (text ∷ texts) (and_parts (same_value (Word text) v) (list_all (λ text. same_value (Word text) v) texts) h).0 h

no-clash : (s : Schema) (ts : List Test) (x : Fact) (atts : List ℕ) → tests.holds ts x ≡ true → list_any (clash_of s ts) atts ≡ false
no-clash s ts x [] h = refl
no-clash s ts x (a ∷ atts) h = or_from (clash_of s ts a) (list_any (clash_of s ts) atts) (by (kind_at s a)) (no-clash s ts x atts h)
  where
    by : (k : Kind) → clash_on ts a k ≡ false
    by (kind.Word most) = no-difference (value_at x a) (texts_in a ts) (all-wanted a ts x h)
    by kind.Number = refl

-- no fact meets tests that clash
pub clash-fails : (s : Schema) (ts : List Test) → list_any (clash_of s ts) (attrs_of s) ≡ true → (x : Fact) → tests.holds ts x ≡ false
clash-fails s ts clash x = false_from_ne_true (tests.holds ts x) (λ h. true≢false (sym clash ∙ no-clash s ts x (attrs_of s) h))
