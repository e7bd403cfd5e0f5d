-- The slice of a plan agrees with the schema.
use Rattle.std.proofs.Common.{◌≡◌, ℕ, zero, suc, ◌+◌, ◌-◌, ◌<◌, ◌≤◌, Bool, true, false, not, cond, ◌&&◌, ◌||◌, List, [], ◌∷◌, ◌++◌, filter, map, length, refl, sym, ◌∙◌, ap, subst, arith, true≢false}
use Rattle.std.specs.Prelude.{nat_lt, nat_eq, ◌==◌, flat_map, option_to_list}
use Rattle.std.specs.List.{list_all, list_any, range_with_len, AllByRecursion}
use Rattle.std.proofs.lemmas.Bool.{and_parts, and_from, or_from, not-true, eqb-true, eq-eqb, ltb-true, lt-ltb, leb-true, false_from_ne_true}
use Rattle.fact_model.specs.Limits.{number_limit}
use Rattle.fact_model.specs.declared.fact.Value.TheVariants as value
use Rattle.fact_model.specs.declared.slice.Column.{Column}
use Rattle.fact_model.specs.declared.slice.Cond.{Cond}
use Rattle.fact_model.specs.declared.slice.Cond.TheVariants as conds
use Rattle.fact_model.specs.Slice.{attr_of}
use Rattle.cube_schema.specs.Agreeing.{IsOfKind}
use Rattle.cube_schema.specs.Kinds.{arity, kind_at, measure_count}
use Rattle.cube_schema.specs.Reading.{are_distinct}
use Rattle.cube_schema.specs.declared.schema.Kind.{Kind}
use Rattle.cube_schema.specs.declared.schema.Kind.TheVariants as kind
use Rattle.cube_schema.specs.declared.schema.Schema.{Schema}
use Rattle.cube_schema.proofs.Tests.{all-join}
use Rattle.slice_lang.specs.Agreeing.{FitsKind, SliceAgrees, is_column}
use Rattle.sql_slice.proofs.Members.{every-append}
use Rattle.sql_lang.specs.declared.query.Item.{Item}
use Rattle.sql_lang.specs.declared.query.Item.TheVariants as item
use Rattle.sql_lang.specs.declared.query.Operand.TheVariants as operand
use Rattle.sql_lang.specs.declared.query.Query.{Query}
use Rattle.sql_lang.specs.declared.query.Sign.TheVariants as sign
use Rattle.sql_lang.specs.declared.query.Test.{Test}
use Rattle.sql_lang.specs.declared.query.Test.TheVariants.{Compare, Between, OneOf}
use Rattle.sql_lang.specs.Agreeing.{SqlAgrees, fits_kind, is_item}
use Rattle.sql_slice.specs.Ends.{start_in, number_cond, number_end, end_in}
use Rattle.sql_slice.specs.Plans.{attrs_of, bounds, columns_in, cond_among, cond_of, cond_on, is_bound, is_more, numbers_in, or_count, plan_of, text_cond, texts_in, wanted}
use Rattle.sql_lang.specs.Reading.{is_grouped}
use Rattle.sql_lang.specs.Tests as tests
use Rattle.sql_slice.proofs.Among.{number_among}
use Rattle.sql_slice.proofs.EndLaws.{end_low}
use Rattle.sql_slice.proofs.PlanLaws.{fit-from, fits-on}

-- ---- columns

count-some : (cs : List Column) → 0 < length (or_count cs)
count-some [] = omega arith
count-some (c ∷ cs) = omega arith

columns-known : (s : Schema) (group : List ℕ) (items : List Item) → list_all (is_item s group) items ≡ true → list_all (is_column (measure_count s)) (columns_in items) ≡ true
columns-known s group [] h = refl
columns-known s group (item.Attr a ∷ items) h = columns-known s group items (and_parts (is_item s group (item.Attr a)) (list_all (is_item s group) items) h).1
columns-known s group (item.Column c ∷ items) h =
    let each = and_parts (is_item s group (item.Column c)) (list_all (is_item s group) items) h in
    and_from (is_column (measure_count s) c) (list_all (is_column (measure_count s)) (columns_in items)) each.0 (columns-known s group items each.1)

or_count-known : (n : ℕ) (cs : List Column) → list_all (is_column n) cs ≡ true → list_all (is_column n) (or_count cs) ≡ true
or_count-known n [] h = refl
or_count-known n (c ∷ cs) h = h

-- ---- groups

range-low : (k n most : ℕ) → k + n ≤ most → list_all (λ a. nat_lt a most) (range_with_len k n) ≡ true
range-low k zero most h = refl
range-low k (suc n) most h = and_from (nat_lt k most) (list_all (λ a. nat_lt a most) (range_with_len (k + 1) n)) (lt-ltb k most (omega arith)) (range-low (k + 1) n most (omega arith))

all-filter : (p test : ℕ → Bool) (atts : List ℕ) → list_all p atts ≡ true → list_all p (filter test atts) ≡ true
all-filter p test [] h = refl
all-filter p test (a ∷ atts) h =
    let each = and_parts (p a) (list_all p atts) h in
    elim (test a) as (λ b. list_all p (cond b (a ∷ filter test atts) (filter test atts)) ≡ true) [
      | true ↦ and_from (p a) (list_all p (filter test atts)) each.0 (all-filter p test atts each.1)
      | false ↦ all-filter p test atts each.1
    ]

-- the number stands nowhere
abbrev none : ℕ → List ℕ → Type 0
none a atts = list_any (nat_eq a) atts ≡ false

differ : (a b : ℕ) → (a ≡ b → ⊥) → nat_eq a b ≡ false
differ a b h = false_from_ne_true (nat_eq a b) (λ e. h (eqb-true a b e))

range-none : (a k n : ℕ) → a < k → none a (range_with_len k n)
range-none a k zero l = refl
range-none a k (suc n) l = or_from (nat_eq a k) (list_any (nat_eq a) (range_with_len (k + 1) n)) (differ a k (λ e. omega arith)) (range-none a (k + 1) n (omega arith))

none-filter : (a : ℕ) (test : ℕ → Bool) (atts : List ℕ) → none a atts → none a (filter test atts)
none-filter a test [] h = refl
none-filter a test (b ∷ atts) h =
    let parts = or-parts (nat_eq a b) (list_any (nat_eq a) atts) h in
    elim (test b) as (λ c. none a (cond c (b ∷ filter test atts) (filter test atts))) [
      | true ↦ or_from (nat_eq a b) (list_any (nat_eq a) (filter test atts)) parts.0 (none-filter a test atts parts.1)
      | false ↦ none-filter a test atts parts.1
    ]
  where
    or-parts : (p q : Bool) → (p || q) ≡ false → (p ≡ false) × (q ≡ false)
    or-parts true q e = cc
    or-parts false q e = (refl, e)

apart-cons : (a : ℕ) (atts : List ℕ) → none a atts → are_distinct nat_eq atts ≡ true → are_distinct nat_eq (a ∷ atts) ≡ true
apart-cons a atts n h = and_from (not (list_any (nat_eq a) atts)) (are_distinct nat_eq atts) (ap not n) h

range-apart : (test : ℕ → Bool) (k n : ℕ) → are_distinct nat_eq (filter test (range_with_len k n)) ≡ true
range-apart test k zero = refl
range-apart test k (suc n) = elim (test k) as (λ b. are_distinct nat_eq (cond b (k ∷ filter test (range_with_len (k + 1) n)) (filter test (range_with_len (k + 1) n))) ≡ true) [
  | true ↦ apart-cons k (filter test (range_with_len (k + 1) n)) (none-filter k test (range_with_len (k + 1) n) (range-none k (k + 1) n (omega arith))) (range-apart test (k + 1) n)
  | false ↦ range-apart test (k + 1) n
]

none-append : (a : ℕ) (atts bs : List ℕ) → none a atts → none a bs → none a (atts ++ bs)
none-append a [] bs h k = k
none-append a (b ∷ atts) bs h k = let parts = or-parts (nat_eq a b) (list_any (nat_eq a) atts) h in or_from (nat_eq a b) (list_any (nat_eq a) (atts ++ bs)) parts.0 (none-append a atts bs parts.1 k)
  where
    or-parts : (p q : Bool) → (p || q) ≡ false → (p ≡ false) × (q ≡ false)
    or-parts true q e = cc
    or-parts false q e = (refl, e)

apart-append : (atts bs : List ℕ) → are_distinct nat_eq atts ≡ true → are_distinct nat_eq bs ≡ true → AllByRecursion (λ a. none a bs) atts → are_distinct nat_eq (atts ++ bs) ≡ true
apart-append [] bs h k d = k
apart-append (a ∷ atts) bs h k d =
    let each = and_parts (not (list_any (nat_eq a) atts)) (are_distinct nat_eq atts) h in
    apart-cons a (atts ++ bs) (none-append a atts bs (not-true (list_any (nat_eq a) atts) each.0) d.0) (apart-append atts bs each.1 k d.1)

-- a group is no attribute more
more-none : (q : Query) (a : ℕ) (bs : List ℕ) → is_grouped q.group a ≡ true → none a (filter (is_more q) bs)
more-none q a [] h = refl
more-none q a (b ∷ bs) h = by (is_more q b) refl (more-none q a bs h)
  where
    by : (c : Bool) → is_more q b ≡ c → none a (filter (is_more q) bs) → none a (cond c (b ∷ filter (is_more q) bs) (filter (is_more q) bs))
    by false e rest = rest
    by true e rest = or_from (nat_eq a b) (list_any (nat_eq a) (filter (is_more q) bs))
        (differ a b (λ same. (let other : is_grouped q.group b ≡ false = not-true (is_grouped q.group b) (and_parts (tests_listed b) (not (is_grouped q.group b)) e).1 in
        let here : is_grouped q.group b ≡ true = ap (is_grouped q.group) (sym same) ∙ h in
        true≢false (sym here ∙ other))))
        rest
      where
        tests_listed : ℕ → Bool
        tests_listed c = list_any (λ t. tests.is_list t && tests.attr_of t == c) q.tests

groups-none : (q : Query) (all atts bs : List ℕ) → ((a : ℕ) → is_grouped atts a ≡ true → is_grouped q.group a ≡ true) → AllByRecursion (λ a. none a (filter (is_more q) bs)) atts
groups-none q all [] bs sub = tt
groups-none q all (a ∷ atts) bs sub = (
  more-none q a bs (sub a (ap (λ b. b || is_grouped atts a) (eq-eqb a a refl))),
  groups-none q all atts bs (λ b h. sub b (or-right (a == b) (is_grouped atts b) h)),
)
  where
    or-right : (p q : Bool) → q ≡ true → (p || q) ≡ true
    or-right true q h = refl
    or-right false q h = h

-- ---- conditions

-- at most one condition, on this attribute
abbrev OnlyOn : ℕ → List Cond → Type 0
OnlyOn a [] = Unit {0}
OnlyOn a (c ∷ []) = attr_of c ≡ a
OnlyOn a (c ∷ d ∷ cs) = ⊥

among-attr : (a : ℕ) (ns : List ℕ) → attr_of (cond_among a ns) ≡ a
among-attr a [] = refl
among-attr a (n ∷ []) = refl
among-attr a (n ∷ (m ∷ more)) = refl

cond-only : (ts : List Test) (a : ℕ) (k : Kind) → OnlyOn a (cond_on ts a k)
cond-only ts a (kind.Word most) = by (texts_in a ts)
  where
    by : (texts : List (List ℕ)) → OnlyOn a (text_cond a texts)
    by [] = tt
    by (text ∷ texts) = refl
cond-only ts a kind.Number =
    elim (is_bound a ts) as (λ b. OnlyOn a (cond b (cond_among a (numbers_in a ts) ∷ []) [])) [ true ↦ among-attr a (numbers_in a ts) | false ↦ tt ]

module _ (f : ℕ → List Cond) (only : (a : ℕ) → OnlyOn a (f a)) where
  conds-low : (most : ℕ) (atts : List ℕ) → list_all (λ a. nat_lt a most) atts ≡ true → list_all (λ c. nat_lt (attr_of c) most) (flat_map f atts) ≡ true
  conds-low most [] h = refl
  conds-low most (a ∷ atts) h =
      let each = and_parts (nat_lt a most) (list_all (λ a. nat_lt a most) atts) h in
      all-join (λ c. nat_lt (attr_of c) most) (f a) (flat_map f atts) (one (f a) (only a) each.0) (conds-low most atts each.1)
    where
      one : (cs : List Cond) → OnlyOn a cs → nat_lt a most ≡ true → list_all (λ c. nat_lt (attr_of c) most) cs ≡ true
      one [] o l = refl
      one (c ∷ []) o l = and_from (nat_lt (attr_of c) most) true (ap (λ k. nat_lt k most) o ∙ l) refl
      one (c ∷ d ∷ cs) o l = absurd o

  conds-none : (a k n : ℕ) → a < k → none a (map attr_of (flat_map f (range_with_len k n)))
  conds-none a k zero l = refl
  conds-none a k (suc n) l = one (f k) (only k) (conds-none a (k + 1) n (omega arith))
    where
      one : (cs : List Cond) → OnlyOn k cs → none a (map attr_of (flat_map f (range_with_len (k + 1) n))) → none a (map attr_of (cs ++ flat_map f (range_with_len (k + 1) n)))
      one [] o rest = rest
      one (c ∷ []) o rest = or_from (nat_eq a (attr_of c)) (list_any (nat_eq a) (map attr_of (flat_map f (range_with_len (k + 1) n)))) (ap (nat_eq a) o ∙ differ a k (λ e. omega arith)) rest
      one (c ∷ d ∷ cs) o rest = absurd o

  conds-apart : (k n : ℕ) → are_distinct nat_eq (map attr_of (flat_map f (range_with_len k n))) ≡ true
  conds-apart k zero = refl
  conds-apart k (suc n) = one (f k) (only k) (conds-apart (k + 1) n)
    where
      one : (cs : List Cond) → OnlyOn k cs → are_distinct nat_eq (map attr_of (flat_map f (range_with_len (k + 1) n))) ≡ true → are_distinct nat_eq (map attr_of (cs ++ flat_map f (range_with_len (k + 1) n))) ≡ true
      one [] o rest = rest
      one (c ∷ []) o rest = apart-cons (attr_of c) (map attr_of (flat_map f (range_with_len (k + 1) n))) (subst (λ a. none a (map attr_of (flat_map f (range_with_len (k + 1) n)))) (sym o) (conds-none k (k + 1) n (omega arith))) rest
      one (c ∷ d ∷ cs) o rest = absurd o

  conds-fit : (fits : Cond → Type 0) (atts : List ℕ) → ((a : ℕ) → AllByRecursion fits (f a)) → AllByRecursion fits (flat_map f atts)
  conds-fit fits [] h = tt
  conds-fit fits (a ∷ atts) h = every-append fits (f a) (flat_map f atts) (h a) (conds-fit fits atts h)

number-fits : (s : Schema) (a first past : ℕ) → kind_at s a ≡ kind.Number → past ≤ number_end → FitsKind (kind_at s (attr_of (number_cond a first past))) (number_cond a first past)
number-fits s a first past is low = by (nat_lt first past) refl
  where
    of-number : (n : ℕ) → n ≤ number_limit → IsOfKind (kind_at s a) (value.Number n)
    of-number n l = subst (λ (k : Kind). IsOfKind k (value.Number n)) (sym is) l

    by : (b : Bool) → nat_lt first past ≡ b
        → FitsKind (kind_at s (attr_of (cond b (cond (first + 1 == past) (conds.Equal a (value.Number first)) (conds.Between a first (past - 1))) (conds.Between a 1 0))))
        (cond b (cond (first + 1 == past) (conds.Equal a (value.Number first)) (conds.Between a first (past - 1))) (conds.Between a 1 0))
    by false e = (of-number 1 (omega arith), of-number 0 (omega arith))
    by true e =
        let l : first < past = ltb-true first past e in
        elim (first + 1 == past) as (λ c. FitsKind (kind_at s (attr_of (cond c (conds.Equal a (value.Number first)) (conds.Between a first (past - 1)))))
        (cond c (conds.Equal a (value.Number first)) (conds.Between a first (past - 1)))) [
          | true ↦ of-number first (omega arith)
          | false ↦ (of-number first (omega arith), of-number (past - 1) (omega arith))
        ]

-- a text that is wanted is short
wanted-short : (a most : ℕ) (ts : List Test) → list_all (λ t. not (bounds a t) || fits_kind (kind.Word most) t) ts ≡ true → AllByRecursion (λ text. length text ≤ 255) (texts_in a ts)
wanted-short a most [] h = tt
wanted-short a most (t ∷ ts) h =
    let each = and_parts (not (bounds a t) || fits_kind (kind.Word most) t) (list_all (λ t. not (bounds a t) || fits_kind (kind.Word most) t) ts) h in
    every-append (λ text. length text ≤ 255) (cond (bounds a t) (option_to_list (wanted t)) []) (texts_in a ts) (by (bounds a t) refl each.0) (wanted-short a most ts each.1)
  where
    short : (t : Test) → fits_kind (kind.Word most) t ≡ true → AllByRecursion (λ text. length text ≤ 255) (option_to_list (wanted t))
    short (Compare b sign.Equal (operand.Word text)) f = (leb-true (length text) 255 f, tt)
    short (Compare b sign.Equal (operand.Whole z)) f = tt
    short (Compare b sign.Less v) f = tt
    short (Compare b sign.LessEqual v) f = tt
    short (Compare b sign.More v) f = tt
    short (Compare b sign.MoreEqual v) f = tt
    short (Between b low high) f = tt
    short (OneOf b vs) f = tt

    by : (b : Bool) → bounds a t ≡ b → (not b || fits_kind (kind.Word most) t) ≡ true → AllByRecursion (λ text. length text ≤ 255) (cond b (option_to_list (wanted t)) [])
    by true e f = short t f
    by false e f = tt

abbrev Fits : Schema → Cond → Type 0
Fits s c = FitsKind (kind_at s (attr_of c)) c

cond-fits : (s : Schema) (ts : List Test) (a : ℕ) → list_all (λ t. not (bounds a t) || fits_kind (kind_at s a) t) ts ≡ true → AllByRecursion (Fits s) (cond_of s ts a)
cond-fits s ts a fit = by (kind_at s a) refl
  where
    text-fits : (most : ℕ) (texts : List (List ℕ)) → kind_at s a ≡ kind.Word most → AllByRecursion (λ text. length text ≤ 255) texts → AllByRecursion (Fits s) (text_cond a texts)
    text-fits most [] is h = tt
    text-fits most (text ∷ texts) is h = (subst (λ (k : Kind). IsOfKind k (value.Word text)) (sym is) h.0, tt)

    by : (k : Kind) → kind_at s a ≡ k → AllByRecursion (Fits s) (cond_on ts a k)
    by (kind.Word most) is = text-fits most (texts_in a ts) is (wanted-short a most ts (ap (λ k. list_all (λ t. not (bounds a t) || fits_kind k t) ts) (sym is) ∙ fit))
    by kind.Number is = elim (is_bound a ts) as (λ b. AllByRecursion (Fits s) (cond b (cond_among a (numbers_in a ts) ∷ []) [])) [
      | true ↦ (subst (Fits s) (sym (number_among a ts)) (number-fits s a (start_in a ts) (end_in a ts) is (end_low a ts)), tt)
      | false ↦ tt
    ]

-- ---- the slice

pub slice-agrees : (s : Schema) (q : Query) → SqlAgrees s q → SliceAgrees s (plan_of s q).slice
unfolding plan_of
slice-agrees s q is =
    let fit = fit-from s q.tests is.tests in
    let n = arity s in
    let f = cond_of s q.tests in
    let only : (a : ℕ) → OnlyOn a (f a) = λ a. cond-only q.tests a (kind_at s a) in
    record {
      some = count-some (columns_in q.items);
      columns = or_count-known (measure_count s) (columns_in q.items) (columns-known s q.group q.items is.items);
      group = all-join (λ a. nat_lt a n) q.group (filter (is_more q) (attrs_of s)) is.group (all-filter (λ a. nat_lt a n) (is_more q) (attrs_of s) (range-low 0 n n (omega arith)));
      group_apart = apart-append q.group (filter (is_more q) (attrs_of s)) is.group_apart (range-apart (is_more q) 0 n) (groups-none q q.group q.group (attrs_of s) (λ a h. h));
      conds = conds-low f only n (attrs_of s) (range-low 0 n n (omega arith));
      conds_apart = conds-apart f only 0 n;
      values = conds-fit f only (Fits s) (attrs_of s) (λ a. cond-fits s q.tests a (fits-on s a q.tests fit.kinds));
    }
