-- The records of the rows of the plan's slice are the reply to the query.
use Rattle.std.proofs.Common.{◌≡◌, ℕ, zero, suc, Bool, true, false, not, cond, ◌&&◌, ◌||◌, List, [], ◌∷◌, ◌++◌, map, filter, length, get_or, Some, Result, Ok, Err, ℤ, refl, sym, ◌∙◌, ap, arith, inl, inr}
use Rattle.std.specs.Prelude.{IfOk, ◌==◌}
use Rattle.std.specs.List.{All, AllZip, AllByRecursion, list_any}
use Rattle.std.specs.Fmt.{signed_decimal}
use Rattle.std.proofs.lemmas.List.Elements.{recursion_from_All}
use Rattle.std.proofs.lemmas.Bool.{cases_Bool, eqb-true, eq-eqb}
use Rattle.fact_model.specs.declared.fact.Fact.{Fact}
use Rattle.fact_model.specs.declared.fact.Value.{Value}
use Rattle.fact_model.specs.declared.fact.Value.TheVariants.{Number}
use Rattle.fact_model.specs.declared.slice.Column.{Column}
use Rattle.fact_model.specs.declared.slice.Row.{Row}
use Rattle.fact_model.specs.declared.slice.Slice.{Slice}
use Rattle.fact_model.specs.Distinct.{distinct}
use Rattle.fact_model.specs.Fact.{key_of, value_at}
use Rattle.fact_model.specs.Groups.{groups, having}
use Rattle.fact_model.specs.Rows.{rows, number_of, numbers_of}
use Rattle.fact_model.specs.Slice as slices
use Rattle.fact_model.specs.Value.{Key, key_cmp}
use Rattle.cube_schema.specs.Agreeing.{Agrees, IsOfKind}
use Rattle.cube_schema.specs.Kinds.{no_attr}
use Rattle.cube_schema.specs.declared.schema.Attr.{Attr}
use Rattle.cube_schema.specs.declared.schema.Schema.{Schema}
use Rattle.sql_slice.proofs.Members.{every-map, filter-same}
use Rattle.sql_lang.specs.declared.query.Item.{Item}
use Rattle.sql_lang.specs.declared.query.Item.TheVariants as item
use Rattle.sql_slice.specs.declared.planned.Plan.{Plan}
use Rattle.sql_lang.specs.declared.query.Query.{Query}
use Rattle.sql_lang.specs.declared.query.Test.{Test}
use Rattle.sql_lang.specs.Agreeing.{SqlAgrees}
use Rattle.sql_slice.specs.Plans.{plan_of, slice_for, attrs_of, base_group, is_more, is_listed, columns_in, or_count, clash_of}
use Rattle.sql_lang.specs.Reading.{is_grouped}
use Rattle.sql_slice.specs.RowFold.{joined_rows, key_passes, found_passes, laid, laid_entry}
use Rattle.sql_slice.specs.SqlRows.{value_in, found_text, field, record_of, sqlrows, records_text, sql_reply}
use Rattle.sql_lang.specs.Tests.{attr_of, is_list, meets, holds, holds_ends, holds_lists}
use Rattle.sql_slice.proofs.FoldLaws.{folded-rows}
use Rattle.sql_slice.proofs.PlanLaws.{has, all-same, all-both, Fit, fit-from, IsOfKinds, conds-met, clash-fails}

-- ---- values of facts

kind-at : (attrs : List Attr) (values : List Value) → AllZip (λ (attr : Attr) value. IsOfKind attr.kind value) attrs values → (a : ℕ) → IsOfKind (get_or attrs a no_attr).kind (get_or values a (Number 0))
kind-at [] [] h a = omega arith
kind-at [] (v ∷ values) h a = absurd h
kind-at (attr ∷ attrs) [] h a = absurd h
kind-at (attr ∷ attrs) (v ∷ values) h zero = h.0
kind-at (attr ∷ attrs) (v ∷ values) h (suc a) = kind-at attrs values h.1 a

pub kinds-of : (s : Schema) (x : Fact) → Agrees s x → IsOfKinds s x
kinds-of s x agrees a = kind-at s.attrs x.values agrees.values a

-- a grouped value is that of the fact
value-there : (group : List ℕ) (a : ℕ) (x : Fact) → has group a ≡ true → value_in group (key_of group x) a ≡ Some (value_at x a)
value-there [] a x h = cc
value-there (g ∷ group) a x h = elim (cases_Bool (g == a)) [
  | inl e ↦ ap (λ b. cond b (Some (value_at x g)) (value_in group (key_of group x) a)) e ∙ ap (λ k. Some (value_at x k)) (eqb-true g a e)
  | inr e ↦ ap (λ b. cond b (Some (value_at x g)) (value_in group (key_of group x) a)) e ∙ value-there group a x (ap (λ b. b || has group a) (sym e) ∙ h)
]

-- ---- tests by IN

has-append : (atts bs : List ℕ) (a : ℕ) → has (atts ++ bs) a ≡ (has atts a || has bs a)
has-append [] bs a = refl
has-append (b ∷ atts) bs a = ap (λ c. (b == a) || c) (has-append atts bs a) ∙ or-assoc (b == a) (has atts a) (has bs a)
  where
    or-assoc : (p q r : Bool) → (p || (q || r)) ≡ ((p || q) || r)
    or-assoc true q r = refl
    or-assoc false q r = refl

has-filter : (p : ℕ → Bool) (atts : List ℕ) (a : ℕ) → has atts a ≡ true → p a ≡ true → has (filter p atts) a ≡ true
has-filter p [] a h t = cc
has-filter p (b ∷ atts) a h t = elim (cases_Bool (b == a)) [
  | inl e ↦ (λ i. has (cond (ap p (eqb-true b a e) i) (b ∷ filter p atts) (filter p atts)) a) ∙ (λ i. has (cond (t i) (b ∷ filter p atts) (filter p atts)) a) ∙ ap (λ c. c || has (filter p atts) a) e
  | inr e ↦ skip (p b) e (has-filter p atts a (ap (λ c. c || has atts a) (sym e) ∙ h) t)
]
  where
    skip : (c : Bool) → (b == a) ≡ false → has (filter p atts) a ≡ true → has (cond c (b ∷ filter p atts) (filter p atts)) a ≡ true
    skip true e r = ap (λ d. d || has (filter p atts) a) e ∙ r
    skip false e r = r

-- an attribute of IN is among the groups of the base slice
listed-has : (s : Schema) (q : Query) (a : ℕ) → has (attrs_of s) a ≡ true → is_listed q.tests a ≡ true → has (base_group s q) a ≡ true
listed-has s q a h l = has-append q.group (filter (is_more q) (attrs_of s)) a ∙ elim (cases_Bool (is_grouped q.group a)) [
  | inl e ↦ ap (λ b. b || has (filter (is_more q) (attrs_of s)) a) e
  | inr e ↦ (λ i. e i || has (filter (is_more q) (attrs_of s)) a) ∙ has-filter (is_more q) (attrs_of s) a h (λ i. both l e i)
]
  where
    both : is_listed q.tests a ≡ true → is_grouped q.group a ≡ false → is_more q a ≡ true
    both l e = (λ i. l i && not (e i))

-- where each attribute of IN is among the attributes, a key of a fact passes the tests by IN exactly where the fact does
abbrev Listed : List ℕ → List Test → Type 0
Listed group [] = Unit {0}
Listed group (t ∷ ts) = (is_list t ≡ true → has group (attr_of t) ≡ true) × Listed group ts

passes-met : (group : List ℕ) (ts : List Test) (x : Fact) → Listed group ts → key_passes group ts (key_of group x) ≡ holds_lists ts x
passes-met group [] x h = refl
passes-met group (t ∷ ts) x h = (λ i. here i && passes-met group ts x h.1 i)
  where
    here : (not (is_list t) || found_passes t (value_in group (key_of group x) (attr_of t))) ≡ (not (is_list t) || meets t x)
    here = elim (cases_Bool (is_list t)) [
      | inl e ↦ ap (λ v. not (is_list t) || found_passes t v) (value-there group (attr_of t) x (h.0 e))
      | inr e ↦ (λ i. not (e i) || found_passes t (value_in group (key_of group x) (attr_of t))) ∙ (λ i. not (sym e i) || meets t x)
    ]

listed-own : (t : Test) (ts : List Test) → is_list t ≡ true → is_listed (t ∷ ts) (attr_of t) ≡ true
listed-own t ts e = (λ i. (e i && eq-eqb (attr_of t) (attr_of t) refl i) || is_listed ts (attr_of t))

listed-more : (t : Test) (ts : List Test) (a : ℕ) → is_listed ts a ≡ true → is_listed (t ∷ ts) a ≡ true
listed-more t ts a l = or-right (is_list t && attr_of t == a) (is_listed ts a) l
  where
    or-right : (p q : Bool) → q ≡ true → (p || q) ≡ true
    or-right true q h = refl
    or-right false q h = h

-- each attribute of IN is among the groups of the base slice
listed-all : (s : Schema) (q : Query) (ts : List Test) → ((a : ℕ) → is_listed ts a ≡ true → is_listed q.tests a ≡ true)
    → AllByRecursion (λ t. has (attrs_of s) (attr_of t) ≡ true) ts → Listed (base_group s q) ts
listed-all s q [] sub h = tt
listed-all s q (t ∷ ts) sub h =
    ((λ e. listed-has s q (attr_of t) h.0 (sub (attr_of t) (listed-own t ts e))), listed-all s q ts (λ a l. sub a (listed-more t ts a l)) h.1)

-- ---- facts that are kept

both-ways : (l m : Bool) → ((l || m) && (not l || m)) ≡ m
both-ways true m = refl
both-ways false true = refl
both-ways false false = refl

ends-lists : (ts : List Test) (x : Fact) → (holds_ends ts x && holds_lists ts x) ≡ holds ts x
ends-lists ts x =
    sym (all-both (λ t. is_list t || meets t x) (λ t. not (is_list t) || meets t x) ts)
    ∙ all-same (λ t. (is_list t || meets t x) && (not (is_list t) || meets t x)) (λ t. meets t x) ts (λ t. both-ways (is_list t) (meets t x))

-- a fact meets the conditions of the plan's slice, and its key passes, exactly where it meets the tests
kept-met : (s : Schema) (q : Query) (x : Fact) → Fit s q.tests → IsOfKinds s x → list_any (clash_of s q.tests) (attrs_of s) ≡ false
    → (slices.holds (slice_for s q) x && key_passes (base_group s q) q.tests (key_of (base_group s q) x)) ≡ holds q.tests x
kept-met s q x fit of none =
    (λ i. conds-met s q.tests x fit of none i && passes-met (base_group s q) q.tests x (listed-all s q q.tests (λ a l. l) fit.declared) i)
    ∙ ends-lists q.tests x

-- ---- records

no-columns : (group : List ℕ) (items : List Item) (key : Key) (ns : List ℤ) (facts : List Fact) → columns_in items ≡ [] → laid group items key ns ≡ map (field group key facts) items
no-columns group [] key ns facts e = refl
no-columns group (item.Attr a ∷ items) key ns facts e = ap (λ fs. found_text (value_in group key a) ∷ fs) (no-columns group items key ns facts e)
no-columns group (item.Column c ∷ items) key ns facts e = cc

with-columns : (group : List ℕ) (items : List Item) (key : Key) (facts : List Fact) → laid group items key (numbers_of (columns_in items) facts) ≡ map (field group key facts) items
with-columns group [] key facts = refl
with-columns group (item.Attr a ∷ items) key facts = ap (λ fs. found_text (value_in group key a) ∷ fs) (with-columns group items key facts)
with-columns group (item.Column c ∷ items) key facts = ap (λ fs. signed_decimal (number_of facts c) ∷ fs) (with-columns group items key facts)

laid-fields : (group : List ℕ) (items : List Item) (key : Key) (facts : List Fact) → laid group items key (numbers_of (or_count (columns_in items)) facts) ≡ map (field group key facts) items
laid-fields group items key facts = by (columns_in items) refl
  where
    by : (cs : List Column) → columns_in items ≡ cs → laid group items key (numbers_of (or_count cs) facts) ≡ map (field group key facts) items
    by [] e = no-columns group items key (numbers_of (or_count []) facts) facts e
    by (c ∷ cs) e = ap (λ ds. laid group items key (numbers_of ds facts)) (sym e) ∙ with-columns group items key facts

module _ (q : Query) (own : Key → List Fact) where
  records-same : (keys : List Key) → map (laid_entry q) (map (λ k. (k, numbers_of (or_count (columns_in q.items)) (own k))) keys) ≡ map (record_of q) (map (λ k. (k, own k)) keys)
  records-same [] = refl
  records-same (k ∷ keys) = (λ i. laid-fields q.group q.items k (own k) i ∷ records-same keys i)

-- ---- the reply

-- the records of the rows of the plan's slice
laid-rows : (s : Schema) (q : Query) (facts : List Fact) → SqlAgrees s q → All (Agrees s) facts → list_any (clash_of s q.tests) (attrs_of s) ≡ false
    → map (laid_entry q) (joined_rows (slice_for s q).columns (length q.group) (slice_for s q).group q.tests (rows facts (slice_for s q))) ≡ sqlrows facts q
laid-rows s q facts agrees each none =
    let fit = fit-from s q.tests agrees.tests in
    let sl : Slice = slice_for s q in
    let kept : Fact → Bool = λ x. slices.holds sl x && key_passes sl.group q.tests (key_of sl.group x) in
    let same : filter kept facts ≡ filter (holds q.tests) facts = filter-same kept (holds q.tests) facts
    (every-map (Agrees s) (λ x. kept x ≡ holds q.tests x) (λ x a. kept-met s q x fit (kinds-of s x a) none) facts (recursion_from_All (Agrees s) facts each)) in
    ap (map (laid_entry q)) (folded-rows sl q.group (filter (is_more q) (attrs_of s)) refl q.tests facts
    ∙ ap (groups key_cmp (key_of q.group) (numbers_of sl.columns)) same)
    ∙ records-same q (λ k. having key_cmp (key_of q.group) k (filter (holds q.tests) facts)) (distinct key_cmp (map (key_of q.group) (filter (holds q.tests) facts)))

pub reply-of : {E : Type 0} (result : Result (List ℕ) E) (s : Schema) (q : Query) (plan : Plan) (found : List Row) (facts : List Fact)
    → IfOk result (λ text. text ≡ records_text (map (laid_entry q) (joined_rows plan.slice.columns (length q.group) plan.slice.group q.tests found)))
    → SqlAgrees s q → plan ≡ plan_of s q → All (Agrees s) facts → plan.empty ≡ false → found ≡ rows facts plan.slice
    → IfOk result (λ text. text ≡ sql_reply facts q)
unfolding plan_of sql_reply
reply-of (Err e) s q plan found facts is agrees planned each some from = is
reply-of (Ok text) s q plan found facts is agrees planned each some from =
    is
    ∙ ap (λ rs. records_text (map (laid_entry q) (joined_rows plan.slice.columns (length q.group) plan.slice.group q.tests rs))) from
    ∙ ap (λ (p : Plan). records_text (map (laid_entry q) (joined_rows p.slice.columns (length q.group) p.slice.group q.tests (rows facts p.slice)))) planned
    ∙ ap records_text (laid-rows s q facts agrees each (sym (ap (λ (p : Plan). p.empty) planned) ∙ some))

-- no fact is kept where two tests clash
none-kept : (p : Fact → Bool) (facts : List Fact) → ((x : Fact) → p x ≡ false) → filter p facts ≡ []
none-kept p [] h = refl
none-kept p (x ∷ facts) h = (λ i. cond (h x i) (x ∷ filter p facts) (filter p facts)) ∙ none-kept p facts h

pub no-records : (s : Schema) (q : Query) (facts : List Fact) → (plan_of s q).empty ≡ true → sqlrows facts q ≡ []
unfolding plan_of
no-records s q facts clash = ap (λ xs. map (record_of q) (groups key_cmp (key_of q.group) (λ ys. ys) xs)) (none-kept (holds q.tests) facts (clash-fails s q.tests clash))

pub reply-of_none : {E : Type 0} (result : Result (List ℕ) E) (s : Schema) (q : Query) (plan : Plan) (found : List Row) (facts : List Fact)
    → IfOk result (λ text. text ≡ records_text (map (laid_entry q) (joined_rows plan.slice.columns (length q.group) plan.slice.group q.tests found)))
    → plan ≡ plan_of s q → plan.empty ≡ true → found ≡ []
    → IfOk result (λ text. text ≡ sql_reply facts q)
unfolding sql_reply
reply-of_none (Err e) s q plan found facts is planned clash from = is
reply-of_none (Ok text) s q plan found facts is planned clash from =
    is
    ∙ ap (λ rs. records_text (map (laid_entry q) (joined_rows plan.slice.columns (length q.group) plan.slice.group q.tests rs))) from
    ∙ ap records_text (sym (no-records s q facts (sym (ap (λ (p : Plan). p.empty) planned) ∙ clash)))
