-- What is read agrees with the schema.
use Rattle.std.proofs.Common.{◌≡◌, ℕ, zero, suc, ◌+◌, ◌<◌, ◌^◌, Bool, true, false, cond, ◌&&◌, ◌||◌, List, [], ◌∷◌, ◌++◌, map, length, Option, Some, None, Ok, Err, ℤ, pos, neg_ℤ, refl, sym, ◌∙◌, ap, subst, arith, inl, inr}
use Rattle.std.specs.Prelude.{IfOk, ◌==◌, nat_lt, nat_le, nat_eq, option_map, codes, if◌then◌else◌}
use Rattle.std.specs.Str.{bytes_eq}
use Rattle.std.specs.List.{AllByRecursion, list_all}
use Rattle.std.specs.Str.Parse.{without_leading_sign, starts_with_minus, digits_value, signed_digits_value}
use Rattle.std.proofs.lemmas.Bool.{and_parts, and_from, cases_Bool, eq-eqb, eqb-true, lt-ltb, not-true}
use Rattle.std.proofs.lemmas.List.{append-nil, length_push}
use Rattle.fact_model.specs.Number.{number_in, is_numeral}
use Rattle.fact_model.specs.declared.slice.Column.{Column}
use Rattle.fact_model.specs.declared.slice.Column.TheVariants as column
use Rattle.cube_schema.specs.Kinds.{arity, kind_at, measure_count}
use Rattle.cube_schema.specs.Reading.{are_distinct, number_of, measure_number}
use Rattle.cube_schema.proofs.Numbers.{found-below, number-below}
use Rattle.cube_schema.proofs.Tests.{all-join, distinct-insert}
use Rattle.cube_schema.specs.declared.schema.Kind.{Kind}
use Rattle.cube_schema.specs.declared.schema.Kind.TheVariants as kind
use Rattle.cube_schema.specs.declared.schema.Schema.{Schema}
use Rattle.sql_lang.specs.declared.draft.Draft.{Draft}
use Rattle.sql_lang.specs.declared.draft.Due.{Due}
use Rattle.sql_lang.specs.declared.draft.Due.TheVariants as due
use Rattle.sql_lang.specs.declared.draft.Fold.{Fold}
use Rattle.sql_lang.specs.declared.draft.Fold.TheVariants.{Sum, Min, Max}
use Rattle.sql_lang.specs.declared.draft.Named.{Named}
use Rattle.sql_lang.specs.declared.draft.Reader.{Reader}
use Rattle.sql_lang.specs.declared.query.Item.{Item}
use Rattle.sql_lang.specs.declared.query.Item.TheVariants as item
use Rattle.sql_lang.specs.declared.query.Operand.{Operand}
use Rattle.sql_lang.specs.declared.query.Operand.TheVariants as operand
use Rattle.sql_lang.specs.declared.query.Query.{Query}
use Rattle.sql_lang.specs.declared.query.Sign.{Sign}
use Rattle.sql_lang.specs.declared.query.Test.{Test}
use Rattle.sql_lang.specs.declared.query.Test.TheVariants as test
use Rattle.sql_lang.specs.declared.refusal.SqlRefusal.TheVariants as refused
use Rattle.sql_lang.specs.declared.token.Token.{Token}
use Rattle.sql_lang.specs.Agreeing.{SqlAgrees, is_item, is_number, is_of_kind, is_small, is_test}
use Rattle.slice_lang.specs.Agreeing.{is_column}
use Rattle.sql_lang.specs.Answers.{Answers, Reading, ◌>>=◌, judged, or_refused}
use Rattle.sql_lang.specs.Drafting.{AgreesSoFar, Declared, DueAgrees, HasItem, ReaderAgrees, has_attr, is_read}
use Rattle.sql_lang.specs.Reading.{along, along_or, attr_rules, column_ways, clause_ways, fresh_rules, group_ways, item_ways, measure_rules, only, sign_ways, table_rules, test_ways, at_close, at_due, at_group, at_high, at_item, at_low, at_measure, at_member, at_more_members, at_sign, at_table, at_test, at_value, attr_at, bound_at, bound_in, column_over, goes, group_rules, is_equal, is_grouped, is_literal, measure_at, misfit, nothing, operand_at, operand_in, query_in, query_of, read_on, with_attr, with_group, with_item, with_test}
use Rattle.sql_lang.proofs.Answered.{Hold, bound-ok, chosen-ok, judged-ok, made, some-chosen, some-ok}
use Rattle.sql_lang.specs.Tokens.{end_at, is_mark, is_quoted, is_whole, is_word, tokens_of}

-- what holds of each way, and of what else there is, holds behind the token
along_or-keeps : (P : Reader → Type 0) (d : Draft) (ways : List (Bool × Due)) (other : Reading Reader) (r : Reader)
    → AllByRecursion (λ (way : Bool × Due). P (goes d way.1)) ways → (other ≡ Ok r → P r) → along_or d ways other ≡ Ok r → P r
along_or-keeps P d [] other r h f e = f e
along_or-keeps P d (way ∷ ways) other r h f e =
    elim way.0 as (λ b. (if b then Ok (goes d way.1) else along_or d ways other) ≡ Ok r → P r) [
      | true ↦ λ g. (let same : goes d way.1 ≡ r = cc in subst P same h.0)
      | false ↦ λ g. along_or-keeps P d ways other r h.1 f g
    ] e

along-keeps : (P : Reader → Type 0) (d : Draft) (t : Token) (ways : List (Bool × Due)) (r : Reader) → AllByRecursion (λ (way : Bool × Due). P (goes d way.1)) ways → along d t ways ≡ Ok r → P r
along-keeps P d t ways r h e = along_or-keeps P d ways (misfit t) r h (λ f. cc) e

-- ---- names and literals

attr-known : (s : Schema) (t : Token) (a : ℕ) → attr_at s t ≡ Ok a → Declared s a
attr-known s t a e =
    let ok = judged-ok (number_of s t.text) a (attr_rules s t) e in
    sym (ap (λ k. nat_lt k (arity s)) ok.0) ∙ lt-ltb (number_of s t.text) (arity s) (number-below s t.text ok.1.1.0)

measure-known : (s : Schema) (fold : Fold) (t : Token) (m : ℕ) → measure_at s t ≡ Ok m → is_column (measure_count s) (column_over fold m) ≡ true
measure-known s fold t m e =
    let ok = judged-ok (measure_number s t.text) m (measure_rules s t) e in
    by fold ∙ sym (ap (λ k. nat_lt k (measure_count s)) ok.0) ∙ lt-ltb (measure_number s t.text) (measure_count s) (found-below (λ m. bytes_eq m t.text) s.measures ok.1.1.0)
  where
    by : (f : Fold) → is_column (measure_count s) (column_over f m) ≡ nat_lt m (measure_count s)
    by Sum = refl
    by Min = refl
    by Max = refl

-- what `read_number` reads is small
number-small : (text : List ℕ) (z : ℤ) → number_in text ≡ Some z → is_small z ≡ true
number-small text z e =
    let digits = without_leading_sign text in
    let test = is_numeral digits && nat_lt (digits_value 10 digits) (2 ^ 127) in
    let ok = some-chosen test (signed_digits_value 10 text) z e in
    let parts = and_parts (is_numeral digits) (nat_lt (digits_value 10 digits) (2 ^ 127)) ok.0 in
    ap is_small (sym ok.1) ∙ either (starts_with_minus text) (digits_value 10 digits) parts.1
  where
    negative : (n : ℕ) → nat_lt n (2 ^ 127) ≡ true → is_small (neg_ℤ (pos n)) ≡ true
    negative zero h = h
    negative (suc n) h = h

    either : (b : Bool) (n : ℕ) → nat_lt n (2 ^ 127) ≡ true → is_small (cond b (neg_ℤ (pos n)) (pos n)) ≡ true
    either true n h = negative n h
    either false n h = h

operand-known : (k : Kind) (exact : Bool) (t : Token) (v : Operand) → operand_in k exact t ≡ Some v → is_of_kind k v ≡ true × ((exact || is_number k) ≡ true)
operand-known (kind.Word max) exact t v e =
    let ok = some-chosen (exact && is_quoted t && nat_le (length t.text) 255) (operand.Word t.text) v e in
    let parts = and_parts (exact && is_quoted t) (nat_le (length t.text) 255) ok.0 in
    (sym (ap (is_of_kind (kind.Word max)) ok.1) ∙ parts.1, or-true exact (and_parts exact (is_quoted t) parts.0).0)
  where
    or-true : (b : Bool) → b ≡ true → (b || false) ≡ true
    or-true b h = ap (λ c. c || false) h
operand-known kind.Number exact t v e = (by (is_whole t) e, or-number exact)
  where
    or-number : (b : Bool) → (b || true) ≡ true
    or-number true = refl
    or-number false = refl

    whole : (found : Option ℤ) → number_in t.text ≡ found → option_map operand.Whole found ≡ Some v → is_of_kind kind.Number v ≡ true
    whole None f g = cc
    whole (Some z) f g = (let same : operand.Whole z ≡ v = cc in sym (ap (is_of_kind kind.Number) same) ∙ number-small t.text z f)

    by : (b : Bool) → option_map operand.Whole (if b then number_in t.text else None) ≡ Some v → is_of_kind kind.Number v ≡ true
    by true f = whole (number_in t.text) refl f
    by false f = cc

bound-known : (k : Kind) (t : Token) (z : ℤ) → bound_in k t ≡ Some z → (is_number k ≡ true) × (is_small z ≡ true)
bound-known (kind.Word max) t z e = cc
bound-known kind.Number t z e = (refl, number-small t.text z (by (is_whole t) e))
  where
    by : (b : Bool) → (if b then number_in t.text else None) ≡ Some z → number_in t.text ≡ Some z
    by true f = f
    by false f = cc

operand-at : (s : Schema) (a : ℕ) (exact : Bool) (t : Token) (v : Operand) → operand_at s a exact t ≡ Ok v → (is_of_kind (kind_at s a) v ≡ true) × ((exact || is_number (kind_at s a)) ≡ true)
operand-at s a exact t v e =
    let ok = chosen-ok (is_literal t) (or_refused (refused.Value t.byte) (operand_in (kind_at s a) exact t)) (refused.Syntax t.byte) v e in
    operand-known (kind_at s a) exact t v (some-ok (refused.Value t.byte) (operand_in (kind_at s a) exact t) v ok.1)

bound-at : (s : Schema) (a : ℕ) (t : Token) (z : ℤ) → bound_at s a t ≡ Ok z → (is_number (kind_at s a) ≡ true) × (is_small z ≡ true)
bound-at s a t z e =
    let ok = chosen-ok (is_literal t) (or_refused (refused.Value t.byte) (bound_in (kind_at s a) t)) (refused.Syntax t.byte) z e in
    bound-known (kind_at s a) t z (some-ok (refused.Value t.byte) (bound_in (kind_at s a) t) z ok.1)

-- ---- one thing more

all-more : {X : Type 0} (p : X → Bool) (xs : List X) (x : X) → list_all p xs ≡ true → p x ≡ true → list_all p (xs ++ x ∷ []) ≡ true
all-more p xs x h e = all-join p xs (x ∷ []) h (and_from (p x) true e refl)

item-more : (d : List Item) (x : Item) → 0 < length (d ++ x ∷ [])
item-more d x = omega (arith, length_push d x)

module _ (s : Schema) (d : Draft) (agrees : AgreesSoFar s d) where
  column-more : (c : Column) → is_column (measure_count s) c ≡ true → AgreesSoFar s (with_item d (item.Column c))
  column-more c e = record { items = all-more (is_read s d.named) d.items (item.Column c) agrees.items e; group = agrees.group; group_apart = agrees.group_apart; tests = agrees.tests }

  still-read : (n : Named) (x : Item) → is_read s d.named x ≡ true → is_read s (d.named ++ n ∷ []) x ≡ true
  still-read n (item.Column c) e = e
  still-read n (item.Attr a) e =
      let parts = and_parts (nat_lt a (arity s)) (has_attr d.named a) e in
      and_from (nat_lt a (arity s)) (has_attr (d.named ++ n ∷ []) a) parts.0 (any-more d.named parts.1)
    where
      any-more : (ns : List Named) → has_attr ns a ≡ true → has_attr (ns ++ n ∷ []) a ≡ true
      any-more [] h = cc
      any-more (m ∷ ns) h = elim (cases_Bool (m.attr == a)) [
        | inl f ↦ ap (λ b. b || has_attr (ns ++ n ∷ []) a) f
        | inr f ↦ ap (λ b. b || has_attr (ns ++ n ∷ []) a) f ∙ any-more ns (ap (λ b. b || has_attr ns a) (sym f) ∙ h)
      ]

  all-still : (n : Named) (xs : List Item) → list_all (is_read s d.named) xs ≡ true → list_all (is_read s (d.named ++ n ∷ [])) xs ≡ true
  all-still n [] h = refl
  all-still n (x ∷ xs) h = let parts = and_parts (is_read s d.named x) (list_all (is_read s d.named) xs) h in
      and_from (is_read s (d.named ++ n ∷ []) x) (list_all (is_read s (d.named ++ n ∷ [])) xs) (still-read n x parts.0) (all-still n xs parts.1)

  named-last : (ns : List Named) (a byte : ℕ) → has_attr (ns ++ record { attr = a; byte = byte } ∷ []) a ≡ true
  named-last [] a byte = ap (λ b. b || false) (eq-eqb a a refl)
  named-last (n ∷ ns) a byte = or-right (n.attr == a) (has_attr (ns ++ record { attr = a; byte = byte } ∷ []) a) (named-last ns a byte)
    where
      or-right : (p q : Bool) → q ≡ true → (p || q) ≡ true
      or-right true q h = refl
      or-right false q h = h

  attr-more : (a byte : ℕ) → Declared s a → AgreesSoFar s (with_attr d a byte)
  attr-more a byte low = record {
    items = all-more (is_read s (d.named ++ record { attr = a; byte = byte } ∷ [])) d.items (item.Attr a) (all-still (record { attr = a; byte = byte }) d.items agrees.items)
        (and_from (nat_lt a (arity s)) (has_attr (d.named ++ record { attr = a; byte = byte } ∷ []) a) low (named-last d.named a byte));
    group = agrees.group;
    group_apart = agrees.group_apart;
    tests = agrees.tests;
  }

  test-more : (t : Test) → is_test s t ≡ true → AgreesSoFar s (with_test d t)
  test-more t e = record { items = agrees.items; group = agrees.group; group_apart = agrees.group_apart; tests = all-more (is_test s) d.tests t agrees.tests e }

  group-more : (a : ℕ) → Declared s a → is_grouped d.group a ≡ false → AgreesSoFar s (with_group d a)
  group-more a low new = record {
    items = agrees.items;
    group = all-more (λ a. nat_lt a (arity s)) d.group a agrees.group low;
    group_apart = distinct-insert nat_eq d.group a [] (ap (are_distinct nat_eq) (append-nil d.group) ∙ agrees.group_apart) new refl;
    tests = agrees.tests;
  }

-- ---- one token

module _ (s : Schema) (d : Draft) (agrees : AgreesSoFar s d) (t : Token) (r : Reader) where
  abbrev P : Reader → Type 0
  P r = ReaderAgrees s r

  -- the draft stays
  stays : (next : Due) → DueAgrees s d next → P (goes d next)
  stays next h = record { draft = agrees; due = h }

  item-agrees : at_item s d t ≡ Ok r → P r
  unfolding at_item
  item-agrees e = along_or-keeps P d (column_ways t) (attr_at s t >>= (λ a. Ok (goes (with_attr d a t.byte) due.MoreItems))) r
      (stays due.CountOpen tt, (stays (due.FoldOpen Sum) tt, (stays (due.FoldOpen Min) tt, (stays (due.FoldOpen Max) tt, tt))))
      (λ f. made P (attr_at s t) (λ a. goes (with_attr d a t.byte) due.MoreItems) r (λ a g. record { draft = attr-more s d agrees a t.byte (attr-known s t a g); due = item-more d.items (item.Attr a) }) f)
      e

  measure-agrees : (fold : Fold) → at_measure s d fold t ≡ Ok r → P r
  unfolding at_measure
  measure-agrees fold e = made P (measure_at s t) (λ m. goes d (due.Close (column_over fold m))) r (λ m f. stays (due.Close (column_over fold m)) (measure-known s fold t m f)) e

  close-agrees : (c : Column) → is_column (measure_count s) c ≡ true → at_close d c t ≡ Ok r → P r
  unfolding at_close
  close-agrees c h e = along-keeps P (with_item d (item.Column c)) t (only (is_mark (codes ")") t) due.MoreItems) r ((record { draft = column-more s d agrees c h; due = item-more d.items (item.Column c) }), tt) e

  table-agrees : HasItem d → at_table d t ≡ Ok r → P r
  unfolding at_table
  table-agrees h e = let ok = judged-ok (goes d due.Clauses) r (table_rules t) e in subst P ok.0 (stays due.Clauses h)

  test-agrees : HasItem d → at_test s d t ≡ Ok r → P r
  unfolding at_test
  test-agrees h e = made P (attr_at s t) (λ a. goes d (due.Sign a)) r (λ a f. stays (due.Sign a) (h, attr-known s t a f)) e

  sign-agrees : (a : ℕ) → HasItem d × Declared s a → at_sign d a t ≡ Ok r → P r
  unfolding at_sign
  sign-agrees a h e = along-keeps P d t (sign_ways a t) r (stays _ h, (stays _ h, (stays _ h, (stays _ h, (stays _ h, (stays _ h, (stays _ h, tt))))))) e

  value-agrees : (a : ℕ) (sign : Sign) → HasItem d × Declared s a → at_value s d a sign t ≡ Ok r → P r
  unfolding at_value
  value-agrees a sign h e = made P (operand_at s a (is_equal sign) t) (λ v. goes (with_test d (test.Compare a sign v)) due.MoreTests) r
      (λ v f. record { draft = test-more s d agrees (test.Compare a sign v) (is-test v (operand-at s a (is_equal sign) t v f)); due = h.0 }) e
    where
      is-test : (v : Operand) → (is_of_kind (kind_at s a) v ≡ true) × ((is_equal sign || is_number (kind_at s a)) ≡ true) → is_test s (test.Compare a sign v) ≡ true
      is-test v ok = and_from (nat_lt a (arity s)) ((is_equal sign || is_number (kind_at s a)) && is_of_kind (kind_at s a) v) h.1
          (and_from (is_equal sign || is_number (kind_at s a)) (is_of_kind (kind_at s a) v) ok.1 ok.0)

  low-agrees : (a : ℕ) → HasItem d × Declared s a → at_low s d a t ≡ Ok r → P r
  unfolding at_low
  low-agrees a h e = made P (bound_at s a t) (λ low. goes d (due.LowAnd a low)) r (λ low f. (let ok = bound-at s a t low f in stays (due.LowAnd a low) (h.0, h.1, ok.0, ok.1))) e

  high-agrees : (a : ℕ) (low : ℤ) → HasItem d × Declared s a × (is_number (kind_at s a) ≡ true) × (is_small low ≡ true) → at_high s d a low t ≡ Ok r → P r
  unfolding at_high
  high-agrees a low h e = made P (bound_at s a t) (λ high. goes (with_test d (test.Between a low high)) due.MoreTests) r
      (λ high f. record { draft = test-more s d agrees (test.Between a low high) (is-test high (bound-at s a t high f).1); due = h.0 }) e
    where
      is-test : (high : ℤ) → is_small high ≡ true → is_test s (test.Between a low high) ≡ true
      is-test high small = and_from (nat_lt a (arity s)) (is_number (kind_at s a) && is_small low && is_small high) h.1
          (and_from (is_number (kind_at s a) && is_small low) (is_small high) (and_from (is_number (kind_at s a)) (is_small low) h.2 h.3) small)

  member-agrees : (a : ℕ) (vs : List Operand) → HasItem d × Declared s a × (list_all (is_of_kind (kind_at s a)) vs ≡ true) → at_member s d a vs t ≡ Ok r → P r
  unfolding at_member
  member-agrees a vs h e = made P (operand_at s a true t) (λ v. goes d (due.MoreMembers a (vs ++ v ∷ []))) r
      (λ v f. stays (due.MoreMembers a (vs ++ v ∷ [])) (h.0, h.1, all-more (is_of_kind (kind_at s a)) vs v h.2 (operand-at s a true t v f).0, lt-ltb 0 (length (vs ++ v ∷ [])) (omega (arith, length_push vs v)))) e

  members-agree : (a : ℕ) (vs : List Operand) → HasItem d × Declared s a × (list_all (is_of_kind (kind_at s a)) vs ≡ true) × (nat_lt 0 (length vs) ≡ true) → at_more_members d a vs t ≡ Ok r → P r
  unfolding at_more_members
  members-agree a vs h e = along_or-keeps P d (only (is_mark (codes ",") t) (due.Member a vs)) (along (with_test d (test.OneOf a vs)) t (only (is_mark (codes ")") t) due.MoreTests)) r
      (stays (due.Member a vs) (h.0, h.1, h.2), tt)
      (λ f. along-keeps P (with_test d (test.OneOf a vs)) t (only (is_mark (codes ")") t) due.MoreTests) r (record { draft = test-more s d agrees (test.OneOf a vs) is-test; due = h.0 }, tt) f)
      e
    where
      is-test : is_test s (test.OneOf a vs) ≡ true
      is-test = and_from (nat_lt a (arity s)) (nat_lt 0 (length vs) && list_all (is_of_kind (kind_at s a)) vs) h.1 (and_from (nat_lt 0 (length vs)) (list_all (is_of_kind (kind_at s a)) vs) h.3 h.2)

  group-agrees : HasItem d → at_group s d t ≡ Ok r → P r
  unfolding at_group
  group-agrees h e =
      let found = bound-ok (attr_at s t) (λ a. judged (goes (with_group d a) due.MoreGroups) (fresh_rules d a t)) r e in
      let ok = judged-ok (goes (with_group d found.0) due.MoreGroups) r (fresh_rules d found.0 t) found.2 in
      subst P ok.0 (record { draft = group-more s d agrees found.0 (attr-known s t found.0 found.1) (not-true (is_grouped d.group found.0) ok.1.0); due = h })

  -- what is read behind a token agrees
  pub due-agrees : (next : Due) → DueAgrees s d next → at_due s d next t ≡ Ok r → P r
  unfolding at_due
  due-agrees due.Select h e = along-keeps P d t (only (is_word (codes "SELECT") t) due.Item) r (stays due.Item tt, tt) e
  due-agrees due.Item h e = item-agrees e
  due-agrees due.CountOpen h e = along-keeps P d t (only (is_mark (codes "(") t) due.CountStar) r (stays due.CountStar tt, tt) e
  due-agrees due.CountStar h e = along-keeps P d t (only (is_mark (codes "*") t) (due.Close column.Count)) r (stays (due.Close column.Count) refl, tt) e
  due-agrees (due.FoldOpen fold) h e = along-keeps P d t (only (is_mark (codes "(") t) (due.Measure fold)) r (stays (due.Measure fold) tt, tt) e
  due-agrees (due.Measure fold) h e = measure-agrees fold e
  due-agrees (due.Close c) h e = close-agrees c h e
  due-agrees due.MoreItems h e = along-keeps P d t (item_ways t) r (stays due.Item tt, (stays due.Table h, tt)) e
  due-agrees due.Table h e = table-agrees h e
  due-agrees due.Clauses h e = along-keeps P d t (clause_ways t) r (stays due.Test h, (stays due.By h, (stays due.Nothing h, tt))) e
  due-agrees due.Test h e = test-agrees h e
  due-agrees (due.Sign a) h e = sign-agrees a h e
  due-agrees (due.Value a sign) h e = value-agrees a sign h e
  due-agrees (due.Low a) h e = low-agrees a h e
  due-agrees (due.LowAnd a low) h e = along-keeps P d t (only (is_word (codes "AND") t) (due.High a low)) r (stays (due.High a low) h, tt) e
  due-agrees (due.High a low) h e = high-agrees a low h e
  due-agrees (due.InOpen a) h e = along-keeps P d t (only (is_mark (codes "(") t) (due.Member a [])) r (stays (due.Member a []) (h.0, h.1, refl), tt) e
  due-agrees (due.Member a vs) h e = member-agrees a vs h e
  due-agrees (due.MoreMembers a vs) h e = members-agree a vs h e
  due-agrees due.MoreTests h e = along-keeps P d t (test_ways t) r (stays due.Test h, (stays due.By h, (stays due.Nothing h, tt))) e
  due-agrees due.By h e = along-keeps P d t (only (is_word (codes "BY") t) due.Group) r (stays due.Group h, tt) e
  due-agrees due.Group h e = group-agrees h e
  due-agrees due.MoreGroups h e = along-keeps P d t (group_ways t) r (stays due.Group h, (stays due.Nothing h, tt)) e
  due-agrees due.Nothing h e = cc

-- ---- the end

-- the end stands only where there is an item
abbrev HasItemAt : Reader → Type 0
HasItemAt r = HasItem r.draft

end-stands : (s : Schema) (d : Draft) (end : ℕ) (next : Due) (r : Reader) → DueAgrees s d next → at_due s d next (end_at end) ≡ Ok r → HasItem r.draft
unfolding at_due at_item at_measure at_close at_table at_test at_sign at_value at_low at_high at_member at_more_members at_group
end-stands s d end due.Select r h e = cc
end-stands s d end due.Item r h e = cc
end-stands s d end due.CountOpen r h e = cc
end-stands s d end due.CountStar r h e = cc
end-stands s d end (due.FoldOpen fold) r h e = cc
end-stands s d end (due.Measure fold) r h e = cc
end-stands s d end (due.Close c) r h e = cc
end-stands s d end due.MoreItems r h e = cc
end-stands s d end due.Table r h e = cc
end-stands s d end due.Clauses r h e = (let same : goes d due.Nothing ≡ r = cc in subst HasItemAt same h)
end-stands s d end due.Test r h e = cc
end-stands s d end (due.Sign a) r h e = cc
end-stands s d end (due.Value a sign) r h e = cc
end-stands s d end (due.Low a) r h e = cc
end-stands s d end (due.LowAnd a low) r h e = cc
end-stands s d end (due.High a low) r h e = cc
end-stands s d end (due.InOpen a) r h e = cc
end-stands s d end (due.Member a vs) r h e = cc
end-stands s d end (due.MoreMembers a vs) r h e = cc
end-stands s d end due.MoreTests r h e = (let same : goes d due.Nothing ≡ r = cc in subst HasItemAt same h)
end-stands s d end due.By r h e = cc
end-stands s d end due.Group r h e = cc
end-stands s d end due.MoreGroups r h e = (let same : goes d due.Nothing ≡ r = cc in subst HasItemAt same h)
end-stands s d end due.Nothing r h e = cc

-- each attribute that is named is grouped by
rules-grouped : (d : Draft) (ns : List Named) → Hold (map (λ (n : Named). (is_grouped d.group n.attr, refused.Group n.byte)) ns) → (a : ℕ) → has_attr ns a ≡ true → is_grouped d.group a ≡ true
rules-grouped d [] h a e = cc
rules-grouped d (n ∷ ns) h a e = elim (cases_Bool (n.attr == a)) [
  | inl f ↦ ap (is_grouped d.group) (sym (eqb-true n.attr a f)) ∙ h.0
  | inr f ↦ rules-grouped d ns h.1 a (ap (λ b. b || has_attr ns a) (sym f) ∙ e)
]

items-grouped : (s : Schema) (d : Draft) → Hold (group_rules d) → (xs : List Item) → list_all (is_read s d.named) xs ≡ true → list_all (is_item s d.group) xs ≡ true
items-grouped s d h [] e = refl
items-grouped s d h (x ∷ xs) e =
    let each = and_parts (is_read s d.named x) (list_all (is_read s d.named) xs) e in
    and_from (is_item s d.group x) (list_all (is_item s d.group) xs) (one x each.0) (items-grouped s d h xs each.1)
  where
    one : (x : Item) → is_read s d.named x ≡ true → is_item s d.group x ≡ true
    one (item.Column c) f = f
    one (item.Attr a) f =
        let parts = and_parts (nat_lt a (arity s)) (has_attr d.named a) f in
        and_from (nat_lt a (arity s)) (is_grouped d.group a) parts.0 (rules-grouped d d.named h a parts.1)

read-agrees : (s : Schema) (end : ℕ) (r : Reader) (ts : List Token) (q : Query) → ReaderAgrees s r → read_on s end r ts ≡ Ok q → SqlAgrees s q
read-agrees s end r [] q agrees e =
    let found = bound-ok (at_due s r.draft r.due (end_at end)) (λ last. judged (query_in last.draft) (group_rules last.draft)) q e in
    let last = due-agrees s r.draft agrees.draft (end_at end) found.0 r.due agrees.due found.1 in
    let ok = judged-ok (query_in found.0.draft) q (group_rules found.0.draft) found.2 in
    subst (SqlAgrees s) ok.0 (record {
      some = end-stands s r.draft end r.due found.0 agrees.due found.1;
      items = items-grouped s found.0.draft ok.1 found.0.draft.items last.draft.items;
      group = last.draft.group;
      group_apart = last.draft.group_apart;
      tests = last.draft.tests;
    })
read-agrees s end r (t ∷ more) q agrees e =
    let found = bound-ok (at_due s r.draft r.due t) (λ next. read_on s end next more) q e in
    read-agrees s end found.0 more q (due-agrees s r.draft agrees.draft t found.0 r.due agrees.due found.1) found.2

-- a query that is read agrees with the schema
pub query-agrees : (s : Schema) (text : List ℕ) (q : Query) → query_of s text ≡ Ok q → SqlAgrees s q
unfolding query_of
query-agrees s text q e = read-agrees s (length text + 1) (goes nothing due.Select) (tokens_of (length text + 1) text) q
    (record { draft = record { items = refl; group = refl; group_apart = refl; tests = refl }; due = tt }) e

pub answer-agrees : (s : Schema) (text : List ℕ) (result : Reading Query) → Answers result (query_of s text) → IfOk result (SqlAgrees s)
answer-agrees s text (Ok q) is = query-agrees s text q is
answer-agrees s text (Err refusal) is = tt
