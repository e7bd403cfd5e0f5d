-- A text that says a query is read as it.
use Rattle.std.proofs.Common.{◌≡◌, ℕ, ◌+◌, Bool, true, false, not, ◌&&◌, ◌||◌, List, [], ◌∷◌, ◌++◌, map, length, Ok, Err, ℤ, refl, sym, ◌∙◌, ap, subst, append_assoc, append-nil, arith}
use Rattle.std.specs.Prelude.{codes, flat_map, nat_eq, nat_lt, if◌then◌else◌}
use Rattle.std.specs.List.{list_all}
use Rattle.std.specs.Str.{bytes_eq}
use Rattle.std.proofs.lemmas.Bool.{and_parts, and_from, true≢false}
use Rattle.fact_model.specs.declared.slice.Column.{Column}
use Rattle.fact_model.specs.declared.slice.Column.TheVariants as column
use Rattle.cube_schema.specs.Kinds.{arity, kind_at, measure_count, measure_name_at, name_at}
use Rattle.cube_schema.specs.Lawful.{IsSchema}
use Rattle.cube_schema.specs.Reading.{are_distinct}
use Rattle.cube_schema.specs.declared.schema.Schema.{Schema}
use Rattle.cube_schema.proofs.Tests.{all-join, distinct-new}
use Rattle.sql_lang.specs.declared.draft.Draft.{Draft}
use Rattle.sql_lang.specs.declared.draft.Due.{Due}
use Rattle.sql_lang.specs.declared.draft.Due.TheVariants as due
use Rattle.sql_lang.specs.declared.draft.Fold.{Fold}
use Rattle.sql_lang.specs.declared.draft.Fold.TheVariants.{Sum, Min, Max}
use Rattle.sql_lang.specs.declared.draft.Named.{Named}
use Rattle.sql_lang.specs.declared.draft.Reader.{Reader}
use Rattle.sql_lang.specs.declared.query.Item.{Item}
use Rattle.sql_lang.specs.declared.query.Item.TheVariants as item
use Rattle.sql_lang.specs.declared.query.Operand.{Operand}
use Rattle.sql_lang.specs.declared.query.Operand.TheVariants as operand
use Rattle.sql_lang.specs.declared.query.Query.{Query}
use Rattle.sql_lang.specs.declared.query.Sign.{Sign}
use Rattle.sql_lang.specs.declared.query.Sign.TheVariants as sign
use Rattle.sql_lang.specs.declared.query.Test.{Test}
use Rattle.sql_lang.specs.declared.query.Test.TheVariants as test
use Rattle.sql_lang.specs.declared.refusal.SqlRefusal.TheVariants as refused
use Rattle.sql_lang.specs.declared.token.Token.{Token}
use Rattle.sql_lang.specs.Agreeing.{SqlAgrees, is_item, is_number, is_of_kind, is_small, is_test}
use Rattle.sql_lang.specs.Answers.{Answers, Reading, ◌>>=◌, judged}
use Rattle.sql_lang.specs.Grammar.{Form, Says, fits, group_form, is_named, item_form, keyword, literal, mark, name, over, parted, query_form, sign_text, test_form, where_form, writes}
use Rattle.sql_lang.specs.Reading.{along, along_or, at_close, at_due, at_group, at_high, at_item, at_low, at_measure, at_member, at_more_members, at_sign, at_table, at_test, at_value, attr_at, bound_at, column_over, goes, group_or_end, group_rules, is_equal, is_grouped, measure_at, misfit, nothing, only, operand_at, query_in, query_of, read_on, with_attr, with_group, with_item, with_test}
use Rattle.sql_lang.specs.Tokens.{end_at, is_end, is_mark, is_name, is_word, tokens_of}
use Rattle.sql_lang.proofs.Forms.{attr_form}
use Rattle.sql_lang.proofs.Standing.{attr-again, bound-again, mark-other, measure-again, name-is, name-no_word, operand-again, word-no_mark, word-other}

-- ---- one token

-- the first token passes the test, and the others have the form
record Taken (p : Token → Bool) (form : Form) (ts : List Token) : Type 0 where
  token : Token
  more : List Token
  is : ts ≡ token ∷ more
  here : p token ≡ true
  rest : fits form more ≡ true

taken : (p : Token → Bool) (form : Form) (ts : List Token) → fits (p ∷ form) ts ≡ true → Taken p form ts
taken p form [] h = cc
taken p form (t ∷ ts) h = let each = and_parts (p t) (fits form ts) h in record { token = t; more = ts; is = refl; here = each.0; rest = each.1 }

module _ (s : Schema) (lawful : IsSchema s) (end : ℕ) where
  -- reading goes on behind some tokens with a draft and what is due, and the tokens to come have the form
  record GoesOn (d : Draft) (from : Due) (ts : List Token) (e : Draft) (to : Due) (form : Form) : Type 0 where
    more : List Token
    same : read_on s end (goes d from) ts ≡ read_on s end (goes e to) more
    rest : fits form more ≡ true

  -- by one token
  by-one : (d : Draft) (from : Due) (e : Draft) (to : Due) (p : Token → Bool) (form : Form) (ts : List Token) → fits (p ∷ form) ts ≡ true
      → ((t : Token) → p t ≡ true → at_due s d from t ≡ Ok (goes e to)) → GoesOn d from ts e to form
  by-one d from e to p form ts h step =
      let first = taken p form ts h in
      record {
        more = first.more;
        same = ap (read_on s end (goes d from)) first.is ∙ ap (λ r. r >>= (λ next. read_on s end next first.more)) (step first.token first.here);
        rest = first.rest;
      }

  -- and then by more
  and-then : (d : Draft) (from : Due) (ts : List Token) (e : Draft) (to : Due) (form : Form) (f : Draft) (last : Due) (form_after : Form)
      → GoesOn d from ts e to form → ((us : List Token) → fits form us ≡ true → GoesOn e to us f last form_after) → GoesOn d from ts f last form_after
  and-then d from ts e to form f last form_after one two =
      let next = two one.more one.rest in
      record { more = next.more; same = one.same ∙ next.same; rest = next.rest }

  -- the only way
  only-way : (d : Draft) (t : Token) (b : Bool) (next : Due) → b ≡ true → along d t (only b next) ≡ Ok (goes d next)
  only-way d t b next e = (λ i. if e i then Ok (goes d next) else misfit t)

  -- a value behind a reading
  made-again : {A : Type 0} (r : Reading A) (x : A) (next : A → Reading Reader) → r ≡ Ok x → (r >>= next) ≡ next x
  made-again r x next e = ap (λ found. found >>= next) e

  -- ---- columns

  abbrev fold_text : Fold → List ℕ
  fold_text Sum = codes "SUM"
  fold_text Min = codes "MIN"
  fold_text Max = codes "MAX"

  module _ (d : Draft) where
    module _ (t : Token) where
      abbrev attr_item : Reading Reader
      attr_item = attr_at s t >>= (λ a. Ok (goes (with_attr d a t.byte) due.MoreItems))

      -- the ways behind COUNT, SUM, MIN and MAX, by whether the token is one of these
      abbrev by_words : Bool → Bool → Bool → Bool → Reading Reader
      by_words count sum least greatest = along_or d ((count, due.CountOpen) ∷ (sum, due.FoldOpen Sum) ∷ (least, due.FoldOpen Min) ∷ (greatest, due.FoldOpen Max) ∷ []) attr_item

      count-step : is_word (codes "COUNT") t ≡ true → at_due s d due.Item t ≡ Ok (goes d due.CountOpen)
      unfolding at_due at_item
      count-step w = (λ i. by_words (w i) (is_word (codes "SUM") t) (is_word (codes "MIN") t) (is_word (codes "MAX") t))

      fold-step : (fold : Fold) → is_word (fold_text fold) t ≡ true → at_due s d due.Item t ≡ Ok (goes d (due.FoldOpen fold))
      unfolding at_due at_item
      fold-step Sum w = (λ i. by_words (word-other t (codes "SUM") (codes "COUNT") refl w i) (w i) (is_word (codes "MIN") t) (is_word (codes "MAX") t))
      fold-step Min w = (λ i. by_words (word-other t (codes "MIN") (codes "COUNT") refl w i) (word-other t (codes "MIN") (codes "SUM") refl w i) (w i) (is_word (codes "MAX") t))
      fold-step Max w = (λ i. by_words (word-other t (codes "MAX") (codes "COUNT") refl w i) (word-other t (codes "MAX") (codes "SUM") refl w i) (word-other t (codes "MAX") (codes "MIN") refl w i) (w i))

      attr-step : (a : ℕ) → nat_lt a (arity s) ≡ true → is_named (name_at s a) t ≡ true → at_due s d due.Item t ≡ Ok (goes (with_attr d a t.byte) due.MoreItems)
      unfolding at_due at_item
      attr-step a low e =
          let none = name-no_word t (name-is t (name_at s a) e) in
          (λ i. by_words (none.0 i) (none.1 i) (none.2 i) (none.3 i)) ∙ made-again (attr_at s t) a (λ a. Ok (goes (with_attr d a t.byte) due.MoreItems)) (attr-again t s lawful a low e)

      count-open : is_mark (codes "(") t ≡ true → at_due s d due.CountOpen t ≡ Ok (goes d due.CountStar)
      unfolding at_due
      count-open w = only-way d t (is_mark (codes "(") t) due.CountStar w

      count-star : is_mark (codes "*") t ≡ true → at_due s d due.CountStar t ≡ Ok (goes d (due.Close column.Count))
      unfolding at_due
      count-star w = only-way d t (is_mark (codes "*") t) (due.Close column.Count) w

      fold-open : (fold : Fold) → is_mark (codes "(") t ≡ true → at_due s d (due.FoldOpen fold) t ≡ Ok (goes d (due.Measure fold))
      unfolding at_due
      fold-open fold w = only-way d t (is_mark (codes "(") t) (due.Measure fold) w

      measure-step : (fold : Fold) (m : ℕ) → nat_lt m (measure_count s) ≡ true → is_named (measure_name_at s m) t ≡ true → at_due s d (due.Measure fold) t ≡ Ok (goes d (due.Close (column_over fold m)))
      unfolding at_due at_measure
      measure-step fold m low e = made-again (measure_at s t) m (λ m. Ok (goes d (due.Close (column_over fold m)))) (measure-again t s lawful m low e)

      close-step : (c : Column) → is_mark (codes ")") t ≡ true → at_due s d (due.Close c) t ≡ Ok (goes (with_item d (item.Column c)) due.MoreItems)
      unfolding at_due at_close
      close-step c w = only-way (with_item d (item.Column c)) t (is_mark (codes ")") t) due.MoreItems w

      comma-step : is_mark (codes ",") t ≡ true → at_due s d due.MoreItems t ≡ Ok (goes d due.Item)
      unfolding at_due
      comma-step w = (λ i. along_or d ((w i, due.Item) ∷ (is_word (codes "FROM") t, due.Table) ∷ []) (misfit t))

      from-step : is_word (codes "FROM") t ≡ true → at_due s d due.MoreItems t ≡ Ok (goes d due.Table)
      unfolding at_due
      from-step w = (λ i. along_or d ((word-no_mark t (codes "FROM") (codes ",") w i, due.Item) ∷ (w i, due.Table) ∷ []) (misfit t))

      select-step : is_word (codes "SELECT") t ≡ true → at_due s d due.Select t ≡ Ok (goes d due.Item)
      unfolding at_due
      select-step w = only-way d t (is_word (codes "SELECT") t) due.Item w

      table-step : is_named (codes "facts") t ≡ true → at_due s d due.Table t ≡ Ok (goes d due.Clauses)
      unfolding at_due at_table
      table-step e =
          let each = and_parts (is_name t) (bytes_eq t.text (codes "facts")) e in
          (λ i. judged (goes d due.Clauses) ((each.0 i, refused.Syntax t.byte) ∷ (each.1 i, refused.Table t.byte) ∷ []))

    count-goes : (form : Form) (ts : List Token) → fits (item_form s (item.Column column.Count) ++ form) ts ≡ true → GoesOn d due.Item ts (with_item d (item.Column column.Count)) due.MoreItems form
    count-goes form ts h =
        let one = by-one d due.Item d due.CountOpen (is_word (codes "COUNT")) (mark (codes "(") ++ mark (codes "*") ++ mark (codes ")") ++ form) ts h (λ t w. count-step t w) in
        let two = by-one d due.CountOpen d due.CountStar (is_mark (codes "(")) (mark (codes "*") ++ mark (codes ")") ++ form) one.more one.rest (λ t w. count-open t w) in
        let three = by-one d due.CountStar d (due.Close column.Count) (is_mark (codes "*")) (mark (codes ")") ++ form) two.more two.rest (λ t w. count-star t w) in
        let four = by-one d (due.Close column.Count) (with_item d (item.Column column.Count)) due.MoreItems (is_mark (codes ")")) form three.more three.rest (λ t w. close-step t column.Count w) in
        record { more = four.more; same = one.same ∙ two.same ∙ three.same ∙ four.same; rest = four.rest }

    fold-goes : (fold : Fold) (m : ℕ) → nat_lt m (measure_count s) ≡ true → (form : Form) (ts : List Token) → fits (over (fold_text fold) (measure_name_at s m) ++ form) ts ≡ true
        → GoesOn d due.Item ts (with_item d (item.Column (column_over fold m))) due.MoreItems form
    fold-goes fold m low form ts h =
        let c = column_over fold m in
        let one = by-one d due.Item d (due.FoldOpen fold) (is_word (fold_text fold)) (mark (codes "(") ++ name (measure_name_at s m) ++ mark (codes ")") ++ form) ts h (λ t w. fold-step t fold w) in
        let two = by-one d (due.FoldOpen fold) d (due.Measure fold) (is_mark (codes "(")) (name (measure_name_at s m) ++ mark (codes ")") ++ form) one.more one.rest (λ t w. fold-open t fold w) in
        let three = by-one d (due.Measure fold) d (due.Close c) (is_named (measure_name_at s m)) (mark (codes ")") ++ form) two.more two.rest (λ t w. measure-step t fold m low w) in
        let four = by-one d (due.Close c) (with_item d (item.Column c)) due.MoreItems (is_mark (codes ")")) form three.more three.rest (λ t w. close-step t c w) in
        record { more = four.more; same = one.same ∙ two.same ∙ three.same ∙ four.same; rest = four.rest }

  -- ---- items

  -- the attributes that are named are among these
  abbrev AreGrouped : List ℕ → Draft → Type 0
  AreGrouped group d = list_all (λ (n : Named). is_grouped group n.attr) d.named ≡ true

  -- items are read behind a draft; where their attributes are named is not said
  record ItemsRead (group : List ℕ) (d : Draft) (ts : List Token) (xs : List Item) (form : Form) : Type 0 where
    draft : Draft
    items : draft.items ≡ d.items ++ xs
    tests : draft.tests ≡ d.tests
    same_group : draft.group ≡ d.group
    named : AreGrouped group draft
    goes_on : GoesOn d due.Item ts draft due.MoreItems form

  column-read : (group : List ℕ) (d : Draft) (c : Column) (ts : List Token) (form : Form) → AreGrouped group d
      → GoesOn d due.Item ts (with_item d (item.Column c)) due.MoreItems form → ItemsRead group d ts (item.Column c ∷ []) form
  column-read group d c ts form named g = record { draft = with_item d (item.Column c); items = refl; tests = refl; same_group = refl; named = named; goes_on = g }

  item-read : (group : List ℕ) (d : Draft) (x : Item) → is_item s group x ≡ true → AreGrouped group d → (form : Form) (ts : List Token) → fits (item_form s x ++ form) ts ≡ true
      → ItemsRead group d ts (x ∷ []) form
  item-read group d (item.Attr a) known named form ts h =
      let each = and_parts (nat_lt a (arity s)) (is_grouped group a) known in
      let first = taken (is_named (name_at s a)) form ts h in
      let t = first.token in
      record {
        draft = with_attr d a t.byte;
        items = refl;
        tests = refl;
        same_group = refl;
        named = all-join (λ (n : Named). is_grouped group n.attr) d.named (record { attr = a; byte = t.byte } ∷ []) named (and_from (is_grouped group a) true each.1 refl);
        goes_on = record {
          more = first.more;
          same = ap (read_on s end (goes d due.Item)) first.is ∙ ap (λ r. r >>= (λ next. read_on s end next first.more)) (attr-step d t a each.0 first.here);
          rest = first.rest;
        };
      }
  item-read group d (item.Column column.Count) known named form ts h = column-read group d column.Count ts form named (count-goes d form ts h)
  item-read group d (item.Column (column.Sum m)) known named form ts h = column-read group d (column.Sum m) ts form named (fold-goes d Sum m known form ts h)
  item-read group d (item.Column (column.Min m)) known named form ts h = column-read group d (column.Min m) ts form named (fold-goes d Min m known form ts h)
  item-read group d (item.Column (column.Max m)) known named form ts h = column-read group d (column.Max m) ts form named (fold-goes d Max m known form ts h)

  abbrev more_items : List Item → Form
  more_items xs = flat_map (λ next. mark (codes ",") ++ next) (map (item_form s) xs)

  items-read : (group : List ℕ) (d : Draft) (x : Item) (xs : List Item) → list_all (is_item s group) (x ∷ xs) ≡ true → AreGrouped group d → (form : Form) (ts : List Token)
      → fits (item_form s x ++ (more_items xs ++ form)) ts ≡ true → ItemsRead group d ts (x ∷ xs) form
  items-read group d x [] known named form ts h = item-read group d x (and_parts (is_item s group x) true known).0 named form ts h
  items-read group d x (y ∷ ys) known named form ts h =
      let each = and_parts (is_item s group x) (list_all (is_item s group) (y ∷ ys)) known in
      let one = item-read group d x each.0 named (more_items (y ∷ ys) ++ form) ts h in
      let e = one.draft in
      let comma = by-one e due.MoreItems e due.Item (is_mark (codes ",")) ((item_form s y ++ more_items ys) ++ form) one.goes_on.more one.goes_on.rest (λ t w. comma-step e t w) in
      let others = items-read group e y ys each.1 one.named form comma.more (ap (λ f. fits f comma.more) (sym (append_assoc (item_form s y) (more_items ys) form)) ∙ comma.rest) in
      record {
        draft = others.draft;
        items = others.items ∙ ap (λ is. is ++ y ∷ ys) one.items ∙ append_assoc d.items (x ∷ []) (y ∷ ys);
        tests = others.tests ∙ one.tests;
        same_group = others.same_group ∙ one.same_group;
        named = others.named;
        goes_on = record { more = others.goes_on.more; same = one.goes_on.same ∙ comma.same ∙ others.goes_on.same; rest = others.goes_on.rest };
      }

  -- ---- tests

  -- one reading behind another
  linked : (d : Draft) (from : Due) (ts : List Token) (e : Draft) (to : Due) (form : Form) (f : Draft) (last : Due) (behind : Form) (one : GoesOn d from ts e to form)
      → GoesOn e to one.more f last behind → GoesOn d from ts f last behind
  linked d from ts e to form f last behind one two = record { more = two.more; same = one.same ∙ two.same; rest = two.rest }

  module _ (d : Draft) where
    module _ (t : Token) where
      test-step : (a : ℕ) → nat_lt a (arity s) ≡ true → is_named (name_at s a) t ≡ true → at_due s d due.Test t ≡ Ok (goes d (due.Sign a))
      unfolding at_due at_test
      test-step a low e = made-again (attr_at s t) a (λ a. Ok (goes d (due.Sign a))) (attr-again t s lawful a low e)

      -- the ways behind an attribute, by whether the token is one of these signs and words
      abbrev by_signs : ℕ → Bool → Bool → Bool → Bool → Bool → Bool → Bool → Reading Reader
      by_signs a equal less less_equal more more_equal between list = along d t
          ((equal, due.Value a sign.Equal) ∷ (less, due.Value a sign.Less) ∷ (less_equal, due.Value a sign.LessEqual) ∷ (more, due.Value a sign.More) ∷ (more_equal, due.Value a sign.MoreEqual)
          ∷ (between, due.Low a) ∷ (list, due.InOpen a) ∷ [])

      abbrev of_mark : List ℕ → Bool
      of_mark text = is_mark text t

      sign-step : (a : ℕ) (x : Sign) → is_mark (sign_text x) t ≡ true → at_due s d (due.Sign a) t ≡ Ok (goes d (due.Value a x))
      unfolding at_due at_sign
      sign-step a sign.Equal w = (λ i. by_signs a (w i) (of_mark (codes "<")) (of_mark (codes "<=")) (of_mark (codes ">")) (of_mark (codes ">=")) (is_word (codes "BETWEEN") t) (is_word (codes "IN") t))
      sign-step a sign.Less w = (λ i. by_signs a (mark-other t (codes "<") (codes "=") refl w i) (w i) (of_mark (codes "<=")) (of_mark (codes ">")) (of_mark (codes ">="))
          (is_word (codes "BETWEEN") t) (is_word (codes "IN") t))
      sign-step a sign.LessEqual w = (λ i. by_signs a (mark-other t (codes "<=") (codes "=") refl w i) (mark-other t (codes "<=") (codes "<") refl w i) (w i) (of_mark (codes ">")) (of_mark (codes ">="))
          (is_word (codes "BETWEEN") t) (is_word (codes "IN") t))
      sign-step a sign.More w = (λ i. by_signs a (mark-other t (codes ">") (codes "=") refl w i) (mark-other t (codes ">") (codes "<") refl w i) (mark-other t (codes ">") (codes "<=") refl w i) (w i)
          (of_mark (codes ">=")) (is_word (codes "BETWEEN") t) (is_word (codes "IN") t))
      sign-step a sign.MoreEqual w = (λ i. by_signs a (mark-other t (codes ">=") (codes "=") refl w i) (mark-other t (codes ">=") (codes "<") refl w i) (mark-other t (codes ">=") (codes "<=") refl w i)
          (mark-other t (codes ">=") (codes ">") refl w i) (w i) (is_word (codes "BETWEEN") t) (is_word (codes "IN") t))

      between-step : (a : ℕ) → is_word (codes "BETWEEN") t ≡ true → at_due s d (due.Sign a) t ≡ Ok (goes d (due.Low a))
      unfolding at_due at_sign
      between-step a w = (λ i. by_signs a (word-no_mark t (codes "BETWEEN") (codes "=") w i) (word-no_mark t (codes "BETWEEN") (codes "<") w i) (word-no_mark t (codes "BETWEEN") (codes "<=") w i)
          (word-no_mark t (codes "BETWEEN") (codes ">") w i) (word-no_mark t (codes "BETWEEN") (codes ">=") w i) (w i) (is_word (codes "IN") t))

      list-step : (a : ℕ) → is_word (codes "IN") t ≡ true → at_due s d (due.Sign a) t ≡ Ok (goes d (due.InOpen a))
      unfolding at_due at_sign
      list-step a w = (λ i. by_signs a (word-no_mark t (codes "IN") (codes "=") w i) (word-no_mark t (codes "IN") (codes "<") w i) (word-no_mark t (codes "IN") (codes "<=") w i)
          (word-no_mark t (codes "IN") (codes ">") w i) (word-no_mark t (codes "IN") (codes ">=") w i) (word-other t (codes "IN") (codes "BETWEEN") refl w i) (w i))

      value-step : (a : ℕ) (x : Sign) (v : Operand) → is_of_kind (kind_at s a) v ≡ true → (is_equal x || is_number (kind_at s a)) ≡ true → writes v t ≡ true
          → at_due s d (due.Value a x) t ≡ Ok (goes (with_test d (test.Compare a x v)) due.MoreTests)
      unfolding at_due at_value
      value-step a x v kind plain w = made-again (operand_at s a (is_equal x) t) v (λ v. Ok (goes (with_test d (test.Compare a x v)) due.MoreTests)) (operand-again t s a (is_equal x) v w kind plain)

      low-step : (a : ℕ) (low : ℤ) → is_number (kind_at s a) ≡ true → writes (operand.Whole low) t ≡ true → at_due s d (due.Low a) t ≡ Ok (goes d (due.LowAnd a low))
      unfolding at_due at_low
      low-step a low plain w = made-again (bound_at s a t) low (λ low. Ok (goes d (due.LowAnd a low))) (bound-again t s a low w plain)

      low-and : (a : ℕ) (low : ℤ) → is_word (codes "AND") t ≡ true → at_due s d (due.LowAnd a low) t ≡ Ok (goes d (due.High a low))
      unfolding at_due
      low-and a low w = only-way d t (is_word (codes "AND") t) (due.High a low) w

      high-step : (a : ℕ) (low high : ℤ) → is_number (kind_at s a) ≡ true → writes (operand.Whole high) t ≡ true
          → at_due s d (due.High a low) t ≡ Ok (goes (with_test d (test.Between a low high)) due.MoreTests)
      unfolding at_due at_high
      high-step a low high plain w = made-again (bound_at s a t) high (λ high. Ok (goes (with_test d (test.Between a low high)) due.MoreTests)) (bound-again t s a high w plain)

      list-open : (a : ℕ) → is_mark (codes "(") t ≡ true → at_due s d (due.InOpen a) t ≡ Ok (goes d (due.Member a []))
      unfolding at_due
      list-open a w = only-way d t (is_mark (codes "(") t) (due.Member a []) w

      member-step : (a : ℕ) (vs : List Operand) (v : Operand) → is_of_kind (kind_at s a) v ≡ true → writes v t ≡ true → at_due s d (due.Member a vs) t ≡ Ok (goes d (due.MoreMembers a (vs ++ v ∷ [])))
      unfolding at_due at_member
      member-step a vs v kind w = made-again (operand_at s a true t) v (λ v. Ok (goes d (due.MoreMembers a (vs ++ v ∷ [])))) (operand-again t s a true v w kind refl)

      abbrev list_close : ℕ → List Operand → Bool → Reading Reader
      list_close a vs closes = along (with_test d (test.OneOf a vs)) t (only closes due.MoreTests)

      member-comma : (a : ℕ) (vs : List Operand) → is_mark (codes ",") t ≡ true → at_due s d (due.MoreMembers a vs) t ≡ Ok (goes d (due.Member a vs))
      unfolding at_due at_more_members
      member-comma a vs w = (λ i. along_or d (only (w i) (due.Member a vs)) (list_close a vs (is_mark (codes ")") t)))

      member-close : (a : ℕ) (vs : List Operand) → is_mark (codes ")") t ≡ true → at_due s d (due.MoreMembers a vs) t ≡ Ok (goes (with_test d (test.OneOf a vs)) due.MoreTests)
      unfolding at_due at_more_members
      member-close a vs w = (λ i. along_or d (only (mark-other t (codes ")") (codes ",") refl w i) (due.Member a vs)) (list_close a vs (w i)))

      and-step : is_word (codes "AND") t ≡ true → at_due s d due.MoreTests t ≡ Ok (goes d due.Test)
      unfolding at_due
      and-step w = (λ i. along d t ((w i, due.Test) ∷ group_or_end t))

      where-step : is_word (codes "WHERE") t ≡ true → at_due s d due.Clauses t ≡ Ok (goes d due.Test)
      unfolding at_due
      where-step w = (λ i. along d t ((w i, due.Test) ∷ group_or_end t))

    abbrev more_values : List Operand → Form
    more_values vs = flat_map (λ next. mark (codes ",") ++ next) (map literal vs)

    values-read : (a : ℕ) (so_far : List Operand) (v : Operand) (vs : List Operand) → list_all (is_of_kind (kind_at s a)) (v ∷ vs) ≡ true → (form : Form) (ts : List Token)
        → fits (writes v ∷ (more_values vs ++ form)) ts ≡ true → GoesOn d (due.Member a so_far) ts d (due.MoreMembers a (so_far ++ v ∷ vs)) form
    values-read a so_far v [] kinds form ts h =
        by-one d (due.Member a so_far) d (due.MoreMembers a (so_far ++ v ∷ [])) (writes v) form ts h (λ t w. member-step t a so_far v (and_parts (is_of_kind (kind_at s a) v) true kinds).0 w)
    values-read a so_far v (u ∷ us) kinds form ts h =
        let each = and_parts (is_of_kind (kind_at s a) v) (list_all (is_of_kind (kind_at s a)) (u ∷ us)) kinds in
        let now = so_far ++ v ∷ [] in
        let one = by-one d (due.Member a so_far) d (due.MoreMembers a now) (writes v) (more_values (u ∷ us) ++ form) ts h (λ t w. member-step t a so_far v each.0 w) in
        let two = by-one d (due.MoreMembers a now) d (due.Member a now) (is_mark (codes ",")) (writes u ∷ (more_values us ++ form)) one.more one.rest (λ t w. member-comma t a now w) in
        let three = values-read a now u us each.1 form two.more two.rest in
        subst (λ all. GoesOn d (due.Member a so_far) ts d (due.MoreMembers a all) form) (append_assoc so_far (v ∷ []) (u ∷ us))
        (linked d (due.Member a so_far) ts d (due.MoreMembers a now) (more_values (u ∷ us) ++ form) d (due.MoreMembers a (now ++ u ∷ us)) form one
        (linked d (due.MoreMembers a now) one.more d (due.Member a now) (writes u ∷ (more_values us ++ form)) d (due.MoreMembers a (now ++ u ∷ us)) form two three))

    test-read : (x : Test) → is_test s x ≡ true → (form : Form) (ts : List Token) → fits (test_form s x ++ form) ts ≡ true → GoesOn d due.Test ts (with_test d x) due.MoreTests form
    test-read (test.Compare a x v) known form ts h =
        let each = and_parts (nat_lt a (arity s)) ((is_equal x || is_number (kind_at s a)) && is_of_kind (kind_at s a) v) known in
        let fit = and_parts (is_equal x || is_number (kind_at s a)) (is_of_kind (kind_at s a) v) each.1 in
        let one = by-one d due.Test d (due.Sign a) (is_named (name_at s a)) (mark (sign_text x) ++ literal v ++ form) ts h (λ t w. test-step t a each.0 w) in
        let two = by-one d (due.Sign a) d (due.Value a x) (is_mark (sign_text x)) (literal v ++ form) one.more one.rest (λ t w. sign-step t a x w) in
        let three = by-one d (due.Value a x) (with_test d (test.Compare a x v)) due.MoreTests (writes v) form two.more two.rest (λ t w. value-step t a x v fit.1 fit.0 w) in
        record { more = three.more; same = one.same ∙ two.same ∙ three.same; rest = three.rest }
    test-read (test.Between a low high) known form ts h =
        let each = and_parts (nat_lt a (arity s)) (is_number (kind_at s a) && is_small low && is_small high) known in
        let plain = (and_parts (is_number (kind_at s a)) (is_small low) (and_parts (is_number (kind_at s a) && is_small low) (is_small high) each.1).0).0 in
        let x = test.Between a low high in
        let one = by-one d due.Test d (due.Sign a) (is_named (name_at s a)) (keyword (codes "BETWEEN") ++ literal (operand.Whole low) ++ keyword (codes "AND") ++ literal (operand.Whole high) ++ form) ts h
        (λ t w. test-step t a each.0 w) in
        let two = by-one d (due.Sign a) d (due.Low a) (is_word (codes "BETWEEN")) (literal (operand.Whole low) ++ keyword (codes "AND") ++ literal (operand.Whole high) ++ form) one.more one.rest
        (λ t w. between-step t a w) in
        let three = by-one d (due.Low a) d (due.LowAnd a low) (writes (operand.Whole low)) (keyword (codes "AND") ++ literal (operand.Whole high) ++ form) two.more two.rest (λ t w. low-step t a low plain w) in
        let four = by-one d (due.LowAnd a low) d (due.High a low) (is_word (codes "AND")) (literal (operand.Whole high) ++ form) three.more three.rest (λ t w. low-and t a low w) in
        let five = by-one d (due.High a low) (with_test d x) due.MoreTests (writes (operand.Whole high)) form four.more four.rest (λ t w. high-step t a low high plain w) in
        record { more = five.more; same = one.same ∙ two.same ∙ three.same ∙ four.same ∙ five.same; rest = five.rest }
    test-read (test.OneOf a []) known form ts h = absurd (true≢false (sym (and_parts (nat_lt a (arity s)) false known).1))
    test-read (test.OneOf a (v ∷ vs)) known form ts h =
        let each = and_parts (nat_lt a (arity s)) (nat_lt 0 (length (v ∷ vs)) && list_all (is_of_kind (kind_at s a)) (v ∷ vs)) known in
        let kinds = (and_parts (nat_lt 0 (length (v ∷ vs))) (list_all (is_of_kind (kind_at s a)) (v ∷ vs)) each.1).1 in
        let x = test.OneOf a (v ∷ vs) in
        let closed = more_values vs ++ (mark (codes ")") ++ form) in
        let one = by-one d due.Test d (due.Sign a) (is_named (name_at s a)) (keyword (codes "IN") ++ (mark (codes "(") ++ (literal v ++ closed))) ts
        (ap (λ f. fits (is_named (name_at s a) ∷ is_word (codes "IN") ∷ is_mark (codes "(") ∷ writes v ∷ f) ts) (sym (append_assoc (more_values vs) (mark (codes ")")) form)) ∙ h) (λ t w. test-step t a each.0 w) in
        let two = by-one d (due.Sign a) d (due.InOpen a) (is_word (codes "IN")) (mark (codes "(") ++ (literal v ++ closed)) one.more one.rest (λ t w. list-step t a w) in
        let three = by-one d (due.InOpen a) d (due.Member a []) (is_mark (codes "(")) (literal v ++ closed) two.more two.rest (λ t w. list-open t a w) in
        let four = values-read a [] v vs kinds (mark (codes ")") ++ form) three.more three.rest in
        let five = by-one d (due.MoreMembers a (v ∷ vs)) (with_test d x) due.MoreTests (is_mark (codes ")")) form four.more four.rest (λ t w. member-close t a (v ∷ vs) w) in
        record { more = five.more; same = one.same ∙ two.same ∙ three.same ∙ four.same ∙ five.same; rest = five.rest }

  -- these tests more
  abbrev with_tests : Draft → List Test → Draft
  with_tests d xs = record { items = d.items; named = d.named; group = d.group; tests = d.tests ++ xs }

  abbrev more_tests : List Test → Form
  more_tests xs = flat_map (λ next. keyword (codes "AND") ++ next) (map (test_form s) xs)

  tests-read : (d : Draft) (x : Test) (xs : List Test) → list_all (is_test s) (x ∷ xs) ≡ true → (form : Form) (ts : List Token) → fits (test_form s x ++ (more_tests xs ++ form)) ts ≡ true
      → GoesOn d due.Test ts (with_tests d (x ∷ xs)) due.MoreTests form
  tests-read d x [] known form ts h = test-read d x (and_parts (is_test s x) true known).0 form ts h
  tests-read d x (y ∷ ys) known form ts h =
      let each = and_parts (is_test s x) (list_all (is_test s) (y ∷ ys)) known in
      let e = with_test d x in
      let one = test-read d x each.0 (more_tests (y ∷ ys) ++ form) ts h in
      let two = by-one e due.MoreTests e due.Test (is_word (codes "AND")) ((test_form s y ++ more_tests ys) ++ form) one.more one.rest (λ t w. and-step e t w) in
      let three = tests-read e y ys each.1 form two.more (ap (λ f. fits f two.more) (sym (append_assoc (test_form s y) (more_tests ys) form)) ∙ two.rest) in
      subst (λ tests. GoesOn d due.Test ts (record { items = d.items; named = d.named; group = d.group; tests = tests }) due.MoreTests form) (append_assoc d.tests (x ∷ []) (y ∷ ys))
      (record { more = three.more; same = one.same ∙ two.same ∙ three.same; rest = three.rest })

  -- what is due behind these tests, or behind the table where there is none
  abbrev behind_tests : List Test → Due
  behind_tests [] = due.Clauses
  behind_tests (x ∷ xs) = due.MoreTests

  where-read : (d : Draft) (xs : List Test) → list_all (is_test s) xs ≡ true → (form : Form) (ts : List Token) → fits (where_form s xs ++ form) ts ≡ true
      → GoesOn d due.Clauses ts (with_tests d xs) (behind_tests xs) form
  where-read d [] known form ts h =
      subst (λ tests. GoesOn d due.Clauses ts (record { items = d.items; named = d.named; group = d.group; tests = tests }) due.Clauses form) (sym (append-nil d.tests)) (record { more = ts; same = refl; rest = h })
  where-read d (x ∷ xs) known form ts h =
      let one = by-one d due.Clauses d due.Test (is_word (codes "WHERE")) ((test_form s x ++ more_tests xs) ++ form) ts h (λ t w. where-step d t w) in
      let two = tests-read d x xs known form one.more (ap (λ f. fits f one.more) (sym (append_assoc (test_form s x) (more_tests xs) form)) ∙ one.rest) in
      record { more = two.more; same = one.same ∙ two.same; rest = two.rest }

  -- ---- groups

  module _ (d : Draft) (t : Token) where
    group-behind : (xs : List Test) → is_word (codes "GROUP") t ≡ true → at_due s d (behind_tests xs) t ≡ Ok (goes d due.By)
    unfolding at_due
    group-behind [] w = (λ i. along d t ((word-other t (codes "GROUP") (codes "WHERE") refl w i, due.Test) ∷ (w i, due.By) ∷ (is_end t, due.Nothing) ∷ []))
    group-behind (x ∷ xs) w = (λ i. along d t ((word-other t (codes "GROUP") (codes "AND") refl w i, due.Test) ∷ (w i, due.By) ∷ (is_end t, due.Nothing) ∷ []))

    by-step : is_word (codes "BY") t ≡ true → at_due s d due.By t ≡ Ok (goes d due.Group)
    unfolding at_due
    by-step w = only-way d t (is_word (codes "BY") t) due.Group w

    group-step : (a : ℕ) → nat_lt a (arity s) ≡ true → is_grouped d.group a ≡ false → is_named (name_at s a) t ≡ true → at_due s d due.Group t ≡ Ok (goes (with_group d a) due.MoreGroups)
    unfolding at_due at_group
    group-step a low new e =
        made-again (attr_at s t) a (λ a. judged (goes (with_group d a) due.MoreGroups) ((not (is_grouped d.group a), refused.Group t.byte) ∷ [])) (attr-again t s lawful a low e)
        ∙ (λ i. judged (goes (with_group d a) due.MoreGroups) ((not (new i), refused.Group t.byte) ∷ []))

    groups-comma : is_mark (codes ",") t ≡ true → at_due s d due.MoreGroups t ≡ Ok (goes d due.Group)
    unfolding at_due
    groups-comma w = (λ i. along d t ((w i, due.Group) ∷ (is_end t, due.Nothing) ∷ []))

  -- these attributes more to group by
  abbrev with_groups : Draft → List ℕ → Draft
  with_groups d group = record { items = d.items; named = d.named; group = d.group ++ group; tests = d.tests }

  abbrev more_groups : List ℕ → Form
  more_groups group = flat_map (λ next. mark (codes ",") ++ next) (map (attr_form s) group)

  groups-read : (d : Draft) (a : ℕ) (group : List ℕ) → list_all (λ a. nat_lt a (arity s)) (a ∷ group) ≡ true → are_distinct nat_eq (d.group ++ a ∷ group) ≡ true → (form : Form) (ts : List Token)
      → fits (is_named (name_at s a) ∷ (more_groups group ++ form)) ts ≡ true → GoesOn d due.Group ts (with_groups d (a ∷ group)) due.MoreGroups form
  groups-read d a [] known apart form ts h =
      by-one d due.Group (with_group d a) due.MoreGroups (is_named (name_at s a)) form ts h (λ t w. group-step d t a (and_parts (nat_lt a (arity s)) true known).0 (distinct-new nat_eq d.group a [] apart) w)
  groups-read d a (b ∷ group) known apart form ts h =
      let each = and_parts (nat_lt a (arity s)) (list_all (λ a. nat_lt a (arity s)) (b ∷ group)) known in
      let e = with_group d a in
      let one = by-one d due.Group e due.MoreGroups (is_named (name_at s a)) (more_groups (b ∷ group) ++ form) ts h (λ t w. group-step d t a each.0 (distinct-new nat_eq d.group a (b ∷ group) apart) w) in
      let two = by-one e due.MoreGroups e due.Group (is_mark (codes ",")) (is_named (name_at s b) ∷ (more_groups group ++ form)) one.more one.rest (λ t w. groups-comma e t w) in
      let three = groups-read e b group each.1 (ap (are_distinct nat_eq) (append_assoc d.group (a ∷ []) (b ∷ group)) ∙ apart) form two.more two.rest in
      subst (λ all. GoesOn d due.Group ts (record { items = d.items; named = d.named; group = all; tests = d.tests }) due.MoreGroups form) (append_assoc d.group (a ∷ []) (b ∷ group))
      (record { more = three.more; same = one.same ∙ two.same ∙ three.same; rest = three.rest })

  -- ---- the end

  rules-hold : (q : Query) (group : List ℕ) (ns : List Named) → list_all (λ (n : Named). is_grouped group n.attr) ns ≡ true → judged q (map (λ (n : Named). (is_grouped group n.attr, refused.Group n.byte)) ns) ≡ Ok q
  rules-hold q group [] h = refl
  rules-hold q group (n ∷ ns) h =
      let each = and_parts (is_grouped group n.attr) (list_all (λ (n : Named). is_grouped group n.attr) ns) h in
      ap (λ b. if b then judged q (map (λ (n : Named). (is_grouped group n.attr, refused.Group n.byte)) ns) else Err (refused.Group n.byte)) each.0 ∙ rules-hold q group ns each.1

  -- where the text may end
  abbrev MayEnd : Due → Type 0
  MayEnd next = (d : Draft) → at_due s d next (end_at end) ≡ Ok (goes d due.Nothing)

  tests-end : (xs : List Test) → MayEnd (behind_tests xs)
  unfolding at_due
  tests-end [] d = refl
  tests-end (x ∷ xs) d = refl

  groups-end : MayEnd due.MoreGroups
  unfolding at_due
  groups-end d = refl

  none-left : (ts : List Token) → fits [] ts ≡ true → ts ≡ []
  none-left [] h = refl
  none-left (t ∷ ts) h = cc

  ended : (d : Draft) (next : Due) (ts : List Token) → MayEnd next → AreGrouped d.group d → fits [] ts ≡ true → read_on s end (goes d next) ts ≡ Ok (query_in d)
  ended d next ts may named h =
      ap (read_on s end (goes d next)) (none-left ts h)
      ∙ (ap (λ r. r >>= (λ last. judged (query_in last.draft) (group_rules last.draft))) (may d) ∙ rules-hold (query_in d) d.group d.named named)

  -- the groups, if there are any, and the end
  group-read : (d : Draft) (xs : List Test) (group : List ℕ) → d.group ≡ [] → list_all (λ a. nat_lt a (arity s)) group ≡ true → are_distinct nat_eq group ≡ true → AreGrouped group d → (ts : List Token)
      → fits (group_form s group) ts ≡ true → read_on s end (goes d (behind_tests xs)) ts ≡ Ok (query_in (with_groups d group))
  group-read d xs [] none known apart named ts h =
      let all : d.group ++ [] ≡ d.group = append-nil d.group in
      ended d (behind_tests xs) ts (tests-end xs) (ap (λ g. list_all (λ (n : Named). is_grouped g n.attr) d.named) none ∙ named) h
      ∙ ap (λ g. Ok (record { items = d.items; group = g; tests = d.tests })) (sym all)
  group-read d xs (a ∷ group) none known apart named ts h =
      let all : d.group ++ a ∷ group ≡ a ∷ group = ap (λ g. g ++ a ∷ group) none in
      let one = by-one d (behind_tests xs) d due.By (is_word (codes "GROUP")) (keyword (codes "BY") ++ (is_named (name_at s a) ∷ (more_groups group ++ []))) ts
      (ap (λ f. fits (is_word (codes "GROUP") ∷ is_word (codes "BY") ∷ is_named (name_at s a) ∷ f) ts) (append-nil (more_groups group)) ∙ h) (λ t w. group-behind d t xs w) in
      let two = by-one d due.By d due.Group (is_word (codes "BY")) (is_named (name_at s a) ∷ (more_groups group ++ [])) one.more one.rest (λ t w. by-step d t w) in
      let three = groups-read d a group known (ap (are_distinct nat_eq) all ∙ apart) [] two.more two.rest in
      one.same ∙ two.same ∙ three.same
      ∙ ended (with_groups d (a ∷ group)) due.MoreGroups three.more groups-end (ap (λ g. list_all (λ (n : Named). is_grouped g n.attr) d.named) all ∙ named) three.rest

  -- ---- the whole

  -- of the form of a query, the first part apart from the others
  whole-apart : (a b c d e f : Form) → ((((a ++ b) ++ c) ++ d) ++ e) ++ f ≡ a ++ (b ++ (c ++ (d ++ (e ++ f))))
  whole-apart a b c d e f = simp append_assoc

  query-form : (q : Query) → query_form s q
      ≡ keyword (codes "SELECT") ++ (parted (mark (codes ",")) (map (item_form s) q.items) ++ (keyword (codes "FROM") ++ (name (codes "facts") ++ (where_form s q.tests ++ group_form s q.group))))
  query-form q = simp append_assoc

  tokens-again : (x : Item) (xs : List Item) (tests : List Test) (group : List ℕ) → SqlAgrees s (record { items = x ∷ xs; group = group; tests = tests }) → (ts : List Token)
      → fits (query_form s (record { items = x ∷ xs; group = group; tests = tests })) ts ≡ true
      → read_on s end (goes nothing due.Select) ts ≡ Ok (record { items = x ∷ xs; group = group; tests = tests })
  tokens-again x xs tests group agrees ts h =
      let q : Query = record { items = x ∷ xs; group = group; tests = tests } in
      let clauses = where_form s tests ++ group_form s group in
      let from = keyword (codes "FROM") ++ (name (codes "facts") ++ clauses) in
      let one = by-one nothing due.Select nothing due.Item (is_word (codes "SELECT")) ((item_form s x ++ more_items xs) ++ from) ts (ap (λ f. fits f ts) (sym (query-form q)) ∙ h) (λ t w. select-step nothing t w) in
      let two = items-read group nothing x xs agrees.items refl from one.more (ap (λ f. fits f one.more) (sym (append_assoc (item_form s x) (more_items xs) from)) ∙ one.rest) in
      let d = two.draft in
      let three = by-one d due.MoreItems d due.Table (is_word (codes "FROM")) (name (codes "facts") ++ clauses) two.goes_on.more two.goes_on.rest (λ t w. from-step d t w) in
      let four = by-one d due.Table d due.Clauses (is_named (codes "facts")) clauses three.more three.rest (λ t w. table-step d t w) in
      let five = where-read d tests agrees.tests (group_form s group) four.more four.rest in
      one.same ∙ two.goes_on.same ∙ three.same ∙ four.same ∙ five.same
      ∙ group-read (with_tests d tests) tests group two.same_group agrees.group agrees.group_apart two.named five.more five.rest
      ∙ (λ i. Ok (record { items = two.items i; group = two.same_group i ++ group; tests = two.tests i ++ tests }))

  query-again : (q : Query) (ts : List Token) → SqlAgrees s q → fits (query_form s q) ts ≡ true → read_on s end (goes nothing due.Select) ts ≡ Ok q
  query-again q ts agrees h = by q.items refl
    where
      by : (items : List Item) → q.items ≡ items → read_on s end (goes nothing due.Select) ts ≡ Ok q
      by [] e = absurd (omega (arith, agrees.some, ap length e))
      by (x ∷ xs) e =
          let same : q ≡ record { items = x ∷ xs; group = q.group; tests = q.tests } = (λ i. record { items = e i; group = q.group; tests = q.tests }) in
          tokens-again x xs q.tests q.group (subst (SqlAgrees s) same agrees) ts (ap (λ p. fits (query_form s p) ts) (sym same) ∙ h) ∙ ap Ok (sym same)

-- a text that says a query is read as it
pub says-again : (s : Schema) (text : List ℕ) (q : Query) → IsSchema s → SqlAgrees s q → Says s q text → query_of s text ≡ Ok q
unfolding query_of
says-again s text q lawful agrees says = query-again s lawful (length text + 1) q (tokens_of (length text + 1) text) agrees says

pub answer-again : (s : Schema) (text : List ℕ) (result : Reading Query) → Answers result (query_of s text) → IsSchema s → (q : Query) → SqlAgrees s q → Says s q text → Answers result (Ok q)
answer-again s text (Ok p) is lawful q agrees says = sym (says-again s text q lawful agrees says) ∙ is
answer-again s text (Err refusal) is lawful q agrees says = λ some. sym (says-again s text q lawful agrees says) ∙ is some
