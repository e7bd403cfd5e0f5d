-- A text that is read as a query says it.
use Rattle.std.proofs.Common.{◌≡◌, ℕ, ◌+◌, Bool, true, false, ◌&&◌, List, [], ◌∷◌, ◌++◌, map, length, Option, Some, None, Ok, Err, ℤ, refl, sym, ◌∙◌, ap, subst, append_assoc, append-nil}
use Rattle.std.specs.Prelude.{IfOk, codes, option_map, nat_le, if◌then◌else◌}
use Rattle.std.specs.Str.{bytes_eq}
use Rattle.std.specs.Cmp.{signed_Decides}
use Rattle.std.specs.Cmp.Lexicographic.{bytes_decides}
use Rattle.std.proofs.lemmas.Bool.{and_parts, and_from}
use Rattle.std.proofs.lemmas.List.Sums.{passes_at_first}
use Rattle.fact_model.specs.Number.{number_in}
use Rattle.fact_model.specs.declared.slice.Column.{Column}
use Rattle.fact_model.specs.declared.slice.Column.TheVariants as column
use Rattle.cube_schema.specs.Kinds.{kind_at, measure_name_at, name_at}
use Rattle.cube_schema.specs.Reading.{measure_number, number_of}
use Rattle.cube_schema.specs.declared.schema.Kind.{Kind}
use Rattle.cube_schema.specs.declared.schema.Kind.TheVariants as kind
use Rattle.cube_schema.specs.declared.schema.Schema.{Schema}
use Rattle.cube_schema.proofs.Numbers.{found-below, name-number}
use Rattle.sql_lang.specs.declared.draft.Draft.{Draft}
use Rattle.sql_lang.specs.declared.draft.Due.{Due}
use Rattle.sql_lang.specs.declared.draft.Due.TheVariants as due
use Rattle.sql_lang.specs.declared.draft.Fold.{Fold}
use Rattle.sql_lang.specs.declared.draft.Fold.TheVariants.{Sum, Min, Max}
use Rattle.sql_lang.specs.declared.draft.Reader.{Reader}
use Rattle.sql_lang.specs.declared.query.Item.TheVariants as item
use Rattle.sql_lang.specs.declared.query.Operand.{Operand}
use Rattle.sql_lang.specs.declared.query.Operand.TheVariants as operand
use Rattle.sql_lang.specs.declared.query.Query.{Query}
use Rattle.sql_lang.specs.declared.query.Sign.{Sign}
use Rattle.sql_lang.specs.declared.query.Test.{Test}
use Rattle.sql_lang.specs.declared.query.Test.TheVariants as test
use Rattle.sql_lang.specs.declared.refusal.SqlRefusal.TheVariants as refused
use Rattle.sql_lang.specs.declared.token.Token.{Token}
use Rattle.sql_lang.specs.Answers.{Answers, Reading, ◌>>=◌, judged, or_refused}
use Rattle.sql_lang.specs.Grammar.{Form, Says, fits, group_form, is_named, item_form, same_number, keyword, literal, mark, name, parted, query_form, sign_text, test_form, where_form, writes}
use Rattle.sql_lang.specs.Reading.{along, attr_at, attr_rules, at_close, at_due, at_group, at_high, at_item, at_low, at_measure, at_member, at_more_members, at_sign, at_table, at_test, at_value, bound_at, bound_in, clause_ways, column_over, column_ways, fresh_rules, goes, group_rules, group_ways, is_equal, is_literal, item_ways, measure_at, measure_rules, nothing, only, operand_at, operand_in, query_in, query_of, read_on, sign_ways, table_rules, test_ways, with_attr, with_group, with_item, with_test}
use Rattle.sql_lang.specs.Tokens.{end_at, is_mark, is_name, is_quoted, is_whole, is_word, tokens_of}
use Rattle.sql_lang.proofs.Answered.{along-gives, along_or-gives, bound-ok, chosen-ok, judged-ok, made, some-chosen, some-ok}
use Rattle.sql_lang.proofs.Forms.{IsSome, apart_four, apart_six, attr_form, fits-push, group-lead, group-push, lead, parted-of_more, some-push, where-lead, where-push}

-- ---- names and literals

attr-named : (s : Schema) (t : Token) (a : ℕ) → attr_at s t ≡ Ok a → is_named (name_at s a) t ≡ true
attr-named s t a e =
    let ok = judged-ok (number_of s t.text) a (attr_rules s t) e in
    let same : t.text ≡ name_at s a = sym (name-number s t.text ok.1.1.0) ∙ ap (name_at s) ok.0 in
    and_from (is_name t) (bytes_eq t.text (name_at s a)) ok.1.0 ((bytes_decides t.text (name_at s a)).1 same)

measure-named : (s : Schema) (t : Token) (m : ℕ) → measure_at s t ≡ Ok m → is_named (measure_name_at s m) t ≡ true
measure-named s t m e =
    let ok = judged-ok (measure_number s t.text) m (measure_rules s t) e in
    let first : measure_name_at s (measure_number s t.text) ≡ t.text =
    (bytes_decides (measure_name_at s (measure_number s t.text)) t.text).0 (passes_at_first (λ m. bytes_eq m t.text) s.measures [] (found-below (λ m. bytes_eq m t.text) s.measures ok.1.1.0)) in
    let same : t.text ≡ measure_name_at s m = sym first ∙ ap (measure_name_at s) ok.0 in
    and_from (is_name t) (bytes_eq t.text (measure_name_at s m)) ok.1.0 ((bytes_decides t.text (measure_name_at s m)).1 same)

number-written : (t : Token) (z : ℤ) → bound_in kind.Number t ≡ Some z → writes (operand.Whole z) t ≡ true
number-written t z e =
    let ok = whole-some (is_whole t) (number_in t.text) e in
    and_from (is_whole t) (same_number z (number_in t.text)) ok.0 (ap (same_number z) ok.1 ∙ (signed_Decides z z).1 refl)
  where
    whole-some : (b : Bool) (found : Option ℤ) → (if b then found else None) ≡ Some z → (b ≡ true) × (found ≡ Some z)
    whole-some true found f = (refl, f)
    whole-some false found f = cc

operand-written : (k : Kind) (exact : Bool) (t : Token) (v : Operand) → operand_in k exact t ≡ Some v → writes v t ≡ true
operand-written (kind.Word max) exact t v e =
    let ok = some-chosen (exact && is_quoted t && nat_le (length t.text) 255) (operand.Word t.text) v e in
    let parts = and_parts (exact && is_quoted t) (nat_le (length t.text) 255) ok.0 in
    ap (λ w. writes w t) (sym ok.1) ∙ and_from (is_quoted t) (bytes_eq t.text t.text) (and_parts exact (is_quoted t) parts.0).1 ((bytes_decides t.text t.text).1 refl)
operand-written kind.Number exact t v e = by (bound_in kind.Number t) refl e
  where
    by : (found : Option ℤ) → bound_in kind.Number t ≡ found → option_map operand.Whole found ≡ Some v → writes v t ≡ true
    by None f g = cc
    by (Some z) f g = (let same : operand.Whole z ≡ v = cc in ap (λ w. writes w t) (sym same) ∙ number-written t z f)

value-written : (s : Schema) (a : ℕ) (exact : Bool) (t : Token) (v : Operand) → operand_at s a exact t ≡ Ok v → writes v t ≡ true
value-written s a exact t v e =
    let ok = chosen-ok (is_literal t) (or_refused (refused.Value t.byte) (operand_in (kind_at s a) exact t)) (refused.Syntax t.byte) v e in
    operand-written (kind_at s a) exact t v (some-ok (refused.Value t.byte) (operand_in (kind_at s a) exact t) v ok.1)

bound-written : (s : Schema) (a : ℕ) (t : Token) (z : ℤ) → bound_at s a t ≡ Ok z → writes (operand.Whole z) t ≡ true
bound-written s a t z e =
    let ok = chosen-ok (is_literal t) (or_refused (refused.Value t.byte) (bound_in (kind_at s a) t)) (refused.Syntax t.byte) z e in
    by (kind_at s a) (some-ok (refused.Value t.byte) (bound_in (kind_at s a) t) z ok.1)
  where
    by : (k : Kind) → bound_in k t ≡ Some z → writes (operand.Whole z) t ≡ true
    by (kind.Word max) f = cc
    by kind.Number f = number-written t z f

-- ---- the form of what is read so far

abbrev fold_text : Fold → List ℕ
fold_text Sum = codes "SUM"
fold_text Min = codes "MIN"
fold_text Max = codes "MAX"

module _ (s : Schema) where
  -- a column up to its `)`
  abbrev column_front : Column → Form
  column_front column.Count = (keyword (codes "COUNT") ++ mark (codes "(")) ++ mark (codes "*")
  column_front (column.Sum m) = (keyword (codes "SUM") ++ mark (codes "(")) ++ name (measure_name_at s m)
  column_front (column.Min m) = (keyword (codes "MIN") ++ mark (codes "(")) ++ name (measure_name_at s m)
  column_front (column.Max m) = (keyword (codes "MAX") ++ mark (codes "(")) ++ name (measure_name_at s m)

  column-whole : (c : Column) → column_front c ++ mark (codes ")") ≡ item_form s (item.Column c)
  column-whole column.Count = refl
  column-whole (column.Sum m) = refl
  column-whole (column.Min m) = refl
  column-whole (column.Max m) = refl

  module _ (d : Draft) where
    abbrev items_lead : Form
    items_lead = keyword (codes "SELECT") ++ lead (mark (codes ",")) (map (item_form s) d.items)

    abbrev items_all : Form
    items_all = keyword (codes "SELECT") ++ parted (mark (codes ",")) (map (item_form s) d.items)

    abbrev head : Form
    head = (items_all ++ keyword (codes "FROM")) ++ name (codes "facts")

    abbrev tests_lead : Form
    tests_lead = head ++ (keyword (codes "WHERE") ++ lead (keyword (codes "AND")) (map (test_form s) d.tests))

    abbrev tests_all : Form
    tests_all = head ++ where_form s d.tests

    abbrev groups_lead : Form
    groups_lead = tests_all ++ (keyword (codes "GROUP") ++ keyword (codes "BY") ++ lead (mark (codes ",")) (map (attr_form s) d.group))

    abbrev groups_all : Form
    groups_all = tests_all ++ group_form s d.group

    abbrev in_front : ℕ → Form
    in_front a = tests_lead ++ name (name_at s a)

    abbrev list_front : ℕ → Form
    list_front a = (in_front a ++ keyword (codes "IN")) ++ mark (codes "(")

    -- neither tests nor groups are read
    abbrev Early : Type 0
    Early = (d.tests ≡ []) × (d.group ≡ [])

    -- no groups are read
    abbrev Middle : Type 0
    Middle = d.group ≡ []

  -- the tokens that were read have the form of what is read of a query, up to what is due
  abbrev Told : List Token → Draft → Due → Type 0
  Told seen d due.Select = (fits [] seen ≡ true) × (d.items ≡ []) × Early d
  Told seen d due.Item = (fits (items_lead d) seen ≡ true) × Early d
  Told seen d due.CountOpen = (fits (items_lead d ++ keyword (codes "COUNT")) seen ≡ true) × Early d
  Told seen d due.CountStar = (fits ((items_lead d ++ keyword (codes "COUNT")) ++ mark (codes "(")) seen ≡ true) × Early d
  Told seen d (due.FoldOpen fold) = (fits (items_lead d ++ keyword (fold_text fold)) seen ≡ true) × Early d
  Told seen d (due.Measure fold) = (fits ((items_lead d ++ keyword (fold_text fold)) ++ mark (codes "(")) seen ≡ true) × Early d
  Told seen d (due.Close c) = (fits (items_lead d ++ column_front c) seen ≡ true) × Early d
  Told seen d due.MoreItems = (fits (items_all d) seen ≡ true) × Early d × IsSome d.items
  Told seen d due.Table = (fits (items_all d ++ keyword (codes "FROM")) seen ≡ true) × Early d
  Told seen d due.Clauses = (fits (head d) seen ≡ true) × Early d
  Told seen d due.Test = (fits (tests_lead d) seen ≡ true) × Middle d
  Told seen d (due.Sign a) = (fits (in_front d a) seen ≡ true) × Middle d
  Told seen d (due.Value a sign) = (fits (in_front d a ++ mark (sign_text sign)) seen ≡ true) × Middle d
  Told seen d (due.Low a) = (fits (in_front d a ++ keyword (codes "BETWEEN")) seen ≡ true) × Middle d
  Told seen d (due.LowAnd a low) = (fits ((in_front d a ++ keyword (codes "BETWEEN")) ++ literal (operand.Whole low)) seen ≡ true) × Middle d
  Told seen d (due.High a low) = (fits (((in_front d a ++ keyword (codes "BETWEEN")) ++ literal (operand.Whole low)) ++ keyword (codes "AND")) seen ≡ true) × Middle d
  Told seen d (due.InOpen a) = (fits (in_front d a ++ keyword (codes "IN")) seen ≡ true) × Middle d
  Told seen d (due.Member a vs) = (fits (list_front d a ++ lead (mark (codes ",")) (map literal vs)) seen ≡ true) × Middle d
  Told seen d (due.MoreMembers a vs) = (fits (list_front d a ++ parted (mark (codes ",")) (map literal vs)) seen ≡ true) × Middle d × IsSome vs
  Told seen d due.MoreTests = (fits (tests_all d) seen ≡ true) × Middle d × IsSome d.tests
  Told seen d due.By = (fits (tests_all d ++ keyword (codes "GROUP")) seen ≡ true) × Middle d
  Told seen d due.Group = fits (groups_lead d) seen ≡ true
  Told seen d due.MoreGroups = (fits (groups_all d) seen ≡ true) × IsSome d.group
  Told seen d due.Nothing = Unit {0}

  -- ---- one token

  module _ (d : Draft) (seen : List Token) (t : Token) (r : Reader) where
    abbrev P : Reader → Type 0
    P r = Told (seen ++ t ∷ []) r.draft r.due

    -- the form of what was read and of the token is this one
    more : (form whole : Form) (p : Token → Bool) → fits form seen ≡ true → p t ≡ true → form ++ p ∷ [] ≡ whole → fits whole (seen ++ t ∷ []) ≡ true
    more form whole p h e is = ap (λ f. fits f (seen ++ t ∷ [])) (sym is) ∙ fits-push form seen p t h e

    push : (form : Form) (p : Token → Bool) → fits form seen ≡ true → p t ≡ true → fits (form ++ p ∷ []) (seen ++ t ∷ []) ≡ true
    push form p h e = fits-push form seen p t h e

    lead-more : {X : Type 0} (between : Form) (form : X → Form) (xs : List X) → IsSome xs → parted between (map form xs) ++ between ≡ lead between (map form xs)
    lead-more between form [] some = absurd some
    lead-more between form (x ∷ xs) some = refl

    item-told : Told seen d due.Item → at_item s d t ≡ Ok r → P r
    unfolding at_item
    item-told h e = along_or-gives P d (column_ways t) (attr_at s t >>= (λ a. Ok (goes (with_attr d a t.byte) due.MoreItems))) r (
      (λ w. (push (items_lead d) (is_word (codes "COUNT")) h.0 w, h.1)),
      (
        (λ w. (push (items_lead d) (is_word (codes "SUM")) h.0 w, h.1)),
        (
          (λ w. (push (items_lead d) (is_word (codes "MIN")) h.0 w, h.1)),
          ((λ w. (push (items_lead d) (is_word (codes "MAX")) h.0 w, h.1)), tt),
        ),
      ),
    )
        (λ f. made P (attr_at s t) (λ a. goes (with_attr d a t.byte) due.MoreItems) r
        (λ a g. (
          more (items_lead d) (items_all (with_attr d a t.byte)) (is_named (name_at s a)) h.0 (attr-named s t a g)
              (ap (λ rest. keyword (codes "SELECT") ++ rest) (sym (parted-of_more (mark (codes ",")) (item_form s) d.items (item.Attr a)))),
          h.1,
          some-push d.items (item.Attr a),
        )) f)
        e

    measure-told : (fold : Fold) → Told seen d (due.Measure fold) → at_measure s d fold t ≡ Ok r → P r
    unfolding at_measure
    measure-told fold h e = made P (measure_at s t) (λ m. goes d (due.Close (column_over fold m))) r (λ m f. by fold m h (measure-named s t m f)) e
      where
        by : (fold : Fold) (m : ℕ) → Told seen d (due.Measure fold) → is_named (measure_name_at s m) t ≡ true → Told (seen ++ t ∷ []) d (due.Close (column_over fold m))
        by Sum m g n = (more ((items_lead d ++ keyword (codes "SUM")) ++ mark (codes "(")) (items_lead d ++ column_front (column.Sum m)) (is_named (measure_name_at s m)) g.0 n (simp append_assoc), g.1)
        by Min m g n = (more ((items_lead d ++ keyword (codes "MIN")) ++ mark (codes "(")) (items_lead d ++ column_front (column.Min m)) (is_named (measure_name_at s m)) g.0 n (simp append_assoc), g.1)
        by Max m g n = (more ((items_lead d ++ keyword (codes "MAX")) ++ mark (codes "(")) (items_lead d ++ column_front (column.Max m)) (is_named (measure_name_at s m)) g.0 n (simp append_assoc), g.1)

    close-told : (c : Column) → Told seen d (due.Close c) → at_close d c t ≡ Ok r → P r
    unfolding at_close
    close-told c h e = along-gives P (with_item d (item.Column c)) t (only (is_mark (codes ")") t) due.MoreItems) r (
      (λ w. (
        more (items_lead d ++ column_front c) (items_all (with_item d (item.Column c))) (is_mark (codes ")")) h.0 w
            (append_assoc (items_lead d) (column_front c) (mark (codes ")")) ∙ ap (λ f. items_lead d ++ f) (column-whole c)
            ∙ ap (λ rest. keyword (codes "SELECT") ++ rest) (sym (parted-of_more (mark (codes ",")) (item_form s) d.items (item.Column c)))),
        h.1,
        some-push d.items (item.Column c),
      )),
      tt,
    ) e

    table-told : Told seen d due.Table → at_table d t ≡ Ok r → P r
    unfolding at_table
    table-told h e =
        let ok = judged-ok (goes d due.Clauses) r (table_rules t) e in
        subst P ok.0 (push (items_all d ++ keyword (codes "FROM")) (is_named (codes "facts")) h.0 (and_from (is_name t) (bytes_eq t.text (codes "facts")) ok.1.0 ok.1.1.0), h.1)

    test-told : Told seen d due.Test → at_test s d t ≡ Ok r → P r
    unfolding at_test
    test-told h e = made P (attr_at s t) (λ a. goes d (due.Sign a)) r (λ a f. (push (tests_lead d) (is_named (name_at s a)) h.0 (attr-named s t a f), h.1)) e

    sign-told : (a : ℕ) → Told seen d (due.Sign a) → at_sign d a t ≡ Ok r → P r
    unfolding at_sign
    sign-told a h e = along-gives P d t (sign_ways a t) r (
      (λ w. (push (in_front d a) (is_mark (codes "=")) h.0 w, h.1)),
      (
        (λ w. (push (in_front d a) (is_mark (codes "<")) h.0 w, h.1)),
        (
          (λ w. (push (in_front d a) (is_mark (codes "<=")) h.0 w, h.1)),
          (
            (λ w. (push (in_front d a) (is_mark (codes ">")) h.0 w, h.1)),
            (
              (λ w. (push (in_front d a) (is_mark (codes ">=")) h.0 w, h.1)),
              (
                (λ w. (push (in_front d a) (is_word (codes "BETWEEN")) h.0 w, h.1)),
                ((λ w. (push (in_front d a) (is_word (codes "IN")) h.0 w, h.1)), tt),
              ),
            ),
          ),
        ),
      ),
    ) e

    -- a test more
    test-more : (form : Form) (p : Token → Bool) (x : Test) → fits form seen ≡ true → p t ≡ true → form ++ p ∷ [] ≡ tests_lead d ++ test_form s x → Middle d
        → Told (seen ++ t ∷ []) (with_test d x) due.MoreTests
    test-more form p x h e is m = (
      more form (tests_all (with_test d x)) p h e (is ∙ append_assoc (head d) (keyword (codes "WHERE") ++ lead (keyword (codes "AND")) (map (test_form s) d.tests)) (test_form s x)
          ∙ ap (λ rest. head d ++ rest) (append_assoc (keyword (codes "WHERE")) (lead (keyword (codes "AND")) (map (test_form s) d.tests)) (test_form s x) ∙ sym (where-push s d.tests x))),
      m,
      some-push d.tests x,
    )

    value-told : (a : ℕ) (sign : Sign) → Told seen d (due.Value a sign) → at_value s d a sign t ≡ Ok r → P r
    unfolding at_value
    value-told a sign h e = made P (operand_at s a (is_equal sign) t) (λ v. goes (with_test d (test.Compare a sign v)) due.MoreTests) r
        (λ v f. test-more (in_front d a ++ mark (sign_text sign)) (writes v) (test.Compare a sign v) h.0 (value-written s a (is_equal sign) t v f)
        (apart_four (tests_lead d) (name (name_at s a)) (mark (sign_text sign)) (literal v)) h.1) e

    low-told : (a : ℕ) → Told seen d (due.Low a) → at_low s d a t ≡ Ok r → P r
    unfolding at_low
    low-told a h e = made P (bound_at s a t) (λ low. goes d (due.LowAnd a low)) r
        (λ low f. (push (in_front d a ++ keyword (codes "BETWEEN")) (writes (operand.Whole low)) h.0 (bound-written s a t low f), h.1)) e

    high-told : (a : ℕ) (low : ℤ) → Told seen d (due.High a low) → at_high s d a low t ≡ Ok r → P r
    unfolding at_high
    high-told a low h e = made P (bound_at s a t) (λ high. goes (with_test d (test.Between a low high)) due.MoreTests) r
        (λ high f. test-more (((in_front d a ++ keyword (codes "BETWEEN")) ++ literal (operand.Whole low)) ++ keyword (codes "AND")) (writes (operand.Whole high)) (test.Between a low high) h.0
        (bound-written s a t high f) (apart_six (tests_lead d) (name (name_at s a)) (keyword (codes "BETWEEN")) (literal (operand.Whole low)) (keyword (codes "AND")) (literal (operand.Whole high))) h.1) e

    member-told : (a : ℕ) (vs : List Operand) → Told seen d (due.Member a vs) → at_member s d a vs t ≡ Ok r → P r
    unfolding at_member
    member-told a vs h e = made P (operand_at s a true t) (λ v. goes d (due.MoreMembers a (vs ++ v ∷ []))) r
        (λ v f. (
          more (list_front d a ++ lead (mark (codes ",")) (map literal vs)) (list_front d a ++ parted (mark (codes ",")) (map literal (vs ++ v ∷ []))) (writes v) h.0 (value-written s a true t v f)
              (append_assoc (list_front d a) (lead (mark (codes ",")) (map literal vs)) (literal v) ∙ ap (λ rest. list_front d a ++ rest) (sym (parted-of_more (mark (codes ",")) literal vs v))),
          h.1,
          some-push vs v,
        )) e

    members-told : (a : ℕ) (vs : List Operand) → Told seen d (due.MoreMembers a vs) → at_more_members d a vs t ≡ Ok r → P r
    unfolding at_more_members
    members-told a vs h e = along_or-gives P d (only (is_mark (codes ",") t) (due.Member a vs)) (along (with_test d (test.OneOf a vs)) t (only (is_mark (codes ")") t) due.MoreTests)) r (
      (λ w. (
        more (list_front d a ++ parted (mark (codes ",")) (map literal vs)) (list_front d a ++ lead (mark (codes ",")) (map literal vs)) (is_mark (codes ",")) h.0 w
            (append_assoc (list_front d a) (parted (mark (codes ",")) (map literal vs)) (mark (codes ",")) ∙ ap (λ rest. list_front d a ++ rest) (lead-more (mark (codes ",")) literal vs h.2)),
        h.1,
      )),
      tt,
    )
        (λ f. along-gives P (with_test d (test.OneOf a vs)) t (only (is_mark (codes ")") t) due.MoreTests) r (
          (λ w. test-more (list_front d a ++ parted (mark (codes ",")) (map literal vs)) (is_mark (codes ")")) (test.OneOf a vs) h.0 w
              (apart_six (tests_lead d) (name (name_at s a)) (keyword (codes "IN")) (mark (codes "(")) (parted (mark (codes ",")) (map literal vs)) (mark (codes ")"))) h.1),
          tt,
        ) f)
        e

    group-told : Told seen d due.Group → at_group s d t ≡ Ok r → P r
    unfolding at_group
    group-told h e =
        let found = bound-ok (attr_at s t) (λ a. judged (goes (with_group d a) due.MoreGroups) (fresh_rules d a t)) r e in
        let a = found.0 in
        let ok = judged-ok (goes (with_group d a) due.MoreGroups) r (fresh_rules d a t) found.2 in
        let by_all : Form = keyword (codes "GROUP") ++ keyword (codes "BY") ++ lead (mark (codes ",")) (map (attr_form s) d.group) in
        subst P ok.0 (
          more (groups_lead d) (groups_all (with_group d a)) (is_named (name_at s a)) h (attr-named s t a found.1)
              (append_assoc (tests_all d) by_all (attr_form s a) ∙ ap (λ rest. tests_all d ++ rest) (sym (group-push s d.group a))),
          some-push d.group a,
        )

    -- a test, a group or nothing more behind all that stands before
    clause-test : Told seen d due.Clauses → is_word (codes "WHERE") t ≡ true → Told (seen ++ t ∷ []) d due.Test
    clause-test h w = (
      more (head d) (tests_lead d) (is_word (codes "WHERE")) h.0 w
          (ap (λ rest. head d ++ rest) (sym (append-nil (keyword (codes "WHERE"))) ∙ ap (λ ts. keyword (codes "WHERE") ++ lead (keyword (codes "AND")) (map (test_form s) ts)) (sym h.1.0))),
      h.1.1,
    )

    clause-group : Told seen d due.Clauses → is_word (codes "GROUP") t ≡ true → Told (seen ++ t ∷ []) d due.By
    clause-group h w = (
      more (head d) (tests_all d ++ keyword (codes "GROUP")) (is_word (codes "GROUP")) h.0 w
          (ap (λ f. f ++ keyword (codes "GROUP")) (sym (append-nil (head d)) ∙ ap (λ ts. head d ++ where_form s ts) (sym h.1.0))),
      h.1.1,
    )

    tests-test : Told seen d due.MoreTests → is_word (codes "AND") t ≡ true → Told (seen ++ t ∷ []) d due.Test
    tests-test h w = (
      more (tests_all d) (tests_lead d) (is_word (codes "AND")) h.0 w
          (append_assoc (head d) (where_form s d.tests) (keyword (codes "AND")) ∙ ap (λ rest. head d ++ rest) (where-lead s d.tests h.2)),
      h.1,
    )

    by-told : Told seen d due.By → is_word (codes "BY") t ≡ true → Told (seen ++ t ∷ []) d due.Group
    by-told h w =
        more (tests_all d ++ keyword (codes "GROUP")) (groups_lead d) (is_word (codes "BY")) h.0 w
        (append_assoc (tests_all d) (keyword (codes "GROUP")) (keyword (codes "BY"))
        ∙ ap (λ gs. tests_all d ++ (keyword (codes "GROUP") ++ keyword (codes "BY") ++ lead (mark (codes ",")) (map (attr_form s) gs))) (sym h.1))

    groups-told : Told seen d due.MoreGroups → is_mark (codes ",") t ≡ true → Told (seen ++ t ∷ []) d due.Group
    groups-told h w =
        more (groups_all d) (groups_lead d) (is_mark (codes ",")) h.0 w
        (append_assoc (tests_all d) (group_form s d.group) (mark (codes ",")) ∙ ap (λ rest. tests_all d ++ rest) (group-lead s d.group h.1))

    items-told : Told seen d due.MoreItems → is_mark (codes ",") t ≡ true → Told (seen ++ t ∷ []) d due.Item
    items-told h w = (
      more (items_all d) (items_lead d) (is_mark (codes ",")) h.0 w
          (append_assoc (keyword (codes "SELECT")) (parted (mark (codes ",")) (map (item_form s) d.items)) (mark (codes ","))
          ∙ ap (λ rest. keyword (codes "SELECT") ++ rest) (lead-more (mark (codes ",")) (item_form s) d.items h.2)),
      h.1,
    )

    select-told : Told seen d due.Select → is_word (codes "SELECT") t ≡ true → Told (seen ++ t ∷ []) d due.Item
    select-told h w =
        (more [] (items_lead d) (is_word (codes "SELECT")) h.0 w (ap (λ xs. keyword (codes "SELECT") ++ lead (mark (codes ",")) (map (item_form s) xs)) (sym h.1)), h.2)

    star-told : Told seen d due.CountStar → is_mark (codes "*") t ≡ true → Told (seen ++ t ∷ []) d (due.Close column.Count)
    star-told h w =
        (more ((items_lead d ++ keyword (codes "COUNT")) ++ mark (codes "(")) (items_lead d ++ column_front column.Count) (is_mark (codes "*")) h.0 w (simp append_assoc), h.1)

    -- what is read behind a token is told by all of them
    due-told : (next : Due) → Told seen d next → at_due s d next t ≡ Ok r → P r
    unfolding at_due
    due-told due.Select h e = along-gives P d t (only (is_word (codes "SELECT") t) due.Item) r ((λ w. select-told h w), tt) e
    due-told due.Item h e = item-told h e
    due-told due.CountOpen h e = along-gives P d t (only (is_mark (codes "(") t) due.CountStar) r ((λ w. (push (items_lead d ++ keyword (codes "COUNT")) (is_mark (codes "(")) h.0 w, h.1)), tt) e
    due-told due.CountStar h e = along-gives P d t (only (is_mark (codes "*") t) (due.Close column.Count)) r ((λ w. star-told h w), tt) e
    due-told (due.FoldOpen fold) h e = along-gives P d t (only (is_mark (codes "(") t) (due.Measure fold)) r ((λ w. (push (items_lead d ++ keyword (fold_text fold)) (is_mark (codes "(")) h.0 w, h.1)), tt) e
    due-told (due.Measure fold) h e = measure-told fold h e
    due-told (due.Close c) h e = close-told c h e
    due-told due.MoreItems h e = along-gives P d t (item_ways t) r ((λ w. items-told h w), ((λ w. (push (items_all d) (is_word (codes "FROM")) h.0 w, h.1)), tt)) e
    due-told due.Table h e = table-told h e
    due-told due.Clauses h e = along-gives P d t (clause_ways t) r ((λ w. clause-test h w), ((λ w. clause-group h w), ((λ w. tt), tt))) e
    due-told due.Test h e = test-told h e
    due-told (due.Sign a) h e = sign-told a h e
    due-told (due.Value a sign) h e = value-told a sign h e
    due-told (due.Low a) h e = low-told a h e
    due-told (due.LowAnd a low) h e = along-gives P d t (only (is_word (codes "AND") t) (due.High a low)) r
        ((λ w. (push ((in_front d a ++ keyword (codes "BETWEEN")) ++ literal (operand.Whole low)) (is_word (codes "AND")) h.0 w, h.1)), tt) e
    due-told (due.High a low) h e = high-told a low h e
    due-told (due.InOpen a) h e = along-gives P d t (only (is_mark (codes "(") t) (due.Member a [])) r
        ((λ w. (more (in_front d a ++ keyword (codes "IN")) (list_front d a ++ []) (is_mark (codes "(")) h.0 w (sym (append-nil (list_front d a))), h.1)), tt) e
    due-told (due.Member a vs) h e = member-told a vs h e
    due-told (due.MoreMembers a vs) h e = members-told a vs h e
    due-told due.MoreTests h e = along-gives P d t (test_ways t) r ((λ w. tests-test h w), ((λ w. (push (tests_all d) (is_word (codes "GROUP")) h.0 w, h.1)), ((λ w. tt), tt))) e
    due-told due.By h e = along-gives P d t (only (is_word (codes "BY") t) due.Group) r ((λ w. by-told h w), tt) e
    due-told due.Group h e = group-told h e
    due-told due.MoreGroups h e = along-gives P d t (group_ways t) r ((λ w. groups-told h w), ((λ w. tt), tt)) e
    due-told due.Nothing h e = cc

  -- ---- the end

  whole-form : (d : Draft) → groups_all d ≡ query_form s (query_in d)
  whole-form d = simp append_assoc

  early-whole : (d : Draft) → Early d → head d ≡ groups_all d
  early-whole d h = sym (append-nil (head d)) ∙ sym (append-nil (head d ++ [])) ∙ (λ i. (head d ++ where_form s (sym h.0 i)) ++ group_form s (sym h.1 i))

  middle-whole : (d : Draft) → Middle d → tests_all d ≡ groups_all d
  middle-whole d h = sym (append-nil (tests_all d)) ∙ ap (λ gs. tests_all d ++ group_form s gs) (sym h)

  abbrev Whole : List Token → Reader → Type 0
  Whole seen r = fits (query_form s (query_in r.draft)) seen ≡ true

  end-told : (d : Draft) (seen : List Token) (end : ℕ) (next : Due) (r : Reader) → Told seen d next → at_due s d next (end_at end) ≡ Ok r → Whole seen r
  unfolding at_due at_item at_measure at_close at_table at_test at_sign at_value at_low at_high at_member at_more_members at_group
  end-told d seen end due.Select r h e = cc
  end-told d seen end due.Item r h e = cc
  end-told d seen end due.CountOpen r h e = cc
  end-told d seen end due.CountStar r h e = cc
  end-told d seen end (due.FoldOpen fold) r h e = cc
  end-told d seen end (due.Measure fold) r h e = cc
  end-told d seen end (due.Close c) r h e = cc
  end-told d seen end due.MoreItems r h e = cc
  end-told d seen end due.Table r h e = cc
  end-told d seen end due.Clauses r h e = (let same : goes d due.Nothing ≡ r = cc in subst (Whole seen) same (ap (λ f. fits f seen) (sym (early-whole d h.1 ∙ whole-form d)) ∙ h.0))
  end-told d seen end due.Test r h e = cc
  end-told d seen end (due.Sign a) r h e = cc
  end-told d seen end (due.Value a sign) r h e = cc
  end-told d seen end (due.Low a) r h e = cc
  end-told d seen end (due.LowAnd a low) r h e = cc
  end-told d seen end (due.High a low) r h e = cc
  end-told d seen end (due.InOpen a) r h e = cc
  end-told d seen end (due.Member a vs) r h e = cc
  end-told d seen end (due.MoreMembers a vs) r h e = cc
  end-told d seen end due.MoreTests r h e = (let same : goes d due.Nothing ≡ r = cc in subst (Whole seen) same (ap (λ f. fits f seen) (sym (middle-whole d h.1 ∙ whole-form d)) ∙ h.0))
  end-told d seen end due.By r h e = cc
  end-told d seen end due.Group r h e = cc
  end-told d seen end due.MoreGroups r h e = (let same : goes d due.Nothing ≡ r = cc in subst (Whole seen) same (ap (λ f. fits f seen) (sym (whole-form d)) ∙ h.0))
  end-told d seen end due.Nothing r h e = cc

  tokens-told : (end : ℕ) (r : Reader) (ts seen : List Token) (q : Query) → Told seen r.draft r.due → read_on s end r ts ≡ Ok q → fits (query_form s q) (seen ++ ts) ≡ true
  tokens-told end r [] seen q h e =
      let found = bound-ok (at_due s r.draft r.due (end_at end)) (λ last. judged (query_in last.draft) (group_rules last.draft)) q e in
      let ok = judged-ok (query_in found.0.draft) q (group_rules found.0.draft) found.2 in
      (λ i. fits (query_form s (sym ok.0 i)) (append-nil seen i)) ∙ end-told r.draft seen end r.due found.0 h found.1
  tokens-told end r (t ∷ more) seen q h e =
      let found = bound-ok (at_due s r.draft r.due t) (λ next. read_on s end next more) q e in
      ap (fits (query_form s q)) (sym (append_assoc seen (t ∷ []) more)) ∙ tokens-told end found.0 more (seen ++ t ∷ []) q (due-told r.draft seen t found.0 r.due h found.1) found.2

-- a text that is read as a query says it
pub query-told : (s : Schema) (text : List ℕ) (q : Query) → query_of s text ≡ Ok q → Says s q text
unfolding query_of
query-told s text q e = tokens-told s (length text + 1) (goes nothing due.Select) (tokens_of (length text + 1) text) [] q (refl, refl, (refl, refl)) e

pub answer-told : (s : Schema) (text : List ℕ) (result : Reading Query) → Answers result (query_of s text) → IfOk result (λ q. Says s q text)
answer-told s text (Ok q) is = query-told s text q is
answer-told s text (Err refusal) is = tt
