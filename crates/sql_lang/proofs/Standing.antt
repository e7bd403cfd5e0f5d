-- What a token is that stands in a form.
use Rattle.std.proofs.Common.{◌≡◌, ℕ, ◌<◌, Bool, true, false, not, ◌&&◌, ◌||◌, List, [], ◌∷◌, ◌++◌, map, length, Option, Some, None, Ok, ℤ, refl, sym, ◌∙◌, ap, arith}
use Rattle.std.specs.Prelude.{codes, nat_le, nat_lt, option_map, if◌then◌else◌}
use Rattle.std.specs.List.{list_any}
use Rattle.std.specs.Str.{bytes_eq, str_eq_ignore_ascii_case, str_to_ascii_lowercase}
use Rattle.std.specs.Cmp.{signed_Decides}
use Rattle.std.specs.Cmp.Lexicographic.{bytes_decides}
use Rattle.std.proofs.lemmas.Bool.{and_parts, ltb-true, not-true}
use Rattle.std.proofs.lemmas.List.Folds.{list_any_at}
use Rattle.std.proofs.lemmas.List.Sums.{position_or_len_is}
use Rattle.std.proofs.lemmas.Map.Keys.{apart_from_distinct}
use Rattle.fact_model.specs.Number.{number_in}
use Rattle.cube_schema.specs.Kinds.{arity, kind_at, measure_count, measure_name_at, name_at}
use Rattle.cube_schema.specs.Lawful.{IsSchema}
use Rattle.cube_schema.specs.Reading.{are_distinct, is_attr, is_measure, measure_number, number_of}
use Rattle.cube_schema.specs.declared.schema.Kind.{Kind}
use Rattle.cube_schema.specs.declared.schema.Kind.TheVariants as kind
use Rattle.cube_schema.specs.declared.schema.Schema.{Schema}
use Rattle.cube_schema.proofs.Apart.{distinct-to}
use Rattle.cube_schema.proofs.Numbers.{name_of, name-declared, number-name}
use Rattle.cube_schema.proofs.Tests.{distinct-front}
use Rattle.sql_lang.specs.declared.query.Operand.{Operand}
use Rattle.sql_lang.specs.declared.query.Operand.TheVariants as operand
use Rattle.sql_lang.specs.declared.refusal.SqlRefusal.TheVariants as refused
use Rattle.sql_lang.specs.declared.token.Token.{Token}
use Rattle.sql_lang.specs.declared.token.TokenKind.{TokenKind}
use Rattle.sql_lang.specs.declared.token.TokenKind.TheVariants.{Word, Whole, Quoted, Mark, Stray, End}
use Rattle.sql_lang.specs.Agreeing.{is_number, is_of_kind}
use Rattle.sql_lang.specs.Answers.{judged, or_refused}
use Rattle.sql_lang.specs.Grammar.{is_named, same_number, writes}
use Rattle.sql_lang.specs.Reading.{attr_at, bound_at, bound_in, is_literal, measure_at, misfit, operand_at, operand_in}
use Rattle.sql_lang.specs.Tokens.{is_keyword, is_mark, is_name, is_quoted, is_whole, is_word, mark_or, word_or}

-- ---- kinds of tokens

word-kind : (k : TokenKind) (b : Bool) → word_or k b ≡ true → (k ≡ Word) × (b ≡ true)
word-kind Word b e = (refl, e)
word-kind Whole b e = cc
word-kind Quoted b e = cc
word-kind Mark b e = cc
word-kind Stray b e = cc
word-kind End b e = cc

mark-kind : (k : TokenKind) (b : Bool) → mark_or k b ≡ true → (k ≡ Mark) × (b ≡ true)
mark-kind Mark b e = (refl, e)
mark-kind Word b e = cc
mark-kind Whole b e = cc
mark-kind Quoted b e = cc
mark-kind Stray b e = cc
mark-kind End b e = cc

-- of six tests that all fail those from the second to the fifth fail
or-five : (a b c d e f : Bool) → (a || (b || (c || (d || (e || f))))) ≡ false → (b ≡ false) × (c ≡ false) × (d ≡ false) × (e ≡ false)
or-five true b c d e f h = cc
or-five false true c d e f h = cc
or-five false false true d e f h = cc
or-five false false false true e f h = cc
or-five false false false false true f h = cc
or-five false false false false false f h = (refl, refl, refl, refl)

module _ (t : Token) where
  -- one word is no other
  pub word-other : (word other : List ℕ) → str_eq_ignore_ascii_case other word ≡ false → is_word word t ≡ true → is_word other t ≡ false
  word-other word other apart e =
      let is = word-kind t.kind (str_eq_ignore_ascii_case word t.text) e in
      let same : str_to_ascii_lowercase word ≡ str_to_ascii_lowercase t.text = (bytes_decides (str_to_ascii_lowercase word) (str_to_ascii_lowercase t.text)).0 is.1 in
      (λ i. word_or (is.0 i) (bytes_eq (str_to_ascii_lowercase other) (sym same i))) ∙ apart

  -- one sign is no other
  pub mark-other : (mark other : List ℕ) → bytes_eq mark other ≡ false → is_mark mark t ≡ true → is_mark other t ≡ false
  mark-other mark other apart e =
      let is = mark-kind t.kind (bytes_eq t.text mark) e in
      let same : t.text ≡ mark = (bytes_decides t.text mark).0 is.1 in
      (λ i. mark_or (is.0 i) (bytes_eq (same i) other)) ∙ apart

  -- a word is no sign
  pub word-no_mark : (word mark : List ℕ) → is_word word t ≡ true → is_mark mark t ≡ false
  word-no_mark word mark e = let is = word-kind t.kind (str_eq_ignore_ascii_case word t.text) e in (λ i. mark_or (is.0 i) (bytes_eq t.text mark))

  -- ---- names

  name-text : (name : List ℕ) → is_named name t ≡ true → t.text ≡ name
  name-text name e = (bytes_decides t.text name).0 (and_parts (is_name t) (bytes_eq t.text name) e).1

  pub name-is : (name : List ℕ) → is_named name t ≡ true → is_name t ≡ true
  name-is name e = (and_parts (is_name t) (bytes_eq t.text name) e).0

  abbrev spells : List ℕ → Bool
  spells word = str_eq_ignore_ascii_case word t.text

  -- a name is none of the words that begin a column
  pub name-no_word : is_name t ≡ true → (is_word (codes "COUNT") t ≡ false) × (is_word (codes "SUM") t ≡ false) × (is_word (codes "MIN") t ≡ false) × (is_word (codes "MAX") t ≡ false)
  unfolding is_keyword
  name-no_word e =
      let is = word-kind t.kind (not (is_keyword t.text)) e in
      let others = spells (codes "FROM") || (spells (codes "WHERE") || (spells (codes "AND") || (spells (codes "BETWEEN") || (spells (codes "IN") || (spells (codes "GROUP") || (spells (codes "BY") || false)))))) in
      let none = or-five (spells (codes "SELECT")) (spells (codes "COUNT")) (spells (codes "SUM")) (spells (codes "MIN")) (spells (codes "MAX")) others (not-true (is_keyword t.text) is.1) in
      ((λ i. word_or (is.0 i) (none.0 i)), (λ i. word_or (is.0 i) (none.1 i)), (λ i. word_or (is.0 i) (none.2 i)), (λ i. word_or (is.0 i) (none.3 i)))

  module _ (s : Schema) (lawful : IsSchema s) where
    attrs-apart : are_distinct bytes_eq (map name_of s.attrs) ≡ true
    attrs-apart = distinct-front bytes_eq (map name_of s.attrs) s.measures lawful.apart

    pub attr-again : (a : ℕ) → nat_lt a (arity s) ≡ true → is_named (name_at s a) t ≡ true → attr_at s t ≡ Ok a
    attr-again a low e =
        let below = ltb-true a (arity s) low in
        let there : is_attr s t.text ≡ true = ap (is_attr s) (name-text (name_at s a) e) ∙ name-declared s a below in
        let number : number_of s t.text ≡ a = ap (number_of s) (name-text (name_at s a) e) ∙ number-name s a attrs-apart below in
        (λ i. judged (number i) ((name-is (name_at s a) e i, refused.Syntax t.byte) ∷ (there i, refused.Name t.byte) ∷ []))

    measures-apart : (xs ys : List (List ℕ)) → are_distinct bytes_eq (xs ++ ys) ≡ true → are_distinct bytes_eq ys ≡ true
    measures-apart [] ys apart = apart
    measures-apart (x ∷ xs) ys apart = measures-apart xs ys (and_parts (not (list_any (bytes_eq x) (xs ++ ys))) (are_distinct bytes_eq (xs ++ ys)) apart).1

    number-of_measure : (m : ℕ) → m < measure_count s → measure_number s (measure_name_at s m) ≡ m
    number-of_measure m below =
        let name = measure_name_at s m in
        position_or_len_is (λ x. bytes_eq x name) s.measures m [] (omega arith)
        (λ k lt. apart_from_distinct bytes_eq s.measures k m [] (distinct-to bytes_eq s.measures (measures-apart (map name_of s.attrs) s.measures lawful.apart)) lt below)
        (λ lt. (bytes_decides name name).1 refl)

    pub measure-again : (m : ℕ) → nat_lt m (measure_count s) ≡ true → is_named (measure_name_at s m) t ≡ true → measure_at s t ≡ Ok m
    measure-again m low e =
        let below = ltb-true m (measure_count s) low in
        let name = measure_name_at s m in
        let there : is_measure s t.text ≡ true = ap (is_measure s) (name-text name e) ∙ list_any_at (λ x. bytes_eq x name) s.measures m [] below ((bytes_decides name name).1 refl) in
        let number : measure_number s t.text ≡ m = ap (measure_number s) (name-text name e) ∙ number-of_measure m below in
        (λ i. judged (number i) ((name-is name e i, refused.Syntax t.byte) ∷ (there i, refused.Name t.byte) ∷ []))

  -- ---- literals

  number-found : (z : ℤ) (found : Option ℤ) → same_number z found ≡ true → found ≡ Some z
  number-found z None e = cc
  number-found z (Some y) e = ap Some ((signed_Decides y z).0 e)

  number-written : (z : ℤ) → writes (operand.Whole z) t ≡ true → bound_in kind.Number t ≡ Some z
  number-written z e =
      let parts = and_parts (is_whole t) (same_number z (number_in t.text)) e in
      (λ i. if parts.0 i then number-found z (number_in t.text) parts.1 i else None)

  exact-true : (b : Bool) → (b || false) ≡ true → b ≡ true
  exact-true true e = refl
  exact-true false e = e

  operand-found : (k : Kind) (exact : Bool) (v : Operand) → writes v t ≡ true → is_of_kind k v ≡ true → (exact || is_number k) ≡ true → operand_in k exact t ≡ Some v
  operand-found (kind.Word max) exact (operand.Word text) e short plain =
      let parts = and_parts (is_quoted t) (bytes_eq t.text text) e in
      let same : t.text ≡ text = (bytes_decides t.text text).0 parts.1 in
      let low : nat_le (length t.text) 255 ≡ true = ap (λ x. nat_le (length x) 255) same ∙ short in
      (λ i. if exact-true exact plain i && parts.0 i && low i then Some (operand.Word (same i)) else None)
  operand-found (kind.Word max) exact (operand.Whole z) e short plain = cc
  operand-found kind.Number exact (operand.Word text) e short plain = cc
  operand-found kind.Number exact (operand.Whole z) e short plain = ap (option_map operand.Whole) (number-written z e)

  or-right : (p q : Bool) → q ≡ true → (p || q) ≡ true
  or-right true q e = refl
  or-right false q e = e

  literal-is : (v : Operand) → writes v t ≡ true → is_literal t ≡ true
  literal-is (operand.Word text) e = ap (λ b. b || is_whole t) (and_parts (is_quoted t) (bytes_eq t.text text) e).0
  literal-is (operand.Whole z) e = or-right (is_quoted t) (is_whole t) (and_parts (is_whole t) (same_number z (number_in t.text)) e).0

  pub operand-again : (s : Schema) (a : ℕ) (exact : Bool) (v : Operand) → writes v t ≡ true → is_of_kind (kind_at s a) v ≡ true → (exact || is_number (kind_at s a)) ≡ true
      → operand_at s a exact t ≡ Ok v
  operand-again s a exact v e short plain = (λ i. if literal-is v e i then or_refused (refused.Value t.byte) (operand-found (kind_at s a) exact v e short plain i) else misfit t)

  bound-found : (k : Kind) (z : ℤ) → writes (operand.Whole z) t ≡ true → is_number k ≡ true → bound_in k t ≡ Some z
  bound-found (kind.Word max) z e plain = cc
  bound-found kind.Number z e plain = number-written z e

  pub bound-again : (s : Schema) (a : ℕ) (z : ℤ) → writes (operand.Whole z) t ≡ true → is_number (kind_at s a) ≡ true → bound_at s a t ≡ Ok z
  bound-again s a z e plain = (λ i. if literal-is (operand.Whole z) e i then or_refused (refused.Value t.byte) (bound-found (kind_at s a) z e plain i) else misfit t)
