-- What is kept of accepted facts: their names, and a names file that grows at its end.
use Rattle.std.proofs.Common.{inl, inr, ◌≡◌, ℕ, zero, suc, ◌<◌, ◌≤◌, true, false, cond, List, [], ◌∷◌, ◌++◌, Some, None, length, get_or, map, take, refl, sym, ap, subst, ◌∙◌, ⊎_elim, arith, append_assoc, append-nil}
use Rattle.std.specs.Prelude.{nat_lt, not, slice_set}
use Rattle.std.specs.List.{All, AllZip, IsDistinct, list_any, cons_option}
use Rattle.std.specs.Str.{bytes_eq}
use Rattle.std.specs.Cmp.Lexicographic.{bytes_decides}
use Rattle.std.proofs.lemmas.Bool.Decides.{nat_tests}
use Rattle.std.proofs.lemmas.Bool.{cases_Bool, and_from, or_from, cases_eq, cases_lt, eq-eqb, ne_eqb, lt-ltb, ltb-true, ltb-false, false_from_ne_true, true≢false}
use Rattle.std.proofs.lemmas.List.{get_or_past, get_or-set_same, get_or-set_other, length-append, length-map, length-set, length-take, take_at}
use Rattle.std.proofs.lemmas.List.Elements.{All-take}
use Rattle.std.proofs.lemmas.Slice.Zip.{AllZip-long}
use Rattle.fact_model.specs.declared.fact.Value.{Value}
use Rattle.fact_model.specs.declared.fact.Value.TheVariants.{Word, Number}
use Rattle.fact_model.specs.declared.fact.Fact.{Fact}
use Rattle.fact_model.specs.Fact.{value_at}
use Rattle.cube_schema.specs.declared.Attr.{Attr}
use Rattle.cube_schema.specs.declared.Kind.{Kind}
use Rattle.cube_schema.specs.declared.Kind.TheVariants as kind
use Rattle.cube_schema.specs.declared.Schema.{Schema}
use Rattle.cube_schema.specs.Kinds.{max_of}
use Rattle.cube_schema.specs.Agreeing.{IsOfKind, Agrees as AgreesWith}
use Rattle.cube_schema.specs.Lawful.{IsSchema}
use Rattle.spec_points.specs.Codes.{Text, admitted, text_in, texts_at, names_of, same_entry, named, names, for_attr}
use Rattle.spec_points.specs.Agree.{name_limit}
use Rattle.spec_points.proofs.Codes.{admitted-more, names-append}
use Rattle.spec_points.proofs.Names.{distinct-admitted, names-more, names-for, names-distinct}
use Rattle.spec_points.proofs.Members.{every-right}
use Rattle.spec_points.proofs.Ranges.{place-below}
use Rattle.attr_dict.specs.Book.{Book, IsBook, IsShort, kind_at, names_at, none_yet, no_names}
use Rattle.attr_dict.specs.Admitting.{Agrees, HasSmallCode, HasSmallCodes, names_with, first_full, entries_text, fresh, Lists}
use Rattle.attr_dict.specs.Entering.{can_enter, entered, all_enter, after_entries}
use Rattle.attr_dict.proofs.Books.{book-new, unnamed}
use Rattle.attr_dict.proofs.Columns.{distinct-take, own-short, short-admitted, texts-short}
use Rattle.attr_dict.proofs.Fulls.{find-all, find-before}
use Rattle.attr_dict.proofs.Onwards.{text-append, admitted-fresh}
use Rattle.attr_dict.proofs.Rooms.{book-after}

abbrev Entry : Type 0
Entry = ℕ × Text

abbrev booked : List Kind → List (List Text) → Book
booked kinds old = record { kinds = kinds; names = old }

-- ---- names of facts enter

-- among distinct names a text is none of those before it
not-before : (t : Text) (ns ts : List Text) → IsDistinct bytes_eq (ns ++ t ∷ ts) → list_any (bytes_eq t) ns ≡ false
unfolding IsDistinct
not-before t [] ts apart = refl
not-before t (n ∷ ns) ts apart =
    let other : bytes_eq n t ≡ false = (every-right (λ y. bytes_eq n y ≡ false) ns (t ∷ ts) apart.0).0 in
    let apart-here : bytes_eq t n ≡ true → ⊥ = λ same. true≢false (sym ((bytes_decides n t).1 (sym ((bytes_decides t n).0 same))) ∙ other) in
    or_from (bytes_eq t n) (list_any (bytes_eq t) ns) (false_from_ne_true (bytes_eq t n) apart-here) (not-before t ns ts apart.1)

-- the name that enters is the first of those to come
entered-names : (old : List (List Text)) (e : Entry) (es : List Entry) (a : ℕ) → e.0 < length old
    → get_or (slice_set old e.0 (get_or old e.0 [] ++ e.1 ∷ [])) a [] ++ for_attr a es ≡ get_or old a [] ++ for_attr a (e ∷ es)
entered-names old e es a lt =
    let more = get_or old e.0 [] ++ e.1 ∷ [] in
    ⊎_elim
    (λ (q : e.0 ≡ a).
    ap (λ ns. ns ++ for_attr a es) (ap (λ k. get_or (slice_set old e.0 more) k []) (sym q) ∙ get_or-set_same old e.0 more [] lt) ∙ append_assoc (get_or old e.0 []) (e.1 ∷ []) (for_attr a es)
    ∙ (λ i. get_or old (q i) [] ++ cons_option (cond (sym (eq-eqb e.0 a q) i) (Some e.1) None) (for_attr a es)))
    (λ (q : e.0 ≡ a → ⊥).
    (λ i. get_or-set_other old e.0 a more [] (λ s. q (sym s)) i ++ cons_option (cond (sym (ne_eqb e.0 a q) i) (Some e.1) None) (for_attr a es)))
    (cases_eq e.0 a)

module _ (kinds : List Kind) (all : ℕ → List Text) (room : (a : ℕ) → length (all a) ≤ max_of (get_or kinds a kind.Number)) (apart : (a : ℕ) → IsDistinct bytes_eq (all a)) where
  -- the next entry has room, also in an attribute that there is, and is new
  next-enters : (old : List (List Text)) (e : Entry) (es : List Entry) → length old ≡ length kinds → ((a : ℕ) → get_or old a [] ++ for_attr a (e ∷ es) ≡ all a)
      → (can_enter (booked kinds old) e ≡ true) × (e.0 < length old)
  next-enters old e es same are =
      let a = e.0 in
      let here : get_or old a [] ++ e.1 ∷ for_attr a es ≡ all a = (λ i. get_or old a [] ++ cons_option (cond (sym (eq-eqb a a refl) i) (Some e.1) None) (for_attr a es)) ∙ are a in
      let size = sym (length-append (get_or old a []) (e.1 ∷ for_attr a es)) ∙ ap length here in
      let limit = room a in
      let new = not-before e.1 (get_or old a []) (for_attr a es) (subst (IsDistinct bytes_eq) (sym here) (apart a)) in (
        and_from (nat_lt (length (get_or old a [])) (max_of (get_or kinds a kind.Number))) (not (list_any (bytes_eq e.1) (get_or old a []))) (lt-ltb _ _ (omega arith)) (ap not new),
        ⊎_elim (λ (lt : a < length kinds). omega arith) (λ (le : length kinds ≤ a). absurd (let none = ap max_of (get_or_past kinds a kind.Number le) in omega arith)) (cases_lt a (length kinds)),
      )

  pub entries-enter : (old : List (List Text)) (es : List Entry) → length old ≡ length kinds → ((a : ℕ) → get_or old a [] ++ for_attr a es ≡ all a)
      → (all_enter (booked kinds old) es ≡ true) × ((a : ℕ) → names_at (after_entries (booked kinds old) es) a ≡ all a)
  entries-enter old [] same are = (refl, λ a. sym (append-nil (get_or old a [])) ∙ are a)
  entries-enter old (e ∷ es) same are =
      let next = next-enters old e es same are in
      let new = slice_set old e.0 (get_or old e.0 [] ++ e.1 ∷ []) in
      let rest = entries-enter new es (length-set old e.0 (get_or old e.0 [] ++ e.1 ∷ []) ∙ same) (λ a. entered-names old e es a next.1 ∙ are a) in
      (and_from (can_enter (booked kinds old) e) (all_enter (booked kinds new) es) next.0 rest.0, rest.1)

-- past the attributes there are no names
pub names-past : (facts : List Fact) (n a : ℕ) → ((k : ℕ) (d : Fact) → k < length facts → length (get_or facts k d).values ≡ n) → n ≤ a → names_of facts a ≡ []
names-past [] n a size le = refl
names-past (x ∷ facts) n a size le =
    (let here = size 0 x (omega arith) in ap (λ (v : Value). admitted bytes_eq [] (cons_option (text_in v) (texts_at a facts))) (get_or_past x.values a (Number 0) (omega arith)))
    ∙ names-past facts n a (λ k d lt. size (suc k) d (omega arith)) le

module _ (s : Schema) (facts : List Fact) (agree : All (Agrees (no_names s).kinds) facts) (few : (a : ℕ) → a < length s.attrs → length (names_of facts a) ≤ max_of (kind_at (no_names s) a)) where
  kinds-long : length (no_names s).kinds ≡ length s.attrs
  kinds-long = length-map s.attrs (λ (attr : Attr). attr.kind)

  -- of each attribute, also past those that there are
  names-few : (a : ℕ) → length (names_of facts a) ≤ max_of (kind_at (no_names s) a)
  names-few a =
      ⊎_elim (few a)
      (λ (le : length s.attrs ≤ a). (let none = ap length (names-past facts (length s.attrs) a (λ k d lt. (agree k d lt).values ∙ kinds-long) le) in omega arith))
      (cases_lt a (length s.attrs))

  names-entered : (all_enter (no_names s) (names facts) ≡ true) × ((a : ℕ) → names_at (after_entries (no_names s) (names facts)) a ≡ names_of facts a)
  names-entered =
      entries-enter (no_names s).kinds (names_of facts) names-few (names-distinct facts) (no_names s).names (names facts) (length-map s.attrs (λ (attr : Attr). none_yet) ∙ sym kinds-long)
      (λ a. ap (λ ns. ns ++ for_attr a (names facts)) (unnamed s.attrs a) ∙ names-for a facts)

  -- the names of facts that agree, where each attribute has room for its own, can all enter
  pub names-enter : all_enter (no_names s) (names facts) ≡ true
  names-enter = names-entered.0

  -- and are then the names of each attribute
  pub names-after : (a : ℕ) → names_at (after_entries (no_names s) (names facts)) a ≡ names_of facts a
  names-after = names-entered.1

-- entries leave the kinds
pub kinds-after : (b : Book) (es : List Entry) → (after_entries b es).kinds ≡ b.kinds
kinds-after b [] = refl
kinds-after b (e ∷ es) = kinds-after (entered b e) es

-- ---- the file grows at its end

pub entries-more : (xs ys : List Fact) → entries_text (names (xs ++ ys)) ≡ entries_text (names xs) ++ entries_text (fresh same_entry (names xs) (named ys))
entries-more xs ys = ap entries_text (names-more xs ys ∙ admitted-fresh (names xs) (named ys)) ∙ text-append (names xs) (fresh same_entry (names xs) (named ys))

-- ---- the names of a batch stand behind those of the facts before it

-- names that are those of facts are listed by the facts' entries
pub lists-own : (b : Book) (facts : List Fact) → ((a : ℕ) → names_at b a ≡ names_of facts a) → Lists b (names facts)
lists-own b facts are a = names-for a facts ∙ sym (are a)

pub with-batch : (b : Book) (xs ys : List Fact) → ((a : ℕ) → names_at b a ≡ names_of xs a) → (a : ℕ) → names_with b ys a ≡ names_of (xs ++ ys) a
with-batch b xs ys are a = ap (λ ns. admitted bytes_eq ns (texts_at a ys)) (are a) ∙ sym (names-append xs ys a)

names-longer : (xs ys : List Fact) (a : ℕ) → (more : List Text) × (names_of (xs ++ ys) a ≡ names_of xs a ++ more)
names-longer xs ys a = (let more = admitted-more bytes_eq (names_of xs a) (texts_at a ys) in (more.0, names-append xs ys a ∙ more.1))

pub names-front : (xs ys : List Fact) (a : ℕ) → take (length (names_of xs a)) (names_of (xs ++ ys) a) ≡ names_of xs a
names-front xs ys a = (let more = names-longer xs ys a in ap (take (length (names_of xs a))) more.1 ∙ take_at (names_of xs a) more.0 (length (names_of xs a)) refl)

pub names-grow : (xs ys : List Fact) (a : ℕ) → length (names_of xs a) ≤ length (names_of (xs ++ ys) a)
names-grow xs ys a = (let more = names-longer xs ys a in omega (arith, ap length more.1, length-append (names_of xs a) more.0))

-- ---- the first full attribute

pub full-none : (b : Book) (ys : List Fact) → first_full b ys ≡ None → (a : ℕ) → a < length b.kinds → length (names_with b ys a) ≤ max_of (kind_at b a)
full-none b ys none a lt = ltb-false _ _ (find-all (λ c. nat_lt (max_of (kind_at b c)) (length (names_with b ys c))) 0 (length b.kinds) none a (omega arith) (omega arith))

pub full-first : (b : Book) (ys : List Fact) (a : ℕ) → first_full b ys ≡ Some a
    → (a < length b.kinds) × (max_of (kind_at b a) < length (names_with b ys a)) × ((c : ℕ) → c < a → length (names_with b ys c) ≤ max_of (kind_at b c))
full-first b ys a some =
    let first = find-before (λ c. nat_lt (max_of (kind_at b c)) (length (names_with b ys c))) 0 (length b.kinds) a some in
    let high = first.0 in
    (omega arith, ltb-true _ _ first.1, λ c lt. ltb-false _ _ (first.2 c (omega arith) lt))

-- ---- facts that agree

-- a value of its kind has a small code where the names are few
kind-small : (k : Kind) (names : List Text) (v : Value) → length names ≤ name_limit → IsOfKind k v → HasSmallCode names v
kind-small (kind.Word max) names (Word t) few is = omega (arith, place-below bytes_eq t names)
kind-small (kind.Word max) names (Number n) few is = absurd is
kind-small kind.Number names (Word t) few is = absurd is
kind-small kind.Number names (Number n) few is = is

-- the codes of a fact that agrees are small
pub codes-small : (b : Book) (x : Fact) → IsBook b → Agrees b.kinds x → HasSmallCodes (names_at b) x
codes-small b x book agrees a =
    let within = book.within a in
    let range = book.ranges a in
    let few : length (names_at b a) ≤ name_limit = omega arith in
    ⊎_elim (λ (lt : a < length b.kinds). kind-small (get_or b.kinds a kind.Number) (names_at b a) (value_at x a) few (agrees.each a lt))
    (λ (le : length b.kinds ≤ a). (let size = agrees.values in subst (HasSmallCode (names_at b a)) (sym (get_or_past x.values a (Number 0) (omega arith))) (omega arith)))
    (cases_lt a (length b.kinds))

kinds-each : (attrs : List Attr) (values : List Value) → AllZip (λ (attr : Attr) value. IsOfKind attr.kind value) attrs values → (a : ℕ) → a < length attrs
    → IsOfKind (get_or (map (λ (attr : Attr). attr.kind) attrs) a kind.Number) (get_or values a (Number 0))
kinds-each [] values all a lt = absurd (omega arith)
kinds-each (attr ∷ attrs) [] all a lt = absurd all
kinds-each (attr ∷ attrs) (v ∷ values) all zero lt = all.0
kinds-each (attr ∷ attrs) (v ∷ values) all (suc a) lt = kinds-each attrs values all.1 a (omega arith)

-- a fact that agrees with a schema agrees with its kinds
pub agrees-kinds : (s : Schema) (x : Fact) → AgreesWith s x → Agrees (map (λ (attr : Attr). attr.kind) s.attrs) x
agrees-kinds s x agrees =
    let size = length-map s.attrs (λ (attr : Attr). attr.kind) in
    record {
      values = AllZip-long (λ (attr : Attr) value. IsOfKind attr.kind value) s.attrs x.values agrees.values ∙ sym size;
      each = λ a lt. kinds-each s.attrs x.values agrees.values a (omega arith);
    }

pub all-agree : (s : Schema) (facts : List Fact) → All (AgreesWith s) facts → All (Agrees (map (λ (attr : Attr). attr.kind) s.attrs)) facts
all-agree s facts agree = λ k d lt. agrees-kinds s _ (agree k d lt)

-- the names after admitting facts that agree make a book again, where they are within their room
pub book-taken : (b : Book) (names : List (List Text)) (facts : List Fact) → IsBook b → length names ≡ length b.names
    → ((a : ℕ) → a < length b.kinds → length (get_or names a []) ≤ max_of (get_or b.kinds a kind.Number))
    → ((a : ℕ) → get_or names a [] ≡ names_with b facts a) → All (Agrees b.kinds) facts → IsBook (booked b.kinds names)
book-taken b names facts book same within are agree = record {
  same = same ∙ book.same;
  few = book.few;
  ranges = book.ranges;
  within = λ a. elim (cases_Bool (nat_lt a (length b.kinds))) [
    | inl low ↦ within a (grind (arith, nat_tests))
    | inr past ↦ omega (arith, ap length (get_or_past names a [] (grind (arith, nat_tests, same, book.same))))
  ];
  distinct = λ a. subst (IsDistinct bytes_eq) (sym (are a)) (distinct-admitted (names_at b a) (texts_at a facts) (book.distinct a));
  short = λ a. subst (All IsShort) (sym (are a)) (short-admitted (names_at b a) (texts_at a facts) (book.short a) (texts-short b.kinds facts a agree));
}

-- and the codes that it gives to facts that agree are small
pub taken-small : (b : Book) (names : List (List Text)) (facts : List Fact) → IsBook (booked b.kinds names) → All (Agrees b.kinds) facts
    → All (HasSmallCodes (λ a. get_or names a [])) facts
taken-small b names facts book agree = λ i d low. codes-small (booked b.kinds names) (get_or facts i d) book (agree i d low)

-- names that are cut make a book again
pub book-cut : (kinds : List Kind) (names cut : List (List Text)) (counts : List ℕ) → IsBook (booked kinds names) → length cut ≡ length names → ((a : ℕ) → get_or cut a [] ≡ take (get_or counts a 0) (get_or names a []))
    → IsBook (booked kinds cut)
book-cut kinds names cut counts book same are = record {
  same = same ∙ book.same;
  few = book.few;
  ranges = book.ranges;
  within = λ a. (let whole = book.within a in let less = length-take (get_or counts a 0) (get_or names a []) in let size = ap length (are a) in omega arith);
  distinct = λ a. subst (IsDistinct bytes_eq) (sym (are a)) (distinct-take (get_or counts a 0) (get_or names a []) (book.distinct a));
  short = λ a. subst (All IsShort) (sym (are a)) (All-take IsShort (get_or counts a 0) (get_or names a []) (book.short a));
}

-- the names of accepted facts make a book
pub book-own : (s : Schema) (facts : List Fact) → IsSchema s → All (Agrees (no_names s).kinds) facts → ((a : ℕ) → a < length s.attrs → length (names_of facts a) ≤ max_of (kind_at (no_names s) a))
    → IsBook (after_entries (no_names s) (names facts))
book-own s facts lawful agree few = book-after (no_names s) (names facts) (book-new s lawful) (names-enter s facts agree few) (own-short (no_names s).kinds facts agree)
