-- The texts of columns, attributes and conditions are read again.
use Rattle.std.proofs.Common.{◌≡◌, ℕ, ◌<◌, true, false, not, ◌&&◌, List, [], ◌∷◌, ◌++◌, length, map, take, drop, Ok, refl, sym, ◌∙◌, ap, subst, arith}
use Rattle.std.specs.Prelude.{◌==◌, nat_lt, nat_le, nat_eq, codes, slice_index}
use Rattle.std.specs.Char.{is_ascii_lowercase}
use Rattle.std.specs.Cmp.Lexicographic.{bytes_decides}
use Rattle.std.specs.List.{list_all, list_any, prefix_len, AllByRecursion}
use Rattle.std.specs.Str.{bytes_eq}
use Rattle.std.proofs.lemmas.Bool.{and_parts, and_from, lt-ltb, ltb-true, true≢false}
use Rattle.std.proofs.lemmas.Bool.Decides.{nat_tests}
use Rattle.std.proofs.lemmas.List.{append-nil, take_at, drop_at, map-append}
use Rattle.std.proofs.lemmas.List.Folds.{list_any_at}
use Rattle.std.proofs.lemmas.List.Sums.{position_or_len_is}
use Rattle.std.proofs.lemmas.Map.Keys.{apart_from_distinct}
use Rattle.fact_model.specs.declared.slice.Column.{Column}
use Rattle.fact_model.specs.declared.slice.Column.TheVariants.{Count, Sum, Min, Max}
use Rattle.fact_model.specs.declared.slice.Cond.{Cond}
use Rattle.fact_model.specs.Slice.{attr_of}
use Rattle.cube_schema.specs.Kinds.{name_at, kind_at, measure_name_at, arity, measure_count}
use Rattle.cube_schema.specs.Lawful.{IsSchema}
use Rattle.cube_schema.specs.Reading.{are_distinct, is_attr, number_of, is_measure, measure_number}
use Rattle.cube_schema.specs.Words.{begins, is_name, is_name_byte}
use Rattle.cube_schema.specs.declared.schema.Schema.{Schema}
use Rattle.cube_schema.proofs.Again.{names-lawful}
use Rattle.cube_schema.proofs.Apart.{distinct-to}
use Rattle.cube_schema.proofs.Numbers.{name_of, number-name, name-declared}
use Rattle.cube_schema.proofs.Tests.{all-parts, all-join, all-at, all-imply, any-alike, any-map, distinct-new, distinct-front}
use Rattle.slice_lang.specs.Agreeing.{is_column}
use Rattle.slice_lang.specs.Answers.{◌>>=◌, judged, or_refused}
use Rattle.slice_lang.specs.Grammar.{Spells, SpellsCond}
use Rattle.slice_lang.specs.Names.{Named, name_in, behind_name}
use Rattle.slice_lang.specs.Parts.{Part, byte_of}
use Rattle.slice_lang.specs.Reading.{column_over, measured_rules, measured_in, count_in, column_in, attr_rules, named_in, attr_in, group_rules, name_of_group, is_on, end_rules, value_in, cond_rules, cond_in}
use Rattle.slice_lang.specs.Values.{meaning}
use Rattle.slice_lang.specs.Writing.{over_text, column_text}
use Rattle.slice_lang.specs.declared.refusal.SliceRefusal.TheVariants as refused
use Rattle.slice_lang.proofs.Agreed.{AreAttrs, AreConds, Fits, eq-flip}
use Rattle.slice_lang.proofs.Answered.{judged-all}
use Rattle.slice_lang.proofs.Passing.{Passes, is_plain, passes-joined, passes-plain}
use Rattle.slice_lang.proofs.ValueTexts.{front-all, value-again, value-passes}

-- ---- names
pub named-attrs : (s : Schema) → IsSchema s → list_all is_name (map name_of s.attrs) ≡ true
named-attrs s lawful = (all-parts is_name (map name_of s.attrs) s.measures lawful.named).0

attrs-apart : (s : Schema) → IsSchema s → are_distinct bytes_eq (map name_of s.attrs) ≡ true
attrs-apart s lawful = distinct-front bytes_eq (map name_of s.attrs) s.measures lawful.apart

distinct-behind : (xs ys : List (List ℕ)) → are_distinct bytes_eq (xs ++ ys) ≡ true → are_distinct bytes_eq ys ≡ true
distinct-behind [] ys apart = apart
distinct-behind (x ∷ xs) ys apart = distinct-behind xs ys (and_parts (not (list_any (bytes_eq x) (xs ++ ys))) (are_distinct bytes_eq (xs ++ ys)) apart).1

name-bytes : (name : List ℕ) → is_name name ≡ true → list_all is_name_byte name ≡ true
name-bytes name h = (and_parts (is_ascii_lowercase (slice_index name 0) && nat_le (length name) 32) (list_all is_name_byte name) h).1

name-some : (name : List ℕ) → is_name name ≡ true → 0 < length name
name-some [] h = absurd (true≢false (sym h))
name-some (b ∷ bs) h = omega arith

attr-name : (s : Schema) (a : ℕ) → IsSchema s → nat_lt a (arity s) ≡ true → is_name (name_at s a) ≡ true
attr-name s a lawful known =
    (and_parts (is_name (name_at s a)) true (names-lawful s (a ∷ []) (named-attrs s lawful) (and_from (nat_lt a (arity s)) true known refl))).0

measure-name : (s : Schema) (m : ℕ) → IsSchema s → nat_lt m (measure_count s) ≡ true → is_name (measure_name_at s m) ≡ true
measure-name s m lawful known = all-at is_name s.measures m [] (all-parts is_name (map name_of s.attrs) s.measures lawful.named).1 (ltb-true m (measure_count s) known)

-- a name in front of what cannot stand in a name
module _ (name rest : List ℕ) (bytes : list_all is_name_byte name ≡ true) (apart : prefix_len is_name_byte rest ≡ 0) where
  name-front : name_in (name ++ rest) ≡ name
  name-front = ap (λ k. take k (name ++ rest)) (front-all is_name_byte name rest bytes apart) ∙ take_at name rest (length name) refl

  name-behind : behind_name (name ++ rest) ≡ rest
  name-behind = ap (λ k. drop k (name ++ rest)) (front-all is_name_byte name rest bytes apart) ∙ drop_at name rest (length name) refl

-- ---- attributes
pub attr-again : (s : Schema) (a end : ℕ) (rest : List ℕ) → IsSchema s → nat_lt a (arity s) ≡ true → prefix_len is_name_byte rest ≡ 0 → attr_in s end (name_at s a ++ rest) ≡ Ok (record { attr = a; behind = rest })
unfolding attr_in
attr-again s a end rest lawful known apart =
    let name = name_at s a in
    let text = name ++ rest in
    let named = attr-name s a lawful known in
    let front = name-front name rest (name-bytes name named) apart in
    let behind = name-behind name rest (name-bytes name named) apart in
    let below = ltb-true a (arity s) known in
    judged-all (named_in s text) (attr_rules s end text)
    (ap (λ n. nat_lt 0 (length n)) front ∙ lt-ltb 0 (length name) (name-some name named), (ap (is_attr s) front ∙ name-declared s a below, tt))
    ∙ (λ i. Ok (record { attr = (ap (number_of s) front ∙ number-name s a (attrs-apart s lawful) below) i; behind = behind i }))

-- an attribute of a list without repetition is new to those before it
new-attr : (done : List ℕ) (a : ℕ) (more : List ℕ) → are_distinct nat_eq (done ++ a ∷ more) ≡ true → list_any (nat_eq a) done ≡ false
new-attr done a more apart = any-alike (nat_eq a) (λ y. nat_eq y a) (λ y. eq-flip a y) done ∙ distinct-new nat_eq done a more apart

known-in : (s : Schema) (done : List ℕ) (a : ℕ) (more : List ℕ) → AreAttrs s (done ++ a ∷ more) → nat_lt a (arity s) ≡ true
known-in s done a more p = (and_parts (nat_lt a (arity s)) (list_all (λ b. nat_lt b (arity s)) more) (all-parts (λ b. nat_lt b (arity s)) done (a ∷ more) p.0).1).0

pub name-again : (s : Schema) → IsSchema s → (a : ℕ) (done more : List ℕ) → AreAttrs s (done ++ a ∷ more) → (end : ℕ) → name_of_group s done (record { end = end; text = name_at s a }) ≡ Ok a
unfolding name_of_group
name-again s lawful a done more p end =
    let part : Part = record { end = end; text = name_at s a } in
    let named : Named = record { attr = a; behind = [] } in
    ap (λ t. attr_in s end t >>= (λ n. judged n.attr (group_rules done part n))) (sym (append-nil (name_at s a)))
    ∙ ap (λ r. r >>= (λ n. judged n.attr (group_rules done part n))) (attr-again s a end [] lawful (known-in s done a more p) refl)
    ∙ judged-all a (group_rules done part named) (ap not (new-attr done a more p.1), (refl, tt))

name-plain : (b : ℕ) → is_name_byte b ≡ true → is_plain 44 b ≡ true
name-plain b h = grind (arith, nat_tests)

name-plain-word : (b : ℕ) → is_name_byte b ≡ true → is_plain 32 b ≡ true
name-plain-word b h = grind (arith, nat_tests)

pub name-passes : (s : Schema) → IsSchema s → (a : ℕ) (done more : List ℕ) → AreAttrs s (done ++ a ∷ more) → (end : ℕ) → Passes 44 end (name_at s a)
name-passes s lawful a done more p end =
    passes-plain 44 end (name_at s a) (all-imply is_name_byte (is_plain 44) name-plain (name_at s a) (name-bytes (name_at s a) (attr-name s a lawful (known-in s done a more p))))

name-passes-word : (s : Schema) (a end : ℕ) → IsSchema s → nat_lt a (arity s) ≡ true → Passes 32 end (name_at s a)
name-passes-word s a end lawful known =
    passes-plain 32 end (name_at s a) (all-imply is_name_byte (is_plain 32) name-plain-word (name_at s a) (name-bytes (name_at s a) (attr-name s a lawful known)))

pub names-pass-word : (s : Schema) (attrs : List ℕ) (end : ℕ) → IsSchema s → list_all (λ a. nat_lt a (arity s)) attrs ≡ true → AllByRecursion (λ a. Passes 32 end (name_at s a)) attrs
names-pass-word s [] end lawful known = tt
names-pass-word s (a ∷ attrs) end lawful known =
    let each = and_parts (nat_lt a (arity s)) (list_all (λ b. nat_lt b (arity s)) attrs) known in
    (name-passes-word s a end lawful each.0, names-pass-word s attrs end lawful each.1)

-- ---- columns
measure-again : (s : Schema) (m : ℕ) → IsSchema s → nat_lt m (measure_count s) ≡ true → measure_number s (measure_name_at s m) ≡ m
measure-again s m lawful known =
    let below = ltb-true m (measure_count s) known in
    let name = measure_name_at s m in
    position_or_len_is (λ x. bytes_eq x name) s.measures m [] (omega arith)
    (λ k lt. apart_from_distinct bytes_eq s.measures k m [] (distinct-to bytes_eq s.measures (distinct-behind (map name_of s.attrs) s.measures lawful.apart)) lt below)
    (λ lt. (bytes_decides name name).1 refl)

over-again : (s : Schema) (word : List ℕ) (m end : ℕ) → IsSchema s → nat_lt m (measure_count s) ≡ true → measured_in s word end (measure_name_at s m ++ 41 ∷ []) ≡ Ok (column_over word m)
unfolding measured_in
over-again s word m end lawful known =
    let name = measure_name_at s m in
    let text = name ++ 41 ∷ [] in
    let named = measure-name s m lawful known in
    let front = name-front name (41 ∷ []) (name-bytes name named) refl in
    let behind = name-behind name (41 ∷ []) (name-bytes name named) refl in
    let below = ltb-true m (measure_count s) known in
    judged-all (column_over word (measure_number s (name_in text))) (measured_rules s end text) (
      ap (λ n. nat_lt 0 (length n)) front ∙ lt-ltb 0 (length name) (name-some name named),
      (
        ap (is_measure s) front ∙ list_any_at (λ x. bytes_eq x name) s.measures m [] below ((bytes_decides name name).1 refl),
        (ap (λ t. begins t (codes ")")) behind, (ap (λ t. length t == 1) behind, tt)),
      ),
    )
    ∙ ap (λ n. Ok (column_over word n)) (ap (measure_number s) front ∙ measure-again s m lawful known)

pub column-again : (s : Schema) → IsSchema s → (column : Column) (end : ℕ) → is_column (measure_count s) column ≡ true → column_in s (record { end = end; text = column_text s column }) ≡ Ok column
unfolding column_in count_in
column-again s lawful Count end known = refl
column-again s lawful (Sum m) end known = over-again s (codes "sum") m end lawful known
column-again s lawful (Min m) end known = over-again s (codes "min") m end lawful known
column-again s lawful (Max m) end known = over-again s (codes "max") m end lawful known

over-plain : (separator : ℕ) → ((b : ℕ) → is_name_byte b ≡ true → is_plain separator b ≡ true) → list_all (is_plain separator) (codes "()") ≡ true
    → (word name : List ℕ) → list_all is_name_byte word ≡ true → list_all is_name_byte name ≡ true → list_all (is_plain separator) (over_text word name) ≡ true
over-plain separator plain signs word name word-bytes name-bytes =
    let each = and_parts (is_plain separator 40) (list_all (is_plain separator) (41 ∷ [])) signs in
    all-join (is_plain separator) word (codes "(" ++ (name ++ codes ")")) (all-imply is_name_byte (is_plain separator) plain word word-bytes)
    (and_from (is_plain separator 40) (list_all (is_plain separator) (name ++ codes ")")) each.0
    (all-join (is_plain separator) name (codes ")") (all-imply is_name_byte (is_plain separator) plain name name-bytes) each.1))

column-plain : (s : Schema) (separator : ℕ) → ((b : ℕ) → is_name_byte b ≡ true → is_plain separator b ≡ true) → list_all (is_plain separator) (codes "()") ≡ true
    → IsSchema s → (column : Column) → is_column (measure_count s) column ≡ true → list_all (is_plain separator) (column_text s column) ≡ true
column-plain s separator plain signs lawful Count known = all-imply is_name_byte (is_plain separator) plain (codes "count") refl
column-plain s separator plain signs lawful (Sum m) known = over-plain separator plain signs (codes "sum") (measure_name_at s m) refl (name-bytes (measure_name_at s m) (measure-name s m lawful known))
column-plain s separator plain signs lawful (Min m) known = over-plain separator plain signs (codes "min") (measure_name_at s m) refl (name-bytes (measure_name_at s m) (measure-name s m lawful known))
column-plain s separator plain signs lawful (Max m) known = over-plain separator plain signs (codes "max") (measure_name_at s m) refl (name-bytes (measure_name_at s m) (measure-name s m lawful known))

pub column-passes : (s : Schema) → IsSchema s → (column : Column) (end : ℕ) → is_column (measure_count s) column ≡ true → Passes 44 end (column_text s column)
column-passes s lawful column end known = passes-plain 44 end (column_text s column) (column-plain s 44 name-plain refl lawful column known)

pub columns-pass-word : (s : Schema) (columns : List Column) (end : ℕ) → IsSchema s → list_all (is_column (measure_count s)) columns ≡ true → AllByRecursion (λ c. Passes 32 end (column_text s c)) columns
columns-pass-word s [] end lawful known = tt
columns-pass-word s (c ∷ columns) end lawful known =
    let each = and_parts (is_column (measure_count s) c) (list_all (is_column (measure_count s)) columns) known in
    (passes-plain 32 end (column_text s c) (column-plain s 32 name-plain-word refl lawful c each.0), columns-pass-word s columns end lawful each.1)

-- ---- conditions
cond-value-again : (s : Schema) (c : Cond) (v : List ℕ) (end : ℕ) → Fits s c → Spells c v → value_in s (attr_of c) end v ≡ Ok c
unfolding value_in
cond-value-again s c v end fits spells =
    let kind = kind_at s (attr_of c) in
    let read = value-again kind c v end fits spells in
    let w = read.0 in
    ap (λ r. r >>= (λ written. or_refused (refused.BadValue (byte_of end v)) (meaning kind (attr_of c) written) >>= (λ x. judged x (end_rules end written.behind)))) read.1
    ∙ ap (λ m. or_refused (refused.BadValue (byte_of end v)) m >>= (λ x. judged x (end_rules end w.behind))) read.2.means
    ∙ ap (λ b. judged c (end_rules end b)) read.2.ends

record IsNext (s : Schema) (done : List Cond) (c : Cond) : Type 0 where
  known : nat_lt (attr_of c) (arity s) ≡ true
  new : list_any (is_on (attr_of c)) done ≡ false
  fits : Fits s c

fits-in : (s : Schema) (done : List Cond) (c : Cond) (more : List Cond) → AllByRecursion (Fits s) (done ++ c ∷ more) → Fits s c
fits-in s [] c more all = all.0
fits-in s (d ∷ done) c more all = fits-in s done c more all.1

next-in : (s : Schema) (done : List Cond) (c : Cond) (more : List Cond) → AreConds s (done ++ c ∷ more) → IsNext s done c
next-in s done c more p =
    let attrs : AreAttrs s (map attr_of done ++ attr_of c ∷ map attr_of more) = subst (AreAttrs s) (map-append attr_of done (c ∷ more)) p.attrs in
    record {
      known = known-in s (map attr_of done) (attr_of c) (map attr_of more) attrs;
      new = sym (any-map attr_of (nat_eq (attr_of c)) done) ∙ new-attr (map attr_of done) (attr_of c) (map attr_of more) attrs.1;
      fits = fits-in s done c more p.fits;
    }

module _ (s : Schema) (lawful : IsSchema s) (done : List Cond) (c : Cond) (more : List Cond) (p : AreConds s (done ++ c ∷ more)) (text : List ℕ) (spelled : SpellsCond s c text) where
  pub cond-again : (end : ℕ) → cond_in s done (record { end = end; text = text }) ≡ Ok c
  unfolding cond_in
  cond-again end =
      let next = next-in s done c more p in
      let part : Part = record { end = end; text = text } in
      let v = spelled.written in
      let named : Named = record { attr = attr_of c; behind = 61 ∷ v } in
      ap (λ t. attr_in s end t >>= (λ n. judged n (cond_rules done part n) >>= (λ fresh. value_in s fresh.attr end (drop 1 fresh.behind)))) spelled.is
      ∙ ap (λ r. r >>= (λ n. judged n (cond_rules done part n) >>= (λ fresh. value_in s fresh.attr end (drop 1 fresh.behind)))) (attr-again s (attr_of c) end (61 ∷ v) lawful next.known refl)
      ∙ ap (λ r. r >>= (λ fresh. value_in s fresh.attr end (drop 1 fresh.behind))) (judged-all named (cond_rules done part named) (ap not next.new, (refl, tt)))
      ∙ cond-value-again s c v end next.fits spelled.spells

  pub cond-passes : (end : ℕ) → Passes 32 end text
  cond-passes end =
      let next = next-in s done c more p in
      let v = spelled.written in
      subst (Passes 32 end) (sym spelled.is)
      (passes-joined 32 end (name_at s (attr_of c)) (61 ∷ v) (name-passes-word s (attr_of c) end lawful next.known)
      (passes-joined 32 end (61 ∷ []) v (passes-plain 32 end (61 ∷ []) refl) (value-passes c v end spelled.spells)))
