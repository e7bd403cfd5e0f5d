-- What is read agrees with the schema.
use Rattle.std.proofs.Common.{◌≡◌, ℕ, ◌+◌, ◌<◌, ◌≤◌, Bool, true, false, ◌&&◌, List, [], ◌∷◌, ◌++◌, length, map, Option, Some, None, Ok, Err, ℤ, pos, negsuc, refl, sym, ap, ◌∙◌, subst, arith}
use Rattle.std.specs.Prelude.{if◌then◌else◌, nat_lt, nat_le, nat_eq, codes, IfOk, take, drop}
use Rattle.std.specs.Cmp.{both_ways}
use Rattle.std.specs.List.{list_all, list_any, AllByRecursion}
use Rattle.std.specs.Str.{bytes_eq}
use Rattle.std.proofs.lemmas.Bool.{and_from, not-true, lt-ltb, leb-true, eqb-true, eq-eqb}
use Rattle.std.proofs.lemmas.List.{append-nil, map-append}
use Rattle.std.proofs.lemmas.List.Folds.{list_all-map}
use Rattle.fact_model.specs.Limits.{number_limit}
use Rattle.fact_model.specs.Number.{number_in}
use Rattle.fact_model.specs.declared.slice.Column.{Column}
use Rattle.fact_model.specs.declared.slice.Column.TheVariants.{Count, Sum, Min, Max}
use Rattle.fact_model.specs.declared.fact.Value.TheVariants as value
use Rattle.fact_model.specs.declared.slice.Cond.{Cond}
use Rattle.fact_model.specs.declared.slice.Cond.TheVariants.{Equal, Between}
use Rattle.fact_model.specs.declared.slice.Slice.{Slice}
use Rattle.fact_model.specs.Slice.{attr_of}
use Rattle.cube_schema.specs.Kinds.{kind_at, arity, measure_count}
use Rattle.cube_schema.specs.Words.{begins}
use Rattle.cube_schema.specs.Reading.{are_distinct, number_of, measure_number}
use Rattle.cube_schema.specs.declared.schema.Kind.{Kind}
use Rattle.cube_schema.specs.declared.schema.Kind.TheVariants.{Word, Number}
use Rattle.cube_schema.specs.declared.schema.Schema.{Schema}
use Rattle.cube_schema.proofs.Numbers.{found-below, number-below}
use Rattle.cube_schema.proofs.Tests.{all-join, any-alike, any-map, distinct-insert}
use Rattle.slice_lang.specs.Agreeing.{is_column, FitsKind, SliceAgrees}
use Rattle.slice_lang.specs.Answers.{Reading, ◌>>=◌, Answers, judged, or_refused}
use Rattle.slice_lang.specs.Names.{Named, name_in, behind_name}
use Rattle.slice_lang.specs.Parts.{Part, onto, is_cut, within, parts_from, parts_of, is_word, byte_of}
use Rattle.slice_lang.specs.Reading.{column_over, count_rules, count_in, measured_rules, measured_in, column_in, columns_in, attr_rules, named_in, attr_in, group_rules, name_of_group, group_in, is_on, end_rules, value_in, cond_rules, cond_in, conds_in, all_conds_in, made, behind_group, behind_columns, words_in, slice_of, is_fold}
use Rattle.slice_lang.specs.Values.{Written, in_range, coordinate_in, place_of_dots, equal_to, between, number_cond, meaning, written_in}
use Rattle.slice_lang.specs.declared.refusal.SliceRefusal.TheVariants as refused
use Rattle.slice_lang.proofs.Answered.{judged-ok, bound-ok, some-ok, chosen-ok, gathered-ok}

-- ---- columns
over-is : (n : ℕ) (word : List ℕ) (m : ℕ) → is_column n (column_over word m) ≡ nat_lt m n
over-is n word m =
    elim (bytes_eq word (codes "sum")) as (λ b. is_column n (if b then Sum m else (if bytes_eq word (codes "min") then Min m else Max m)) ≡ nat_lt m n) [
      | true ↦ refl
      | false ↦ elim (bytes_eq word (codes "min")) as (λ b. is_column n (if b then Min m else Max m) ≡ nat_lt m n) [ true ↦ refl | false ↦ refl ]
    ]

counted : (n end : ℕ) (text : List ℕ) (column : Column) → count_in end text ≡ Ok column → is_column n column ≡ true
unfolding count_in
counted n end text column e = sym (ap (is_column n) (judged-ok Count column (count_rules end text) e).0)

measured : (s : Schema) (word : List ℕ) (end : ℕ) (text : List ℕ) (column : Column) → measured_in s word end text ≡ Ok column → is_column (measure_count s) column ≡ true
unfolding measured_in
measured s word end text column e =
    let name = name_in text in
    let ok = judged-ok (column_over word (measure_number s name)) column (measured_rules s end text) e in
    sym (ap (is_column (measure_count s)) ok.0)
    ∙ over-is (measure_count s) word (measure_number s name)
    ∙ lt-ltb (measure_number s name) (measure_count s) (found-below (λ m. bytes_eq m name) s.measures ok.1.1.0)

column-known : (s : Schema) (part : Part) (column : Column) → column_in s part ≡ Ok column → is_column (measure_count s) column ≡ true
unfolding column_in
column-known s part column e =
    elim (bytes_eq (name_in part.text) (codes "count")) as (λ b. (if b then count_in part.end part.text
    else (if is_fold (name_in part.text) && begins (behind_name part.text) (codes "(") then measured_in s (name_in part.text) part.end (drop 1 (behind_name part.text))
    else Err (refused.Syntax (byte_of part.end part.text)))) ≡ Ok column → is_column (measure_count s) column ≡ true) [
      | true ↦ λ f. counted (measure_count s) part.end part.text column f
      | false ↦ λ f. measured s (name_in part.text) part.end (drop 1 (behind_name part.text)) column (chosen-ok (is_fold (name_in part.text) && begins (behind_name part.text) (codes "(")) _ _ column f).1
    ] e

-- ---- there is a part at least
length-onto : (byte : ℕ) (parts : List Part) → length (onto byte parts) ≡ length parts
length-onto byte [] = refl
length-onto byte (part ∷ more) = refl

pub parts-some : (separator end : ℕ) (quoted : Bool) (text : List ℕ) → 0 < length (parts_from separator end quoted text)
parts-some separator end quoted [] = omega arith
parts-some separator end quoted (byte ∷ more) =
    elim (is_cut separator quoted byte) as (λ b. 0 < length (if b then record { end = byte_of end (byte ∷ more); text = [] } ∷ parts_from separator end false more
    else onto byte (parts_from separator end (within quoted byte) more))) [
      | true ↦ omega arith
      | false ↦ omega (arith, length-onto byte (parts_from separator end (within quoted byte) more), parts-some separator end (within quoted byte) more)
    ]

columns-known : (s : Schema) (part : Part) (columns : List Column) → columns_in s part ≡ Ok columns → (list_all (is_column (measure_count s)) columns ≡ true) × (0 < length columns)
unfolding parts_of
columns-known s part columns e =
    let all = gathered-ok (λ cs. list_all (is_column (measure_count s)) cs ≡ true) (λ cs item. column_in s item)
    (λ cs item c p f. all-join (is_column (measure_count s)) cs (c ∷ []) p (and_from (is_column (measure_count s) c) true (column-known s item c f) refl)) [] (parts_of 44 part.end part.text) columns refl e in
    (all.0, omega (arith, all.1, parts-some 44 part.end false part.text))

-- ---- attributes
attr-known : (s : Schema) (end : ℕ) (text : List ℕ) (named : Named) → attr_in s end text ≡ Ok named → nat_lt named.attr (arity s) ≡ true
unfolding attr_in
attr-known s end text named e =
    let ok = judged-ok (named_in s text) named (attr_rules s end text) e in
    sym (ap (λ (n : Named). nat_lt n.attr (arity s)) ok.0) ∙ lt-ltb (number_of s (name_in text)) (arity s) (number-below s (name_in text) ok.1.1.0)

pub eq-flip : (x y : ℕ) → nat_eq x y ≡ nat_eq y x
eq-flip x y = both_ways (nat_eq x y) (nat_eq y x) (λ e. eq-eqb y x (sym (eqb-true x y e))) (λ e. eq-eqb x y (sym (eqb-true y x e)))

-- a number that is new to a list
distinct-more : (attrs : List ℕ) (attr : ℕ) → are_distinct nat_eq attrs ≡ true → list_any (nat_eq attr) attrs ≡ false → are_distinct nat_eq (attrs ++ attr ∷ []) ≡ true
distinct-more attrs attr apart new =
    distinct-insert nat_eq attrs attr [] (ap (are_distinct nat_eq) (append-nil attrs) ∙ apart) (any-alike (λ y. nat_eq y attr) (nat_eq attr) (λ y. eq-flip y attr) attrs ∙ new) refl

-- declared attributes, none twice
abbrev pub AreAttrs : Schema → List ℕ → Type 0
AreAttrs s attrs = (list_all (λ a. nat_lt a (arity s)) attrs ≡ true) × (are_distinct nat_eq attrs ≡ true)

attrs-more : (s : Schema) (attrs : List ℕ) (attr : ℕ) → AreAttrs s attrs → nat_lt attr (arity s) ≡ true → list_any (nat_eq attr) attrs ≡ false → AreAttrs s (attrs ++ attr ∷ [])
attrs-more s attrs attr p known new =
    (all-join (λ a. nat_lt a (arity s)) attrs (attr ∷ []) p.0 (and_from (nat_lt attr (arity s)) true known refl), distinct-more attrs attr p.1 new)

name-known : (s : Schema) (group : List ℕ) (part : Part) (attr : ℕ) → AreAttrs s group → name_of_group s group part ≡ Ok attr → AreAttrs s (group ++ attr ∷ [])
unfolding name_of_group
name-known s group part attr p e =
    let named = bound-ok (attr_in s part.end part.text) _ attr e in
    let ok = judged-ok named.0.attr attr (group_rules group part named.0) named.2 in
    subst (λ a. AreAttrs s (group ++ a ∷ [])) ok.0
    (attrs-more s group named.0.attr p (attr-known s part.end part.text named.0 named.1) (not-true (list_any (nat_eq named.0.attr) group) ok.1.0))

group-known : (s : Schema) (part : Part) (group : List ℕ) → group_in s part ≡ Ok group → AreAttrs s group
group-known s part group e = (gathered-ok (AreAttrs s) (name_of_group s) (name-known s) [] (parts_of 44 part.end part.text) group (refl, refl) e).0

-- ---- values
in-range : (z : Option ℤ) (n : ℕ) → in_range z ≡ Some n → n ≤ number_limit
in-range None n e = cc
in-range (Some (negsuc k)) n e = cc
in-range (Some (pos k)) n e =
    elim (nat_le k number_limit) as (λ b. nat_le k number_limit ≡ b → (if b then Some k else None) ≡ Some n → n ≤ number_limit) [
      | true ↦ λ t f. (let same : k ≡ n = cc in let le = leb-true k number_limit t in omega arith)
      | false ↦ λ t f. cc
    ] refl e

-- the condition is on the attribute, and its value fits the kind
abbrev Means : Kind → ℕ → Cond → Type 0
Means kind attr cond = (attr_of cond ≡ attr) × FitsKind kind cond

equal-means : (attr : ℕ) (text : List ℕ) (cond : Cond) (n : Option ℕ) → coordinate_in text ≡ n → equal_to attr n ≡ Some cond → Means Number attr cond
equal-means attr text cond None is e = cc
equal-means attr text cond (Some n) is e = (let same : Equal attr (value.Number n) ≡ cond = cc in subst (Means Number attr) same (refl, in-range (number_in text) n is))

between-means : (attr : ℕ) (a b : List ℕ) (cond : Cond) (low high : Option ℕ) → coordinate_in a ≡ low → coordinate_in b ≡ high → between attr low high ≡ Some cond → Means Number attr cond
between-means attr a b cond None high is is2 e = cc
between-means attr a b cond (Some low) None is is2 e = cc
between-means attr a b cond (Some low) (Some high) is is2 e = (let same : Between attr low high ≡ cond = cc in subst (Means Number attr) same (refl, (in-range (number_in a) low is, in-range (number_in b) high is2)))

number-means : (attr : ℕ) (text : List ℕ) (cond : Cond) → number_cond attr text ≡ Some cond → Means Number attr cond
unfolding number_cond
number-means attr text cond e =
    let a = take (place_of_dots text) text in
    let b = drop (place_of_dots text + 2) text in
    elim (nat_lt (place_of_dots text) (length text)) as (λ t. (if t then between attr (coordinate_in a) (coordinate_in b) else equal_to attr (coordinate_in text)) ≡ Some cond → Means Number attr cond) [
      | true ↦ λ f. between-means attr a b cond (coordinate_in a) (coordinate_in b) refl refl f
      | false ↦ λ f. equal-means attr text cond (coordinate_in text) refl f
    ] e

value-means : (kind : Kind) (attr : ℕ) (w : Written) (cond : Cond) → meaning kind attr w ≡ Some cond → Means kind attr cond
unfolding meaning
value-means (Word max) attr w cond e =
    elim (nat_le (length w.bytes) 255) as (λ b. nat_le (length w.bytes) 255 ≡ b → (if b then Some (Equal attr (value.Word w.bytes)) else None) ≡ Some cond → Means (Word max) attr cond) [
      | true ↦ λ t f. (let same : Equal attr (value.Word w.bytes) ≡ cond = cc in subst (Means (Word max) attr) same (refl, leb-true (length w.bytes) 255 t))
      | false ↦ λ t f. cc
    ] refl e
value-means Number attr w cond e =
    elim w.quoted as (λ b. (if b then None else number_cond attr w.bytes) ≡ Some cond → Means Number attr cond) [
      | true ↦ λ f. cc
      | false ↦ λ f. number-means attr w.bytes cond f
    ] e

-- ---- conditions
abbrev pub Fits : Schema → Cond → Type 0
Fits s c = FitsKind (kind_at s (attr_of c)) c

pub value-fits : (s : Schema) (attr end : ℕ) (text : List ℕ) (cond : Cond) → value_in s attr end text ≡ Ok cond → (attr_of cond ≡ attr) × Fits s cond
unfolding value_in
value-fits s attr end text cond e =
    let written = bound-ok (written_in end text) _ cond e in
    let meant = bound-ok (or_refused (refused.BadValue (byte_of end text)) (meaning (kind_at s attr) attr written.0)) _ cond written.2 in
    let means = value-means (kind_at s attr) attr written.0 meant.0 (some-ok (refused.BadValue (byte_of end text)) (meaning (kind_at s attr) attr written.0) meant.0 meant.1) in
    let same = (judged-ok meant.0 cond (end_rules end written.0.behind) meant.2).0 in
    subst (λ c. (attr_of c ≡ attr) × Fits s c) same (means.0, subst (λ a. FitsKind (kind_at s a) meant.0) (sym means.0) means.1)

pub record AreConds (s : Schema) (conds : List Cond) : Type 0 where
  pub attrs : AreAttrs s (map attr_of conds)
  pub fits : AllByRecursion (Fits s) conds

fits-more : (s : Schema) (conds : List Cond) (cond : Cond) → AllByRecursion (Fits s) conds → Fits s cond → AllByRecursion (Fits s) (conds ++ cond ∷ [])
fits-more s [] cond all fit = (fit, tt)
fits-more s (c ∷ conds) cond all fit = (all.0, fits-more s conds cond all.1 fit)

cond-known : (s : Schema) (conds : List Cond) (part : Part) (cond : Cond) → AreConds s conds → cond_in s conds part ≡ Ok cond → AreConds s (conds ++ cond ∷ [])
unfolding cond_in
cond-known s conds part cond p e =
    let named = bound-ok (attr_in s part.end part.text) _ cond e in
    let fresh = bound-ok (judged named.0 (cond_rules conds part named.0)) (λ (n : Named). value_in s n.attr part.end (drop 1 n.behind)) cond named.2 in
    let ok = judged-ok named.0 fresh.0 (cond_rules conds part named.0) fresh.1 in
    let value = value-fits s fresh.0.attr part.end (drop 1 fresh.0.behind) cond fresh.2 in
    let attr : attr_of cond ≡ named.0.attr = value.0 ∙ sym (ap (λ (n : Named). n.attr) ok.0) in
    let new : list_any (nat_eq (attr_of cond)) (map attr_of conds) ≡ false =
    any-map attr_of (nat_eq (attr_of cond)) conds ∙ ap (λ a. list_any (is_on a) conds) attr ∙ not-true (list_any (is_on named.0.attr) conds) ok.1.0 in
    let known = ap (λ a. nat_lt a (arity s)) attr ∙ attr-known s part.end part.text named.0 named.1 in
    record {
      attrs = subst (AreAttrs s) (sym (map-append attr_of conds (cond ∷ []))) (attrs-more s (map attr_of conds) (attr_of cond) p.attrs known new);
      fits = fits-more s conds cond p.fits value.1;
    }

conds-known : (s : Schema) (conds : List Cond) (words : List Part) (all : List Cond) → AreConds s conds → conds_in s conds words ≡ Ok all → AreConds s all
conds-known s conds [] all p e = (let same : conds ≡ all = cc in subst (AreConds s) same p)
conds-known s conds (word ∷ []) all p e = cc
conds-known s conds (word ∷ (next ∷ more)) all p e =
    let due = chosen-ok (is_word (codes "and") word) _ _ all e in
    let read = bound-ok (cond_in s conds next) (λ cond. conds_in s (conds ++ cond ∷ []) more) all due.1 in
    conds-known s (conds ++ read.0 ∷ []) more all (cond-known s conds next read.0 p read.1) read.2

no-conds : (s : Schema) → AreConds s []
no-conds s = record { attrs = (refl, refl); fits = tt }

all-known : (s : Schema) (first : Part) (more : List Part) (all : List Cond) → all_conds_in s first more ≡ Ok all → AreConds s all
all-known s first more all e =
    let read = bound-ok (cond_in s [] first) (λ cond. conds_in s (cond ∷ []) more) all e in
    conds-known s (read.0 ∷ []) more all (cond-known s [] first read.0 (no-conds s) read.1) read.2

-- ---- the whole
record AreColumns (s : Schema) (columns : List Column) : Type 0 where
  known : list_all (is_column (measure_count s)) columns ≡ true
  some : 0 < length columns

agrees : (s : Schema) (columns : List Column) (group : List ℕ) (conds : List Cond) → AreColumns s columns → AreAttrs s group → AreConds s conds → SliceAgrees s (made columns group conds)
agrees s columns group conds cs known p = record {
  some = cs.some;
  columns = cs.known;
  group = known.0;
  group_apart = known.1;
  conds = sym (list_all-map (λ a. nat_lt a (arity s)) attr_of conds) ∙ p.attrs.0;
  conds_apart = p.attrs.1;
  values = p.fits;
}

group-behind : (s : Schema) (columns : List Column) (group : List ℕ) (words : List Part) (q : Slice) → AreColumns s columns → AreAttrs s group → behind_group s columns group words ≡ Ok q → SliceAgrees s q
unfolding behind_group
group-behind s columns group [] q cs known e = (let same : made columns group [] ≡ q = cc in subst (SliceAgrees s) same (agrees s columns group [] cs known (no-conds s)))
group-behind s columns group (word ∷ []) q cs known e = cc
group-behind s columns group (word ∷ (next ∷ more)) q cs known e =
    let due = chosen-ok (is_word (codes "where") word) _ _ q e in
    let read = bound-ok (all_conds_in s next more) (λ conds. Ok (made columns group conds)) q due.1 in
    (let same : made columns group read.0 ≡ q = cc read.2 in subst (SliceAgrees s) same (agrees s columns group read.0 cs known (all-known s next more read.0 read.1)))

columns-behind : (s : Schema) (columns : List Column) (words : List Part) (q : Slice) → AreColumns s columns → behind_columns s columns words ≡ Ok q → SliceAgrees s q
unfolding behind_columns
columns-behind s columns [] q cs e = group-behind s columns [] [] q cs (refl, refl) e
columns-behind s columns (word ∷ []) q cs e = group-behind s columns [] (word ∷ []) q cs (refl, refl) e
columns-behind s columns (word ∷ (next ∷ more)) q cs e =
    elim (is_word (codes "by") word) as (λ b. (if b then (group_in s next >>= (λ group. behind_group s columns group more)) else behind_group s columns [] (word ∷ (next ∷ more))) ≡ Ok q → SliceAgrees s q) [
      | true ↦ λ f. (let read = bound-ok (group_in s next) (λ group. behind_group s columns group more) q f in
          group-behind s columns read.0 more q cs (group-known s next read.0 read.1) read.2)
      | false ↦ λ f. group-behind s columns [] (word ∷ (next ∷ more)) q cs (refl, refl) f
    ] e

words-agree : (s : Schema) (words : List Part) (q : Slice) → words_in s words ≡ Ok q → SliceAgrees s q
words-agree s [] q e = cc
words-agree s (word ∷ more) q e =
    let read = bound-ok (columns_in s word) (λ columns. behind_columns s columns more) q e in
    let known = columns-known s word read.0 read.1 in
    columns-behind s read.0 more q (record { known = known.0; some = known.1 }) read.2

slice-agrees : (s : Schema) (text : List ℕ) (q : Slice) → slice_of s text ≡ Ok q → SliceAgrees s q
unfolding slice_of
slice-agrees s text q e = words-agree s (parts_of 32 (length text + 1) text) q e

-- the same of an answer
pub slice_answer : (s : Schema) (text : List ℕ) (r : Reading Slice) → Answers r (slice_of s text) → IfOk r (SliceAgrees s)
slice_answer s text (Ok q) e = slice-agrees s text q e
slice_answer s text (Err refusal) e = tt
