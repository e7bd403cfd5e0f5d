-- What is read of an item, is written in it.
use Rattle.std.proofs.Common.{◌≡◌, ℕ, suc, ◌+◌, ◌<◌, Bool, true, false, ◌&&◌, ◌||◌, ◌⊎◌, cond, List, [], ◌∷◌, ◌++◌, length, take, drop, Option, Some, None, Ok, Err, ℤ, pos, negsuc, inl, inr, refl, sym, ◌∙◌, ap, subst, arith}
use Rattle.std.specs.Prelude.{◌==◌, if◌then◌else◌, flat_map, nat_lt, nat_le, nat_eq, codes}
use Rattle.std.specs.Cmp.Lexicographic.{bytes_decides}
use Rattle.std.specs.List.{list_all, prefix_len, starts_with}
use Rattle.std.specs.Str.{bytes_eq}
use Rattle.std.proofs.lemmas.Bool.{and_parts, and_from, ltb-true, eqb-true, true≢false}
use Rattle.std.proofs.lemmas.List.{take-append-drop, append-nil}
use Rattle.std.proofs.lemmas.List.Sums.{passes_at_first}
use Rattle.fact_model.specs.Limits.{number_limit}
use Rattle.fact_model.specs.Number.{number_in}
use Rattle.fact_model.specs.declared.fact.Value.TheVariants as value
use Rattle.fact_model.specs.declared.slice.Column.{Column}
use Rattle.fact_model.specs.declared.slice.Column.TheVariants.{Count, Sum, Min, Max}
use Rattle.fact_model.specs.declared.slice.Cond.{Cond}
use Rattle.fact_model.specs.declared.slice.Cond.TheVariants.{Equal, Between}
use Rattle.fact_model.specs.Slice.{attr_of}
use Rattle.cube_schema.specs.Kinds.{name_at, kind_at, measure_name_at}
use Rattle.cube_schema.specs.Words.{begins, is_name_byte}
use Rattle.cube_schema.specs.declared.schema.Kind.{Kind}
use Rattle.cube_schema.specs.declared.schema.Kind.TheVariants.{Word, Number}
use Rattle.cube_schema.specs.declared.schema.Schema.{Schema}
use Rattle.cube_schema.proofs.Numbers.{found-below, name-number}
use Rattle.slice_lang.specs.Answers.{◌>>=◌, judged, or_refused}
use Rattle.slice_lang.specs.Grammar.{is_bare, Spells, SpellsCond}
use Rattle.cube_schema.specs.Reading.{is_measure, measure_number}
use Rattle.slice_lang.specs.Names.{Named, name_in, behind_name}
use Rattle.slice_lang.specs.Parts.{Part, byte_of, is_quote}
use Rattle.slice_lang.specs.Reading.{is_fold, column_over, count_rules, count_in, measured_rules, measured_in, column_in, attr_rules, named_in, attr_in, group_rules, name_of_group, end_rules, value_in, cond_rules, cond_in}
use Rattle.slice_lang.specs.Values.{Written, is_value_byte, after_byte, within_quotes, as_quoted, quoted_in, plain_in, plain_rules, written_in, in_range, coordinate_in, place_of_dots, equal_to, between, number_cond, meaning}
use Rattle.slice_lang.specs.Writing.{over_text, column_text, doubled}
use Rattle.slice_lang.specs.declared.refusal.SliceRefusal.TheVariants as refused
use Rattle.slice_lang.proofs.Agreed.{value-fits}
use Rattle.slice_lang.proofs.Answered.{judged-ok, bound-ok, some-ok, chosen-ok}

-- ---- names
name-whole : (text : List ℕ) → text ≡ name_in text ++ behind_name text
name-whole text = sym (take-append-drop (prefix_len is_name_byte text) text)

empty : (text : List ℕ) → (length text == 0) ≡ true → text ≡ []
empty [] h = refl
empty (b ∷ bs) h = absurd (omega (arith, eqb-true (length (b ∷ bs)) 0 h))

single : (text : List ℕ) (byte : ℕ) → bytes_eq (take 1 text) (byte ∷ []) ≡ true → text ≡ byte ∷ drop 1 text
single [] byte h = absurd (true≢false (sym h))
single (b ∷ bs) byte h = (let same = (bytes_decides (b ∷ []) (byte ∷ [])).0 h in ap (λ x. x ∷ bs) (cc))

alone : (text : List ℕ) (byte : ℕ) → bytes_eq (take 1 text) (byte ∷ []) ≡ true → (length text == 1) ≡ true → text ≡ byte ∷ []
alone [] byte h one = absurd (true≢false (sym h))
alone (b ∷ []) byte h one = single (b ∷ []) byte h
alone (b ∷ (c ∷ bs)) byte h one = absurd (omega (arith, eqb-true (length (b ∷ (c ∷ bs))) 1 one))

-- ---- columns
over-text : (s : Schema) (word : List ℕ) (m : ℕ) → is_fold word ≡ true → column_text s (column_over word m) ≡ over_text word (measure_name_at s m)
over-text s word m h =
    let shown = λ (w : List ℕ). over_text w (measure_name_at s m) in
    elim (bytes_eq word (codes "sum")) as (λ a. bytes_eq word (codes "sum") ≡ a → (a || bytes_eq word (codes "min") || bytes_eq word (codes "max")) ≡ true
    → column_text s (if a then Sum m else (if bytes_eq word (codes "min") then Min m else Max m)) ≡ shown word) [
      | true ↦ λ e f. ap shown (sym ((bytes_decides word (codes "sum")).0 e))
      | false ↦ λ d. elim (bytes_eq word (codes "min")) as (λ a. bytes_eq word (codes "min") ≡ a → (false || a || bytes_eq word (codes "max")) ≡ true → column_text s (if a then Min m else Max m) ≡ shown word) [
        | true ↦ λ e f. ap shown (sym ((bytes_decides word (codes "min")).0 e))
        | false ↦ λ e f. ap shown (sym ((bytes_decides word (codes "max")).0 f))
      ] refl
    ] refl h

measure-told : (s : Schema) (name : List ℕ) → is_measure s name ≡ true → measure_name_at s (measure_number s name) ≡ name
measure-told s name h =
    (bytes_decides (measure_name_at s (measure_number s name)) name).0 (passes_at_first (λ m. bytes_eq m name) s.measures [] (found-below (λ m. bytes_eq m name) s.measures h))

count-told : (s : Schema) (end : ℕ) (text : List ℕ) (column : Column) → bytes_eq (name_in text) (codes "count") ≡ true → count_in end text ≡ Ok column → text ≡ column_text s column
unfolding count_in
count-told s end text column word e =
    let ok = judged-ok Count column (count_rules end text) e in
    name-whole text ∙ (λ i. (bytes_decides (name_in text) (codes "count")).0 word i ++ empty (behind_name text) ok.1.1.0 i) ∙ ap (column_text s) ok.0

measured-told : (s : Schema) (word : List ℕ) (end : ℕ) (text : List ℕ) (column : Column) → is_fold word ≡ true → measured_in s word end text ≡ Ok column → word ++ (40 ∷ text) ≡ column_text s column
unfolding measured_in
measured-told s word end text column fold e =
    let name = name_in text in
    let ok = judged-ok (column_over word (measure_number s name)) column (measured_rules s end text) e in
    let behind = alone (behind_name text) 41 ok.1.1.1.0 ok.1.1.1.1.0 in
    ap (λ t. word ++ (40 ∷ t)) (name-whole text ∙ ap (λ t. name ++ t) behind ∙ ap (λ n. n ++ 41 ∷ []) (sym (measure-told s name ok.1.1.0)))
    ∙ sym (over-text s word (measure_number s name) fold)
    ∙ ap (column_text s) ok.0

pub column-told : (s : Schema) (part : Part) (column : Column) → column_in s part ≡ Ok column → part.text ≡ column_text s column
unfolding column_in
column-told s part column e =
    let text = part.text in
    let behind = behind_name text in
    let over = is_fold (name_in text) && begins behind (codes "(") in
    elim (bytes_eq (name_in text) (codes "count")) as (λ b. bytes_eq (name_in text) (codes "count") ≡ b → (if b then count_in part.end text
    else (if over then measured_in s (name_in text) part.end (drop 1 behind) else Err (refused.Syntax (byte_of part.end text)))) ≡ Ok column → text ≡ column_text s column) [
      | true ↦ λ word f. count-told s part.end text column word f
      | false ↦ λ word f. (let ok = chosen-ok over (measured_in s (name_in text) part.end (drop 1 behind)) (refused.Syntax (byte_of part.end text)) column f in
          let test = and_parts (is_fold (name_in text)) (begins behind (codes "(")) ok.0 in
          name-whole text ∙ ap (λ t. name_in text ++ t) (single behind 40 test.1) ∙ measured-told s (name_in text) part.end (drop 1 behind) column test.0 ok.1)
    ] refl e

-- ---- attributes
attr-told : (s : Schema) (end : ℕ) (text : List ℕ) (named : Named) → attr_in s end text ≡ Ok named → text ≡ name_at s named.attr ++ named.behind
unfolding attr_in
attr-told s end text named e =
    let ok = judged-ok (named_in s text) named (attr_rules s end text) e in
    name-whole text ∙ ap (λ n. n ++ behind_name text) (sym (name-number s (name_in text) ok.1.1.0)) ∙ ap (λ (n : Named). name_at s n.attr ++ n.behind) ok.0

pub name-told : (s : Schema) (group : List ℕ) (part : Part) (attr : ℕ) → name_of_group s group part ≡ Ok attr → part.text ≡ name_at s attr
unfolding name_of_group
name-told s group part attr e =
    let named = bound-ok (attr_in s part.end part.text) (λ named. judged named.attr (group_rules group part named)) attr e in
    let ok = judged-ok named.0.attr attr (group_rules group part named.0) named.2 in
    attr-told s part.end part.text named.0 named.1 ∙ ap (λ t. name_at s named.0.attr ++ t) (empty named.0.behind ok.1.1.0) ∙ append-nil (name_at s named.0.attr) ∙ ap (name_at s) ok.0

-- ---- values
after-some : (byte : ℕ) (found : Option (List ℕ × List ℕ)) (closed : List ℕ × List ℕ) → after_byte byte found ≡ Some closed → (inner : List ℕ × List ℕ) × (found ≡ Some inner) × (closed ≡ (byte ∷ inner.0, inner.1))
after-some byte None closed e = cc
after-some byte (Some inner) closed e = (inner, refl, cc)

abbrev IsClosed : List ℕ → List ℕ × List ℕ → Type 0
IsClosed text closed = text ≡ flat_map doubled closed.0 ++ (34 ∷ closed.1)

quotes-told : (text : List ℕ) (closed : List ℕ × List ℕ) → within_quotes text ≡ Some closed → IsClosed text closed
quotes-told [] closed e = cc
quotes-told (a ∷ []) closed e =
    elim (is_quote a) as (λ t. is_quote a ≡ t → cond t (Some ([], [])) None ≡ Some closed → IsClosed (a ∷ []) closed) [
      | true ↦ λ h f. (let same : ([], []) ≡ closed = cc in subst (IsClosed (a ∷ [])) same (ap (λ b. b ∷ []) (eqb-true a 34 h)))
      | false ↦ λ h f. cc
    ] refl e
quotes-told (a ∷ (b ∷ more)) closed e =
    elim (is_quote a) as (λ t. is_quote a ≡ t → cond t (cond (is_quote b) (after_byte 34 (within_quotes more)) (Some ([], b ∷ more))) (after_byte a (within_quotes (b ∷ more))) ≡ Some closed → IsClosed (a ∷ (b ∷ more)) closed) [
      | true ↦ λ h. elim (is_quote b) as (λ t. is_quote b ≡ t → cond t (after_byte 34 (within_quotes more)) (Some ([], b ∷ more)) ≡ Some closed → IsClosed (a ∷ (b ∷ more)) closed) [
        | true ↦ λ k f. (let inner = after-some 34 (within_quotes more) closed f in
            subst (IsClosed (a ∷ (b ∷ more))) (sym inner.2) (λ i. eqb-true a 34 h i ∷ (eqb-true b 34 k i ∷ quotes-told more inner.0 inner.1 i)))
        | false ↦ λ k f. (let same : ([], b ∷ more) ≡ closed = cc in subst (IsClosed (a ∷ (b ∷ more))) same (ap (λ x. x ∷ (b ∷ more)) (eqb-true a 34 h)))
      ] refl
      | false ↦ λ h f. (let inner = after-some a (within_quotes (b ∷ more)) closed f in
          subst (IsClosed (a ∷ (b ∷ more))) (sym inner.2)
          (ap (λ t. a ∷ t) (quotes-told (b ∷ more) inner.0 inner.1) ∙ ap (λ t. (cond t (34 ∷ 34 ∷ []) (a ∷ []) ++ flat_map doubled inner.0.0) ++ (34 ∷ inner.0.1)) (sym h)))
    ] refl e

plain-front : (p : ℕ → Bool) (text : List ℕ) → list_all p (take (prefix_len p text) text) ≡ true
plain-front p [] = refl
plain-front p (b ∷ bs) =
    elim (p b) as (λ t. p b ≡ t → list_all p (take (cond t (1 + prefix_len p bs) 0) (b ∷ bs)) ≡ true) [
      | true ↦ λ e. (let k = prefix_len p bs in let next : 1 + k ≡ suc k = omega arith in
          ap (λ n. list_all p (take n (b ∷ bs))) next ∙ and_from (p b) (list_all p (take k bs)) e (plain-front p bs))
      | false ↦ λ e. refl
    ] refl

-- how a value is written: in quotes, or as it is
abbrev IsWritten : List ℕ → Written → Type 0
IsWritten text w = ((w.quoted ≡ true) × (text ≡ 34 ∷ (flat_map doubled w.bytes ++ (34 ∷ w.behind)))) ⊎ ((w.quoted ≡ false) × (text ≡ w.bytes ++ w.behind) × (is_bare w.bytes ≡ true))

quoted-told : (end : ℕ) (text : List ℕ) (found : Option (List ℕ × List ℕ)) (w : Written) → text ≡ 34 ∷ drop 1 text → within_quotes (drop 1 text) ≡ found → quoted_in end found ≡ Ok w → IsWritten text w
quoted-told end text None w first is e = cc
quoted-told end text (Some closed) w first is e =
    (let same : as_quoted closed ≡ w = cc in subst (IsWritten text) same (inl (refl, first ∙ ap (λ t. 34 ∷ t) (quotes-told (drop 1 text) closed is))))

written-told : (end : ℕ) (text : List ℕ) (w : Written) → written_in end text ≡ Ok w → IsWritten text w
unfolding written_in
written-told end text w e =
    elim (begins text (codes "\"")) as (λ b. begins text (codes "\"") ≡ b → (if b then quoted_in end (within_quotes (drop 1 text)) else judged (plain_in text) (plain_rules end text)) ≡ Ok w → IsWritten text w) [
      | true ↦ λ t f. quoted-told end text (within_quotes (drop 1 text)) w (single text 34 t) refl f
      | false ↦ λ t f. (let ok = judged-ok (plain_in text) w (plain_rules end text) f in
          subst (IsWritten text) ok.0 (inr (refl, sym (take-append-drop (prefix_len is_value_byte text) text), and_from (nat_lt 0 (length (plain_in text).bytes)) (list_all is_value_byte (plain_in text).bytes) ok.1.0 (plain-front is_value_byte text))))
    ] refl e

range-number : (z : Option ℤ) (n : ℕ) → in_range z ≡ Some n → z ≡ Some (pos n)
range-number None n e = cc
range-number (Some (negsuc k)) n e = cc
range-number (Some (pos k)) n e =
    elim (nat_le k number_limit) as (λ b. (if b then Some k else None) ≡ Some n → Some (pos k) ≡ Some (pos n)) [ true ↦ λ f. cc | false ↦ λ f. cc ] e

-- ---- numbers
two-dots : (text : List ℕ) → starts_with nat_eq text (codes "..") ≡ true → text ≡ codes ".." ++ drop 2 text
two-dots [] h = absurd (true≢false (sym h))
two-dots (b ∷ []) h = absurd (true≢false (sym (and_parts (nat_eq 46 b) false h).1))
two-dots (b ∷ (c ∷ more)) h =
    let each = and_parts (nat_eq 46 b) (nat_eq 46 c && true) h in
    let second = and_parts (nat_eq 46 c) true each.1 in
    (λ i. sym (eqb-true 46 b each.0) i ∷ (sym (eqb-true 46 c second.0) i ∷ more))

abbrev IsCutAt : List ℕ → ℕ → Type 0
IsCutAt text k = text ≡ take k text ++ (codes ".." ++ drop (k + 2) text)

dots-told : (text : List ℕ) → place_of_dots text < length text → IsCutAt text (place_of_dots text)
dots-told [] lt = absurd (omega (arith, lt))
dots-told (b ∷ bs) lt =
    elim (starts_with nat_eq (b ∷ bs) (codes "..")) as (λ t. starts_with nat_eq (b ∷ bs) (codes "..") ≡ t → cond t 0 (1 + place_of_dots bs) < length (b ∷ bs) → IsCutAt (b ∷ bs) (cond t 0 (1 + place_of_dots bs))) [
      | true ↦ λ h k. two-dots (b ∷ bs) h
      | false ↦ λ h k. (let at = place_of_dots bs in
          let place : suc at ≡ 1 + at = omega arith in
          let behind : suc (at + 2) ≡ 1 + at + 2 = omega arith in
          ap (λ t. b ∷ t) (dots-told bs (omega (arith, k))) ∙ (λ i. take (place i) (b ∷ bs) ++ (codes ".." ++ drop (behind i) (b ∷ bs))))
    ] refl lt

equal-told : (attr : ℕ) (text : List ℕ) (c : Cond) (found : Option ℕ) → coordinate_in text ≡ found → equal_to attr found ≡ Some c → Spells c text
equal-told attr text c None is e = cc
equal-told attr text c (Some n) is e = (let same : Equal attr (value.Number n) ≡ c = cc in subst (λ x. Spells x text) same (range-number (number_in text) n is))

between-told : (attr : ℕ) (text a b : List ℕ) (c : Cond) (low high : Option ℕ) → text ≡ a ++ (codes ".." ++ b) → coordinate_in a ≡ low → coordinate_in b ≡ high → between attr low high ≡ Some c → Spells c text
between-told attr text a b c None high cut is is2 e = cc
between-told attr text a b c (Some low) None cut is is2 e = cc
between-told attr text a b c (Some low) (Some high) cut is is2 e =
    (let same : Between attr low high ≡ c = cc in subst (λ x. Spells x text) same ((a, b), cut, range-number (number_in a) low is, range-number (number_in b) high is2))

number-told : (attr : ℕ) (text : List ℕ) (c : Cond) → number_cond attr text ≡ Some c → Spells c text
unfolding number_cond
number-told attr text c e =
    let k = place_of_dots text in
    let a = take k text in
    let b = drop (k + 2) text in
    elim (nat_lt k (length text)) as (λ t. nat_lt k (length text) ≡ t → (if t then between attr (coordinate_in a) (coordinate_in b) else equal_to attr (coordinate_in text)) ≡ Some c → Spells c text) [
      | true ↦ λ lt f. between-told attr text a b c (coordinate_in a) (coordinate_in b) (dots-told text (ltb-true k (length text) lt)) refl refl f
      | false ↦ λ lt f. equal-told attr text c (coordinate_in text) refl f
    ] refl e

-- ---- what a written value means is spelled so
word-told : (attr : ℕ) (text : List ℕ) (w : Written) → w.behind ≡ [] → IsWritten text w → Spells (Equal attr (value.Word w.bytes)) text
word-told attr text w ends (inl is) = inl (is.1 ∙ ap (λ t. 34 ∷ (flat_map doubled w.bytes ++ (34 ∷ t))) ends)
word-told attr text w ends (inr is) = inr (is.1 ∙ ap (λ t. w.bytes ++ t) ends ∙ append-nil w.bytes, is.2)

bare-told : (attr : ℕ) (text : List ℕ) (w : Written) (c : Cond) → w.behind ≡ [] → w.quoted ≡ false → IsWritten text w → number_cond attr w.bytes ≡ Some c → Spells c text
bare-told attr text w c ends bare (inl is) e = absurd (true≢false (sym is.0 ∙ bare))
bare-told attr text w c ends bare (inr is) e = subst (Spells c) (sym (is.1 ∙ ap (λ t. w.bytes ++ t) ends ∙ append-nil w.bytes)) (number-told attr w.bytes c e)

meaning-told : (kind : Kind) (attr : ℕ) (text : List ℕ) (w : Written) (c : Cond) → w.behind ≡ [] → IsWritten text w → meaning kind attr w ≡ Some c → Spells c text
unfolding meaning
meaning-told (Word max) attr text w c ends is e =
    elim (nat_le (length w.bytes) 255) as (λ t. (if t then Some (Equal attr (value.Word w.bytes)) else None) ≡ Some c → Spells c text) [
      | true ↦ λ f. (let same : Equal attr (value.Word w.bytes) ≡ c = cc in subst (λ x. Spells x text) same (word-told attr text w ends is))
      | false ↦ λ f. cc
    ] e
meaning-told Number attr text w c ends is e =
    elim w.quoted as (λ t. w.quoted ≡ t → (if t then None else number_cond attr w.bytes) ≡ Some c → Spells c text) [
      | true ↦ λ h f. cc
      | false ↦ λ h f. bare-told attr text w c ends h is f
    ] refl e

value-told : (s : Schema) (attr end : ℕ) (text : List ℕ) (c : Cond) → value_in s attr end text ≡ Ok c → Spells c text
unfolding value_in
value-told s attr end text c e =
    let written = bound-ok (written_in end text) (λ written. or_refused (refused.BadValue (byte_of end text)) (meaning (kind_at s attr) attr written) >>= (λ cond. judged cond (end_rules end written.behind))) c e in
    let w = written.0 in
    let meant = bound-ok (or_refused (refused.BadValue (byte_of end text)) (meaning (kind_at s attr) attr w)) (λ cond. judged cond (end_rules end w.behind)) c written.2 in
    let ok = judged-ok meant.0 c (end_rules end w.behind) meant.2 in
    subst (λ x. Spells x text) ok.0
    (meaning-told (kind_at s attr) attr text w meant.0 (empty w.behind ok.1.0) (written-told end text w written.1) (some-ok (refused.BadValue (byte_of end text)) (meaning (kind_at s attr) attr w) meant.0 meant.1))

pub cond-told : (s : Schema) (conds : List Cond) (part : Part) (c : Cond) → cond_in s conds part ≡ Ok c → SpellsCond s c part.text
unfolding cond_in
cond-told s conds part c e =
    let named = bound-ok (attr_in s part.end part.text) (λ named. judged named (cond_rules conds part named) >>= (λ fresh. value_in s fresh.attr part.end (drop 1 fresh.behind))) c e in
    let fresh = bound-ok (judged named.0 (cond_rules conds part named.0)) (λ (n : Named). value_in s n.attr part.end (drop 1 n.behind)) c named.2 in
    let ok = judged-ok named.0 fresh.0 (cond_rules conds part named.0) fresh.1 in
    let attr : named.0.attr ≡ attr_of c = ap (λ (n : Named). n.attr) ok.0 ∙ sym (value-fits s fresh.0.attr part.end (drop 1 fresh.0.behind) c fresh.2).0 in
    record {
      written = drop 1 fresh.0.behind;
      is = attr-told s part.end part.text named.0 named.1
          ∙ ap (λ t. name_at s named.0.attr ++ t) (single named.0.behind 61 ok.1.1.0)
          ∙ (λ i. name_at s (attr i) ++ (61 ∷ drop 1 (ok.0 i).behind));
      spells = value-told s fresh.0.attr part.end (drop 1 fresh.0.behind) c fresh.2;
    }
