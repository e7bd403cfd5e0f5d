-- The text of a value is read again.
use Rattle.std.proofs.Common.{◌≡◌, ℕ, ◌+◌, ◌<◌, ◌≤◌, Bool, true, false, ◌&&◌, cond, List, [], ◌∷◌, ◌++◌, length, take, drop, Some, None, Ok, pos, inl, inr, refl, sym, ◌∙◌, ap, subst, arith}
use Rattle.std.specs.Prelude.{flat_map, nat_lt, nat_eq, codes}
use Rattle.std.specs.List.{list_all, prefix_len}
use Rattle.std.proofs.lemmas.Bool.{and_parts, lt-ltb, ltb-true, le-leb, le-ltb, eqb-true, cond-false}
use Rattle.std.proofs.lemmas.Bool.Decides.{nat_tests}
use Rattle.std.proofs.lemmas.List.{append_assoc, append-nil, take_all, drop_all, take_at, drop_at, length-append}
use Rattle.fact_model.specs.Limits.{number_limit}
use Rattle.fact_model.specs.Number.{number_in}
use Rattle.fact_model.specs.declared.fact.Value.TheVariants as value
use Rattle.fact_model.specs.declared.slice.Cond.{Cond}
use Rattle.fact_model.specs.declared.slice.Cond.TheVariants.{Equal, Between}
use Rattle.fact_model.specs.Slice.{attr_of}
use Rattle.cube_schema.specs.declared.schema.Kind.{Kind}
use Rattle.cube_schema.specs.declared.schema.Kind.TheVariants.{Word, Number}
use Rattle.cube_schema.proofs.Tests.{all-imply, all-join}
use Rattle.slice_lang.specs.Agreeing.{FitsKind}
use Rattle.slice_lang.specs.Grammar.{Spells}
use Rattle.slice_lang.specs.Parts.{is_quote}
use Rattle.slice_lang.specs.Values.{Written, is_value_byte, after_byte, within_quotes, quoted_in, plain_in, plain_rules, written_in, coordinate_in, place_of_dots, equal_to, between, number_cond, meaning}
use Rattle.slice_lang.specs.Answers.{judged}
use Rattle.slice_lang.specs.Writing.{doubled}
use Rattle.slice_lang.proofs.Answered.{judged-all}
use Rattle.slice_lang.proofs.Decimals.{coordinate-again, number-values, number-some, dots-behind}
use Rattle.slice_lang.proofs.Passing.{Passes, is_plain, passes-plain, quoted-passes}

-- the longest front that passes, where each byte of the front does and what follows it does not begin with one
pub front-all : (p : ℕ → Bool) (front rest : List ℕ) → list_all p front ≡ true → prefix_len p rest ≡ 0 → prefix_len p (front ++ rest) ≡ length front
front-all p [] rest h none = none
front-all p (b ∷ bs) rest h none =
    let each = and_parts (p b) (list_all p bs) h in
    let more = front-all p bs rest each.1 none in
    ap (λ t. cond t (1 + prefix_len p (bs ++ rest)) 0) each.0 ∙ omega arith

-- ---- quoted texts
other-byte : (byte : ℕ) (rest : List ℕ) → is_quote byte ≡ false → within_quotes (byte ∷ rest) ≡ after_byte byte (within_quotes rest)
other-byte byte [] h = rw h refl
other-byte byte (c ∷ rest) h = rw h refl

unquoted-again : (text : List ℕ) → within_quotes (flat_map doubled text ++ 34 ∷ []) ≡ Some (text, [])
unquoted-again [] = refl
unquoted-again (byte ∷ more) =
    let rest = flat_map doubled more ++ 34 ∷ [] in
    let next = unquoted-again more in
    elim (is_quote byte) as (λ b. is_quote byte ≡ b → within_quotes ((cond b (34 ∷ 34 ∷ []) (byte ∷ []) ++ flat_map doubled more) ++ 34 ∷ []) ≡ Some (byte ∷ more, [])) [
      | true ↦ λ h. ap (after_byte 34) next ∙ ap (λ b. Some (b ∷ more, [])) (sym (eqb-true byte 34 h))
      | false ↦ λ h. other-byte byte rest h ∙ ap (after_byte byte) next
    ] refl

-- ---- values without quotes
value-no-quote : (b : ℕ) → is_value_byte b ≡ true → nat_eq b 34 ≡ false
value-no-quote b h = grind (arith, nat_tests)

value-plain : (b : ℕ) → is_value_byte b ≡ true → is_plain 32 b ≡ true
value-plain b h = grind (arith, nat_tests)

whole-front : (p : ℕ → Bool) (xs : List ℕ) → list_all p xs ≡ true → prefix_len p xs ≡ length xs
whole-front p xs h = ap (prefix_len p) (sym (append-nil xs)) ∙ front-all p xs [] h refl

abbrev plain : List ℕ → Written
plain text = record { quoted = false; bytes = text; behind = [] }

-- a text of value bytes is a value without quotes
plain-again : (end : ℕ) (text : List ℕ) → list_all is_value_byte text ≡ true → 0 < length text → written_in end text ≡ Ok (plain text)
unfolding written_in
plain-again end [] all some = absurd (omega (arith, some))
plain-again end (b ∷ bs) all some =
    let text = b ∷ bs in
    let each = and_parts (is_value_byte b) (list_all is_value_byte bs) all in
    let len = whole-front is_value_byte text all in
    let front : take (prefix_len is_value_byte text) text ≡ text = take_all (prefix_len is_value_byte text) text (omega (arith, len)) in
    let behind : drop (prefix_len is_value_byte text) text ≡ [] = drop_all (prefix_len is_value_byte text) text (omega (arith, len)) in
    ap (λ t. cond (t && true) (quoted_in end (within_quotes bs)) (judged (plain_in text) (plain_rules end text))) (value-no-quote b each.0)
    ∙ judged-all (plain_in text) (plain_rules end text) (ap (λ t. nat_lt 0 (length t)) front ∙ lt-ltb 0 (length text) some, tt)
    ∙ (λ i. Ok (record { quoted = false; bytes = front i; behind = behind i }))

number-means-again : (attr n : ℕ) (written : List ℕ) → number_in written ≡ Some (pos n) → n ≤ number_limit → number_cond attr written ≡ Some (Equal attr (value.Number n))
unfolding number_cond
number-means-again attr n written is le =
    let place : place_of_dots written ≡ length written = ap place_of_dots (sym (append-nil written)) ∙ dots-behind written [] (pos n) is ∙ omega arith in
    cond-false (nat_lt (place_of_dots written) (length written)) (between attr (coordinate_in (take (place_of_dots written) written)) (coordinate_in (drop (place_of_dots written + 2) written)))
    (equal_to attr (coordinate_in written)) (le-ltb (place_of_dots written) (length written) (omega (arith, place)))
    ∙ ap (equal_to attr) (coordinate-again written n is le)

abbrev range : List ℕ → List ℕ → List ℕ
range a b = a ++ (codes ".." ++ b)

range-means-again : (attr low high : ℕ) (a b : List ℕ) → number_in a ≡ Some (pos low) → number_in b ≡ Some (pos high) → low ≤ number_limit → high ≤ number_limit
    → number_cond attr (range a b) ≡ Some (Between attr low high)
unfolding number_cond
range-means-again attr low high a b is is2 le le2 =
    let text = range a b in
    let lengths = length-append a (codes ".." ++ b) in
    let place : place_of_dots text ≡ length a = dots-behind a (codes ".." ++ b) (pos low) is ∙ omega arith in
    let before : take (place_of_dots text) text ≡ a = take_at a (codes ".." ++ b) (place_of_dots text) (sym place) in
    let joined-dots : (a ++ codes "..") ++ b ≡ text = append_assoc a (codes "..") b in
    let long : length (a ++ codes "..") ≡ place_of_dots text + 2 = length-append a (codes "..") ∙ omega (arith, place) in
    let behind : drop (place_of_dots text + 2) text ≡ b = ap (drop (place_of_dots text + 2)) (sym joined-dots) ∙ drop_at (a ++ codes "..") b (place_of_dots text + 2) long in
    ap (λ t. cond t (between attr (coordinate_in (take (place_of_dots text) text)) (coordinate_in (drop (place_of_dots text + 2) text))) (equal_to attr (coordinate_in text)))
    (lt-ltb (place_of_dots text) (length text) (omega (arith, place, lengths)))
    ∙ (λ i. between attr (coordinate_in (before i)) (coordinate_in (behind i)))
    ∙ (λ i. between attr (coordinate-again a low is le i) (coordinate-again b high is2 le2 i))

range-values : (low high : ℕ) (a b : List ℕ) → number_in a ≡ Some (pos low) → number_in b ≡ Some (pos high) → list_all is_value_byte (range a b) ≡ true
range-values low high a b is is2 = all-join is_value_byte a (codes ".." ++ b) (number-values a (pos low) is) (number-values b (pos high) is2)

range-some : (a b : List ℕ) → 0 < length (range a b)
range-some a b = omega (arith, length-append a (codes ".." ++ b))

-- ---- a value as it is written, and what it means
pub record IsAgain (kind : Kind) (cond : Cond) (written : Written) : Type 0 where
  pub means : meaning kind (attr_of cond) written ≡ Some cond
  pub ends : written.behind ≡ []

abbrev Again : Kind → Cond → ℕ → List ℕ → Type 0
Again kind cond end text = (written : Written) × (written_in end text ≡ Ok written) × IsAgain kind cond written

word-again : (max attr : ℕ) (text : List ℕ) (end : ℕ) (quoted : Bool) (v : List ℕ) → length text ≤ 255 → written_in end v ≡ Ok (record { quoted = quoted; bytes = text; behind = [] }) → Again (Word max) (Equal attr (value.Word text)) end v
unfolding meaning
word-again max attr text end quoted v short is =
    (record { quoted = quoted; bytes = text; behind = [] }, is, record { means = ap (λ b. cond b (Some (Equal attr (value.Word text))) None) (le-leb (length text) 255 short); ends = refl })

plain-number : (cond : Cond) (end : ℕ) (v : List ℕ) → list_all is_value_byte v ≡ true → 0 < length v → number_cond (attr_of cond) v ≡ Some cond → Again Number cond end v
unfolding meaning
plain-number cond end v all some means = (plain v, plain-again end v all some, record { means = means; ends = refl })

pub value-again : (kind : Kind) (cond : Cond) (v : List ℕ) (end : ℕ) → FitsKind kind cond → Spells cond v → Again kind cond end v
unfolding written_in
value-again (Word max) (Equal attr (value.Word text)) v end fits (inl is) =
    word-again max attr text end true v fits (ap (written_in end) is ∙ ap (quoted_in end) (unquoted-again text))
value-again (Word max) (Equal attr (value.Word text)) v end fits (inr is) =
    let bare = and_parts (nat_lt 0 (length text)) (list_all is_value_byte text) is.1 in
    word-again max attr text end false v fits (ap (written_in end) is.0 ∙ plain-again end text bare.1 (ltb-true 0 (length text) bare.0))
value-again (Word max) (Equal attr (value.Number n)) v end fits is = absurd fits
value-again (Word max) (Between attr low high) v end fits is = absurd fits.0
value-again Number (Equal attr (value.Word text)) v end fits is = absurd fits
value-again Number (Equal attr (value.Number n)) v end fits is =
    plain-number (Equal attr (value.Number n)) end v (number-values v (pos n) is) (number-some v (pos n) is) (number-means-again attr n v is fits)
value-again Number (Between attr low high) v end fits is =
    let a = is.0.0 in
    let b = is.0.1 in
    subst (Again Number (Between attr low high) end) (sym is.1)
    (plain-number (Between attr low high) end (range a b) (range-values low high a b is.2 is.3) (range-some a b) (range-means-again attr low high a b is.2 is.3 fits.0 fits.1))

-- ---- a value is within one word
values-pass : (end : ℕ) (v : List ℕ) → list_all is_value_byte v ≡ true → Passes 32 end v
values-pass end v all = passes-plain 32 end v (all-imply is_value_byte (is_plain 32) value-plain v all)

pub value-passes : (cond : Cond) (v : List ℕ) (end : ℕ) → Spells cond v → Passes 32 end v
value-passes (Equal attr (value.Word text)) v end (inl is) = subst (Passes 32 end) (sym is) (quoted-passes end text)
value-passes (Equal attr (value.Word text)) v end (inr is) = subst (Passes 32 end) (sym is.0) (values-pass end text (and_parts (nat_lt 0 (length text)) (list_all is_value_byte text) is.1).1)
value-passes (Equal attr (value.Number n)) v end is = values-pass end v (number-values v (pos n) is)
value-passes (Between attr low high) v end is = subst (Passes 32 end) (sym is.1) (values-pass end (range is.0.0 is.0.1) (range-values low high is.0.0 is.0.1 is.2 is.3))
