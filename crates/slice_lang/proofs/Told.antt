-- What is read of a text, the text says.
use Rattle.std.proofs.Common.{◌≡◌, ℕ, ◌+◌, Bool, true, false, not, List, [], ◌∷◌, ◌++◌, length, drop, Ok, Err, refl, sym, ◌∙◌, ap, subst}
use Rattle.std.specs.Prelude.{◌==◌, if◌then◌else◌, flat_map, codes, IfOk}
use Rattle.std.specs.Cmp.Lexicographic.{bytes_decides}
use Rattle.std.specs.List.{AllZip}
use Rattle.std.proofs.lemmas.Bool.{and_parts, eqb-true}
use Rattle.std.proofs.lemmas.List.{append_assoc, append-nil}
use Rattle.fact_model.specs.declared.slice.Column.{Column}
use Rattle.fact_model.specs.declared.slice.Cond.{Cond}
use Rattle.fact_model.specs.declared.slice.Slice.{Slice}
use Rattle.cube_schema.specs.Kinds.{name_at}
use Rattle.cube_schema.specs.declared.schema.Schema.{Schema}
use Rattle.cube_schema.proofs.Writes.{names_joined}
use Rattle.slice_lang.specs.Answers.{Reading, ◌>>=◌, Answers, gathered}
use Rattle.slice_lang.specs.Grammar.{SpellsCond, Says}
use Rattle.slice_lang.specs.Parts.{Part, byte_of, onto, is_cut, within, parts_from, parts_of, is_word, before}
use Rattle.slice_lang.specs.Reading.{column_in, columns_in, name_of_group, group_in, cond_in, conds_in, all_conds_in, made, behind_group, behind_columns, words_in, slice_of}
use Rattle.slice_lang.specs.Writing.{column_text, columns_text, by_text, where_text}
use Rattle.slice_lang.specs.declared.refusal.SliceRefusal.TheVariants as refused
use Rattle.slice_lang.proofs.Answered.{bound-ok, chosen-ok}
use Rattle.slice_lang.proofs.ToldItems.{column-told, name-told, cond-told}

-- ---- the parts of a text, each behind a separator, are the text behind one
abbrev behind : ℕ → List Part → List ℕ
behind separator parts = flat_map (λ (part : Part). separator ∷ part.text) parts

behind-onto : (separator byte : ℕ) (parts : List Part) (text : List ℕ) → behind separator parts ≡ separator ∷ text → behind separator (onto byte parts) ≡ separator ∷ (byte ∷ text)
behind-onto separator byte [] text is = cc
behind-onto separator byte (part ∷ more) text is = ap (λ t. separator ∷ (byte ∷ drop 1 t)) is

parts-told : (separator end : ℕ) (quoted : Bool) (text : List ℕ) → behind separator (parts_from separator end quoted text) ≡ separator ∷ text
parts-told separator end quoted [] = refl
parts-told separator end quoted (byte ∷ more) =
    elim (is_cut separator quoted byte) as (λ t. is_cut separator quoted byte ≡ t
    → behind separator (if t then record { end = byte_of end (byte ∷ more); text = [] } ∷ parts_from separator end false more else onto byte (parts_from separator end (within quoted byte) more)) ≡ separator ∷ (byte ∷ more)) [
      | true ↦ λ h. (let same = eqb-true byte separator (and_parts (byte == separator) (not quoted) h).0 in
          ap (λ t. separator ∷ t) (parts-told separator end false more) ∙ ap (λ b. separator ∷ (b ∷ more)) (sym same))
      | false ↦ λ h. behind-onto separator byte (parts_from separator end (within quoted byte) more) more (parts-told separator end (within quoted byte) more)
    ] refl

-- ---- items with commas between
module _ {A : Type 0} (text : A → List ℕ) (read : List A → Part → Reading A) (told : (items : List A) (part : Part) (x : A) → read items part ≡ Ok x → part.text ≡ text x) where
  gathered-told : (parts : List Part) (done all : List A) → gathered read done parts ≡ Ok all → (new : List A) × (all ≡ done ++ new) × (behind 44 parts ≡ flat_map (λ x. 44 ∷ text x) new)
  gathered-told [] done all e = ([], (let same : all ≡ done = cc in same ∙ sym (append-nil done)), refl)
  gathered-told (part ∷ more) done all e =
      let step = bound-ok (read done part) (λ x. gathered read (done ++ x ∷ []) more) all e in
      let rest = gathered-told more (done ++ step.0 ∷ []) all step.2 in
      (step.0 ∷ rest.0, rest.1 ∙ append_assoc done (step.0 ∷ []) rest.0, (λ i. (44 ∷ told done part step.0 step.1 i) ++ rest.2 i))

  all-told : (part : Part) (all : List A) → gathered read [] (parts_of 44 part.end part.text) ≡ Ok all → 44 ∷ part.text ≡ flat_map (λ x. 44 ∷ text x) all
  unfolding parts_of
  all-told part all e =
      let found = gathered-told (parts_from 44 part.end false part.text) [] all e in
      sym (parts-told 44 part.end false part.text) ∙ found.2 ∙ ap (flat_map (λ x. 44 ∷ text x)) (sym found.1)

columns-joined : (s : Schema) (columns : List Column) → drop 1 (flat_map (λ c. 44 ∷ column_text s c) columns) ≡ columns_text s columns
columns-joined s [] = refl
columns-joined s (c ∷ columns) = refl

columns-told : (s : Schema) (part : Part) (columns : List Column) → columns_in s part ≡ Ok columns → part.text ≡ columns_text s columns
columns-told s part columns e = ap (drop 1) (all-told (column_text s) (λ cs item. column_in s item) (λ cs item c f. column-told s item c f) part columns e) ∙ columns-joined s columns

group-joined : (s : Schema) (text group : List ℕ) → 44 ∷ text ≡ flat_map (λ a. 44 ∷ name_at s a) group → codes " by " ++ text ≡ by_text s group
group-joined s text [] is = cc
group-joined s text (a ∷ more) is = ap (λ t. codes " by " ++ drop 1 t) is ∙ ap (λ t. codes " by " ++ t) (sym (names_joined s a more))

group-told : (s : Schema) (part : Part) (group : List ℕ) → group_in s part ≡ Ok group → codes " by " ++ part.text ≡ by_text s group
group-told s part group e = group-joined s part.text group (all-told (name_at s) (name_of_group s) (name-told s) part group e)

-- ---- conditions
the-word : (word : List ℕ) (part : Part) → is_word word part ≡ true → part.text ≡ word
the-word word part h = (bytes_decides part.text word).0 h

record AreTold (s : Schema) (conds all : List Cond) (words : List Part) : Type 0 where
  new : List Cond
  texts : List (List ℕ)
  is : all ≡ conds ++ new
  each : AllZip (SpellsCond s) new texts
  told : behind 32 words ≡ flat_map (λ text. codes " and " ++ text) texts

conds-told : (s : Schema) (conds : List Cond) (words : List Part) (all : List Cond) → conds_in s conds words ≡ Ok all → AreTold s conds all words
conds-told s conds [] all e = record { new = []; texts = []; is = (let same : all ≡ conds = cc in same ∙ sym (append-nil conds)); each = tt; told = refl }
conds-told s conds (word ∷ []) all e = cc
conds-told s conds (word ∷ (next ∷ more)) all e =
    let due = chosen-ok (is_word (codes "and") word) (cond_in s conds next >>= (λ cond. conds_in s (conds ++ cond ∷ []) more)) (refused.Syntax (before word)) all e in
    let read = bound-ok (cond_in s conds next) (λ cond. conds_in s (conds ++ cond ∷ []) more) all due.1 in
    let rest = conds-told s (conds ++ read.0 ∷ []) more all read.2 in
    record {
      new = read.0 ∷ rest.new;
      texts = next.text ∷ rest.texts;
      is = rest.is ∙ append_assoc conds (read.0 ∷ []) rest.new;
      each = (cond-told s conds next read.0 read.1, rest.each);
      told = λ i. (32 ∷ the-word (codes "and") word due.0 i) ++ ((32 ∷ next.text) ++ rest.told i);
    }

-- ---- what follows the columns
record Follows (s : Schema) (columns : List Column) (q : Slice) (front behind : List ℕ) : Type 0 where
  same : q.columns ≡ columns
  texts : List (List ℕ)
  each : AllZip (SpellsCond s) q.conds texts
  told : behind ≡ front ++ where_text texts

group-behind-told : (s : Schema) (columns : List Column) (group : List ℕ) (words : List Part) (q : Slice) → behind_group s columns group words ≡ Ok q → (q.group ≡ group) × Follows s columns q [] (behind 32 words)
unfolding behind_group
group-behind-told s columns group [] q e =
    (let same : made columns group [] ≡ q = cc in
    subst (λ (q : Slice). (q.group ≡ group) × Follows s columns q [] []) same (refl, record { same = refl; texts = []; each = tt; told = refl }))
group-behind-told s columns group (word ∷ []) q e = cc
group-behind-told s columns group (word ∷ (next ∷ more)) q e =
    let due = chosen-ok (is_word (codes "where") word) (all_conds_in s next more >>= (λ conds. Ok (made columns group conds))) (refused.Syntax (before word)) q e in
    let all = bound-ok (all_conds_in s next more) (λ conds. Ok (made columns group conds)) q due.1 in
    let first = bound-ok (cond_in s [] next) (λ cond. conds_in s (cond ∷ []) more) all.0 all.1 in
    let rest = conds-told s (first.0 ∷ []) more all.0 first.2 in
    let same : made columns group all.0 ≡ q = cc all.2 in
    let each : AllZip (SpellsCond s) all.0 (next.text ∷ rest.texts) = subst (λ cs. AllZip (SpellsCond s) cs (next.text ∷ rest.texts)) {x = first.0 ∷ rest.new} (sym rest.is) (cond-told s [] next first.0 first.1, rest.each) in
    subst (λ (q : Slice). (q.group ≡ group) × Follows s columns q [] (behind 32 (word ∷ (next ∷ more)))) {x = made columns group all.0} same (
      refl,
      record {
        same = refl;
        texts = next.text ∷ rest.texts;
        each = each;
        told = λ i. (32 ∷ the-word (codes "where") word due.0 i) ++ ((32 ∷ next.text) ++ rest.told i);
      },
    )

-- without a group
no-group : (s : Schema) (columns : List Column) (words : List Part) (q : Slice) → behind_group s columns [] words ≡ Ok q → Follows s columns q (by_text s q.group) (behind 32 words)
no-group s columns words q e =
    let follows = group-behind-told s columns [] words q e in
    record { same = follows.1.same; texts = follows.1.texts; each = follows.1.each; told = follows.1.told ∙ ap (λ g. by_text s g ++ where_text follows.1.texts) (sym follows.0) }

columns-behind-told : (s : Schema) (columns : List Column) (words : List Part) (q : Slice) → behind_columns s columns words ≡ Ok q → Follows s columns q (by_text s q.group) (behind 32 words)
unfolding behind_columns
columns-behind-told s columns [] q e = no-group s columns [] q e
columns-behind-told s columns (word ∷ []) q e = no-group s columns (word ∷ []) q e
columns-behind-told s columns (word ∷ (next ∷ more)) q e =
    elim (is_word (codes "by") word) as (λ t. is_word (codes "by") word ≡ t → (if t then (group_in s next >>= (λ group. behind_group s columns group more)) else behind_group s columns [] (word ∷ (next ∷ more))) ≡ Ok q
    → Follows s columns q (by_text s q.group) (behind 32 (word ∷ (next ∷ more)))) [
      | true ↦ λ h f. (let read = bound-ok (group_in s next) (λ group. behind_group s columns group more) q f in
          let follows = group-behind-told s columns read.0 more q read.2 in
          record {
            same = follows.1.same;
            texts = follows.1.texts;
            each = follows.1.each;
            told = (λ i. (32 ∷ the-word (codes "by") word h i) ++ ((32 ∷ next.text) ++ follows.1.told i))
                ∙ ap (λ t. t ++ where_text follows.1.texts) (group-told s next read.0 read.1)
                ∙ ap (λ g. by_text s g ++ where_text follows.1.texts) (sym follows.0);
          })
      | false ↦ λ h f. no-group s columns (word ∷ (next ∷ more)) q f
    ] refl e

words-told : (s : Schema) (words : List Part) (text : List ℕ) (q : Slice) → behind 32 words ≡ 32 ∷ text → words_in s words ≡ Ok q → Says s q text
words-told s [] text q is e = cc
words-told s (word ∷ more) text q is e =
    let read = bound-ok (columns_in s word) (λ columns. behind_columns s columns more) q e in
    let follows = columns-behind-told s read.0 more q read.2 in
    record {
      conds = follows.texts;
      each = follows.each;
      is = ap (drop 1) (sym is)
          ∙ (λ i. columns-told s word read.0 read.1 i ++ follows.told i)
          ∙ ap (λ cs. columns_text s cs ++ (by_text s q.group ++ where_text follows.texts)) (sym follows.same);
    }

slice-told : (s : Schema) (text : List ℕ) (q : Slice) → slice_of s text ≡ Ok q → Says s q text
unfolding slice_of parts_of
slice-told s text q e = words-told s (parts_from 32 (length text + 1) false text) text q (parts-told 32 (length text + 1) false text) e

-- the same of an answer
pub said_answer : (s : Schema) (text : List ℕ) (r : Reading Slice) → Answers r (slice_of s text) → IfOk r (λ q. Says s q text)
said_answer s text (Ok q) e = slice-told s text q e
said_answer s text (Err refusal) e = tt
