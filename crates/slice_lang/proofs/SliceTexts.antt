-- The text of a slice is read again.
use Rattle.std.proofs.Common.{◌≡◌, ℕ, ◌+◌, true, false, List, [], ◌∷◌, ◌++◌, length, map, Result, Ok, Err, refl, sym, ◌∙◌, ap, subst, arith, inl}
use Rattle.std.specs.Prelude.{flat_map, nat_lt, codes, IfOk, decimal}
use Rattle.std.specs.List.{list_all, AllByRecursion, AllZip, join_with_byte}
use Rattle.std.proofs.lemmas.Bool.{and_parts}
use Rattle.std.proofs.lemmas.List.{append_assoc, append-nil}
use Rattle.std.proofs.lemmas.List.Folds.{list_all-map}
use Rattle.fact_model.specs.declared.memory.Memory.{Memory}
use Rattle.fact_model.specs.declared.slice.Column.{Column}
use Rattle.fact_model.specs.declared.fact.Value.TheVariants as value
use Rattle.fact_model.specs.declared.slice.Cond.{Cond}
use Rattle.fact_model.specs.declared.slice.Cond.TheVariants.{Equal, Between}
use Rattle.cube_schema.specs.declared.schema.Kind.{Kind}
use Rattle.cube_schema.specs.declared.schema.Kind.TheVariants.{Word, Number}
use Rattle.fact_model.specs.declared.slice.Slice.{Slice}
use Rattle.fact_model.specs.Slice.{attr_of}
use Rattle.cube_schema.specs.Kinds.{name_at, arity, measure_count, kind_at}
use Rattle.cube_schema.specs.Lawful.{IsSchema}
use Rattle.cube_schema.specs.declared.schema.Schema.{Schema}
use Rattle.cube_schema.proofs.Tests.{all-parts}
use Rattle.cube_schema.proofs.Writes.{names_joined}
use Rattle.slice_lang.specs.Agreeing.{is_column, SliceAgrees, FitsKind}
use Rattle.slice_lang.specs.Answers.{◌>>=◌, gathered, Reading, Answers}
use Rattle.slice_lang.specs.Grammar.{SpellsCond, Says}
use Rattle.slice_lang.proofs.Decimals.{number-again}
use Rattle.slice_lang.specs.Parts.{Part, byte_of, parts_from, parts_of}
use Rattle.slice_lang.specs.Reading.{column_in, columns_in, name_of_group, group_in, conds_in, all_conds_in, made, behind_group, behind_columns, words_in, slice_of}
use Rattle.slice_lang.specs.Writing.{column_text, columns_text, by_text, value_text, cond_text, where_text, slice_text}
use Rattle.slice_lang.proofs.Agreed.{AreAttrs, AreConds, Fits}
use Rattle.slice_lang.proofs.ItemTexts.{name-again, name-passes, names-pass-word, column-again, column-passes, columns-pass-word, cond-again, cond-passes}
use Rattle.slice_lang.proofs.Passing.{Passes, passes-plain, passes-joined, passes-all, first-part, last-part, gathered-again}

abbrev AreColumns : Schema → List Column → Type 0
AreColumns s columns = list_all (is_column (measure_count s)) columns ≡ true

known-column : (s : Schema) (c : Column) (done more : List Column) → AreColumns s (done ++ c ∷ more) → is_column (measure_count s) c ≡ true
known-column s c done more p =
    (and_parts (is_column (measure_count s) c) (list_all (is_column (measure_count s)) more) (all-parts (is_column (measure_count s)) done (c ∷ more) p).1).0

columns-again : (s : Schema) → IsSchema s → (c : Column) (more : List Column) (end : ℕ) → AreColumns s (c ∷ more) → columns_in s (record { end = end; text = columns_text s (c ∷ more) }) ≡ Ok (c ∷ more)
unfolding parts_of
columns-again s lawful c more end known =
    gathered-again (column_text s) (λ cs item. column_in s item) (AreColumns s) (λ x done rest p e. column-passes s lawful x e (known-column s x done rest p))
    (λ x done rest p e. column-again s lawful x e (known-column s x done rest p)) more c [] end known

columns-pass : (s : Schema) → IsSchema s → (c : Column) (more : List Column) (end : ℕ) → AreColumns s (c ∷ more) → Passes 32 end (columns_text s (c ∷ more))
columns-pass s lawful c more end known =
    let all = columns-pass-word s (c ∷ more) end lawful known in
    passes-joined 32 end (column_text s c) (flat_map (λ d. 44 ∷ column_text s d) more) all.0 (passes-all end (column_text s) more all.1)

group-again : (s : Schema) → IsSchema s → (a : ℕ) (more : List ℕ) (end : ℕ) → AreAttrs s (a ∷ more) → group_in s (record { end = end; text = join_with_byte 44 (map (name_at s) (a ∷ more)) }) ≡ Ok (a ∷ more)
unfolding parts_of
group-again s lawful a more end known =
    ap (λ t. gathered (name_of_group s) [] (parts_from 44 end false t)) (names_joined s a more)
    ∙ gathered-again (name_at s) (name_of_group s) (AreAttrs s) (name-passes s lawful) (name-again s lawful) more a [] end known

group-passes : (s : Schema) → IsSchema s → (a : ℕ) (more : List ℕ) (end : ℕ) → AreAttrs s (a ∷ more) → Passes 32 end (join_with_byte 44 (map (name_at s) (a ∷ more)))
group-passes s lawful a more end known =
    let all = names-pass-word s (a ∷ more) end lawful known.0 in
    subst (Passes 32 end) (sym (names_joined s a more)) (passes-joined 32 end (name_at s a) (flat_map (λ b. 44 ∷ name_at s b) more) all.0 (passes-all end (name_at s) more all.1))

-- ---- conditions
abbrev more-conds : List (List ℕ) → List ℕ
more-conds texts = flat_map (λ text. codes " and " ++ text) texts

-- the words of conditions: the first, and those that follow it
record AreRead (s : Schema) (done : List Cond) (c : Cond) (more : List Cond) (text : List ℕ) (words : List Part) : Type 0 where
  end : ℕ
  rest : List Part
  is : words ≡ record { end = end; text = text } ∷ rest
  read : conds_in s (done ++ c ∷ []) rest ≡ Ok (done ++ c ∷ more)

conds-again : (s : Schema) → IsSchema s → (more : List Cond) (texts : List (List ℕ)) (c : Cond) (text : List ℕ) (done : List Cond) (end : ℕ) → AreConds s (done ++ c ∷ more) → SpellsCond s c text → AllZip (SpellsCond s) more texts
    → AreRead s done c more text (parts_from 32 end false (text ++ more-conds texts))
conds-again s lawful [] [] c text done end p spelled each = record {
  end = end;
  rest = [];
  is = ap (parts_from 32 end false) (append-nil text) ∙ last-part 32 end text (cond-passes s lawful done c [] p text spelled end);
  read = refl;
}
conds-again s lawful [] (u ∷ texts) c text done end p spelled each = absurd each
conds-again s lawful (d ∷ more) [] c text done end p spelled each = absurd each
conds-again s lawful (d ∷ more) (u ∷ texts) c text done end p spelled each =
    let behind = u ++ more-conds texts in
    let assoc = append_assoc done (c ∷ []) (d ∷ more) in
    let on = subst (AreConds s) (sym assoc) p in
    let next = conds-again s lawful more texts d u (done ++ c ∷ []) end on each.0 each.1 in
    let here : Part = record { end = next.end; text = u } in
    let and-word : Part = record { end = byte_of end (32 ∷ behind); text = codes "and" } in
    record {
      end = byte_of end (32 ∷ (codes "and" ++ (32 ∷ behind)));
      rest = and-word ∷ (here ∷ next.rest);
      is = first-part 32 end text (codes "and" ++ (32 ∷ behind)) (cond-passes s lawful done c (d ∷ more) p text spelled end)
          ∙ ap (λ ps. record { end = byte_of end (32 ∷ (codes "and" ++ (32 ∷ behind))); text = text } ∷ ps)
          (first-part 32 end (codes "and") behind (passes-plain 32 end (codes "and") refl) ∙ ap (λ ps. and-word ∷ ps) next.is);
      read = ap (λ r. r >>= (λ x. conds_in s ((done ++ c ∷ []) ++ x ∷ []) next.rest)) (cond-again s lawful (done ++ c ∷ []) d more on u each.0 next.end)
          ∙ next.read ∙ ap Ok assoc;
    }

-- ---- what follows a group, which stands at the front of a text
record FollowGroup (s : Schema) (columns : List Column) (group : List ℕ) (conds : List Cond) (front : List ℕ) (words : List Part) : Type 0 where
  end : ℕ
  rest : List Part
  is : words ≡ record { end = end; text = front } ∷ rest
  read : behind_group s columns group rest ≡ Ok (made columns group conds)
  -- no group follows
  no-group : behind_columns s columns rest ≡ behind_group s columns [] rest

where-again : (s : Schema) → IsSchema s → (columns : List Column) (group : List ℕ) (conds : List Cond) (texts : List (List ℕ)) (front : List ℕ) (end : ℕ) → AreConds s conds → AllZip (SpellsCond s) conds texts
    → Passes 32 end front → FollowGroup s columns group conds front (parts_from 32 end false (front ++ where_text texts))
unfolding behind_group behind_columns
where-again s lawful columns group [] [] front end p each pass = record {
  end = end;
  rest = [];
  is = ap (parts_from 32 end false) (append-nil front) ∙ last-part 32 end front pass;
  read = refl;
  no-group = refl;
}
where-again s lawful columns group [] (u ∷ texts) front end p each pass = absurd each
where-again s lawful columns group (c ∷ more) [] front end p each pass = absurd each
where-again s lawful columns group (c ∷ more) (text ∷ texts) front end p each pass =
    let behind = text ++ more-conds texts in
    let next = conds-again s lawful more texts c text [] end p each.0 each.1 in
    let here : Part = record { end = next.end; text = text } in
    let where-word : Part = record { end = byte_of end (32 ∷ behind); text = codes "where" } in
    let all : all_conds_in s here next.rest ≡ Ok (c ∷ more) = ap (λ r. r >>= (λ x. conds_in s (x ∷ []) next.rest)) (cond-again s lawful [] c more p text each.0 next.end) ∙ next.read in
    record {
      end = byte_of end (32 ∷ (codes "where" ++ (32 ∷ behind)));
      rest = where-word ∷ (here ∷ next.rest);
      is = first-part 32 end front (codes "where" ++ (32 ∷ behind)) pass
          ∙ ap (λ ps. record { end = byte_of end (32 ∷ (codes "where" ++ (32 ∷ behind))); text = front } ∷ ps)
          (first-part 32 end (codes "where") behind (passes-plain 32 end (codes "where") refl) ∙ ap (λ ps. where-word ∷ ps) next.is);
      read = ap (λ r. r >>= (λ conds. Ok (made columns group conds))) all;
      no-group = refl;
    }

-- ---- the whole
module _ (s : Schema) (lawful : IsSchema s) (c : Column) (more : List Column) (columns-known : AreColumns s (c ∷ more)) (conds : List Cond) (texts : List (List ℕ)) (conds-known : AreConds s conds)
    (each : AllZip (SpellsCond s) conds texts) (end : ℕ) where
  abbrev columns : List Column
  columns = c ∷ more

  abbrev front : List ℕ
  front = columns_text s columns

  words-again : (group : List ℕ) → AreAttrs s group → words_in s (parts_from 32 end false (front ++ (by_text s group ++ where_text texts))) ≡ Ok (made columns group conds)
  unfolding behind_columns
  words-again [] known =
      let next = where-again s lawful columns [] conds texts front end conds-known each (columns-pass s lawful c more end columns-known) in
      ap (words_in s) next.is
      ∙ ap (λ r. r >>= (λ cs. behind_columns s cs next.rest)) (columns-again s lawful c more next.end columns-known)
      ∙ next.no-group
      ∙ next.read
  words-again (a ∷ attrs) known =
      let names = join_with_byte 44 (map (name_at s) (a ∷ attrs)) in
      let next = where-again s lawful columns (a ∷ attrs) conds texts names end conds-known each (group-passes s lawful a attrs end known) in
      let rest = names ++ where_text texts in
      let by-word : Part = record { end = byte_of end (32 ∷ rest); text = codes "by" } in
      let column-word : Part = record { end = byte_of end (32 ∷ (codes "by" ++ (32 ∷ rest))); text = front } in
      let names-word : Part = record { end = next.end; text = names } in
      ap (words_in s) (
      first-part 32 end front (codes "by" ++ (32 ∷ rest)) (columns-pass s lawful c more end columns-known)
      ∙ ap (λ ps. column-word ∷ ps) (first-part 32 end (codes "by") rest (passes-plain 32 end (codes "by") refl) ∙ ap (λ ps. by-word ∷ ps) next.is)
      )
      ∙ ap (λ r. r >>= (λ cs. behind_columns s cs (by-word ∷ (names-word ∷ next.rest)))) (columns-again s lawful c more column-word.end columns-known)
      ∙ ap (λ r. r >>= (λ group. behind_group s columns group next.rest)) (group-again s lawful a attrs next.end known)
      ∙ next.read

agree-conds : (s : Schema) (q : Slice) → SliceAgrees s q → AreConds s q.conds
agree-conds s q agrees = record { attrs = (list_all-map (λ a. nat_lt a (arity s)) attr_of q.conds ∙ agrees.conds, agrees.conds_apart); fits = agrees.values }

-- what says a slice is read as it
says-again : (s : Schema) (columns : List Column) (group : List ℕ) (conds : List Cond) (text : List ℕ) → IsSchema s → SliceAgrees s (made columns group conds) → Says s (made columns group conds) text
    → slice_of s text ≡ Ok (made columns group conds)
unfolding slice_of parts_of
says-again s [] group conds text lawful agrees says = absurd (omega (arith, agrees.some))
says-again s (c ∷ more) group conds text lawful agrees says =
    ap (λ t. words_in s (parts_from 32 (length text + 1) false t)) says.is
    ∙ words-again s lawful c more agrees.columns conds says.conds (agree-conds s (made (c ∷ more) group conds) agrees) says.each (length text + 1) group (agrees.group, agrees.group_apart)

-- the same of an answer
pub read_answer : (s : Schema) (text : List ℕ) (r : Reading Slice) → IsSchema s → Answers r (slice_of s text) → (q : Slice) → SliceAgrees s q → Says s q text → Answers r (Ok q)
read_answer s text (Ok q) lawful answer p agrees says = sym (says-again s p.columns p.group p.conds text lawful agrees says) ∙ answer
read_answer s text (Err refusal) lawful answer p agrees says = λ apart. sym (says-again s p.columns p.group p.conds text lawful agrees says) ∙ answer apart

-- ---- the text of a slice says it
shown-spells : (kind : Kind) (s : Schema) (c : Cond) → FitsKind kind c → SpellsCond s c (cond_text s c)
shown-spells kind s (Equal attr (value.Word text)) fits = record { written = value_text (value.Word text); is = refl; spells = inl refl }
shown-spells (Word max) s (Equal attr (value.Number n)) fits = absurd fits
shown-spells Number s (Equal attr (value.Number n)) fits = record { written = decimal n; is = refl; spells = number-again n fits }
shown-spells (Word max) s (Between attr low high) fits = absurd fits.0
shown-spells Number s (Between attr low high) fits =
    record { written = decimal low ++ (codes ".." ++ decimal high); is = refl; spells = ((decimal low, decimal high), refl, number-again low fits.0, number-again high fits.1) }

all-shown : (s : Schema) (conds : List Cond) → AllByRecursion (Fits s) conds → AllZip (SpellsCond s) conds (map (cond_text s) conds)
all-shown s [] all = tt
all-shown s (c ∷ conds) all = (shown-spells (kind_at s (attr_of c)) s c all.0, all-shown s conds all.1)

text-says : (s : Schema) (q : Slice) → SliceAgrees s q → Says s q (slice_text s q)
unfolding slice_text
text-says s q agrees = record { conds = map (cond_text s) q.conds; each = all-shown s q.conds agrees.values; is = refl }

-- the theorem, of a text
pub read_back : (s : Schema) (q : Slice) (r : Result (List ℕ) Memory) → IfOk r (λ text. text ≡ slice_text s q) → IsSchema s → SliceAgrees s q → IfOk r (λ text. slice_of s text ≡ Ok q)
read_back s q (Ok text) is lawful agrees = ap (slice_of s) is ∙ says-again s q.columns q.group q.conds (slice_text s q) lawful agrees (text-says s q agrees)
read_back s q (Err e) is lawful agrees = tt
