-- What an input says, and what its reply is.
use Rattle.std.proofs.Common.{◌≡◌, ℕ, ◌+◌, Bool, true, false, cond, List, length, drop, take, Result, Ok, Err, refl, sym, ◌∙◌, ap, subst}
use Rattle.std.specs.Prelude.{◌==◌, ◌≢◌, IfOk}
use Rattle.std.specs.List.{before_first}
use Rattle.std.proofs.lemmas.Bool.{ne_eqb}
use Rattle.cube_schema.specs.Reading.{schema_of}
use Rattle.cube_schema.specs.declared.schema.Schema.{Schema}
use Rattle.fact_model.specs.declared.fact.Fact.{Fact}
use Rattle.fact_model.specs.declared.slice.Slice.{Slice}
use Rattle.slice_lang.specs.Agreeing.{SliceAgrees}
use Rattle.slice_lang.specs.Answers as reading
use Rattle.slice_lang.specs.Reading.{slice_of}
use Rattle.slice_lang.specs.declared.refusal.SliceRefusal.{SliceRefusal}
use Rattle.slice_lang.proofs.Agreed.{slice_answer}
use Rattle.reply_fold.specs.Answers.{Answers}
use Rattle.reply_fold.specs.Input.{behind_text, block_in, place_of_end, text_in}
use Rattle.reply_fold.specs.Whole.{AreOfAll, HasParts, IsFold, IsJoined, as_schema, asked_said, is_short, replies_said, reply_over, said_in, schema_said, together}
use Rattle.reply_fold.specs.declared.fault.Fault.{Fault}
use Rattle.reply_fold.specs.declared.fault.Fault.TheVariants as faults
use Rattle.reply_fold.specs.declared.replies.Replies.{Replies}
use Rattle.reply_fold.proofs.Theorem.{Joins, has-end, replies-join}
use Rattle.reply_fold.proofs.Shuffled.{reply-shuffled}

-- ---- what an input says

module _ (input : List ℕ) (s : Schema) (found : (place_of_end input == length input) ≡ false) (declared : as_schema (schema_of (block_in input)) ≡ Ok s) where
  said-asked : said_in input ≡ asked_said s (slice_of s (text_in input)) (behind_text input)
  unfolding said_in
  said-asked =
      ap (λ b. cond b (Err faults.Heading) (schema_said (as_schema (schema_of (block_in input))) (text_in input) (behind_text input))) found
      ∙ ap (λ r. schema_said r (text_in input) (behind_text input)) declared

  -- the text was read as a slice, or refused
  said-replies : (asked : Result Slice SliceRefusal) → slice_of s (text_in input) ≡ asked → is_short asked ≡ false → said_in input ≡ replies_said s asked (behind_text input)
  said-replies asked is long =
      said-asked ∙ (ap (λ a. asked_said s a (behind_text input)) is ∙ ap (λ b. cond b (Err faults.Memory) (replies_said s asked (behind_text input))) long)

  -- memory was short
  said-short : is_short (slice_of s (text_in input)) ≡ true → said_in input ≡ Err faults.Memory
  said-short short = said-asked ∙ ap (λ b. cond b (Err faults.Memory) (replies_said s (slice_of s (text_in input)) (behind_text input))) short

-- what was read of the parts of an input is what the input says
pub read-answer : (input : List ℕ) (s : Schema) (asked : Result Slice SliceRefusal) (place : ℕ) (block rest text behind : List ℕ) (result : Result Replies Fault)
    → place ≡ place_of_end input → place ≢ length input → block ≡ take place input → rest ≡ drop (place + 5) input → text ≡ before_first (λ b. b == 10) rest → behind ≡ drop (length text) rest
    → as_schema (schema_of block) ≡ Ok s → slice_of s text ≡ asked → is_short asked ≡ false → Answers result (replies_said s asked behind) → Answers result (said_in input)
read-answer input s asked place block rest text behind result is-place other is-block is-rest is-text is-behind declared is long said =
    let rests : rest ≡ drop (place_of_end input + 5) input = is-rest ∙ ap (λ p. drop (p + 5) input) is-place in
    let texts : text ≡ text_in input = is-text ∙ ap (before_first (λ b. b == 10)) rests in
    let behinds : behind ≡ behind_text input = is-behind ∙ (λ i. drop (length (texts i)) (rests i)) in
    let blocks : block ≡ block_in input = is-block ∙ ap (λ p. take p input) is-place in
    let found : (place_of_end input == length input) ≡ false = ap (λ p. p == length input) (sym is-place) ∙ ne_eqb place (length input) other in
    subst (Answers result) (sym (said-replies input s found (ap (λ b. as_schema (schema_of b)) (sym blocks) ∙ declared) asked (ap (slice_of s) (sym texts) ∙ is) long ∙ ap (replies_said s asked) (sym behinds))) said

-- ---- the theorem

pub err-inj : {A : Type 0} {e f : Fault} → (λ (r : Result A Fault). r) (Err e) ≡ Err f → e ≡ f
err-inj {A} {e} {f} is = ap by is
  where
    by : Result A Fault → Fault
    by (Ok x) = e
    by (Err g) = g

-- an answer that is joined
joined-answer : (said : Result Replies Fault) (text : List ℕ) (result : Result (List ℕ) Fault) → Joins said text → IsFold said result → Answers result (Ok text)
joined-answer said text result j fold = by result (subst (λ r. IsFold r result) j.is fold)
  where
    by : (result : Result (List ℕ) Fault) → IsJoined j.replies result → Answers result (Ok text)
    by (Ok told) joined = ap Ok (sym j.whole ∙ sym joined.1)
    by (Err e) joined = λ other. absurd ((joined other).1 j.adds)

-- an answer where memory was short
short-answer : (said : Result Replies Fault) (text : List ℕ) (result : Result (List ℕ) Fault) → said ≡ Err faults.Memory → IsFold said result → Answers result (Ok text)
short-answer said text result is fold = by result (subst (λ r. IsFold r result) is fold)
  where
    by : (result : Result (List ℕ) Fault) → Answers result (Err faults.Memory) → Answers result (Ok text)
    by (Ok told) answers = cc answers
    by (Err e) answers = λ other. absurd (other (sym (err-inj (answers other))))

-- where the plain machine told the replies over parts, their fold is its reply over all facts
fold-together : (input : List ℕ) (schema : Schema) (parts : List (List Fact)) → HasParts input schema parts → (result : Result (List ℕ) Fault) → IsFold (said_in input) result
    → Answers result (Ok (reply_over schema (text_in input) (together parts)))
fold-together input schema parts has result fold = by (is_short (slice_of schema (text_in input))) refl
  where
    found : (place_of_end input == length input) ≡ false
    found = has-end input 10 _ has.told

    declared : as_schema (schema_of (block_in input)) ≡ Ok schema
    declared = ap as_schema has.declared

    agrees : (asked : Result Slice SliceRefusal) → slice_of schema (text_in input) ≡ asked → IfOk asked (SliceAgrees schema)
    agrees asked is = slice_answer schema (text_in input) asked (answers asked is)
      where
        answers : (asked : Result Slice SliceRefusal) → slice_of schema (text_in input) ≡ asked → reading.Answers asked (slice_of schema (text_in input))
        answers (Ok q) is = is
        answers (Err refusal) is = λ other. is

    by : (short : Bool) → is_short (slice_of schema (text_in input)) ≡ short → Answers result (Ok (reply_over schema (text_in input) (together parts)))
    by true short = short-answer (said_in input) _ result (said-short input schema found declared short) fold
    by false long =
        let asked = slice_of schema (text_in input) in
        let j = replies-join schema parts has.some (behind_text input) asked long (agrees asked refl) has.limits has.told in
        joined-answer (replies_said schema asked (behind_text input)) _ result j (subst (λ r. IsFold r result) (said-replies input schema found declared asked refl long) fold)

-- and over these facts in any order
pub fold-whole : (input : List ℕ) (schema : Schema) (parts : List (List Fact)) (all : List Fact) → HasParts input schema parts → AreOfAll parts all → (result : Result (List ℕ) Fault) → IsFold (said_in input) result
    → Answers result (Ok (reply_over schema (text_in input) all))
fold-whole input schema parts all has are result fold = subst (λ text. Answers result (Ok text)) (sym (reply-shuffled schema (text_in input) (together parts) all are)) (fold-together input schema parts has result fold)
