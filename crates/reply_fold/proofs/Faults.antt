-- An input is at no fault of the source.
use Rattle.std.proofs.Common.{◌≡◌, ℕ, suc, Bool, true, false, cond, List, [], ◌∷◌, length, drop, map, Option, Some, None, Result, Ok, Err, ℤ, sym, ◌∙◌, arith}
use Rattle.std.specs.Prelude.{◌==◌, ◌≢◌, ◌+◌}
use Rattle.std.specs.List.{zip}
use Rattle.cube_schema.specs.Kinds.{kind_at}
use Rattle.cube_schema.specs.Reading.{schema_of}
use Rattle.cube_schema.specs.declared.schema.Kind.{Kind}
use Rattle.cube_schema.specs.declared.schema.Kind.TheVariants as kind
use Rattle.cube_schema.specs.declared.schema.Schema.{Schema}
use Rattle.cube_schema.specs.declared.schema.SchemaRefusal.{SchemaRefusal}
use Rattle.csv_text.specs.Records.{records_of}
use Rattle.fact_csv.specs.Gathered.{gathered, with_first}
use Rattle.fact_model.specs.declared.slice.Row.{Row}
use Rattle.fact_model.specs.declared.slice.Slice.{Slice}
use Rattle.fact_model.specs.Number.{number_in}
use Rattle.fact_model.specs.Value.{Key}
use Rattle.site_core.specs.Causes.{HasCauseWhere}
use Rattle.slice_lang.specs.Reading.{slice_of}
use Rattle.slice_lang.specs.Values.{coordinate_in}
use Rattle.slice_lang.specs.declared.refusal.SliceRefusal.{SliceRefusal}
use Rattle.reply_fold.specs.Answers.{Answers}
use Rattle.reply_fold.specs.Input.{behind_text, block_in, is_whole, place_of_end, text_in}
use Rattle.reply_fold.specs.Replies.{begun_behind, first_field, first_in, is_end, is_refusal, is_single, onto, refused_from, rows_from, taken, with_front}
use Rattle.reply_fold.specs.Rows.{found_or, number_at, numbers_in, row_from, row_in, value_in, values_in}
use Rattle.reply_fold.specs.Whole.{IsFold, IsJoined, as_refused, as_rows, as_schema, is_short, records_said, replies_said, rows_said, said_in, schema_said}
use Rattle.reply_fold.specs.declared.fault.Fault.{Fault}
use Rattle.reply_fold.specs.declared.fault.Fault.TheVariants as faults
use Rattle.reply_fold.specs.declared.replies.Replies.{Replies}
use Rattle.reply_fold.proofs.Said.{err-inj}

-- the source did not fail
abbrev Pulled : {A : Type 0} → Result A Fault → Type 0
Pulled (Ok x) = Unit {0}
Pulled (Err fault) = fault ≢ faults.Input

pulled-found : {A B : Type 0} (n : ℕ) (f : A → B) (found : Option A) → Pulled (found_or n f found)
pulled-found n f None = λ e. cc e
pulled-found n f (Some x) = tt

pulled-value : (k : Kind) (n : ℕ) (field : List ℕ) → Pulled (value_in k n field)
pulled-value (kind.Word max) n field = tt
pulled-value kind.Number n field = pulled-found n _ (coordinate_in field)

pulled-first : {A : Type 0} (x : A) (rest : Result (List A) Fault) → Pulled rest → Pulled (with_first x rest)
pulled-first x (Ok xs) h = tt
pulled-first x (Err e) h = h

pulled-all : {X Y : Type 0} (f : X → Result Y Fault) → ((x : X) → Pulled (f x)) → (xs : List X) → Pulled (gathered (map f xs))
pulled-all f each [] = tt
pulled-all {X} {Y} f each (x ∷ xs) = by (f x) (each x) (pulled-all f each xs)
  where
    by : (answer : Result Y Fault) → Pulled answer → Pulled (gathered (map f xs)) → Pulled (gathered (answer ∷ map f xs))
    by (Ok y) h others = pulled-first y (gathered (map f xs)) others
    by (Err e) h others = h

pulled-from : (key : Result Key Fault) (numbers : Result (List ℤ) Fault) → Pulled key → Pulled numbers → Pulled (row_from key numbers)
pulled-from (Err e) numbers h k = h
pulled-from (Ok key) (Err e) h k = k
pulled-from (Ok key) (Ok zs) h k = tt

pulled-cond : {A : Type 0} (b : Bool) (x y : Result A Fault) → Pulled x → Pulled y → Pulled (cond b x y)
pulled-cond true x y h k = h
pulled-cond false x y h k = k

pulled-front : (front : List Row) (rest : Result (List Row) Fault) → Pulled rest → Pulled (with_front front rest)
pulled-front front (Ok rows) h = tt
pulled-front front (Err e) h = h

pulled-onto : (row : Result Row Fault) (rest : Result (List Row) Fault) → Pulled row → Pulled rest → Pulled (onto row rest)
pulled-onto (Err e) rest h k = h
pulled-onto (Ok row) rest h k = pulled-front (row ∷ []) rest k

module _ (s : Schema) (q : Slice) where
  pulled-row : (n : ℕ) (fields : List (List ℕ)) → Pulled (row_in s q n fields)
  pulled-row n fields =
      pulled-cond (length fields == length q.group + length q.columns) (row_from (values_in s q.group n fields) (numbers_in (length q.group) n fields)) (Err (faults.Record n))
      (pulled-from (values_in s q.group n fields) (numbers_in (length q.group) n fields)
      (pulled-all (λ (p : ℕ × List ℕ). value_in (kind_at s p.0) n p.1) (λ p. pulled-value (kind_at s p.0) n p.1) (zip q.group fields))
      (pulled-all (number_at n) (λ field. pulled-found n (λ z. z) (number_in field)) (drop (length q.group) fields)))
      (λ e. cc e)

  pulled-rows : (records : List (List (List ℕ))) (begun n : ℕ) → Pulled (rows_from s q begun n records)
  pulled-rows [] begun n = pulled-cond (begun == 0) (Ok []) (Err faults.Cut) tt (λ e. cc e)
  pulled-rows (fields ∷ records) begun n = by (is_end begun fields) (pulled-rows records)
    where
      by : (b : Bool) → ((m k : ℕ) → Pulled (rows_from s q m k records)) → Pulled (taken b (row_in s q n fields) (rows_from s q (begun_behind b begun) (suc n) records))
      by true others = others 0 (suc n)
      by false others = pulled-onto (row_in s q n fields) (rows_from s q (suc begun) (suc n) records) (pulled-row n fields) (others (suc begun) (suc n))

  pulled-as-rows : (rows : Result (List Row) Fault) → Pulled rows → Pulled (as_rows q rows)
  pulled-as-rows (Ok rows) h = tt
  pulled-as-rows (Err e) h = h

pulled-refused : (text : List ℕ) (records : List (List (List ℕ))) (n : ℕ) → Pulled (refused_from text n records)
pulled-refused text [] n = tt
pulled-refused text (fields ∷ records) n = pulled-cond (is_single text fields) (refused_from text (suc n) records) (Err (faults.Differs n)) (pulled-refused text records (suc n)) (λ e. cc e)

pulled-as-refused : (text : List ℕ) (shared : Result (Unit {0}) Fault) → Pulled shared → Pulled (as_refused text shared)
pulled-as-refused text (Ok done) h = tt
pulled-as-refused text (Err e) h = h

module _ (s : Schema) where
  pulled-asked : (asked : Result Slice SliceRefusal) (records : List (List (List ℕ))) → Pulled (rows_said s asked records)
  pulled-asked (Err refusal) records = λ e. cc e
  pulled-asked (Ok q) records = pulled-as-rows s q (rows_from s q 0 1 records) (pulled-rows s q records 0 1)

  pulled-records : (asked : Result Slice SliceRefusal) (records : List (List (List ℕ))) → Pulled (records_said s asked records (first_in records))
  pulled-records asked [] = λ e. cc e
  pulled-records asked (fields ∷ records) = by (is_refusal fields)
    where
      by : (b : Bool) → Pulled (records_said s asked (fields ∷ records) (Ok (cond b (Some (first_field fields)) None)))
      by true = pulled-as-refused (first_field fields) (refused_from (first_field fields) 1 (fields ∷ records)) (pulled-refused (first_field fields) (fields ∷ records) 1)
      by false = pulled-asked asked (fields ∷ records)

  pulled-replies : (asked : Result Slice SliceRefusal) (replies : List ℕ) → Pulled (replies_said s asked replies)
  pulled-replies asked replies = pulled-cond (is_whole replies) _ _ (pulled-records asked (records_of replies)) (λ e. cc e)

pulled-schema : (read : Result Schema SchemaRefusal) (text replies : List ℕ) → Pulled (schema_said (as_schema read) text replies)
pulled-schema (Err refusal) text replies = λ e. cc e
pulled-schema (Ok s) text replies = pulled-cond (is_short (slice_of s text)) _ _ (λ e. cc e) (pulled-replies s (slice_of s text) replies)

pulled-said : (input : List ℕ) → Pulled (said_in input)
unfolding said_in
pulled-said input = pulled-cond (place_of_end input == length input) _ _ (λ e. cc e) (pulled-schema (schema_of (block_in input)) (text_in input) (behind_text input))

-- the fault of a sum is none of the source
sum-pulled : (fault : Fault) → (fault ≢ faults.Memory → fault ≡ faults.Sum) → fault ≢ faults.Input
sum-pulled fault why same =
    let other = why (λ short. (let e = sym same ∙ short in cc e)) in
    let e = sym same ∙ other in
    cc e

joined-pulled : (replies : Replies) (result : Result (List ℕ) Fault) → IsJoined replies result → Pulled result
joined-pulled replies (Ok text) is = tt
joined-pulled replies (Err fault) is = sum-pulled fault (λ other. (is other).0)

answered-pulled : (fault : Fault) (result : Result (List ℕ) Fault) → fault ≢ faults.Input → Answers result (Err fault) → Pulled result
answered-pulled fault (Ok text) h is = tt
answered-pulled fault (Err told) h is = λ same. (let other = is (λ short. (let e = sym same ∙ short in cc e)) in h (err-inj other ∙ same))

fold-pulled : (said : Result Replies Fault) (result : Result (List ℕ) Fault) → Pulled said → IsFold said result → Pulled result
fold-pulled (Ok replies) result h is = joined-pulled replies result is
fold-pulled (Err fault) result h is = answered-pulled fault result h is

-- the answer to an input where the source did not fail: its count stays
pub with-cause : (input : List ℕ) (before now : ℕ) (result : Result (List ℕ) Fault) → IsFold (said_in input) result → now ≡ before → HasCauseWhere faults.Input before now result
with-cause input before now result fold stays = by result (fold-pulled (said_in input) result (pulled-said input) fold)
  where
    by : (result : Result (List ℕ) Fault) → Pulled result → HasCauseWhere faults.Input before now result
    by (Ok text) h = record { later = omega (arith, stays); once = omega (arith, stays); failed = λ e. cc e; other = tt; ok = stays }
    by (Err fault) h = record { later = omega (arith, stays); once = omega (arith, stays); failed = λ e. absurd (h (err-inj e)); other = λ o. stays; ok = tt }
