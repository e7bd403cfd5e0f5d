-- What rows give, one row after the other.
use Rattle.std.proofs.Common.{◌≡◌, ℕ, ◌+◌, ◌≤◌, ◌<◌, List, [], ◌∷◌, ◌++◌, Result, Ok, Err, cond, length, map, refl, sym, ap, subst, ◌∙◌, arith, append-nil}
use Rattle.std.specs.Prelude.{IfErr, IfOk, OnOk}
use Rattle.std.specs.Result.{IsErrAnd}
use Rattle.std.specs.List.{All, enumerate_from}
use Rattle.std.proofs.lemmas.Bool.{le-ltb, lt-ltb}
use Rattle.std.proofs.lemmas.List.{length-append}
use Rattle.csv_text.specs.Records.{records_of}
use Rattle.cube_schema.specs.Agreeing.{Agrees}
use Rattle.cube_schema.specs.declared.schema.Schema.{Schema}
use Rattle.fact_batch.specs.Batch.{Draft}
use Rattle.fact_model.specs.declared.fact.Fact.{Fact}
use Rattle.fact_csv.specs.declared.refusal.RowRefusal.{RowRefusal}
use Rattle.fact_csv.specs.declared.refusal.RowRefusal.TheVariants as refusals
use Rattle.fact_csv.specs.Batch.{AreRead, Refuses, batch_of, fact_in, fact_answers, facts_in}
use Rattle.fact_csv.specs.Drafts.{HasRow, drafted}
use Rattle.fact_csv.specs.Gathered.{with_first, gathered}
use Rattle.fact_csv.proofs.Agreements.{facts_agree, facts_count}

abbrev Row : Type 0
Row = List (List ℕ)

-- ---- one answer more

-- what the answers so far and one more give
abbrev with_last : {A E : Type 0} → Result (List A) E → Result A E → Result (List A) E
with_last (Ok xs) (Ok x) = Ok (xs ++ x ∷ [])
with_last (Ok xs) (Err e) = Err e
with_last (Err e) answer = Err e

first_and_last : {A E : Type 0} (x : A) (rest : Result (List A) E) (answer : Result A E) → with_first x (with_last rest answer) ≡ with_last (with_first x rest) answer
first_and_last x (Ok xs) (Ok y) = refl
first_and_last x (Ok xs) (Err e) = refl
first_and_last x (Err e) answer = refl

gathered_push : {A E : Type 0} (answers : List (Result A E)) (answer : Result A E) → gathered (answers ++ answer ∷ []) ≡ with_last (gathered answers) answer
gathered_push [] (Ok x) = refl
gathered_push [] (Err e) = refl
gathered_push (Ok x ∷ answers) answer = ap (with_first x) (gathered_push answers answer) ∙ first_and_last x (gathered answers) answer
gathered_push (Err e ∷ answers) answer = refl

answers_push : (schema : Schema) (number : ℕ) (rows : List Row) (row : Row) → map (λ (p : ℕ × Row). fact_in schema p.0 p.1) (enumerate_from number (rows ++ row ∷ []))
    ≡ map (λ (p : ℕ × Row). fact_in schema p.0 p.1) (enumerate_from number rows) ++ fact_in schema (number + length rows) row ∷ []
answers_push schema number [] row = ap (λ k. fact_in schema k row ∷ []) (omega arith)
answers_push schema number (r ∷ rows) row = ap (λ answers. fact_in schema number r ∷ answers)
    (answers_push schema (number + 1) rows row ∙ ap (λ k. map (λ (p : ℕ × Row). fact_in schema p.0 p.1) (enumerate_from (number + 1) rows) ++ fact_in schema k row ∷ []) (omega arith))

module _ (schema : Schema) (rows : List Row) (row : Row) (number : ℕ) (at : number ≡ length rows + 1) where
  one_more : facts_in schema (rows ++ row ∷ []) ≡ with_last (facts_in schema rows) (fact_in schema number row)
  one_more = ap gathered (answers_push schema 1 rows row ∙ ap (λ k. fact_answers schema rows ++ fact_in schema k row ∷ []) (omega arith)) ∙ gathered_push (fact_answers schema rows) (fact_in schema number row)

  -- a good row is one fact more
  goes_on : (facts new : List Fact) (fact : Fact) → facts_in schema rows ≡ Ok facts → fact_in schema number row ≡ Ok fact → new ≡ facts ++ fact ∷ [] → facts_in schema (rows ++ row ∷ []) ≡ Ok new
  goes_on facts new fact so_far here pushed = one_more ∙ (λ i. with_last (so_far i) (here i)) ∙ ap Ok (sym pushed)

  -- the first that is not good is the fault
  first_fault : (facts : List Fact) (e : RowRefusal) → facts_in schema rows ≡ Ok facts → Refuses (fact_in schema number row) e → Refuses (facts_in schema (rows ++ row ∷ [])) e
  first_fault facts e so_far bad = λ other. one_more ∙ (λ i. with_last (so_far i) (bad other i))

  -- and stays it
  pub fault_stays : (e : RowRefusal) → Refuses (facts_in schema rows) e → Refuses (facts_in schema (rows ++ row ∷ [])) e
  fault_stays e bad = λ other. one_more ∙ ap (λ read. with_last read (fact_in schema number row)) (bad other)

  -- and so with one row more in a draft
  pub with_answer : (answer : Result (Unit {0}) RowRefusal) (old new : Draft) → facts_in schema rows ≡ Ok old.facts → OnOk answer (HasRow (fact_in schema number row) old new)
      → IfErr answer (Refuses (fact_in schema number row)) → AreRead schema (rows ++ row ∷ []) (drafted answer new)
  with_answer (Ok none) old new so_far has bad = goes_on old.facts new.facts has.fact so_far has.good (ap (λ (d : Draft). d.facts) has.pushed)
  with_answer (Err e) old new so_far has bad = first_fault old.facts e so_far bad

-- the fault that a `?` hands on
pub handed_fault : (schema : Schema) (rows : List Row) (answer : Result (Unit {0}) RowRefusal) (draft : Draft) (e : RowRefusal) → IsErrAnd answer (λ s. s ≡ e) → Refuses (facts_in schema rows) e
    → AreRead schema rows (drafted answer draft)
handed_fault schema rows (Ok none) draft e is bad = absurd is
handed_fault schema rows (Err s) draft e is bad = subst (Refuses (facts_in schema rows)) (sym is) bad

-- a draft has as many facts as there are rows
pub few_so_far : (schema : Schema) (rows : List Row) (answer : Result (Unit {0}) RowRefusal) (draft : Draft) → AreRead schema rows (drafted answer draft) → length rows < 262144
    → OnOk answer (length draft.facts < 262144)
few_so_far schema rows (Ok none) draft read few = (let count = facts_count schema rows draft.facts read in omega arith)
few_so_far schema rows (Err e) draft read few = tt

-- ---- the rows of a block

module _ (schema : Schema) (block : List ℕ) (rows left : List Row) (all : rows ++ left ≡ records_of block) where
  pub too_many : (row : Row) (rest : List Row) → left ≡ row ∷ rest → length rows ≡ 262144 → batch_of schema block ≡ Err refusals.Rows
  too_many row rest some count =
      let size = sym (ap length all) ∙ length-append rows left ∙ ap (λ (l : List Row). length rows + length l) some in
      ap (λ b. cond b (Err refusals.Rows) (facts_in schema (records_of block))) (lt-ltb 262144 (length (records_of block)) (omega arith))

  module _ (none : left ≡ []) (few : length rows ≤ 262144) where
    are_all : batch_of schema block ≡ facts_in schema rows
    are_all =
        let same : rows ≡ records_of block = sym (append-nil rows) ∙ ap (λ l. rows ++ l) (sym none) ∙ all in
        let size = ap length same in
        ap (λ b. cond b (Err refusals.Rows) (facts_in schema (records_of block))) (le-ltb 262144 (length (records_of block)) (omega arith)) ∙ ap (facts_in schema) (sym same)

    pub read_all : (read : Result (List Fact) RowRefusal) → AreRead schema rows read → IfOk read (λ facts. batch_of schema block ≡ Ok facts)
    read_all (Ok facts) is = are_all ∙ is
    read_all (Err e) is = tt

    pub refused_all : (read : Result (List Fact) RowRefusal) → AreRead schema rows read → IfErr read (Refuses (batch_of schema block))
    refused_all (Ok facts) is = tt
    refused_all (Err e) is = λ other. are_all ∙ is other

    pub agree_all : (read : Result (List Fact) RowRefusal) → AreRead schema rows read → IfOk read (All (Agrees schema))
    agree_all (Ok facts) is = facts_agree schema rows facts is
    agree_all (Err e) is = tt

    pub few_all : (read : Result (List Fact) RowRefusal) → AreRead schema rows read → IfOk read (λ facts. length facts ≤ 262144)
    few_all (Ok facts) is = (let count = facts_count schema rows facts is in omega arith)
    few_all (Err e) is = tt
