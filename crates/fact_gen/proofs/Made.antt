-- What is known of the facts that are made.
use Rattle.std.proofs.Common.{◌≡◌, ◌≤◌, ◌<◌, ℕ, zero, suc, ◌+◌, ◌-◌, ◌%◌, min, List, [], ◌∷◌, ◌++◌, length, refl, sym, ap, subst, ◌∙◌, append_assoc, append-nil, arith}
use Rattle.std.specs.Prelude.{IsTrue, codes, decimal}
use Rattle.std.proofs.Math.Nat.{mod-lt}
use Rattle.std.proofs.lemmas.Fmt.{length-decimal-le}
use Rattle.std.proofs.lemmas.Bool.{and_parts}
use Rattle.std.proofs.lemmas.Bool.Decides.{nat_tests}
use Rattle.std.proofs.lemmas.List.Elements.{All-nil, All-cons}
use Rattle.std.specs.List.{All, AllZip, list_all}
use Rattle.lcg.specs.Draw.{next_state, draw, state_after}
use Rattle.cube_schema.specs.declared.schema.Attr.{Attr}
use Rattle.cube_schema.specs.declared.schema.Kind.{Kind}
use Rattle.cube_schema.specs.declared.schema.Kind.TheVariants as kind
use Rattle.cube_schema.specs.declared.schema.Schema.{Schema}
use Rattle.cube_schema.specs.Agreeing.{IsOfKind, Agrees}
use Rattle.cube_schema.specs.Lawful.{IsSchema}
use Rattle.cube_schema.specs.Words.{is_in_range}
use Rattle.fact_batch.specs.Batch.{Draft}
use Rattle.fact_model.specs.declared.fact.Fact.{Fact}
use Rattle.fact_batch.specs.Batch.{IsBetween}
use Rattle.fact_gen.specs.Generated.{value_of, values_from, measures_from, width, fact_from, generated}

-- a text is short
short : (drawn most : ℕ) → 1 ≤ most → most ≤ 1000 → length (codes "v" ++ decimal (drawn % most)) ≤ 255
short drawn most some few =
    let low = mod-lt drawn some in
    let digits = length-decimal-le 3 (drawn % most) (omega arith) (omega (arith, low, few)) (omega (arith, low, few)) in
    omega (arith, digits)

value_agrees : (k : Kind) (drawn : ℕ) → IsTrue (is_in_range k) → IsOfKind k (value_of k drawn)
value_agrees (kind.Word max) drawn range =
    let some : 1 ≤ max = grind (arith, nat_tests) in
    short drawn (min max 1000) (omega (arith, some)) (omega arith)
value_agrees kind.Number drawn range =
    let low = mod-lt drawn {m = 1000} (omega arith) in
    omega (arith, low)

values_agree : (attrs : List Attr) (state : ℕ) → IsTrue (list_all (λ (attr : Attr). is_in_range attr.kind) attrs)
    → AllZip (λ attr value. IsOfKind attr.kind value) attrs (values_from attrs state)
values_agree [] state ranges = tt
values_agree (attr ∷ attrs) state ranges =
    let parts = and_parts (is_in_range attr.kind) (list_all (λ (a : Attr). is_in_range a.kind) attrs) ranges in
    (value_agrees attr.kind (draw state) parts.0, values_agree attrs (next_state state) parts.1)

-- there is a value for each attribute
pub values_count : (attrs : List Attr) (state : ℕ) → length (values_from attrs state) ≡ length attrs
values_count [] state = refl
values_count (attr ∷ attrs) state = ap suc (values_count attrs (next_state state))

-- there is a number for each measure
pub measures_count : (names : List (List ℕ)) (state : ℕ) → length (measures_from names state) ≡ length names
measures_count [] state = refl
measures_count (name ∷ names) state = ap suc (measures_count names (next_state state))

fact_agrees : (schema : Schema) (state : ℕ) → IsSchema schema → Agrees schema (fact_from schema state)
fact_agrees schema state lawful = record {
  values = values_agree schema.attrs state lawful.ranges;
  measures = measures_count schema.measures (state_after state (length schema.attrs));
}

-- each fact agrees with the schema
pub facts_agree : (schema : Schema) (state rows : ℕ) → IsSchema schema → All (Agrees schema) (generated schema state rows)
facts_agree schema state zero lawful = All-nil (Agrees schema)
facts_agree schema state (suc rows) lawful =
    All-cons (Agrees schema) (fact_from schema state) (generated schema (state_after state (width schema)) rows)
    (fact_agrees schema state lawful) (facts_agree schema (state_after state (width schema)) rows lawful)

-- there are so many facts
pub facts_count : (schema : Schema) (state rows : ℕ) → length (generated schema state rows) ≡ rows
facts_count schema state zero = refl
facts_count schema state (suc rows) = ap suc (facts_count schema (state_after state (width schema)) rows)

-- a draft with other facts is between two facts too
pub stays_between : (attrs numbers : ℕ) (old new : Draft) (facts : List Fact) → new ≡ record old { facts = facts } → IsBetween attrs numbers old → IsBetween attrs numbers new
stays_between attrs numbers old new facts is between =
    subst (IsBetween attrs numbers) (sym is) (record { width = between.width; measures = between.measures; values = between.values; numbers = between.numbers })

module _ (schema : Schema) (state : ℕ) (rows row : ℕ) (facts whole : List Fact) where
  -- with one fact more, those so far and those to come are still the whole
  pub one_more : (next : ℕ) (new : List Fact) → row < rows → next ≡ state_after state (width schema) → new ≡ facts ++ fact_from schema state ∷ []
      → facts ++ generated schema state (rows - row) ≡ whole → new ++ generated schema next (rows - (row + 1)) ≡ whole
  one_more next new low after pushed so_far =
      let left : rows - row ≡ suc (rows - (row + 1)) = omega (arith, low) in
      let is : generated schema state (rows - row) ≡ fact_from schema state ∷ generated schema next (rows - (row + 1)) =
      ap (generated schema state) left ∙ sym (ap (λ n. fact_from schema state ∷ generated schema n (rows - (row + 1))) after) in
      ap (λ (l : List Fact). l ++ generated schema next (rows - (row + 1))) pushed
      ∙ append_assoc facts (fact_from schema state ∷ []) (generated schema next (rows - (row + 1)))
      ∙ sym (ap (λ (l : List Fact). facts ++ l) is) ∙ so_far

  -- behind the last row the facts so far are the whole
  pub finished : rows ≤ row → facts ++ generated schema state (rows - row) ≡ whole → facts ≡ whole
  finished high so_far =
      let none : rows - row ≡ 0 = omega (arith, high) in
      sym (append-nil facts) ∙ sym (ap (λ n. facts ++ generated schema state n) none) ∙ so_far
