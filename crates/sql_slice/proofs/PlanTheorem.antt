-- What a plan is good for.
use Rattle.std.proofs.Common.{◌≡◌, true, false, Result, Ok, Err, sym, ◌∙◌, ap, subst}
use Rattle.std.specs.Prelude.{IfOk}
use Rattle.fact_model.specs.declared.fact.Fact.{Fact}
use Rattle.fact_model.specs.Slice as slices
use Rattle.cube_schema.specs.Agreeing.{Agrees}
use Rattle.cube_schema.specs.declared.schema.Schema.{Schema}
use Rattle.slice_lang.specs.Agreeing.{SliceAgrees}
use Rattle.sql_slice.specs.declared.planned.Plan.{Plan}
use Rattle.sql_lang.specs.declared.query.Query.{Query}
use Rattle.sql_lang.specs.Agreeing.{SqlAgrees}
use Rattle.sql_slice.specs.Plans.{plan_of}
use Rattle.sql_lang.specs.Tests as tests
use Rattle.sql_slice.proofs.PlanAgrees.{slice-agrees}
use Rattle.sql_slice.proofs.PlanLaws.{fit-from, conds-met, clash-fails}
use Rattle.sql_slice.proofs.SqlLaws.{kinds-of}

module _ {E : Type 0} (s : Schema) (q : Query) where
  -- the slice agrees with the schema
  pub plan-agrees : (result : Result Plan E) → IfOk result (λ p. p ≡ plan_of s q) → SqlAgrees s q → IfOk result (λ p. SliceAgrees s p.slice)
  plan-agrees (Ok p) is a = subst (λ (p : Plan). SliceAgrees s p.slice) (sym is) (slice-agrees s q a)
  plan-agrees (Err e) is a = is

  -- a fact meets the conditions of the slice exactly where it meets all tests but those by IN
  pub plan-met : (result : Result Plan E) → IfOk result (λ p. p ≡ plan_of s q) → SqlAgrees s q → (x : Fact) → Agrees s x
      → IfOk result (λ p. p.empty ≡ false → slices.holds p.slice x ≡ tests.holds_ends q.tests x)
  unfolding plan_of
  plan-met (Ok p) is a x of = λ some.
      ap (λ (p : Plan). slices.holds p.slice x) is ∙ conds-met s q.tests x (fit-from s q.tests a.tests) (kinds-of s x of) (sym (ap (λ (p : Plan). p.empty) is) ∙ some)
  plan-met (Err e) is a x of = is

  -- no fact meets the tests of an empty plan
  pub plan-unmet : (result : Result Plan E) → IfOk result (λ p. p ≡ plan_of s q) → (x : Fact) → IfOk result (λ p. p.empty ≡ true → tests.holds q.tests x ≡ false)
  unfolding plan_of
  plan-unmet (Ok p) is x = λ clash. clash-fails s q.tests (sym (ap (λ (p : Plan). p.empty) is) ∙ clash) x
  plan-unmet (Err e) is x = is
