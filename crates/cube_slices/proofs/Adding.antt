-- The rows of accepted facts add up.
use Rattle.std.proofs.Common.{◌≡◌, ◌<◌, true, List, arith}
use Rattle.std.proofs.lemmas.Bool.Decides.{nat_tests}
use Rattle.cube_schema.specs.Kinds.{measure_count}
use Rattle.cube_schema.specs.Lawful.{IsSchema}
use Rattle.cube_schema.specs.declared.schema.Schema.{Schema}
use Rattle.fact_model.specs.Adds.{AddUp}
use Rattle.fact_model.specs.Rows.{rows}
use Rattle.fact_model.specs.declared.fact.Fact.{Fact}
use Rattle.fact_model.specs.declared.slice.Column.{Column}
use Rattle.fact_model.specs.declared.slice.Column.TheVariants.{Count, Sum, Min, Max}
use Rattle.fact_model.specs.declared.slice.Slice.{Slice}
use Rattle.spec_store.proofs.Schemas.{few_measures}
use Rattle.spec_store.specs.Held.{AreAccepted}
use Rattle.row_fold.proofs.Adding.{rows-add}
use Rattle.row_fold.specs.Folds.{KeepsMass}
use Rattle.slice_lang.specs.Agreeing.{SliceAgrees, is_column}
use Rattle.spec_points.proofs.Members.{All-from_every, all-every, every-map}

module _ (schema : Schema) (lawful : IsSchema schema) (facts : List Fact) (fine : AreAccepted schema facts) where
  keeps : (c : Column) → is_column (measure_count schema) c ≡ true → KeepsMass facts c
  keeps Count is = let few = fine.few in omega (arith, few)
  keeps (Sum m) is = let few = few_measures schema lawful in let low : m < measure_count schema = grind (arith, nat_tests) in fine.masses m (omega (arith, few, low))
  keeps (Min m) is = let few = few_measures schema lawful in let low : m < measure_count schema = grind (arith, nat_tests) in fine.masses m (omega (arith, few, low))
  keeps (Max m) is = let few = few_measures schema lawful in let low : m < measure_count schema = grind (arith, nat_tests) in fine.masses m (omega (arith, few, low))

  pub accepted_add : (s : Slice) → SliceAgrees schema s → AddUp (rows facts s)
  accepted_add s agrees = rows-add s facts (All-from_every (KeepsMass facts) s.columns
      (every-map (λ c. is_column (measure_count schema) c ≡ true) (KeepsMass facts) keeps s.columns (all-every (is_column (measure_count schema)) s.columns agrees.columns)))
