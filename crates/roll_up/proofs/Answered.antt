-- What holds of an answer that is Ok, from what was answered.
use Rattle.std.proofs.Common.{◌≡◌, ℕ, ℤ, List, filter, map, length, Result, Ok, Err, sym, ◌∙◌, ap, subst}
use Rattle.std.specs.Prelude.{IfOk}
use Rattle.std.specs.List.{All}
use Rattle.cube_schema.specs.Kinds.{arity}
use Rattle.cube_schema.specs.Lawful.{IsSchema}
use Rattle.cube_schema.specs.declared.schema.Schema.{Schema}
use Rattle.fact_model.specs.Rows.{as_row, rows}
use Rattle.fact_model.specs.Value.{Key}
use Rattle.fact_model.specs.declared.slice.Column.{Column}
use Rattle.fact_model.specs.declared.slice.Cond.{Cond}
use Rattle.fact_model.specs.declared.fact.Fact.{Fact}
use Rattle.fact_model.specs.declared.slice.Row.{Row}
use Rattle.fact_model.specs.declared.slice.Slice.{Slice}
use Rattle.slice_lang.specs.Agreeing.{SliceAgrees}
use Rattle.roll_up.specs.Bases.{base, is_on_attr}
use Rattle.roll_up.specs.Lifted.{groups_of, rolled_up}
use Rattle.roll_up.specs.Levels.{Fit, extended, lift}
use Rattle.roll_up.specs.declared.level.Level.{Level}
use Rattle.roll_up.proofs.Agreed.{base-agrees, come-from}
use Rattle.roll_up.proofs.Theorem.{rolled-rows}

module _ {E : Type 0} (schema : Schema) (levels : List Level) where
  pub base-answer : (s : Slice) (result : Result Slice E) → SliceAgrees (extended schema levels) s → IfOk result (λ found. found ≡ base (arity schema) levels s) → IfOk result (SliceAgrees schema)
  base-answer s (Ok found) agrees is = subst (SliceAgrees schema) (sym is) (base-agrees schema levels s agrees)
  base-answer s (Err e) agrees is = is

  pub extended-answer : (result : Result Schema E) → Fit schema levels → IfOk result (λ found. found ≡ extended schema levels) → IfOk result IsSchema
  extended-answer (Ok found) fit is = subst IsSchema (sym is) fit.lawful
  extended-answer (Err e) fit is = is

  pub lifted-answer : (s : Slice) (given now : List Row) (result : Result (List Row) E) → Fit schema levels → SliceAgrees (extended schema levels) s → given ≡ now → IfOk result (λ found. found ≡ rolled_up (arity schema) levels s given)
      → (facts : List Fact) → All (λ (x : Fact). length x.values ≡ arity schema) facts → now ≡ rows facts (base (arity schema) levels s) → IfOk result (λ found. found ≡ rows (map (lift levels) facts) s)
  lifted-answer s given now (Ok found) fit agrees same is facts wide are =
      is ∙ (ap (rolled_up (arity schema) levels s) (same ∙ are) ∙ rolled-rows (arity schema) levels s (come-from schema levels s fit agrees) facts wide)
  lifted-answer s given now (Err e) fit agrees same is facts wide are = is

-- the base slice, part by part
pub base-made : (s : Slice) (m n : ℕ) (levels ls : List Level) (columns : List Column) (group : List ℕ) (cs conds : List Cond) → n ≡ m → ls ≡ levels → columns ≡ s.columns → group ≡ (base n ls s).group → cs ≡ s.conds → conds ≡ filter (is_on_attr n) cs
    → (λ (x : Slice). x) (record { columns = columns; group = group; conds = conds }) ≡ base m levels s
base-made s m n levels ls columns group cs conds arities same are grouped bound kept = λ i. record {
  columns = are i;
  group = (grouped ∙ (λ j. (base (arities j) (same j) s).group)) i;
  conds = (kept ∙ (λ j. filter (is_on_attr (arities j)) (bound j))) i;
}

-- the rows of the groups are the base rows rolled up
pub rolled-answer : {E : Type 0} (s : Slice) (given : List Row) (m n : ℕ) (levels ls : List Level) (gs : List (Key × List ℤ)) (result : Result (List Row) E) → n ≡ m → ls ≡ levels
    → gs ≡ groups_of n ls s given → IfOk result (λ found. found ≡ map as_row gs) → IfOk result (λ found. found ≡ rolled_up m levels s given)
rolled-answer s given m n levels ls gs (Ok found) arities same are is = is ∙ (ap (map as_row) are ∙ (λ i. rolled_up (arities i) (same i) s given))
rolled-answer s given m n levels ls gs (Err e) arities same are is = is
