-- Slices that agree with a schema.
use Rattle.std.specs.Prelude.{◌<◌, ℕ, Bool, true, map, length, nat_lt, nat_eq, IsTrue}
use Rattle.std.specs.List.{list_all, AllByRecursion}
use Rattle.fact_model.specs.declared.fact.Value.TheVariants as value
use Rattle.fact_model.specs.declared.slice.Column.{Column}
use Rattle.fact_model.specs.declared.slice.Column.TheVariants.{Count, Sum, Min, Max}
use Rattle.fact_model.specs.declared.slice.Cond.{Cond}
use Rattle.fact_model.specs.declared.slice.Cond.TheVariants.{Equal, Between}
use Rattle.fact_model.specs.declared.slice.Slice.{Slice}
use Rattle.fact_model.specs.Slice.{attr_of}
use Rattle.cube_schema.specs.Agreeing.{IsOfKind}
use Rattle.cube_schema.specs.Kinds.{kind_at, arity, measure_count}
use Rattle.cube_schema.specs.Reading.{are_distinct}
use Rattle.cube_schema.specs.declared.schema.Kind.{Kind}
use Rattle.cube_schema.specs.declared.schema.Schema.{Schema}

-- the measure of the column is declared
abbrev pub is_column : ℕ → Column → Bool
is_column measures Count = true
is_column measures (Sum m) = nat_lt m measures
is_column measures (Min m) = nat_lt m measures
is_column measures (Max m) = nat_lt m measures

-- a value of this kind, or a range between two
abbrev pub FitsKind : Kind → Cond → Type 0
FitsKind kind (Equal attr value) = IsOfKind kind value
FitsKind kind (Between attr low high) = IsOfKind kind (value.Number low) × IsOfKind kind (value.Number high)

pub record SliceAgrees (s : Schema) (q : Slice) : Type 0 where
  -- there is a column
  pub some : 0 < length q.columns
  -- each column is over a declared measure
  pub columns : IsTrue (list_all (is_column (measure_count s)) q.columns)
  -- facts are grouped by declared attributes, none twice
  pub group : IsTrue (list_all (λ a. nat_lt a (arity s)) q.group)
  pub group_apart : IsTrue (are_distinct nat_eq q.group)
  -- each condition is on a declared attribute, none twice
  pub conds : IsTrue (list_all (λ c. nat_lt (attr_of c) (arity s)) q.conds)
  pub conds_apart : IsTrue (are_distinct nat_eq (map attr_of q.conds))
  -- each value is of its attribute's kind
  pub values : AllByRecursion (λ c. FitsKind (kind_at s (attr_of c)) c) q.conds
