-- The keys of base rows, rolled up, and the base rows rolled up by them.
use Rattle.std.specs.Prelude.{◌≡◌, ℕ, ◌-◌, ℤ, Bool, cond, List, [], ◌∷◌, map, get_or, length, nat_eq, nat_lt}
use Rattle.std.specs.List.{list_all}
use Rattle.fact_model.specs.Rows.{as_row}
use Rattle.fact_model.specs.Slice.{attr_of, is_between}
use Rattle.fact_model.specs.Value.{Key, same_value}
use Rattle.fact_model.specs.declared.fact.Value.{Value}
use Rattle.fact_model.specs.declared.fact.Value.TheVariants.{Word, Number}
use Rattle.fact_model.specs.declared.slice.Cond.{Cond}
use Rattle.fact_model.specs.declared.slice.Cond.TheVariants.{Equal, Between}
use Rattle.fact_model.specs.declared.slice.Row.{Row}
use Rattle.fact_model.specs.declared.slice.Slice.{Slice}
use Rattle.row_fold.specs.Folds.{folded}
use Rattle.roll_up.specs.declared.level.Level.{Level}
use Rattle.roll_up.specs.Bases.{base, level_conds}
use Rattle.roll_up.specs.Parents.{parent_of}

-- ---- values

-- a key's value of an attribute, if it is grouped; otherwise the number 0
abbrev pub value_for : List ℕ → Key → ℕ → Value
value_for [] key a = Number 0
value_for (g ∷ group) [] a = Number 0
value_for (g ∷ group) (v ∷ key) a = cond (nat_eq g a) v (value_for group key a)

-- the value meets the condition
abbrev pub is_met : Cond → Value → Bool
is_met (Equal attr value) v = same_value value v
is_met (Between attr low high) v = is_between low high v

module _ (arity : ℕ) (levels : List Level) where
  -- the value of an attribute of the extended schema, given the values of the attributes: itself, or the parent by its level
  abbrev pub lifted_at : (ℕ → Value) → ℕ → Value
  lifted_at at a = cond (nat_lt a arity) (at a) (get_or (map (λ (l : Level). Word (parent_of l.parents (at l.attr))) levels) (a - arity) (Number 0))

  module _ (s : Slice) where
    -- a base row's value of an attribute of the extended schema
    abbrev pub value_in : Key → ℕ → Value
    value_in key a = lifted_at (value_for (base arity levels s).group key) a

    -- the key of a base row, rolled up
    abbrev pub rolled : Key → Key
    rolled key = map (value_in key) s.group

    -- the key meets the conditions on levels
    abbrev pub is_kept : Key → Bool
    is_kept key = list_all (λ c. is_met c (value_in key (attr_of c))) (level_conds arity s)

    -- the rows whose keys meet the conditions on levels, grouped by their rolled-up keys
    abbrev pub groups_of : List Row → List (Key × List ℤ)
    groups_of rows = folded s.columns is_kept rolled rows

    -- the base rows, rolled up
    abbrev pub rolled_up : List Row → List Row
    rolled_up rows = map as_row (groups_of rows)

-- the row has a value for each grouped attribute, and a number for each column
pub record HasForm (s : Slice) (row : Row) : Type 0 where
  pub key : length row.key ≡ length s.group
  pub numbers : length row.numbers ≡ length s.columns
