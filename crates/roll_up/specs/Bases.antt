-- The base slice of a roll-up: what it asks of the facts without levels.
use Rattle.std.specs.Prelude.{ℕ, ◌-◌, Bool, cond, List, ◌++◌, map, filter, get_or, nat_le, nat_lt}
use Rattle.std.specs.List.{range_with_len}
use Rattle.fact_model.specs.Slice.{attr_of}
use Rattle.fact_model.specs.declared.slice.Cond.{Cond}
use Rattle.fact_model.specs.declared.slice.Slice.{Slice}
use Rattle.spec_points.specs.Agree.{among}
use Rattle.roll_up.specs.declared.level.Level.{Level}

-- the condition is on a level
abbrev pub is_on_level : ℕ → Cond → Bool
is_on_level arity c = nat_le arity (attr_of c)

-- the condition is on an attribute
abbrev pub is_on_attr : ℕ → Cond → Bool
is_on_attr arity c = nat_lt (attr_of c) arity

-- the conditions on levels
abbrev pub level_conds : ℕ → Slice → List Cond
level_conds arity s = filter (is_on_level arity) s.conds

module _ (arity : ℕ) (levels : List Level) where
  -- the attribute that an attribute of the extended schema comes from: itself, or that of its level
  abbrev pub source_of : ℕ → ℕ
  source_of a = cond (nat_lt a arity) a (get_or (map (λ (l : Level). l.attr) levels) (a - arity) 0)

  -- the attributes that the grouped attributes and levels come from, and those of the levels with conditions
  abbrev pub sources : Slice → List ℕ
  sources s = map source_of s.group ++ map (λ c. source_of (attr_of c)) (level_conds arity s)

  -- grouped by these, each once and in order of declaration, with the conditions on attributes
  abbrev pub base : Slice → Slice
  base s = record { columns = s.columns; group = filter (among (sources s)) (range_with_len 0 arity); conds = filter (is_on_attr arity) s.conds }
