-- The numbers that pass tests, from a start up to an end.
use Rattle.std.specs.Prelude.{ℕ, ◌+◌, ◌-◌, min, max, ◌==◌, List, [], ◌∷◌, nat_lt, if◌then◌else◌, ℤ, pos, negsuc, ◌+ℤ◌}
use Rattle.fact_model.specs.Limits.{number_limit}
use Rattle.fact_model.specs.declared.fact.Value.TheVariants as value
use Rattle.fact_model.specs.declared.slice.Cond.{Cond}
use Rattle.fact_model.specs.declared.slice.Cond.TheVariants as cond
use Rattle.sql_lang.specs.declared.query.Operand.TheVariants as operand
use Rattle.sql_lang.specs.declared.query.Sign.{Sign}
use Rattle.sql_lang.specs.declared.query.Sign.TheVariants.{Equal, Less, LessEqual, More, MoreEqual}
use Rattle.sql_lang.specs.declared.query.Test.{Test}
use Rattle.sql_lang.specs.declared.query.Test.TheVariants.{Compare, Between, OneOf}
use Rattle.sql_slice.specs.Plans.{bounds}

-- one more than the greatest number of a number attribute
abbrev pub number_end : ℕ
number_end = number_limit + 1

-- the number as one of an attribute: 0 where it is less, and the end where it is greater than all of them
abbrev pub clamped : ℤ → ℕ
clamped (pos n) = min n number_end
clamped (negsuc n) = 0

-- the next number, likewise
abbrev pub behind : ℤ → ℕ
behind z = clamped (z +ℤ pos 1)

-- the start of the numbers that compare so
abbrev pub start_by : Sign → ℤ → ℕ
start_by Equal z = clamped z
start_by Less z = 0
start_by LessEqual z = 0
start_by More z = behind z
start_by MoreEqual z = clamped z

-- and the end
abbrev pub end_by : Sign → ℤ → ℕ
end_by Equal z = behind z
end_by Less z = clamped z
end_by LessEqual z = behind z
end_by More z = number_end
end_by MoreEqual z = number_end

-- the start of the numbers that pass a test
abbrev pub start_of : Test → ℕ
start_of (Compare attr sign (operand.Whole z)) = start_by sign z
start_of (Compare attr sign (operand.Word text)) = 0
start_of (Between attr low high) = clamped low
start_of (OneOf attr values) = 0

-- and the end
abbrev pub end_of : Test → ℕ
end_of (Compare attr sign (operand.Whole z)) = end_by sign z
end_of (Compare attr sign (operand.Word text)) = 0
end_of (Between attr low high) = behind high
end_of (OneOf attr values) = number_end

-- the start of the numbers that pass all tests on the attribute
abbrev pub start_in : ℕ → List Test → ℕ
start_in a [] = 0
start_in a (t ∷ tests) = max (if bounds a t then start_of t else 0) (start_in a tests)

-- and the end
abbrev pub end_in : ℕ → List Test → ℕ
end_in a [] = number_end
end_in a (t ∷ tests) = min (if bounds a t then end_of t else number_end) (end_in a tests)

-- the numbers from the start up to the end: one is an equality, several are a range, and none is the range from 1 to 0
abbrev pub number_cond : ℕ → ℕ → ℕ → Cond
number_cond a start end =
    if nat_lt start end then (if start + 1 == end then cond.Equal a (value.Number start) else cond.Between a start (end - 1))
    else cond.Between a 1 0
