-- The values of tests by IN, as they are looked up.
use Rattle.std.specs.Prelude.{ℕ, Bool, false, List, Option, Some, None, ℤ, pos}
use Rattle.std.specs.BTreeSet.{BTreeSet, contains_by}
use Rattle.std.specs.Cmp.Lexicographic.{slice_cmp}
use Rattle.std.specs.List.{list_all}
use Rattle.std.specs.Ordering.{int_cmp, nat_cmp}
use Rattle.fact_model.specs.Value.{Key}
use Rattle.fact_model.specs.declared.fact.Value.{Value}
use Rattle.fact_model.specs.declared.fact.Value.TheVariants.{Word, Number}
use Rattle.sql_slice.specs.declared.lists.Listed.{Listed}
use Rattle.sql_slice.specs.SqlRows.{value_in}
use denote.Bor.{Bor}

-- the text is in the set
abbrev pub has_text : BTreeSet (Bor (List ℕ)) → List ℕ → Bool
has_text texts text = contains_by (λ (k : Bor (List ℕ)). slice_cmp nat_cmp text k.now) texts

-- the number is in the set
abbrev pub has_number : BTreeSet ℤ → ℤ → Bool
has_number numbers n = contains_by (int_cmp n) numbers

-- the value is one of these
abbrev pub has_value : Listed → Value → Bool
has_value l (Word text) = has_text l.texts text
has_value l (Number n) = has_number l.numbers (pos n)

-- the value is there, and is one of these
abbrev pub found_has : Listed → Option Value → Bool
found_has l None = false
found_has l (Some v) = has_value l v

-- a key of these attributes has one of the values of each list
abbrev pub lists_have : List ℕ → List Listed → Key → Bool
lists_have group lists key = list_all (λ (l : Listed). found_has l (value_in group key l.attr)) lists
