-- The facts of a batch, with values and numbers in flat lists.
use Rattle.std.specs.Prelude.{◌≡◌, ◌≤◌, ◌*◌, Bool, ℕ, ℤ, List, [], length, map, flat_map, drop}
use Rattle.std.specs.List.{list_all, range_with_len}
use Rattle.fact_model.specs.declared.fact.Fact.{Fact}
use Rattle.fact_model.specs.declared.fact.Value.{Value}
use Rattle.fact_batch.specs.declared.values.Slot.{Slot}
use Rattle.fact_batch.specs.Rows.{row_at}
use Rattle.fact_batch.specs.Values.{is_within, texts_len, values_of}

-- fact `at` among values and numbers
abbrev pub fact_at : ℕ → ℕ → List Value → List ℤ → ℕ → Fact
fact_at width measures values numbers at = record { values = row_at width values at; measures = row_at measures numbers at }

-- `rows` facts
abbrev pub facts_of : ℕ → ℕ → ℕ → List Slot → List ℕ → List ℤ → List Fact
facts_of width measures rows slots texts numbers = map (fact_at width measures (values_of slots texts) numbers) (range_with_len 0 rows)

-- there are exactly as many slots, bytes and numbers as the facts need
pub record IsFlat (width measures rows : ℕ) (slots : List Slot) (texts : List ℕ) (numbers : List ℤ) : Type 0 where
  pub slots_are : length slots ≡ width * rows
  pub texts_are : texts_len slots ≡ length texts
  pub numbers_are : length numbers ≡ measures * rows

-- all values of facts, in order of fact and then of attribute
abbrev pub values_in : List Fact → List Value
values_in facts = flat_map (λ (x : Fact). x.values) facts

-- the numbers of each fact
abbrev pub measures_in : List Fact → List (List ℤ)
measures_in facts = map (λ (x : Fact). x.measures) facts

-- all numbers among the values of the facts are within the limit
abbrev pub are_within : ℕ → List Fact → Bool
are_within limit facts = list_all (λ (x : Fact). list_all (is_within limit) x.values) facts

-- facts with this many values and numbers each, and the values and numbers of the next
pub record Draft : Type 0 where
  pub width : ℕ
  pub measures : ℕ
  pub facts : List Fact
  pub values : List Value
  pub numbers : List ℤ

-- between two facts: the next has no values or numbers yet
pub record IsBetween (attrs numbers_each : ℕ) (draft : Draft) : Type 0 where
  pub width : draft.width ≡ attrs
  pub measures : draft.measures ≡ numbers_each
  pub values : draft.values ≡ []
  pub numbers : draft.numbers ≡ []

-- `rows` facts, then the values and numbers of the next
abbrev pub draft_of : ℕ → ℕ → ℕ → List Slot → List ℕ → List ℤ → Draft
draft_of width measures rows slots texts numbers = record {
  width = width;
  measures = measures;
  facts = facts_of width measures rows slots texts numbers;
  values = drop (width * rows) (values_of slots texts);
  numbers = drop (measures * rows) numbers;
}

-- there are at least as many slots and numbers as the facts need, and as many bytes as the slots need
pub record IsDraft (width measures rows : ℕ) (slots : List Slot) (texts : List ℕ) (numbers : List ℤ) : Type 0 where
  pub slots_are : width * rows ≤ length slots
  pub texts_are : texts_len slots ≡ length texts
  pub numbers_are : measures * rows ≤ length numbers
