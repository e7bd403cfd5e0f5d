-- The facts of rows in a draft.
use Rattle.std.specs.Prelude.{◌≡◌, List, [], ◌∷◌, ◌++◌, Result, Ok, Err}
use Rattle.fact_model.specs.declared.fact.Fact.{Fact}
use Rattle.fact_model.specs.declared.fact.Value.{Value}
use Rattle.fact_batch.specs.Batch.{Draft}
use Rattle.fact_csv.specs.declared.refusal.RowRefusal.{RowRefusal}

-- the value that was read is the last in the draft, and nothing else is new
pub record HasValue (read : Result Value RowRefusal) (old new : Draft) : Type 0 where
  pub value : Value
  pub good : read ≡ Ok value
  pub pushed : new ≡ record old { values = old.values ++ value ∷ [] }

-- the fact that was read is the last in the draft, and nothing else is new
pub record HasRow (read : Result Fact RowRefusal) (old new : Draft) : Type 0 where
  pub fact : Fact
  pub good : read ≡ Ok fact
  pub pushed : new ≡ record old { facts = old.facts ++ fact ∷ [] }

-- the facts of a draft, or the first fault
abbrev pub drafted : Result (Unit {0}) RowRefusal → Draft → Result (List Fact) RowRefusal
drafted (Ok none) draft = Ok draft.facts
drafted (Err refusal) draft = Err refusal
