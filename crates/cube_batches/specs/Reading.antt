-- The batch of a source, read or made.
use Rattle.std.specs.Prelude.{◌≡◌, ◌<◌, ◌≤◌, ◌+◌, ℕ, List, IfSome, length, Option, Ok, Err}
use Rattle.std.specs.List.{All}
use Rattle.cube_schema.specs.Agreeing.{Agrees}
use Rattle.cube_schema.specs.declared.schema.Schema.{Schema}
use Rattle.fact_model.specs.declared.fact.Fact.{Fact}
use Rattle.forest_refresh.specs.Next.{last_behind}
use Rattle.spec_machine.specs.Machine.{Given}
use Rattle.cube_batches.specs.declared.batch.Read.{Read}
use Rattle.cube_batches.specs.declared.batch.Read.TheVariants.{Batch, Refused}

-- the facts agree with the schema and fit in a batch; the number, if there is one, is the one after the last, and then the batch has a fact
pub record IsBatchFor (schema : Schema) (last : ℕ) (batch : List Fact) (number : Option ℕ) : Type 0 where
  pub few : length batch ≤ 262144
  pub agree : All (Agrees schema) batch
  pub due : IfSome number (λ n. n ≡ last + 1)
  pub some : IfSome number (λ n. 0 < length batch)

-- it is the batch that was given, with the last number after it
pub record IsGiven (schema : Schema) (last : ℕ) (given : List Fact × ℕ) (batch : List Fact) (number : Option ℕ) : Type 0 where
  pub facts : given.0 ≡ batch
  pub next : given.1 ≡ last_behind last number
  pub fits : IsBatchFor schema last batch number

-- the batch, or the refusal
abbrev pub IsRead : Schema → ℕ → Given → Read → Type 0
IsRead schema last (Ok given) (Batch batch number) = IsGiven schema last given batch number
IsRead schema last (Ok given) (Refused reply) = ⊥
IsRead schema last (Err text) (Batch batch number) = ⊥
IsRead schema last (Err text) (Refused reply) = reply.items ≡ text
