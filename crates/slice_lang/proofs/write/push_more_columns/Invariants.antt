use Rattle.std.proofs.Common.{◌≡◌, ◌∷◌, ◌++◌, drop}
use Rattle.std.specs.Prelude.{flat_map}
use Rattle.slice_lang.specs.Writing.{column_text}
use Rattle.slice_lang.proofs.write.push_more_columns.Given as goal

-- the text so far, with the columns to come, is the whole
abbrev pub invariant-loop-column : goal.invariant-loop-column
invariant-loop-column l =
    l.text.items ++ flat_map (λ c. 44 ∷ column_text l.schema c) (drop l.column-index l.columns) ≡ l.fn.text.items ++ flat_map (λ c. 44 ∷ column_text l.schema c) l.columns
