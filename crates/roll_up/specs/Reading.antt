-- The level that a block gives, or the first reason against it. Rows and fields count from 1.
use Rattle.std.specs.Prelude.{◌≡◌, ◌≢◌, ℕ, suc, ◌+◌, ◌==◌, Bool, not, ◌&&◌, cond, List, [], ◌∷◌, ◌++◌, get_or, length, nat_le, nat_lt, Option, Some, None, Result, Ok, Err}
use Rattle.std.specs.List.{list_any}
use Rattle.std.specs.Str.{bytes_eq}
use Rattle.csv_text.specs.Records.{records_of}
use Rattle.cube_schema.specs.Kinds.{arity, kind_at}
use Rattle.cube_schema.specs.Reading.{is_attr, is_declared, number_of}
use Rattle.cube_schema.specs.Words.{is_name}
use Rattle.cube_schema.specs.declared.schema.Kind.{Kind}
use Rattle.cube_schema.specs.declared.schema.Kind.TheVariants as kind
use Rattle.cube_schema.specs.declared.schema.Schema.{Schema}
use Rattle.fact_model.specs.declared.fact.Value.{Value}
use Rattle.fact_model.specs.declared.fact.Value.TheVariants.{Word, Number}
use Rattle.slice_lang.specs.Values.{coordinate_in}
use Rattle.roll_up.specs.Parents.{Parent, has_parent}
use Rattle.roll_up.specs.declared.level.Level.{Level}
use Rattle.roll_up.specs.declared.refusal.LevelRefusal.{LevelRefusal}
use Rattle.roll_up.specs.declared.refusal.LevelRefusal.TheVariants as refused

-- ---- a row

abbrev pub as_number : Option ℕ → Option Value
as_number None = None
as_number (Some n) = Some (Number n)

-- the value of an attribute that a field writes, if it writes one
abbrev pub value_of : Kind → List ℕ → Option Value
value_of (kind.Word max) field = Some (Word field)
value_of kind.Number field = as_number (coordinate_in field)

-- a value and its parent, both of at most 255 bytes as written, if no earlier row has the value
abbrev pub pair_from : List Parent → ℕ → List ℕ → List ℕ → Option Value → Result Parent LevelRefusal
pair_from before row field parent None = Err (refused.Number row)
pair_from before row field parent (Some value) =
    cond (nat_le (length field) 255)
    (cond (nat_le (length parent) 255)
    (cond (has_parent before value) (Err (refused.Repeated row)) (Ok (value, parent)))
    (Err (refused.Long row 2))) (Err (refused.Long row 1))

-- the pair of a row of two fields that follows rows with these pairs, or its first fault
abbrev pub pair_in : Kind → List Parent → ℕ → List (List ℕ) → Result Parent LevelRefusal
pair_in kind before row fields =
    cond (length fields == 2) (pair_from before row (get_or fields 0 []) (get_or fields 1 []) (value_of kind (get_or fields 0 []))) (Err (refused.Fields row))

-- ---- all rows

-- the pairs with one more, or the fault
abbrev pub with_pair : List Parent → Result Parent LevelRefusal → Result (List Parent) LevelRefusal
with_pair before (Err refusal) = Err refusal
with_pair before (Ok pair) = Ok (before ++ pair ∷ [])

-- the pairs with those of one more row, or the first fault
abbrev pub after_row : Kind → ℕ → List (List ℕ) → Result (List Parent) LevelRefusal → Result (List Parent) LevelRefusal
after_row kind row fields (Err refusal) = Err refusal
after_row kind row fields (Ok before) = with_pair before (pair_in kind before row fields)

-- the pairs with those of more rows, or the first fault
abbrev pub after_rows : Kind → ℕ → List (List (List ℕ)) → Result (List Parent) LevelRefusal → Result (List Parent) LevelRefusal
after_rows kind row [] so_far = so_far
after_rows kind row (fields ∷ rows) so_far = after_rows kind (suc row) rows (after_row kind row fields so_far)

-- the pairs of a block of at most 262,144 rows, or the first fault
abbrev pub parents_in : Kind → List ℕ → Result (List Parent) LevelRefusal
parents_in kind block = cond (nat_lt 262144 (length (records_of block))) (Err refused.Rows) (after_rows kind 1 (records_of block) (Ok []))

-- ---- a level

-- a lawful name that no attribute, measure or level has
abbrev pub is_free : Schema → List Level → List ℕ → Bool
is_free schema levels name = is_name name && not (is_declared schema name) && not (list_any (λ (l : Level). bytes_eq l.name name) levels)

-- the level of these pairs, or the fault
abbrev pub level_with : List ℕ → ℕ → Result (List Parent) LevelRefusal → Result Level LevelRefusal
level_with name attr (Err refusal) = Err refusal
level_with name attr (Ok parents) = Ok (record { name = name; attr = attr; parents = parents })

-- the level of a name, an attribute's name and a block, or the first reason against it
abbrev pub level_of : Schema → List Level → List ℕ → List ℕ → List ℕ → Result Level LevelRefusal
level_of schema levels name attr block =
    cond (is_free schema levels name)
    (cond (is_attr schema attr)
    (cond (nat_lt (arity schema + length levels) 16)
    (level_with name (number_of schema attr) (parents_in (kind_at schema (number_of schema attr)) block))
    (Err refused.Many)) (Err refused.Attribute)) (Err refused.Name)

-- the answer is this one, unless memory was short
abbrev pub Answers : {A : Type 0} → Result A LevelRefusal → Result A LevelRefusal → Type 0
Answers (Ok x) want = want ≡ Ok x
Answers (Err refusal) want = refusal ≢ refused.Memory → want ≡ Err refusal

-- the pairs so far, or the first fault
abbrev pub so_far_of : Result (Unit {0}) LevelRefusal → List Parent → Result (List Parent) LevelRefusal
so_far_of (Ok done) parents = Ok parents
so_far_of (Err refusal) parents = Err refusal
