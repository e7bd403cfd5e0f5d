-- Values whose texts are stored in sequence.
use Rattle.std.specs.Prelude.{ℕ, ◌+◌, Bool, true, List, [], ◌∷◌, nat_le, take, drop}
use Rattle.fact_model.specs.declared.fact.Value.{Value}
use Rattle.fact_model.specs.declared.fact.Value.TheVariants.{Word, Number}
use Rattle.fact_batch.specs.declared.values.LentValue.{LentValue}
use Rattle.fact_batch.specs.declared.values.LentValue.TheVariants as lent
use Rattle.fact_batch.specs.declared.values.Slot.{Slot}
use Rattle.fact_batch.specs.declared.values.Slot.TheVariants as slot

-- the value that is borrowed
abbrev pub shown : LentValue → Value
shown (lent.Word bytes) = Word bytes.now
shown (lent.Number n) = Number n

-- the values of slots; the bytes of each text follow those of the texts before it
abbrev pub values_of : List Slot → List ℕ → List Value
values_of [] texts = []
values_of (slot.Word len ∷ slots) texts = Word (take len texts) ∷ values_of slots (drop len texts)
values_of (slot.Number n ∷ slots) texts = Number n ∷ values_of slots texts

-- the number of bytes of their texts
abbrev pub texts_len : List Slot → ℕ
texts_len [] = 0
texts_len (slot.Word len ∷ slots) = len + texts_len slots
texts_len (slot.Number n ∷ slots) = texts_len slots

-- the value is a text, or a number within the limit
abbrev pub is_within : ℕ → Value → Bool
is_within limit (Word t) = true
is_within limit (Number n) = nat_le n limit

-- the slot's value is a text, or a number within the limit
abbrev pub is_slot_within : ℕ → Slot → Bool
is_slot_within limit (slot.Word len) = true
is_slot_within limit (slot.Number n) = nat_le n limit
