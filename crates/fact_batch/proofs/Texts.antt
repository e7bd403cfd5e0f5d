-- Values whose texts lie one behind the other.
use Rattle.std.proofs.Common.{◌≡◌, ◌≤◌, ◌+◌, ◌&&◌, ℕ, suc, List, [], ◌∷◌, ◌++◌, length, take, drop, refl, ap, ◌∙◌, arith}
use Rattle.std.specs.Prelude.{nat_le}
use Rattle.std.specs.List.{list_all}
use Rattle.std.proofs.lemmas.List.{drop-append-le, take-append-le, length-drop}
use Rattle.fact_model.specs.declared.fact.Value.{Value}
use Rattle.fact_model.specs.declared.fact.Value.TheVariants.{Word, Number}
use Rattle.fact_batch.specs.declared.values.Slot.{Slot}
use Rattle.fact_batch.specs.declared.values.Slot.TheVariants as slot
use Rattle.fact_batch.specs.Values.{is_slot_within, is_within, texts_len, values_of}

-- there is a value for each slot
pub values-len : (slots : List Slot) (texts : List ℕ) → length (values_of slots texts) ≡ length slots
values-len [] texts = refl
values-len (slot.Word len ∷ slots) texts = ap suc (values-len slots (drop len texts))
values-len (slot.Number n ∷ slots) texts = ap suc (values-len slots texts)

pub texts-push : (slots : List Slot) (s : Slot) → texts_len (slots ++ s ∷ []) ≡ texts_len slots + texts_len (s ∷ [])
texts-push [] s = omega arith
texts-push (slot.Word len ∷ slots) s = let rest = texts-push slots s in omega (arith, rest)
texts-push (slot.Number n ∷ slots) s = texts-push slots s

-- one slot more, with its bytes behind those of the others
pub values-push : (slots : List Slot) (texts : List ℕ) (s : Slot) (more : List ℕ) → texts_len slots ≡ length texts
    → values_of (slots ++ s ∷ []) (texts ++ more) ≡ values_of slots texts ++ values_of (s ∷ []) more
values-push [] [] s more same = refl
values-push [] (t ∷ texts) s more same = absurd (omega (arith, same))
values-push (slot.Word len ∷ slots) texts s more same =
    let within : len ≤ length texts = omega (arith, same) in
    let rest : texts_len slots ≡ length (drop len texts) = omega (arith, same, length-drop len texts) in
    ap (λ (t : List ℕ). Word t ∷ values_of (slots ++ s ∷ []) (drop len (texts ++ more))) (take-append-le len texts more within)
    ∙ ap (λ (vs : List Value). Word (take len texts) ∷ vs)
    (ap (values_of (slots ++ s ∷ [])) (drop-append-le len texts more within) ∙ values-push slots (drop len texts) s more rest)
values-push (slot.Number n ∷ slots) texts s more same = ap (λ (vs : List Value). Number n ∷ vs) (values-push slots texts s more same)

-- all slots are within the limit where all their values are
pub slots-within : (limit : ℕ) (slots : List Slot) (texts : List ℕ) → list_all (is_slot_within limit) slots ≡ list_all (is_within limit) (values_of slots texts)
slots-within limit [] texts = refl
slots-within limit (slot.Word len ∷ slots) texts = slots-within limit slots (drop len texts)
slots-within limit (slot.Number n ∷ slots) texts = ap (λ rest. nat_le n limit && rest) (slots-within limit slots texts)
