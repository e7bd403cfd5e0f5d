-- One slot more behind the facts.
use Rattle.std.proofs.Common.{◌≡◌, ◌≤◌, ◌*◌, ℕ, ℤ, List, [], ◌∷◌, ◌++◌, length, drop, ap, ◌∙◌, arith}
use Rattle.std.proofs.lemmas.List.{drop-append-le, length-append, length_push}
use Rattle.fact_batch.specs.declared.values.Slot.{Slot}
use Rattle.fact_batch.specs.declared.values.Slot.TheVariants as slot
use Rattle.fact_model.specs.declared.fact.Value.TheVariants.{Word}
use Rattle.std.proofs.Math.Seq.{take-length}
use Rattle.fact_batch.specs.Batch.{IsDraft, draft_of}
use Rattle.fact_batch.specs.Values.{texts_len, values_of}
use Rattle.fact_batch.proofs.Drafts.{facts-values, facts_over}
use Rattle.fact_batch.proofs.Texts.{texts-push, values-len, values-push}

pub push-draft : (w m n : ℕ) (slots : List Slot) (texts : List ℕ) (ns : List ℤ) (s : Slot) (more : List ℕ) → texts_len (s ∷ []) ≡ length more
    → IsDraft w m n slots texts ns → IsDraft w m n (slots ++ s ∷ []) (texts ++ more) ns
push-draft w m n slots texts ns s more same is = record {
  slots_are = omega (arith, is.slots_are, length_push slots s);
  texts_are = omega (arith, same, is.texts_are, texts-push slots s, length-append texts more);
  numbers_are = is.numbers_are;
}

-- the draft has one value more
pub draft-value : (w m n : ℕ) (slots : List Slot) (texts : List ℕ) (ns : List ℤ) (s : Slot) (more : List ℕ) → IsDraft w m n slots texts ns
    → draft_of w m n (slots ++ s ∷ []) (texts ++ more) ns ≡ record (draft_of w m n slots texts ns) { values = drop (w * n) (values_of slots texts) ++ values_of (s ∷ []) more }
draft-value w m n slots texts ns s more is =
    let vs = values_of slots texts in
    let le : w * n ≤ length vs = omega (arith, is.slots_are, values-len slots texts) in
    let pushed = values-push slots texts s more is.texts_are in
    let facts = facts-values w m n vs (values_of (s ∷ []) more) ns le in
    let values = drop-append-le (w * n) vs (values_of (s ∷ []) more) le in
    (λ j. record { width = w; measures = m; facts = facts_over w m n (pushed j) ns; values = drop (w * n) (pushed j); numbers = drop (m * n) ns })
    ∙ (λ j. record { width = w; measures = m; facts = facts j; values = values j; numbers = drop (m * n) ns })

-- the same of a text with its bytes
pub draft-text : (w m n : ℕ) (slots : List Slot) (texts : List ℕ) (ns : List ℤ) (text : List ℕ) → IsDraft w m n slots texts ns
    → draft_of w m n (slots ++ slot.Word (length text) ∷ []) (texts ++ text) ns ≡ record (draft_of w m n slots texts ns) { values = drop (w * n) (values_of slots texts) ++ Word text ∷ [] }
draft-text w m n slots texts ns text is =
    draft-value w m n slots texts ns (slot.Word (length text)) text is
    ∙ ap (λ (t : List ℕ). record (draft_of w m n slots texts ns) { values = drop (w * n) (values_of slots texts) ++ Word t ∷ [] }) (take-length text)
