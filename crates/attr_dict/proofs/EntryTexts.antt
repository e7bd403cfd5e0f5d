-- The texts of entries determine the entries.
use Rattle.std.proofs.Common.{◌≡◌, ℕ, true, false, List, [], ◌∷◌, ◌++◌, length, get_or, take, drop, refl, sym, ap, subst, ◌∙◌, append_assoc, append-nil}
use Rattle.std.proofs.lemmas.Bool.{and_parts, and_from}
use Rattle.std.proofs.lemmas.List.{take_at, drop_at}
use Rattle.spec_points.specs.Codes.{Text}
use Rattle.attr_dict.specs.Book.{Book}
use Rattle.attr_dict.specs.Admitting.{entry_text, entries_text}
use Rattle.attr_dict.specs.Entering.{can_enter, entered, all_enter, after_entries, HasRead, EntersFront, IsFaulty}
use Rattle.attr_dict.proofs.Onwards.{text-append}

abbrev Entry : Type 0
Entry = ℕ × Text

-- the entry in front, and what is behind it, are determined
pub front-same : (e f : Entry) (r s : List ℕ) → entry_text e ++ r ≡ entry_text f ++ s → (e ≡ f) × (r ≡ s)
front-same e f r s same =
    let attr : e.0 ≡ f.0 = ap (λ bs. get_or bs 0 0) same in
    let size : length e.1 ≡ length f.1 = ap (λ bs. get_or bs 1 0) same in
    let more : e.1 ++ r ≡ f.1 ++ s = ap (drop 2) same in
    let text : e.1 ≡ f.1 = sym (take_at e.1 r (length e.1) refl) ∙ (λ i. take (size i) (more i)) ∙ take_at f.1 s (length f.1) refl in
    ((λ i. (attr i, text i)), sym (drop_at e.1 r (length e.1) refl) ∙ (λ i. drop (size i) (more i)) ∙ drop_at f.1 s (length f.1) refl)

all-push : (b : Book) (es : List Entry) (e : Entry) → all_enter b es ≡ true → can_enter (after_entries b es) e ≡ true → all_enter b (es ++ e ∷ []) ≡ true
all-push b [] e all here = and_from _ true here refl
all-push b (x ∷ es) e all here = (let parts = and_parts (can_enter b x) (all_enter (entered b x) es) all in and_from _ _ parts.0 (all-push (entered b x) es e parts.1 here))

after-push : (b : Book) (es : List Entry) (e : Entry) → after_entries b (es ++ e ∷ []) ≡ entered (after_entries b es) e
after-push b [] e = refl
after-push b (x ∷ es) e = after-push (entered b x) es e

pub read-start : (b : Book) (bytes : List ℕ) → HasRead b b bytes bytes
read-start b bytes = record { es = []; are = refl; enter = refl; book = refl }

-- one more entry
pub read-more : (b now next : Book) (bytes rest tail : List ℕ) → HasRead b now bytes rest → EntersFront now next rest tail → HasRead b next bytes tail
read-more b now next bytes rest tail so-far front =
    let e = front.entry in
    let here : can_enter (after_entries b so-far.es) e ≡ true = subst (λ (k : Book). can_enter k e ≡ true) so-far.book front.enter in
    record {
      es = so-far.es ++ e ∷ [];
      are = so-far.are ∙ ap (λ r. entries_text so-far.es ++ r) front.are ∙ sym (append_assoc (entries_text so-far.es) (entry_text e) tail)
          ∙ ap (λ r. r ++ tail) (sym (text-append so-far.es (e ∷ []) ∙ ap (λ r. entries_text so-far.es ++ r) (append-nil (entry_text e))));
      enter = all-push b so-far.es e so-far.enter here;
      book = front.book ∙ ap (λ (k : Book). entered k e) so-far.book ∙ sym (after-push b so-far.es e);
    }

-- bytes whose entry cannot enter are faulty
pub faulty-front : (b : Book) (e : Entry) (rest tail : List ℕ) → rest ≡ entry_text e ++ tail → can_enter b e ≡ false → IsFaulty b rest
faulty-front b e rest tail is stuck f more are = (let same = front-same e f tail more (sym is ∙ are) in ap (can_enter b) (sym same.0) ∙ stuck)
