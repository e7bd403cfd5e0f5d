-- Names that enter leave a book.
use Rattle.std.proofs.Common.{◌≡◌, ℕ, ◌<◌, ◌≤◌, Bool, true, false, not, List, [], ◌∷◌, ◌++◌, length, get_or, refl, sym, subst, ◌∙◌, ⊎_elim, arith, append_assoc}
use Rattle.std.specs.Prelude.{nat_lt}
use Rattle.std.specs.List.{All, IsDistinct, list_any}
use Rattle.std.specs.Str.{bytes_eq}
use Rattle.std.proofs.lemmas.Bool.{and_parts, ltb-true, cases_eq, cases_lt}
use Rattle.std.proofs.lemmas.List.{length-set, get_or-set_same, get_or-set_other, set_past, length_push}
use Rattle.std.proofs.lemmas.List.Elements.{All-push, All-tail}
use Rattle.cube_schema.specs.Kinds.{max_of}
use Rattle.spec_points.specs.Codes.{Text}
use Rattle.spec_points.proofs.Names.{distinct-push}
use Rattle.attr_dict.specs.Admitting.{entry_text, entries_text}
use Rattle.attr_dict.specs.Book.{Book, IsBook, IsShort, kind_at, names_at}
use Rattle.attr_dict.specs.Entering.{can_enter, entered, all_enter, after_entries}
use Rattle.attr_dict.proofs.Columns.{AreShort}

-- what the names of each attribute keep when an entry enters
module _ (P : ℕ → List Text → Type 0) (b : Book) (e : ℕ × Text) (each : (a : ℕ) → P a (names_at b a)) (here : P e.0 (names_at b e.0 ++ e.1 ∷ [])) where
  entered-each : (a : ℕ) → P a (names_at (entered b e) a)
  entered-each a =
      ⊎_elim
      (λ (q : a ≡ e.0).
      ⊎_elim
      (λ (lt : e.0 < length b.names). subst (λ k. P k (names_at (entered b e) k)) (sym q) (subst (P e.0) (sym (get_or-set_same b.names e.0 (names_at b e.0 ++ e.1 ∷ []) [] lt)) here))
      (λ (le : length b.names ≤ e.0). subst (λ (names : List (List Text)). P a (get_or names a [])) (sym (set_past b.names e.0 (names_at b e.0 ++ e.1 ∷ []) le)) (each a))
      (cases_lt e.0 (length b.names)))
      (λ (q : a ≡ e.0 → ⊥). subst (P a) (sym (get_or-set_other b.names e.0 a (names_at b e.0 ++ e.1 ∷ []) [] q)) (each a))
      (cases_eq a e.0)

book-entered : (b : Book) (e : ℕ × Text) → IsBook b → can_enter b e ≡ true → IsShort e.1 → IsBook (entered b e)
book-entered b e book enter small =
    let tests = and_parts (nat_lt (length (names_at b e.0)) (max_of (kind_at b e.0))) (not (list_any (bytes_eq e.1) (names_at b e.0))) enter in
    let room = ltb-true (length (names_at b e.0)) (max_of (kind_at b e.0)) tests.0 in
    let more = length_push (names_at b e.0) e.1 in
    record {
      same = length-set b.names e.0 (names_at b e.0 ++ e.1 ∷ []) ∙ book.same;
      few = book.few;
      ranges = book.ranges;
      within = entered-each (λ a names. length names ≤ max_of (kind_at b a)) b e book.within (omega arith);
      distinct = entered-each (λ a. IsDistinct bytes_eq) b e book.distinct (distinct-push (names_at b e.0) e.1 (book.distinct e.0) (not_true (list_any (bytes_eq e.1) (names_at b e.0)) tests.1));
      short = entered-each (λ a. All IsShort) b e book.short (All-push IsShort (names_at b e.0) e.1 (book.short e.0) small);
    }
  where
    not_true : (b : Bool) → not b ≡ true → b ≡ false
    not_true true is = cc
    not_true false is = refl

pub book-after : (b : Book) (es : List (ℕ × Text)) → IsBook b → all_enter b es ≡ true → AreShort es → IsBook (after_entries b es)
book-after b [] book all small = book
book-after b (e ∷ es) book all small =
    (let parts = and_parts (can_enter b e) (all_enter (entered b e) es) all in book-after (entered b e) es (book-entered b e book parts.0 small.0) parts.1 small.1)

-- entries that bytes write are short, since a length is a byte
pub short-read : (es : List (ℕ × Text)) (rest : List ℕ) → All (λ b. b < 256) (entries_text es ++ rest) → AreShort es
short-read [] rest bytes = tt
short-read (e ∷ es) rest bytes =
    let size = bytes 1 0 (omega arith) in
    let whole : All (λ b. b < 256) (entry_text e ++ (entries_text es ++ rest)) = subst (All (λ b. b < 256)) (append_assoc (entry_text e) (entries_text es) rest) bytes in
    (omega arith, short-read es rest (all-right (entry_text e) (entries_text es ++ rest) whole))
  where
    all-right : (xs ys : List ℕ) → All (λ b. b < 256) (xs ++ ys) → All (λ b. b < 256) ys
    all-right [] ys each = each
    all-right (x ∷ xs) ys each = all-right xs ys (All-tail (λ b. b < 256) x (xs ++ ys) each)
