-- Bytes that are entries which can enter are read as them.
use Rattle.std.proofs.Common.{◌≡◌, ℕ, ◌<◌, true, List, [], ◌∷◌, ◌++◌, Result, Ok, Err, length, refl, sym, ap, subst, ◌∙◌, arith, append_assoc, append-nil}
use Rattle.std.specs.Prelude.{OnOk, IfErr}
use Rattle.std.specs.List.{All}
use Rattle.std.proofs.lemmas.Bool.{and_parts, true≢false}
use Rattle.cube_schema.specs.declared.Kind.{Kind}
use Rattle.spec_points.specs.Codes.{Text}
use Rattle.attr_dict.specs.Book.{Book, IsBook}
use Rattle.attr_dict.specs.Admitting.{entry_text, entries_text}
use Rattle.attr_dict.specs.Entering.{can_enter, entered, all_enter, after_entries, HasRead, IsFaulty}
use Rattle.attr_dict.specs.Stops.{HasCause}
use Rattle.attr_dict.specs.declared.read.NamesStop.{NamesStop}
use Rattle.attr_dict.specs.declared.read.NamesStop.TheVariants as stops
use Rattle.attr_dict.proofs.Rooms.{book-after, short-read}
use Rattle.attr_dict.proofs.EntryTexts.{front-same}

abbrev Entry : Type 0
Entry = ℕ × Text

-- the same bytes are the same entries
same-entries : (b : Book) (es fs : List Entry) → entries_text es ≡ entries_text fs → after_entries b es ≡ after_entries b fs
same-entries b [] [] same = refl
same-entries b [] (f ∷ fs) same = cc
same-entries b (e ∷ es) [] same = cc
same-entries b (e ∷ es) (f ∷ fs) same =
    let front = front-same e f (entries_text es) (entries_text fs) same in
    ap (λ x. after_entries (entered b x) es) front.0 ∙ same-entries (entered b f) es fs front.1

-- what is behind entries that entered is no faulty entry
not-faulty : (b : Book) (es fs : List Entry) (rest : List ℕ) → entries_text fs ++ rest ≡ entries_text es → all_enter b es ≡ true → 0 < length rest → IsFaulty (after_entries b fs) rest → ⊥
not-faulty b [] [] rest are enter some faulty = (let none = ap length are in omega arith)
not-faulty b [] (f ∷ fs) rest are enter some faulty = cc
not-faulty b (e ∷ es) [] rest are enter some faulty =
    let parts = and_parts (can_enter b e) (all_enter (entered b e) es) enter in
    true≢false (sym parts.0 ∙ faulty e (entries_text es) are)
not-faulty b (e ∷ es) (f ∷ fs) rest are enter some faulty =
    let parts = and_parts (can_enter b e) (all_enter (entered b e) es) enter in
    let front = front-same f e (entries_text fs ++ rest) (entries_text es) (sym (append_assoc (entry_text f) (entries_text fs) rest) ∙ are) in
    not-faulty (entered b e) es fs rest front.1 parts.1 some (subst (λ x. IsFaulty (after_entries (entered b x) fs) rest) front.0 faulty)

pub read-only : (b now : Book) (bytes : List ℕ) (es : List Entry) → bytes ≡ entries_text es → HasRead b now bytes [] → now ≡ after_entries b es
read-only b now bytes es are read = read.book ∙ same-entries b read.es es (sym (append-nil (entries_text read.es)) ∙ sym read.are ∙ are)

pub stop-only : (b : Book) (bytes : List ℕ) (es : List Entry) (stop : NamesStop) → bytes ≡ entries_text es → all_enter b es ≡ true → HasCause b bytes stop → stop ≡ stops.Memory
stop-only b bytes es (stops.Damaged place) are enter cause =
    absurd (not-faulty b es cause.front.es cause.rest (sym cause.front.are ∙ are) enter cause.some (subst (λ (k : Book). IsFaulty k cause.rest) cause.front.book cause.faulty))
stop-only b bytes es stops.Memory are enter cause = refl

-- ---- as the code has them, with the kinds lent
abbrev pub booked : List Kind → List (List Text) → Book
booked kinds names = record { kinds = kinds; names = names }

pub book-read : (kinds slice : List Kind) (names new : List (List Text)) (bytes : List ℕ) → slice ≡ kinds → IsBook (booked kinds names) → All (λ b. b < 256) bytes → ((rest : List ℕ) × HasRead (booked slice names) (booked slice new) bytes rest) → IsBook (booked kinds new)
book-read kinds slice names new bytes same book small read =
    let at = subst (λ (ks : List Kind). HasRead (booked ks names) (booked ks new) bytes read.0) same read.1 in
    subst IsBook (sym at.book) (book-after (booked kinds names) at.es book at.enter (short-read at.es read.0 (subst (All (λ b. b < 256)) at.are small)))

pub only-read : (r : Result (Unit {0}) NamesStop) (kinds slice : List Kind) (names new : List (List Text)) (b : Book) (bytes : List ℕ) → slice ≡ kinds → booked kinds names ≡ b → OnOk r (HasRead (booked slice names) (booked slice new) bytes [])
    → (es : List Entry) → bytes ≡ entries_text es → OnOk r (booked kinds new ≡ after_entries b es)
only-read (Ok u) kinds slice names new b bytes same view read es are =
    read-only (booked kinds names) (booked kinds new) bytes es are (subst (λ (ks : List Kind). HasRead (booked ks names) (booked ks new) bytes []) same read) ∙ ap (λ (k : Book). after_entries k es) view
only-read (Err e) kinds slice names new b bytes same view read es are = tt

pub only-stop : (r : Result (Unit {0}) NamesStop) (kinds slice : List Kind) (names : List (List Text)) (b : Book) (bytes : List ℕ) → slice ≡ kinds → booked kinds names ≡ b → IfErr r (HasCause (booked slice names) bytes)
    → (es : List Entry) → bytes ≡ entries_text es → all_enter b es ≡ true → IfErr r (λ stop. stop ≡ stops.Memory)
only-stop (Ok u) kinds slice names b bytes same view cause es are enter = tt
only-stop (Err e) kinds slice names b bytes same view cause es are enter = stop-only b bytes es e are enter (subst (λ (k : Book). HasCause k bytes e) (ap (λ ks. booked ks names) same ∙ view) cause)
