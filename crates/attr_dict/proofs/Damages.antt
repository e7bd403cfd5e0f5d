-- Reading is one: bytes are damaged at one place at most, and not where they are read whole.
use Rattle.std.proofs.Common.{◌≡◌, ℕ, true, List, [], ◌∷◌, ◌++◌, length, sym, ap, subst, ◌∙◌, arith, append_assoc, append-nil}
use Rattle.std.proofs.lemmas.Bool.{and_parts, true≢false}
use Rattle.spec_points.specs.Codes.{Text}
use Rattle.attr_dict.specs.Book.{Book}
use Rattle.attr_dict.specs.Admitting.{entry_text, entries_text}
use Rattle.attr_dict.specs.Entering.{can_enter, entered, all_enter, after_entries, HasRead, IsFaulty, IsDamagedAt}
use Rattle.attr_dict.specs.declared.read.NamesStop.TheVariants as stops
use Rattle.attr_dict.proofs.EntryTexts.{front-same}
use Rattle.attr_dict.proofs.EntryReads.{stop-only}

abbrev Entry : Type 0
Entry = ℕ × Text

-- an entry that can enter is not in front of faulty bytes
no-front : (b : Book) (e : Entry) (rest tail : List ℕ) → can_enter b e ≡ true → rest ≡ entry_text e ++ tail → IsFaulty b rest → ⊥
no-front b e rest tail enter are faulty = true≢false (sym enter ∙ faulty e tail are)

-- two readings of the same bytes stop with as many bytes left
same-stop : (b : Book) (es fs : List Entry) (r s : List ℕ) → entries_text es ++ r ≡ entries_text fs ++ s → all_enter b es ≡ true → all_enter b fs ≡ true → IsFaulty (after_entries b es) r
    → IsFaulty (after_entries b fs) s → length r ≡ length s
same-stop b [] [] r s same enter enters faulty faults = ap length same
same-stop b [] (f ∷ fs) r s same enter enters faulty faults =
    let parts = and_parts (can_enter b f) (all_enter (entered b f) fs) enters in
    absurd (no-front b f r (entries_text fs ++ s) parts.0 (same ∙ append_assoc (entry_text f) (entries_text fs) s) faulty)
same-stop b (e ∷ es) [] r s same enter enters faulty faults =
    let parts = and_parts (can_enter b e) (all_enter (entered b e) es) enter in
    absurd (no-front b e s (entries_text es ++ r) parts.0 (sym same ∙ append_assoc (entry_text e) (entries_text es) r) faults)
same-stop b (e ∷ es) (f ∷ fs) r s same enter enters faulty faults =
    let front = front-same e f (entries_text es ++ r) (entries_text fs ++ s) (sym (append_assoc (entry_text e) (entries_text es) r) ∙ same ∙ append_assoc (entry_text f) (entries_text fs) s) in
    let ones = and_parts (can_enter b e) (all_enter (entered b e) es) enter in
    let others = and_parts (can_enter b f) (all_enter (entered b f) fs) enters in
    same-stop (entered b e) es fs r s front.1 ones.1 (subst (λ x. all_enter (entered b x) fs ≡ true) (sym front.0) others.1) faulty
    (subst (λ x. IsFaulty (after_entries (entered b x) fs) s) (sym front.0) faults)

pub damaged-one : (b : Book) (bytes : List ℕ) (p q : ℕ) → IsDamagedAt b bytes p → IsDamagedAt b bytes q → p ≡ q
damaged-one b bytes p q one other =
    let left =
    same-stop b one.front.es other.front.es one.rest other.rest (sym one.front.are ∙ other.front.are) one.front.enter other.front.enter (subst (λ (k : Book). IsFaulty k one.rest) one.front.book one.faulty)
    (subst (λ (k : Book). IsFaulty k other.rest) other.front.book other.faulty) in
    omega (arith, left, one.at, other.at)

-- bytes that are read whole are not damaged
pub read-undamaged : (b now : Book) (bytes : List ℕ) (p : ℕ) → HasRead b now bytes [] → IsDamagedAt b bytes p → ⊥
read-undamaged b now bytes p read damaged = (let no = stop-only b bytes read.es (stops.Damaged p) (read.are ∙ append-nil (entries_text read.es)) read.enter damaged in cc)
