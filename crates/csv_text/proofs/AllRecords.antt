-- The records of a block, read one after the other.
use Rattle.std.proofs.Common.{◌≡◌, ◌≤◌, ◌<◌, ℕ, zero, suc, Bor, Bool, true, false, List, [], ◌∷◌, Option, Some, None, length, refl, sym, ap, ◌∙◌, arith, inl, inr, add-one}
use Rattle.std.specs.Prelude.{unwrap_or}
use Rattle.std.proofs.lemmas.Bool.{cases_Bool}
use Rattle.csv.specs.Machine.{Read, step, is_end, ends_at_end, next_record, fields_after, field_after}
use Rattle.csv.specs.Reading.{Reached, ReadRecord, default_config, is_flexible, reader_state, records, records_from, took_first}
use Rattle.csv.specs.declared.reader.Reader.{Reader}
use Rattle.csv.specs.declared.parser.State.{State}
use Rattle.csv.specs.declared.parser.State.TheVariants as st
use Rattle.csv.proofs.ReadFacts.{rows-end, rows-more}
use Rattle.csv_text.specs.Reader.{IsBlockReader, IsNext, left_by, records_left, unread_by}

-- a byte that ends a record leaves the reader between two records
ended : (s : State) (c : ℕ) → is_end (step default_config s c).1 ≡ true → ends_at_end (step default_config s c).0 ≡ false
ended st.StartRecord c h = grind arith
ended st.StartField c h = grind arith
ended st.InField c h = grind arith
ended st.InQuoted c h = grind arith
ended st.InEscape c h = grind arith
ended st.AfterQuote c h = grind arith
ended st.InComment c h = grind arith
ended st.AfterCr c h = grind arith

some_inj : {X : Type 0} {x y : X} → Some x ≡ Some y → x ≡ y
some_inj {X} {x} {y} e = ap (λ o. unwrap_or o x) e

-- after a record the reader is between two records, and a byte was taken, if there was one
abbrev Goes : List ℕ → Read → Type 0
Goes xs q = (ends_at_end q.1 ≡ false) × (length q.2 ≤ length xs) × ((0 < length xs) → (length q.2 < length xs))

goes : (s : State) (f : List (List ℕ)) (p xs : List ℕ) (q : Read) → next_record default_config s f p xs ≡ Some q → Goes xs q
unfolding next_record
goes s f p [] q h = elim (cases_Bool (ends_at_end s)) [
  | inl t ↦ let e = some_inj (rw t at h) in rw (← e) (refl, omega arith, λ l. l)
  | inr t ↦ let e = rw t at h in cc e
]
goes s f p (c ∷ xs) q h = elim (cases_Bool (is_end (step default_config s c).1)) [
  | inl t ↦ let e = some_inj (rw t at h) in rw (← e) (ended s c t, omega arith, λ _. omega arith)
  | inr t ↦
      let ih = goes (step default_config s c).0 (fields_after (step default_config s c).1 f p) (field_after (step default_config s c).1 c p) xs q (rw t at h) in
      (ih.0, omega (arith, ih.1), λ _. omega (arith, ih.1))
]

-- a record takes a byte at least
some_bytes : (s : State) (xs : List ℕ) (p : Read) → ends_at_end s ≡ false → next_record default_config s [] [] xs ≡ Some p → 0 < length xs
unfolding next_record
some_bytes s [] p between is = let none = rw between at is in cc none
some_bytes s (c ∷ xs) p between is = omega arith

-- more turns than bytes read the same records
enough : (n m : ℕ) (s : State) (xs : List ℕ) → ends_at_end s ≡ false → length xs < n → length xs < m → records_from default_config n s xs ≡ records_from default_config m s xs
unfolding records_from
enough zero m s xs between low high = absurd (omega arith)
enough (suc n) zero s xs between low high = absurd (omega arith)
enough (suc n) (suc m) s xs between low high = by (λ t ys. enough n m t ys) (next_record default_config s [] [] xs) refl
  where
    by : ((t : State) (ys : List ℕ) → ends_at_end t ≡ false → length ys < n → length ys < m → records_from default_config n t ys ≡ records_from default_config m t ys) → (found : Option Read)
        → next_record default_config s [] [] xs ≡ found → records_from default_config (suc n) s xs ≡ records_from default_config (suc m) s xs
    by more None is = rw is refl
    by more (Some p) is =
        let next = goes s [] [] xs p is in
        let fewer = next.2 (some_bytes s xs p between is) in
        rw is (ap (λ l. p.0 ∷ l) (more p.1 p.2 next.0 (omega arith) (omega arith)))

-- ---- the records left

pub next_left : (s : State) (xs : List ℕ) (p : Read) → ends_at_end s ≡ false → next_record default_config s [] [] xs ≡ Some p → records_left s (Some xs) ≡ p.0 ∷ records_left p.1 (Some p.2)
unfolding records_left records_from
next_left s xs p between is =
    let next = goes s [] [] xs p is in
    let fewer = next.2 (some_bytes s xs p between is) in
    rw is (ap (λ l. p.0 ∷ l) (enough (length xs) (suc (length p.2)) p.1 p.2 next.0 (omega arith) (omega arith)))

none_left : (s : State) (xs : List ℕ) → next_record default_config s [] [] xs ≡ None → records_left s (Some xs) ≡ []
unfolding records_left records_from
none_left s xs is = rw is refl

-- at the start they are all
pub all_left : (xs : List ℕ) → records_left st.StartRecord (Some xs) ≡ records default_config xs
unfolding records_left
all_left xs = ap (λ n. records_from default_config n st.StartRecord xs) (sym (add-one (length xs)))

-- ---- a read

abbrev pub known : Bor (List ℕ) → Option (List ℕ)
known s = Some s.now

module _ (old new : Reader (Bor (List ℕ))) (fields : List (List ℕ)) (is : IsBlockReader old) where
  -- the read that took a record
  record Took : Type 0 where
    next : Read
    found : next_record default_config (reader_state old) [] [] is.bytes ≡ Some next
    same : fields ≡ next.0
    state : next.1 ≡ reader_state new
    unread : unread_by new ≡ Some next.2

  took : ReadRecord known old new true fields → Took
  unfolding Reached
  took read =
      let more = rows-more known old new fields default_config (reader_state old) is.bytes is.bytes [] is.config is.known (refl, refl) read in
      let step = more.2 in
      record { next = step.0; found = step.1; same = step.2; state = step.3.0; unread = more.1 ∙ ap Some (sym step.3.1) }

  pub read_next : (found : Bool) → ReadRecord known old new found fields → IsNext (left_by old) (left_by new) fields found
  read_next true read =
      let t = took read in
      ap (records_left (reader_state old)) is.known ∙ next_left (reader_state old) is.bytes t.next is.between t.found
      ∙ (λ i. sym t.same i ∷ records_left (t.state i) (sym t.unread i))
  read_next false read = ap (records_left (reader_state old)) is.known ∙ none_left (reader_state old) is.bytes (rows-end known old new fields default_config is.bytes is.config is.known read)

  pub reads_on : ReadRecord known old new true fields → took_first new ≡ true → is_flexible new ≡ is_flexible old → IsBlockReader new
  reads_on read first flexible =
      let t = took read in
      record {
        config = read.2 ∙ is.config;
        trim = read.3 ∙ is.trim;
        flexible = flexible ∙ is.flexible;
        ready = inl first;
        bytes = t.next.2;
        known = t.unread;
        between = ap ends_at_end (sym t.state) ∙ (goes (reader_state old) [] [] is.bytes t.next t.found).0;
      }
