-- How many bytes of a names file the entries of names have.
use Rattle.std.proofs.Common.{◌≡◌, ℕ, zero, suc, ◌+◌, ◌*◌, ◌<◌, ◌≤◌, ◌==◌, true, not, cond, List, [], ◌∷◌, ◌++◌, Option, Some, None, length, get_or, take, Result, Ok, Err, refl, sym, ap, subst, ◌∙◌, ⊎_elim, arith, append-nil}
use Rattle.std.specs.Prelude.{OnOk, nat_lt}
use Rattle.std.specs.List.{list_any}
use Rattle.std.specs.Str.{bytes_eq}
use Rattle.std.proofs.lemmas.Bool.{and_parts, cases_eq, cases_lt, ltb-true}
use Rattle.std.proofs.lemmas.List.{get_or_past, get_or-set_same, get_or-set_other, length-append, length-set, take_all, take-append-le}
use Rattle.std.proofs.lemmas.List.Elements.{filter_map-append}
use Rattle.std.proofs.lemmas.List.Sums.{sum_by-le, sum_by_push, sum_by-take-le}
use Rattle.fact_model.specs.declared.fact.Fact.{Fact}
use Rattle.cube_schema.specs.declared.Kind.{Kind}
use Rattle.cube_schema.specs.declared.Kind.TheVariants as kind
use Rattle.cube_schema.specs.declared.Schema.{Schema}
use Rattle.cube_schema.specs.Kinds.{max_of}
use Rattle.spec_points.specs.Agree.{name_limit}
use Rattle.spec_points.specs.Codes.{Text, admitted, texts_at, same_entry, named, for_attr}
use Rattle.spec_points.specs.Points.{Names}
use Rattle.spec_points.proofs.Codes.{admitted-more}
use Rattle.spec_points.proofs.Names.{admitted-for, named-for}
use Rattle.attr_dict.specs.Book.{Book, IsBook, kind_at, names_at, shown_names, no_names}
use Rattle.attr_dict.specs.Admitting.{names_with, entry_text, entries_text, fresh, Lists}
use Rattle.attr_dict.specs.Entering.{can_enter, entered, all_enter, after_entries, HasRead}
use Rattle.attr_dict.specs.declared.read.NamesStop.{NamesStop}
use Rattle.attr_dict.specs.Room.{texts_len, len_of, entries_len, shown_len, entries_limit}
use Rattle.attr_dict.proofs.Books.{unnamed}
use Rattle.attr_dict.proofs.EntryReads.{booked}
use Rattle.attr_dict.proofs.Kept.{entries-enter, kinds-after}
use Rattle.attr_dict.proofs.Listed.{listed, listed-names}
use Rattle.attr_dict.proofs.Onwards.{admitted-fresh}

abbrev Entry : Type 0
Entry = ℕ × Text

-- ---- names that differ

pub len-same : (f g : Names) (n : ℕ) → ((a : ℕ) → f a ≡ g a) → len_of f n ≡ len_of g n
len-same f g n same = λ i. len_of (λ a. same a i) n

len-less : (f g : Names) (n : ℕ) → ((a : ℕ) → texts_len (f a) ≤ texts_len (g a)) → len_of f n ≤ len_of g n
unfolding len_of
len-less f g zero less = omega arith
len-less f g (suc n) less = (let here = less n in let rest = len-less f g n less in omega arith)

-- one attribute has one text more
len-more : (f g : Names) (a : ℕ) (t : Text) (n : ℕ) → g a ≡ f a ++ t ∷ [] → ((k : ℕ) → (k ≡ a → ⊥) → g k ≡ f k)
    → (a < n → len_of g n ≡ len_of f n + (2 + length t)) × (n ≤ a → len_of g n ≡ len_of f n)
unfolding len_of
len-more f g a t zero here others = (λ lt. absurd (omega arith), λ le. refl)
len-more f g a t (suc n) here others =
    let rest = len-more f g a t n here others in (
      λ lt.
          ⊎_elim
          (λ (q : n ≡ a).
          (let front = rest.1 (omega arith) in
          let own : g n ≡ f n ++ t ∷ [] = ap g q ∙ here ∙ ap (λ k. f k ++ t ∷ []) (sym q) in
          let size = ap texts_len own ∙ sum_by_push (λ (u : Text). 2 + length u) (f n) t in
          omega arith))
          (λ (q : n ≡ a → ⊥). (let front = rest.0 (omega (arith, q)) in let size = ap texts_len (others n q) in omega arith))
          (cases_eq n a),
      λ le. (let front = rest.1 (omega arith) in let size = ap texts_len (others n (λ q. omega arith)) in omega arith),
    )

-- ---- entries that enter

entered-len : (b : Book) (e : Entry) → length b.names ≡ length b.kinds → can_enter b e ≡ true → entries_len (entered b e) ≡ entries_len b + length (entry_text e)
entered-len b e same enter =
    let more = names_at b e.0 ++ e.1 ∷ [] in
    let room = ltb-true (length (names_at b e.0)) (max_of (kind_at b e.0)) (and_parts (nat_lt (length (names_at b e.0)) (max_of (kind_at b e.0))) (not (list_any (bytes_eq e.1) (names_at b e.0))) enter).0 in
    let low : e.0 < length b.kinds =
    ⊎_elim (λ (lt : e.0 < length b.kinds). lt) (λ (le : length b.kinds ≤ e.0). absurd (let none = ap max_of (get_or_past b.kinds e.0 kind.Number le) in omega arith)) (cases_lt e.0 (length b.kinds)) in
    let one = (len-more (names_at b) (names_at (entered b e)) e.0 e.1 (length b.kinds) (get_or-set_same b.names e.0 more [] (omega arith)) (λ k q. get_or-set_other b.names e.0 k more [] q)).0 low in
    omega arith

pub after-len : (b : Book) (es : List Entry) → length b.names ≡ length b.kinds → all_enter b es ≡ true → entries_len (after_entries b es) ≡ entries_len b + length (entries_text es)
after-len b [] same enter = omega arith
after-len b (e ∷ es) same enter =
    let parts = and_parts (can_enter b e) (all_enter (entered b e) es) enter in
    let here = entered-len b e same parts.0 in
    let rest = after-len (entered b e) es (length-set b.names e.0 (names_at b e.0 ++ e.1 ∷ []) ∙ same) parts.1 in
    let text = length-append (entry_text e) (entries_text es) in
    omega arith

-- a names file that is read
pub read-len : (b now : Book) (bytes : List ℕ) → IsBook b → HasRead b now bytes [] → entries_len now ≡ entries_len b + length bytes
read-len b now bytes book read =
    let size = ap length (read.are ∙ append-nil (entries_text read.es)) in
    ap entries_len read.book ∙ after-len b read.es book.same read.enter ∙ ap (λ n. entries_len b + n) (sym size)

-- as the code has it, with the kinds lent
pub read-size : (r : Result (Unit {0}) NamesStop) (kinds slice : List Kind) (names new : List (List Text)) (b : Book) (bytes : List ℕ) → slice ≡ kinds → booked kinds names ≡ b → IsBook (booked kinds names)
    → OnOk r (HasRead (booked slice names) (booked slice new) bytes []) → OnOk r (entries_len (booked kinds new) ≡ entries_len b + length bytes)
read-size (Ok u) kinds slice names new b bytes same view book read =
    read-len (booked kinds names) (booked kinds new) bytes book (subst (λ (ks : List Kind). HasRead (booked ks names) (booked ks new) bytes []) same read) ∙ ap (λ (k : Book). entries_len k + length bytes) view
read-size (Err e) kinds slice names new b bytes same view book read = tt

-- ---- the names of facts

abbrev text_for : ℕ → Entry → Option Text
text_for a e = cond (e.0 == a) (Some e.1) None

-- the entries of the new names of facts
pub admitted-len : (b now : Book) (facts : List Fact) (text : List ℕ) → IsBook b → IsBook now → now.kinds ≡ b.kinds → ((a : ℕ) → names_at now a ≡ names_with b facts a)
    → ((seen : List Entry) → Lists b seen → text ≡ entries_text (fresh same_entry seen (named facts))) → entries_len now ≡ entries_len b + length text
admitted-len b now facts text book next kinds are is =
    let seen = listed 0 b.names in
    let lists : Lists b seen = listed-names b.names in
    let es = fresh same_entry seen (named facts) in
    let rooms : (a : ℕ) → length (names_at now a) ≤ max_of (get_or b.kinds a kind.Number) = λ a. subst (λ (ks : List Kind). length (names_at now a) ≤ max_of (get_or ks a kind.Number)) kinds (next.within a) in
    let come : (a : ℕ) → get_or b.names a [] ++ for_attr a es ≡ names_at now a = λ a.
    ap (λ ns. ns ++ for_attr a es) (sym (lists a)) ∙ sym (filter_map-append (text_for a) seen es) ∙ ap (for_attr a) (sym (admitted-fresh seen (named facts))) ∙ admitted-for a seen (named facts)
    ∙ (λ i. admitted bytes_eq (lists a i) (named-for a facts i)) ∙ sym (are a) in
    let enters = entries-enter b.kinds (names_at now) rooms next.distinct b.names es book.same come in
    (λ i. len_of (λ a. sym (enters.1 a) i) (length ((kinds ∙ sym (kinds-after b es)) i))) ∙ after-len b es book.same enters.0 ∙ ap (λ (bytes : List ℕ). entries_len b + length bytes) (sym (is seen lists))

-- ---- the limit

names-limit : (f : Names) (n most : ℕ) → ((a : ℕ) → texts_len (f a) ≤ most) → len_of f n ≤ n * most
unfolding len_of
names-limit f zero most each = omega arith
names-limit f (suc n) most each = (let here = each n in let rest = names-limit f n most each in omega arith)

-- the entries of all names have at most 16 times 16,777,215 times 257 bytes
pub len-limit : (b : Book) → IsBook b → entries_len b ≤ entries_limit
len-limit b book =
    let each : (a : ℕ) → texts_len (names_at b a) ≤ name_limit * 257 = λ a.
    (let short = book.short a in
    let all = sum_by-le (λ (t : Text). 2 + length t) 257 (names_at b a) (λ k d low. (let here = short k d low in omega arith)) in
    let within = book.within a in
    let range = book.ranges a in
    omega arith) in
    let whole = names-limit (names_at b) (length b.kinds) (name_limit * 257) each in
    let few = book.few in
    omega arith

-- ---- no names, the names shown, and names that are dropped

none-long : (n : ℕ) → len_of (λ a. []) n ≡ 0
unfolding len_of
none-long zero = refl
none-long (suc n) = (let rest = none-long n in omega arith)

pub len-none : (s : Schema) → entries_len (no_names s) ≡ 0
len-none s = len-same (names_at (no_names s)) (λ a. []) (length (no_names s).kinds) (unnamed s.attrs) ∙ none-long (length (no_names s).kinds)

module _ (b : Book) (at : List ℕ) where
  -- where all names are shown
  pub shown-all : ((a : ℕ) → get_or at a 0 ≡ length (names_at b a)) → shown_len b at ≡ entries_len b
  shown-all all = len-same (shown_names b at) (names_at b) (length b.kinds) (λ a. take_all (get_or at a 0) (names_at b a) (let size = all a in omega arith))

  pub shown-less : shown_len b at ≤ entries_len b
  shown-less = len-less (shown_names b at) (names_at b) (length b.kinds) (λ a. sum_by-take-le (λ (t : Text). 2 + length t) (names_at b a) (get_or at a 0))

module _ (old new : Book) (at : List ℕ) (kinds : new.kinds ≡ old.kinds) where
  -- names that are dropped leave those shown
  pub shown-forgot : ((a : ℕ) → names_at new a ≡ take (get_or at a 0) (names_at old a)) → entries_len new ≡ shown_len old at
  shown-forgot are = λ i. len_of (λ a. are a i) (length (kinds i))

  -- the names of facts are put behind those shown
  pub shown-admitted : (facts : List Fact) → ((a : ℕ) → names_at new a ≡ names_with old facts a) → ((a : ℕ) → get_or at a 0 ≤ length (names_at old a)) → shown_len new at ≡ shown_len old at
  shown-admitted facts are within = λ i. len_of (λ a. front a i) (length (kinds i))
    where
      front : (a : ℕ) → shown_names new at a ≡ shown_names old at a
      front a =
          let more = admitted-more bytes_eq (names_at old a) (texts_at a facts) in
          ap (take (get_or at a 0)) (are a ∙ more.1) ∙ take-append-le (get_or at a 0) (names_at old a) more.0 (within a)
