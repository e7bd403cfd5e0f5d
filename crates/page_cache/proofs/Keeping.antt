-- The pages that are kept once several were asked for.
use Rattle.std.proofs.Common.{◌≡◌, ◌≤◌, ◌+◌, ◌++◌, inl, inr, ℕ, true, false, cond, not, List, [], ◌∷◌, length, length-append, Result, Ok, MatchResult, IsTrue, refl, ap, ◌∙◌, subst, arith}
use Rattle.std.specs.Map.{remove_entry}
use Rattle.std.proofs.lemmas.Bool.{cases_Bool}
use Rattle.std.proofs.lemmas.List.Elements.{All-cons, All-nil, All-push, All-weaker, filter-append}
use Rattle.site_core.specs.Disk.{Files}
use Rattle.page_fmt.specs.InFiles.{IsPageOf}
use Rattle.page_cache.specs.declared.cache.Accepted.{Accepted}
use Rattle.page_cache.specs.Giving.{Cache, Name, is_kept, same_name, used}
use Rattle.page_cache.specs.Keeping.{Agrees, HasRoom, Keeps, LiesIn, unkept}
use Rattle.page_cache.proofs.Used.{remove-none, remove-one, used-again, used-all, used-itself, used-more, used-others}

-- ---- one page

-- the cache once a page was used
abbrev pub after : Cache → Name → List ℕ → Cache
after cache name page = record { capacity = cache.capacity; kept = used cache.capacity name page cache.kept }

-- where a page was given, the cache ends so
pub ends-after : {E : Type 0} (old now : Cache) (name : Name) (result : Result Accepted E) (page : Accepted)
    → MatchResult result (λ given. now ≡ after old name given.bytes.now) (λ _. now ≡ old) → result ≡ Ok page → now ≡ after old name page.bytes.now
ends-after old now name result page holds is = subst (λ r. MatchResult r (λ given. now ≡ after old name given.bytes.now) (λ _. now ≡ old)) is holds

pub after-agrees : (files : Files) (cache : Cache) (name : Name) (page : List ℕ) → Agrees files cache → IsPageOf (files name.0) name.1 page → Agrees files (after cache name page)
after-agrees files cache name page = used-all (λ (e : Name × List ℕ). IsPageOf (files e.0.0) e.0.1 e.1) cache.capacity name page cache.kept

pub after-lies : (file : ℕ) (cache : Cache) (number : ℕ) (page : List ℕ) → LiesIn file cache → LiesIn file (after cache (file, number) page)
after-lies file cache number page all = used-all (λ (e : Name × List ℕ). e.0.0 ≡ file) cache.capacity (file, number) page cache.kept all refl

module _ (cache : Cache) (file number : ℕ) where
  -- whether a page is kept tells how many of it are not
  unkept-none : is_kept cache (file, number) ≡ true → length (unkept cache file (number ∷ [])) ≡ 0
  unkept-none is = ap (λ b. length (cond (not b) (number ∷ []) [])) is

  unkept-one : is_kept cache (file, number) ≡ false → length (unkept cache file (number ∷ [])) ≡ 1
  unkept-one is = ap (λ b. length (cond (not b) (number ∷ []) [])) is

  -- no read for a page that is kept, and one otherwise
  pub one-read : {reads : ℕ} {before : ℕ} → (IsTrue (is_kept cache (file, number)) → reads ≤ before) → reads ≤ before + 1 → reads ≤ before + length (unkept cache file (number ∷ []))
  one-read none one = elim (cases_Bool (is_kept cache (file, number))) [
    | inl is ↦ omega (arith, none is)
    | inr not ↦ omega (arith, one, unkept-one not)
  ]

  module _ (page : List ℕ) where
    pub after-grows : length (after cache (file, number) page).kept ≤ length cache.kept + length (unkept cache file (number ∷ []))
    after-grows = elim (cases_Bool (is_kept cache (file, number))) [
      | inl is ↦ omega (arith, used-again cache.capacity (file, number) page cache.kept is)
      | inr not ↦ omega (arith, used-more cache.capacity (file, number) page cache.kept not, unkept-one not)
    ]

    pub after-keeps : HasRoom cache file (number ∷ []) → Keeps cache (after cache (file, number) page) file (number ∷ [])
    after-keeps room = record {
      asked = All-cons (λ n. IsTrue (is_kept (after cache (file, number) page) (file, n))) number [] (used-itself cache.capacity (file, number) page cache.kept fits) (All-nil _);
      before = λ name is. used-others cache.capacity (file, number) page cache.kept fits name is;
    }
      where
        fits : length (remove_entry (same_name (file, number)) cache.kept) + 1 ≤ cache.capacity
        fits = elim (cases_Bool (is_kept cache (file, number))) [
          | inl is ↦ omega (arith, room, remove-one (same_name (file, number)) cache.kept is)
          | inr not ↦ omega (arith, room, unkept-one not, ap length (remove-none (same_name (file, number)) cache.kept not))
        ]

-- ---- several pages

-- these pages were asked for: they are kept, with those that were kept before, at so many reads
pub record AreAsked (old now : Cache) (before then file : ℕ) (asked : List ℕ) : Type 0 where
  pub keeps : Keeps old now file asked
  pub grows : length now.kept ≤ length old.kept + length (unkept old file asked)
  pub reads : then ≤ before + length (unkept old file asked)

pub none-asked : (old : Cache) (before file : ℕ) → AreAsked old old before before file []
none-asked old before file = record {
  keeps = record { asked = All-nil _; before = λ name is. is };
  grows = omega arith;
  reads = omega arith;
}

pub length-unkept : (cache : Cache) (file : ℕ) (front back : List ℕ) → length (unkept cache file (front ++ back)) ≡ length (unkept cache file front) + length (unkept cache file back)
length-unkept cache file front back =
    ap length (filter-append (λ number. not (is_kept cache (file, number))) front back)
    ∙ length-append (unkept cache file front) (unkept cache file back)

module _ (old mid : Cache) (before then file : ℕ) (asked : List ℕ) (so_far : AreAsked old mid before then file asked) (number : ℕ) where
  -- a page that was kept at first is still kept
  fewer : length (unkept mid file (number ∷ [])) ≤ length (unkept old file (number ∷ []))
  fewer = elim (cases_Bool (is_kept old (file, number))) [
    | inl is ↦ omega (arith, unkept-none mid file number (so_far.keeps.before (file, number) is))
    | inr not ↦ elim (cases_Bool (is_kept mid (file, number))) [
      | inl is ↦ omega (arith, unkept-none mid file number is)
      | inr still ↦ omega (arith, unkept-one mid file number still, unkept-one old file number not)
    ]
  ]

  -- one page more, with or without an answer
  pub reads-more : (reads : ℕ) → reads ≤ then + length (unkept mid file (number ∷ [])) → reads ≤ before + length (unkept old file (asked ++ number ∷ []))
  reads-more reads one = omega (arith, one, so_far.reads, fewer, length-unkept old file asked (number ∷ []))

  pub one-more-asked : (new : Cache) (reads : ℕ) → mid.capacity ≡ old.capacity → HasRoom old file (asked ++ number ∷ [])
      → (HasRoom mid file (number ∷ []) → Keeps mid new file (number ∷ [])) → length new.kept ≤ length mid.kept + length (unkept mid file (number ∷ []))
      → reads ≤ then + length (unkept mid file (number ∷ [])) → AreAsked old new before reads file (asked ++ number ∷ [])
  one-more-asked new reads same room one grows one-read =
      let more = length-unkept old file asked (number ∷ []) in
      let keeps = one (omega (arith, room, so_far.grows, fewer, more, same)) in
      record {
        keeps = record {
          asked = All-push (λ n. IsTrue (is_kept new (file, n))) asked number
              (All-weaker (λ n. IsTrue (is_kept mid (file, n))) (λ n. IsTrue (is_kept new (file, n))) (λ n is. keeps.before (file, n) is) asked so_far.keeps.asked)
              (keeps.asked 0 number (omega arith));
          before = λ name is. keeps.before name (so_far.keeps.before name is);
        };
        grows = omega (arith, grows, so_far.grows, fewer, more);
        reads = reads-more reads one-read;
      }

-- there is room for the first of them where there is room for all
pub room-before : (cache : Cache) (file : ℕ) (front back : List ℕ) → HasRoom cache file (front ++ back) → HasRoom cache file front
room-before cache file front back room = omega (arith, room, length-unkept cache file front back)
