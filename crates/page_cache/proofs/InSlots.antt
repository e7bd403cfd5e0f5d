-- The pages in the places of a map, once one was found there or put in.
use Rattle.std.proofs.Common.{◌≡◌, ◌≤◌, ◌<◌, ◌+◌, ◌-◌, ◌⊎◌, inl, inr, ℕ, zero, suc, Bool, true, false, List, [], ◌∷◌, length, map, max, take, Option, Some, None, is_some, slice_get, refl, sym, ap, ◌∙◌, subst, arith, take_all, take-take}
use Rattle.std.specs.Map.{lookup, lookup_entry, remove_entry}
use Rattle.std.specs.Prelude.{IsOk}
use Rattle.std.specs.Option.{option_map_or}
use Rattle.std.proofs.lemmas.Bool.{both_ways, cases_Bool, cond-true, cond-false}
use Rattle.std.proofs.lemmas.List.{length-map, take-map}
use Rattle.std.proofs.lemmas.Option.{slice_get_cases}
use Rattle.site_core.specs.Disk.{Files}
use Rattle.cube_point.specs.declared.point.Shape.{Shape}
use Rattle.page_fmt.specs.InFiles.{IsPageOf}
use Rattle.page_fmt.specs.Taking.{taken}
use Rattle.lru.specs.LruCache.{LruCache, displaced, lru_cache, promoted, put_entries}
use Rattle.lru.proofs.CallerLemmas.{lookup-put_entries}
use Rattle.page_cache.specs.declared.kept.Kept.{Kept}
use Rattle.page_cache.specs.declared.slots.Slots.{Slots}
use Rattle.page_cache.specs.declared.cache.CacheStop.{CacheStop}
use Rattle.page_cache.specs.Giving.{Cache, IsRefused, IsUnlawful, Name, is_kept, same_name, used}
use Rattle.page_cache.specs.Keeping.{Agrees}
use Rattle.page_cache.specs.Slots.{IsFound, IsGiven, cache_in, kept_in, unboxed}
use Rattle.page_cache.proofs.Keeping.{after}
use Rattle.page_cache.proofs.Used.{All-lookup, name-is, name-laws, remove-none}

-- pages with their names
abbrev Places : Type 0
Places = List (Name × Kept)

abbrev Map : Type 0
Map = LruCache Name Kept

-- nothing more is found among the first
pub take-none : {V : Type 0} (test : Name → Bool) (n : ℕ) (es : List (Name × V)) → lookup test es ≡ None → lookup test (take n es) ≡ None
take-none test zero es is = refl
take-none test (suc n) [] is = refl
take-none test (suc n) (e ∷ es) is = elim (cases_Bool (test e.0)) [
  | inl here ↦ let never : Some e.1 ≡ None = sym (cond-true _ (Some e.1) (lookup test es) here) ∙ is in cc
  | inr apart ↦ cond-false _ (Some e.1) (lookup test (take n es)) apart ∙ take-none test n es (sym (cond-false _ (Some e.1) (lookup test es) apart) ∙ is)
]

module _ (test : Name → Bool) where
  -- the page of the place that is found
  lookup-some : (es : Places) (place : Kept) → lookup test es ≡ Some place → lookup test (map unboxed es) ≡ Some place.page.value
  lookup-some [] place is = cc
  lookup-some (e ∷ es) place is = elim (cases_Bool (test e.0)) [
    | inl here ↦
        let same : Some e.1 ≡ Some place = sym (cond-true _ (Some e.1) (lookup test es) here) ∙ is in
        let value : e.1 ≡ place = cc in
        cond-true _ (Some e.1.page.value) (lookup test (map unboxed es)) here ∙ ap (λ (p : Kept). Some p.page.value) value
    | inr apart ↦
        cond-false _ (Some e.1.page.value) (lookup test (map unboxed es)) apart
        ∙ lookup-some es place (sym (cond-false _ (Some e.1) (lookup test es) apart) ∙ is)
  ]

  lookup-none : (es : Places) → lookup test es ≡ None → lookup test (map unboxed es) ≡ None
  lookup-none [] is = refl
  lookup-none (e ∷ es) is = elim (cases_Bool (test e.0)) [
    | inl here ↦ let never : Some e.1 ≡ None = sym (cond-true _ (Some e.1) (lookup test es) here) ∙ is in cc
    | inr apart ↦
        cond-false _ (Some e.1.page.value) (lookup test (map unboxed es)) apart
        ∙ lookup-none es (sym (cond-false _ (Some e.1) (lookup test es) apart) ∙ is)
  ]

  -- the same look-up of the whole entry
  entry-of : (es : Places) (place : Kept) → lookup test es ≡ Some place → (e : Name × Kept) × (lookup_entry test es ≡ Some e) × (e.1 ≡ place) × (test e.0 ≡ true)
  entry-of [] place is = cc
  entry-of (e ∷ es) place is = elim (cases_Bool (test e.0)) [
    | inl here ↦
        let same : Some e.1 ≡ Some place = sym (cond-true _ (Some e.1) (lookup test es) here) ∙ is in
        let value : e.1 ≡ place = cc in
        (e, cond-true _ (Some e) (lookup_entry test es) here, value, here)
    | inr apart ↦
        let rest = entry-of es place (sym (cond-false _ (Some e.1) (lookup test es) apart) ∙ is) in
        (rest.0, cond-false _ (Some e) (lookup_entry test es) apart ∙ rest.1, rest.2, rest.3)
  ]

  no-entry : (es : Places) → lookup test es ≡ None → lookup_entry test es ≡ None
  no-entry [] is = refl
  no-entry (e ∷ es) is = elim (cases_Bool (test e.0)) [
    | inl here ↦ let never : Some e.1 ≡ None = sym (cond-true _ (Some e.1) (lookup test es) here) ∙ is in cc
    | inr apart ↦ cond-false _ (Some e) (lookup_entry test es) apart ∙ no-entry es (sym (cond-false _ (Some e.1) (lookup test es) apart) ∙ is)
  ]

  remove-unboxed : (es : Places) → remove_entry test (map unboxed es) ≡ map unboxed (remove_entry test es)
  remove-unboxed [] = refl
  remove-unboxed (e ∷ es) = elim (cases_Bool (test e.0)) [
    | inl here ↦ cond-true _ (map unboxed es) (unboxed e ∷ remove_entry test (map unboxed es)) here ∙ ap (map unboxed) (sym (cond-true _ es (e ∷ remove_entry test es) here))
    | inr apart ↦
        cond-false _ (map unboxed es) (unboxed e ∷ remove_entry test (map unboxed es)) apart
        ∙ (ap (λ l. unboxed e ∷ l) (remove-unboxed es) ∙ ap (map unboxed) (sym (cond-false _ es (e ∷ remove_entry test es) apart)))
  ]

module _ (name : Name) (slots : Slots) where
  abbrev capacity : ℕ
  capacity = slots.capacity

  abbrev old : Map
  old = slots.map

  -- ---- a page that is kept

  all-kept : length old.entries ≤ capacity → kept_in capacity old.entries ≡ map unboxed old.entries
  all-kept few = take_all capacity (map unboxed old.entries) (omega (arith, few, length-map old.entries unboxed))

  -- a page that is not found is not kept
  found-as : (es : Places) → is_some (lookup (same_name name) (map unboxed es)) ≡ is_some (lookup (same_name name) es)
  found-as es = by (lookup (same_name name) es) refl
    where
      by : (o : Option Kept) → lookup (same_name name) es ≡ o → is_some (lookup (same_name name) (map unboxed es)) ≡ is_some (lookup (same_name name) es)
      by None is = ap is_some (lookup-none (same_name name) es is) ∙ sym (ap is_some is)
      by (Some place) is = ap is_some (lookup-some (same_name name) es place is) ∙ sym (ap is_some is)

  pub kept-is : length old.entries ≤ capacity → is_kept (cache_in slots) name ≡ is_some (lookup (same_name name) old.entries)
  kept-is few = ap (λ l. is_some (lookup (same_name name) l)) (all-kept few) ∙ found-as old.entries

  -- a page beyond the capacity lies there alone, and is not kept
  pub kept-beyond : length old.entries ≤ old.cap → capacity < length old.entries → is_kept (cache_in slots) name ≡ false
  kept-beyond few many =
      let none : capacity ≡ 0 = omega (arith, slots.places, few, many) in
      ap (λ n. is_some (lookup (same_name name) (kept_in n old.entries))) none

  pub absent-from : length old.entries ≤ old.cap → is_kept (cache_in slots) name ≡ false → (capacity ≡ 0) ⊎ (lookup (same_name name) old.entries ≡ None)
  absent-from few not = by capacity refl
    where
      none-of : (o : Option Kept) → is_some o ≡ false → o ≡ None
      none-of None is = refl
      none-of (Some place) is = cc

      by : (n : ℕ) → capacity ≡ n → (capacity ≡ 0) ⊎ (lookup (same_name name) old.entries ≡ None)
      by zero is = inl is
      by (suc n) is = inr (none-of (lookup (same_name name) old.entries) (sym (kept-is (omega (arith, slots.places, few, is))) ∙ not))

  -- a place that is found has its page kept
  pub kept-page : length old.entries ≤ capacity → (place : Kept) → lookup (same_name name) old.entries ≡ Some place → lookup (same_name name) (kept_in capacity old.entries) ≡ Some place.page.value
  kept-page few place found = ap (lookup (same_name name)) (all-kept few) ∙ lookup-some (same_name name) old.entries place found

  -- it is found, and goes to the front
  seen-as : (new : Slots) (kept : List (Name × List ℕ)) → new.capacity ≡ capacity → kept_in capacity new.map.entries ≡ kept → cache_in new ≡ record { capacity = capacity; kept = kept }
  seen-as new kept cap is = λ i. record { capacity = cap i; kept = (ap (λ n. kept_in n new.map.entries) cap ∙ is) i }

  module _ (place : Kept) (found : lookup (same_name name) old.entries ≡ Some place) (new : Map) (is : new ≡ lru_cache (promoted (same_name name) old.entries) old.cap) where
    front : (e : Name × Kept) → lookup_entry (same_name name) old.entries ≡ Some e → new.entries ≡ e ∷ remove_entry (same_name name) old.entries
    front e entry = ap (λ (m : Map). m.entries) is ∙ ap (λ o. option_map_or (λ x. x ∷ remove_entry (same_name name) old.entries) o old.entries) entry

    pub there-promoted : lookup (same_name name) new.entries ≡ Some place
    there-promoted =
        let entry = entry-of (same_name name) old.entries place found in
        let e = entry.0 in
        ap (lookup (same_name name)) (front e entry.1)
        ∙ (cond-true _ (Some e.1) (lookup (same_name name) (remove_entry (same_name name) old.entries)) entry.3 ∙ ap Some entry.2)

  pub given-kept : (place : Kept) → lookup (same_name name) old.entries ≡ Some place → (new : Slots) → new.map ≡ lru_cache (promoted (same_name name) old.entries) old.cap → length old.entries ≤ capacity → new.capacity ≡ capacity
      → IsGiven name slots new
  given-kept place found new is few cap =
      let entry = entry-of (same_name name) old.entries place found in
      let e = entry.0 in
      let named : e ≡ (name, place) = λ i. (sym (name-is name e.0 entry.3) i, entry.2 i) in
      record {
        place = place;
        there = there-promoted place found new.map is;
        kept = seen-as new (used capacity name place.page.value (kept_in capacity old.entries)) cap
            (ap (kept_in capacity) (front place found new.map is e entry.1)
            ∙ (ap (λ (x : Name × Kept). kept_in capacity (x ∷ remove_entry (same_name name) old.entries)) named
            ∙ ap (λ l. take capacity ((name, place.page.value) ∷ l)) (sym (remove-unboxed (same_name name) old.entries) ∙ ap (remove_entry (same_name name)) (sym (all-kept few)))));
        same = λ page at. let both : Some place.page.value ≡ Some page = sym (kept-page few place found) ∙ at in cc;
      }

  -- ---- a page that is not kept

  -- where no page may be kept, none is; and in a map of as many places a page that is not found is not kept
  pub not-kept : (capacity ≡ 0) ⊎ (lookup (same_name name) old.entries ≡ None) → lookup (same_name name) (kept_in capacity old.entries) ≡ None
  not-kept (inl none) = ap (λ n. lookup (same_name name) (kept_in n old.entries)) none
  not-kept (inr absent) = take-none (same_name name) capacity (map unboxed old.entries) (lookup-none (same_name name) old.entries absent)

  -- it is put in front
  pub there-put : (place : Kept) (new : Map) → new ≡ lru_cache (put_entries same_name old name place) old.cap → lookup (same_name name) new.entries ≡ Some place
  there-put place new is = ap (λ (m : Map). lookup (same_name name) m.entries) is ∙ lookup-put_entries same_name old name place name-laws

  pub given-put : (capacity ≡ 0) ⊎ (lookup (same_name name) old.entries ≡ None) → (place : Kept)
      → (new : Slots) → new.map ≡ lru_cache (put_entries same_name old name place) old.cap → new.capacity ≡ capacity → IsGiven name slots new
  given-put absent place new is cap = record {
    place = place;
    there = there-put place new.map is;
    kept = seen-as new (used capacity name place.page.value (kept_in capacity old.entries)) cap (by absent);
    same = λ page at. let never : None ≡ Some page = sym (not-kept absent) ∙ at in cc;
  }
    where
      put : (n : ℕ) → old.cap ≡ n + 1 → lookup (same_name name) old.entries ≡ None → new.map.entries ≡ (name, place) ∷ take n old.entries
      put n places none =
          ap (λ (m : Map). m.entries) is
          ∙ (ap (λ o. option_map_or (λ (e : Name × Kept). (e.0, place) ∷ remove_entry (same_name name) old.entries) o ((name, place) ∷ take (old.cap - 1) old.entries)) (no-entry (same_name name) old.entries none)
          ∙ ap (λ (k : ℕ). (name, place) ∷ take k old.entries) (omega (arith, places)))

      taken : (n : ℕ) → old.cap ≡ max n 1 → lookup (same_name name) old.entries ≡ None → kept_in n new.map.entries ≡ used n name place.page.value (kept_in n old.entries)
      taken zero places none = refl
      taken (suc n) places none =
          let kept : List (Name × List ℕ) = map unboxed old.entries in
          let gone : is_some (lookup (same_name name) (take (suc n) kept)) ≡ false = ap is_some (take-none (same_name name) (suc n) kept (lookup-none (same_name name) old.entries none)) in
          ap (kept_in (suc n)) (put n (omega (arith, places)) none)
          ∙ ap (λ l. (name, place.page.value) ∷ l)
          (ap (take n) (sym (take-map unboxed n old.entries))
          ∙ (take-take n n kept (omega arith) ∙ (sym (take-take n (suc n) kept (omega arith)) ∙ ap (take n) (sym (remove-none (same_name name) (take (suc n) kept) gone)))))

      by : (capacity ≡ 0) ⊎ (lookup (same_name name) old.entries ≡ None) → kept_in capacity new.map.entries ≡ used capacity name place.page.value (kept_in capacity old.entries)
      by (inl zero-is) = ap (λ n. kept_in n new.map.entries) zero-is ∙ ap (λ n. used n name place.page.value (kept_in n old.entries)) (sym zero-is)
      by (inr none) = taken capacity slots.places none

  -- a full map gives up a page
  pub gives-up : (place : Kept) → None ≡ displaced same_name old name place → 0 < old.cap → old.cap ≤ length old.entries → ⊥
  gives-up place none some full = by (lookup (same_name name) old.entries) refl
    where
      gone : Option Kept → Option (Name × Kept)
      gone o = option_map_or (λ (x : Kept). Some (name, x)) o (slice_get old.entries (old.cap - 1))

      none-some : (e : Name × Kept) → None ≡ Some e → ⊥
      none-some e is = cc

      by : (o : Option Kept) → lookup (same_name name) old.entries ≡ o → ⊥
      by (Some x) is = none-some (name, x) (none ∙ ap gone is)
      by None is = elim ((slice_get_cases old.entries (old.cap - 1)).1) [
        | inl there ↦ none-some there.0 (none ∙ (ap gone is ∙ there.2))
        | inr past ↦ omega (arith, past.0, full, some)
      ]

  -- ---- what was given

  module _ (new : Slots) (given : IsGiven name slots new) where
    -- a page that was kept is as a read gives it, where all are
    pub found-kept : is_kept (cache_in slots) name ≡ true → (files : Files) → Agrees files (cache_in slots) → IsFound (files name.0) name new
    found-kept kept files agree = by (lookup (same_name name) (kept_in capacity old.entries)) refl
      where
        by : (o : Option (List ℕ)) → lookup (same_name name) (kept_in capacity old.entries) ≡ o → IsFound (files name.0) name new
        by None is = absurd (both_ways (is_kept (cache_in slots) name) (ap is_some is) kept)
        by (Some page) is = (
          given.place,
          given.there,
          subst (IsPageOf (files name.0) name.1) (sym (given.same page is))
              (All-lookup (λ (e : Name × List ℕ). IsPageOf (files e.0.0) e.0.1 e.1) (kept_in capacity old.entries) name page agree is),
        )

    module _ (place : Kept) (there : Some place ≡ lookup (same_name name) new.map.entries) where
      same-place : given.place ≡ place
      same-place = let both : Some place ≡ Some given.place = there ∙ given.there in cc

      -- the page that is lent is the one last used
      pub lent-used : cache_in new ≡ after (cache_in slots) name place.page.value
      lent-used = given.kept ∙ ap (λ (x : Kept). after (cache_in slots) name x.page.value) same-place

      pub lent-same : (page : List ℕ) → lookup (same_name name) (kept_in capacity old.entries) ≡ Some page → place.page.value ≡ page
      lent-same page is = ap (λ (x : Kept). x.page.value) (sym same-place) ∙ given.same page is

      pub lent-page : (bytes : List ℕ) → IsFound bytes name new → IsPageOf bytes name.1 place.page.value
      lent-page bytes found =
          let both : Some place ≡ Some found.0 = there ∙ found.1 in
          let same : found.0 ≡ place = cc in
          subst (λ (x : Kept). IsPageOf bytes name.1 x.page.value) same found.2

-- ---- a page that is refused

-- it is none of the shape in its file, where each kept page is as a read gives it
pub refused-unlawful : (shape : Shape) (cache : Cache) (name : Name) (stop : CacheStop) (files : Files) → Agrees files cache → IsRefused shape cache name stop
    → IsUnlawful shape (files name.0) name.1 stop
refused-unlawful shape cache name stop files agree refused =
    let is = All-lookup (λ (e : Name × List ℕ). IsPageOf (files e.0.0) e.0.1 e.1) cache.kept name refused.page agree refused.kept in
    subst (IsUnlawful shape (files name.0) name.1) (sym refused.told)
    (record { whole = is.whole; unlawful = λ ok. refused.unlawful (subst (λ (p : List ℕ). IsOk (taken shape name.1 p)) (sym is.bytes_are) ok) })
