-- The rules of opening, one after the other, and that files which keep facts break none.
use Rattle.std.proofs.Common.{◌≡◌, ◌⊎◌, ℕ, zero, suc, ◌+◌, ◌*◌, ◌/◌, ◌<◌, ◌≤◌, true, false, List, [], ◌∷◌, ◌++◌, get_or, length, map, take, drop, Option, Some, None, inl, inr, refl, sym, ◌∙◌, ap, subst, arith, Result, Ok, Err, IfOk, IfErr, OnOk, IfSome, length-take, take-take, length-append, append-nil}
use Rattle.std.specs.Prelude.{◌==◌, ◌≢◌, pos, nat_abs}
use Rattle.std.specs.List.{All, list_all}
use Rattle.std.proofs.lemmas.Bool.{and_parts, eq-eqb, eqb-true, le-leb, lt-leb, true≢false}
use Rattle.std.proofs.lemmas.List.{get_or_past, take_at, drop_at, drop-take, take-append-drop}
use Rattle.std.proofs.lemmas.List.Elements.{All-tail}
use Rattle.site_core.specs.Disk.{Files, Disk}
use Rattle.site_core.specs.Moments.{IsStable}
use Rattle.fact_model.specs.declared.fact.Fact.{Fact}
use Rattle.fact_model.specs.Fact.{mass, measure_at}
use Rattle.fact_model.proofs.Masses.{mass-cons}
use Rattle.spec_points.specs.Codes.{names, names_of}
use Rattle.cube_schema.specs.declared.schema.Schema.{Schema}
use Rattle.cube_schema.specs.Agreeing.{Agrees}
use Rattle.cube_schema.specs.declared.schema.Attr.{Attr}
use Rattle.cube_schema.specs.declared.schema.Kind.TheVariants as kind
use Rattle.cube_schema.specs.Kinds.{max_of, measure_count, no_attr}
use Rattle.cube_schema.specs.Lawful.{IsSchema}
use Rattle.cube_schema.specs.Reading.{schema_of}
use Rattle.cube_schema.specs.Writing.{canonical}
use Rattle.attr_dict.specs.Admitting.{entries_text}
use Rattle.attr_dict.specs.Book.{Book, HoldsNamesOf, kind_at, no_names}
use Rattle.attr_dict.specs.Entering.{HasRead, after_entries}
use Rattle.attr_dict.proofs.Damages.{damaged-one, read-undamaged}
use Rattle.attr_dict.proofs.EntryReads.{read-only}
use Rattle.attr_dict.proofs.Kept.{all-agree, names-after, names-enter}
use Rattle.forest_root.specs.declared.body.Body.{Body}
use Rattle.forest_root.specs.Root.{body_at}
use Rattle.forest_root.specs.Keeps.{LiveAt}
use Rattle.forest_root.specs.Live.{IsFirstDamaged, IsLiveBody}
use Rattle.forest_root.proofs.Answered.{live_damaged, one_first}
use Rattle.forest_root.proofs.One.{held_is_live, one_body, one_live}
use Rattle.forest_root.specs.declared.forest.Store.{Store}
use Rattle.forest_root.specs.Forest.{pages_of_all}
use Rattle.spec_forest.specs.Forest.{forest}
use Rattle.spec_forest.proofs.Scanned.{forest-long}
use Rattle.select_map.specs.Views.{selected}
use Rattle.spec_store.specs.Held.{AreAccepted, FitsFormat, IsLive, KeepsFacts, held, masses_of, names_text}
use Rattle.spec_store.specs.Opened.{HasRoot}
use Rattle.spec_store.specs.Sides.{page_total, side_of}
use Rattle.spec_store.specs.Stored.{IsWhole}
use Rattle.spec_store.proofs.Schemas.{few_measures, some_measures}
use Rattle.spec_store.proofs.Standing.{all_stable}
use Rattle.spec_store.proofs.Shown.{named_shown}
use Rattle.spec_store.proofs.Storable.{storable}
use Rattle.forest_open.specs.declared.stop.OpenStop.{OpenStop}
use Rattle.forest_open.specs.declared.stop.OpenStop.TheVariants as stops
use Rattle.forest_open.specs.Breaks.{BreaksAt, TellsBreak}
use Rattle.forest_open.specs.Judging.{IsFound, IsNoDamage, IsWarehouse, Judges, JudgesRest, JudgesSide, MayBeOpened, NamesPlace}
use Rattle.forest_open.specs.Opening.{AreOpened, BreaksBody, BreaksEntries, BreaksEntry, BreaksNames, BreaksSide, HasSchema, Place, declared_by, entries_in, has_pages, is_of_schema, is_zero, schema_in, text_in}
use Rattle.forest_open.proofs.Declarations.{declared_again}

-- ---- the front of a file, piece by piece

pub front_more : (file bytes new : List ℕ) (at due : ℕ) → bytes ≡ take (length bytes) file → at ≡ length bytes → new ≡ bytes ++ take due (drop at file) → length new ≡ at + due
    → new ≡ take (length new) file
front_more file bytes new at due front place more long =
    let whole = drop-take at due file in
    let first : take at (take (at + due) file) ≡ bytes = take-take at (at + due) file (omega arith) ∙ (ap (λ n. take n file) place ∙ sym front) in
    more ∙ ((λ i. sym first i ++ sym whole i) ∙ (take-append-drop at (take (at + due) file) ∙ ap (λ n. take n file) (sym long)))

-- the front that counts, cut into the text and the entries
pub front_cut : (body : Body) (files : Files) (schema : Schema) (bytes text entries : List ℕ) (found : Option Schema) → body.schema_len ≤ body.names_len → body.names_len ≤ length (files 1)
    → bytes ≡ take body.names_len (files 1) → text ≡ take body.schema_len bytes → entries ≡ drop body.schema_len bytes → found ≡ declared_by text (schema_of text) → found ≡ Some schema
    → HasSchema body files schema × (entries ≡ entries_in body files)
front_cut body files schema bytes text entries found low there front cut behind declared some =
    let own : text ≡ text_in body files = cut ∙ (ap (take body.schema_len) front ∙ take-take body.schema_len body.names_len (files 1) low) in (
      record { there = there; found = ap (λ (t : List ℕ). declared_by t (schema_of t)) (sym own) ∙ (sym declared ∙ some) },
      behind ∙ ap (drop body.schema_len) front,
    )

-- ---- one place at most

-- a schema is one
some_is : (a b : Schema) (found : Option Schema) → found ≡ Some a → found ≡ Some b → a ≡ b
some_is a b found one other = ap (λ o. Rattle.std.specs.Prelude.unwrap_or o a) (sym one ∙ other)

none_some : (schema : Schema) (found : Option Schema) → found ≡ None → found ≡ Some schema → ⊥
none_some schema found none some = (let no = sym none ∙ some in cc)

module _ (body : Body) (files : Files) where
  names_one : (p q : Place) → BreaksNames body files p → BreaksNames body files q → p ≡ q
  names_one p q (inl short) (inl other) = short.1 ∙ sym other.1
  names_one p q (inl short) (inr other) = absurd (let less = short.0 in let more = other.0 in omega arith)
  names_one p q (inr none) (inl other) = absurd (let less = other.0 in let more = none.0 in omega arith)
  names_one p q (inr none) (inr other) = none.2 ∙ sym other.2

  -- names that break a rule give no schema
  names_apart : (p : Place) (schema : Schema) → BreaksNames body files p → HasSchema body files schema → ⊥
  names_apart p schema (inl short) has = (let less = short.0 in let more = has.there in omega arith)
  names_apart p schema (inr none) has = none_some schema (schema_in body files) none.1 has.found

  module _ (schema : Schema) (entries : List ℕ) where
    rest_one : (p q : Place) → BreaksEntry body schema entries p ⊎ BreaksSide body files schema entries p → BreaksEntry body schema entries q ⊎ BreaksSide body files schema entries q → p ≡ q
    rest_one p q (inl one) (inl other) =
        one.2 ∙ (ap (λ n. (1, body.schema_len + n)) (damaged-one (no_names schema) entries one.0 other.0 one.1 other.1) ∙ sym other.2)
    rest_one p q (inl one) (inr other) = absurd (read-undamaged (no_names schema) other.0 entries one.0 other.1 one.1)
    rest_one p q (inr one) (inl other) = absurd (read-undamaged (no_names schema) one.0 entries other.0 one.1 other.1)
    rest_one p q (inr one) (inr other) = one.3 ∙ sym other.3

    entries_one : (p q : Place) → BreaksEntries body files schema entries p → BreaksEntries body files schema entries q → p ≡ q
    entries_one p q (inl one) (inl other) = one.1 ∙ sym other.1
    entries_one p q (inl one) (inr other) = absurd (true≢false (sym other.0 ∙ one.0))
    entries_one p q (inr one) (inl other) = absurd (true≢false (sym one.0 ∙ other.0))
    entries_one p q (inr one) (inr other) = rest_one p q one.1 other.1

    -- files that are opened break none of these rules
    entries_kept : (p : Place) (book : Book) → is_of_schema body schema ≡ true → HasRead (no_names schema) book entries [] → has_pages body files schema ≡ true → BreaksEntries body files schema entries p → ⊥
    entries_kept p book view read pages (inl other) = true≢false (sym view ∙ other.0)
    entries_kept p book view read pages (inr (of_schema, inl entry)) = read-undamaged (no_names schema) book entries entry.0 read entry.1
    entries_kept p book view read pages (inr (of_schema, inr side)) = true≢false (sym pages ∙ side.2)

  -- the place at which they break a rule is one
  pub break_one : (p q : Place) → BreaksBody body files p → BreaksBody body files q → p ≡ q
  break_one p q (inl one) (inl other) = names_one p q one other
  break_one p q (inl one) (inr other) = absurd (names_apart p other.0 one other.1)
  break_one p q (inr one) (inl other) = absurd (names_apart q one.0 other one.1)
  break_one p q (inr one) (inr other) =
      let same = some_is other.0 one.0 (schema_in body files) other.1.found one.1.found in
      entries_one one.0 (entries_in body files) p q one.2 (subst (λ (s : Schema). BreaksEntries body files s (entries_in body files) q) same other.2)

  -- files that are opened break none
  pub opened_whole : (p : Place) (schema : Schema) (book : Book) → AreOpened body files schema book → BreaksBody body files p → ⊥
  opened_whole p schema book opened (inl other) = names_apart p schema other opened.declared
  opened_whole p schema book opened (inr other) =
      let same = some_is other.0 schema (schema_in body files) other.1.found opened.declared.found in
      entries_kept schema (entries_in body files) p book opened.of_schema opened.read opened.pages (subst (λ (s : Schema). BreaksEntries body files s (entries_in body files) p) same other.2)

-- ---- what the tests say together

-- what is said of the rules that are left is what is said of all
pub judged_all : (body : Body) (files now : Files) (schema : Schema) (entries : List ℕ) (result : Result (Option Store) OpenStop) → HasSchema body files schema → entries ≡ entries_in body files → now ≡ files
    → JudgesRest body now schema entries result → Judges body files result
judged_all body files now schema entries result has same stays judged =
    by result (subst (λ (f : Files). JudgesRest body f schema (entries_in body files) result) stays (subst (λ (bytes : List ℕ). JudgesRest body now schema bytes result) same judged))
  where
    by : (result : Result (Option Store) OpenStop) → JudgesRest body files schema (entries_in body files) result → Judges body files result
    by (Ok None) judged = judged
    by (Ok (Some store)) judged = (
      judged.0,
      record {
        declared = subst (HasSchema body files) (sym judged.1) has;
        of_schema = ap (is_of_schema body) judged.1 ∙ judged.2;
        read = subst (λ (s : Schema). HasRead (no_names s) store.dicts (entries_in body files) []) (sym judged.1) judged.3;
        pages = ap (has_pages body files) judged.1 ∙ judged.4;
      },
    )
    by (Err stops.Disk) judged = judged
    by (Err (stops.Damaged file offset)) judged = inr (schema, has, judged)
    by (Err stops.Memory) judged = judged

-- a side that is looked at is too short, or has all pages
module _ (body : Body) (files : Files) (schema : Schema) (end pages : ℕ) (long : end ≡ length (files (side_of body))) (count : pages ≡ page_total body schema) where
  pub side_short : (side : ℕ) (stop : OpenStop) → side ≡ side_of body → end / 4096 < pages → stop ≡ stops.Damaged side end → JudgesSide body files schema (Err stop)
  side_short side stop here few is =
      let short : has_pages body files schema ≡ false = lt-leb (4096 * page_total body schema) (length (files (side_of body))) (omega (arith, few, long, count)) in
      subst (λ (s : OpenStop). JudgesSide body files schema (Err s)) (sym is) (short, here, long)

  pub side_whole : pages ≤ end / 4096 → has_pages body files schema ≡ true
  side_whole few = le-leb (4096 * page_total body schema) (length (files (side_of body))) (omega (arith, few, long, count))

-- a body of a schema has its views
pub has_views : (body : Body) (schema : Schema) → is_of_schema body schema ≡ true → body.views ≡ length schema.views
has_views body schema of_schema = eqb-true body.views (length schema.views) (and_parts (body.views == length schema.views) (list_all is_zero (drop (measure_count schema) body.masses)) of_schema).0

-- the same of the files before calls that change nothing
pub judged_now : (body : Body) (now files : Files) (result : Result (Option Store) OpenStop) → now ≡ files → Judges body now result → Judges body files result
judged_now body now files result same judged = subst (λ (f : Files). Judges body f result) same judged

-- the live body is one
pub judged_as : (found body : Body) (files : Files) (result : Result (Option Store) OpenStop) → IsLiveBody found (files 0) → IsLiveBody body (files 0) → Judges found files result → Judges body files result
judged_as found body files result one other judged = subst (λ (b : Body). Judges b files result) (one_body (files 0) found body one other) judged

-- ---- files that keep facts break none

-- a measure that the facts do not have has no mass
pub mass_past : (schema : Schema) (facts : List Fact) (m : ℕ) → All (Agrees schema) facts → measure_count schema ≤ m → mass m facts ≡ 0
mass_past schema [] m each past = refl
mass_past schema (x ∷ facts) m each past =
    let none : measure_at m x ≡ pos 0 = get_or_past x.measures m (pos 0) (omega (arith, (each 0 x (omega arith)).measures)) in
    mass-cons m x facts ∙ (λ i. nat_abs (none i) + mass_past schema facts m (All-tail (Agrees schema) x facts each) past i)

zero_test : (n : ℕ) → n ≡ 0 → is_zero n ≡ true
zero_test n is = eq-eqb n 0 is

no_masses_past : (schema : Schema) (facts : List Fact) → IsSchema schema → All (Agrees schema) facts → list_all is_zero (drop (measure_count schema) (masses_of facts)) ≡ true
no_masses_past schema facts lawful each = by (measure_count schema) (some_measures schema lawful) (few_measures schema lawful) (λ m past. zero_test (mass m facts) (mass_past schema facts m each past))
  where
    by : (n : ℕ) → 1 ≤ n → n ≤ 4 → ((m : ℕ) → n ≤ m → is_zero (mass m facts) ≡ true) → list_all is_zero (drop n (masses_of facts)) ≡ true
    by zero some few past = absurd (omega arith)
    by (suc zero) some few past = rw (past 1 (omega arith), past 2 (omega arith), past 3 (omega arith)) refl
    by (suc (suc zero)) some few past = rw (past 2 (omega arith), past 3 (omega arith)) refl
    by (suc (suc (suc zero))) some few past = rw (past 3 (omega arith)) refl
    by (suc (suc (suc (suc zero)))) some few past = refl
    by (suc (suc (suc (suc (suc n))))) some few past = absurd (omega arith)

-- the kind of an attribute, as a book has it
kind_there : (attrs : List Attr) (a : ℕ) → get_or (map (λ (attr : Attr). attr.kind) attrs) a kind.Number ≡ (get_or attrs a no_attr).kind
kind_there [] a = refl
kind_there (attr ∷ attrs) zero = refl
kind_there (attr ∷ attrs) (suc a) = kind_there attrs a

-- each attribute has room for its names, as a book counts it
names_room : (schema : Schema) (facts : List Fact) → AreAccepted schema facts → (a : ℕ) → length (names_of facts a) ≤ max_of (kind_at (no_names schema) a)
names_room schema facts accepted a = (let kind = ap max_of (kind_there schema.attrs a) in let named = accepted.named a in omega arith)

module _ (schema : Schema) (facts : List Fact) (last slot : ℕ) (body : Body) (files : Files) (fits : FitsFormat body.format facts) (live : LiveAt (held body.format schema facts last) slot body files) where
  -- the names that count are there
  names_long : body.names_len ≤ length (files 1)
  names_long = (let long = length-take (length (names_text schema facts)) (files 1) in let same = ap length live.names in let count = live.body_is.names_len in omega arith)

  names_are : take body.names_len (files 1) ≡ names_text schema facts
  names_are = ap (λ n. take n (files 1)) live.body_is.names_len ∙ live.names

  pub text_is : text_in body files ≡ canonical schema
  text_is =
      let size = live.body_is.schema_len in
      let long = length-append (canonical schema) (entries_text (names facts)) in
      let count = live.body_is.names_len in
      sym (take-take body.schema_len body.names_len (files 1) (omega arith)) ∙ (ap (take body.schema_len) names_are ∙ take_at (canonical schema) (entries_text (names facts)) body.schema_len (sym size))

  pub entries_are : entries_in body files ≡ entries_text (names facts)
  entries_are = ap (drop body.schema_len) names_are ∙ drop_at (canonical schema) (entries_text (names facts)) body.schema_len (sym live.body_is.schema_len)

  -- all pages are there
  side_long : IsSchema schema → AreAccepted schema facts → 4096 * page_total body schema ≤ length (files (side_of body))
  side_long lawful accepted =
      let long : length (forest body.format schema facts) ≡ 4096 * page_total body schema = forest-long schema lawful facts (storable schema facts lawful accepted body.format fits)
      ∙ ap (λ (counts : List ℕ). 4096 * pages_of_all body.format schema counts (selected schema.views).trees) (sym live.body_is.counts) in
      let there : length (forest body.format schema facts) ≤ length (files (2 + slot)) = omega (arith, length-take (length (forest body.format schema facts)) (files (2 + slot)), ap length live.forest) in
      subst (λ s. 4096 * page_total body schema ≤ length (files (2 + s))) (sym live.decodes.1.within.side) (omega (arith, long, there))

-- the names that the entries of facts give
abbrev pub book_of : Schema → List Fact → Book
book_of schema facts = after_entries (no_names schema) (names facts)

module _ (schema : Schema) (facts : List Fact) (lawful : IsSchema schema) (accepted : AreAccepted schema facts) where
  own_hold : HoldsNamesOf (book_of schema facts) facts
  own_hold = names-after schema facts (all-agree schema facts accepted.each) (λ a low. names_room schema facts accepted a)

  module _ (body : Body) (files : Files) (is : IsLive schema body facts files) where
    -- the entries are read as these names
    own_read : HasRead (no_names schema) (book_of schema facts) (entries_in body files) []
    own_read = record {
      es = names facts;
      are = entries_are schema facts body.last is.slot body files is.fits is.at ∙ sym (append-nil (entries_text (names facts)));
      enter = names-enter schema facts (all-agree schema facts accepted.each) (λ a low. names_room schema facts accepted a);
      book = refl;
    }

    -- the files are opened
    pub kept_opened : AreOpened body files schema (book_of schema facts)
    kept_opened = record {
      declared = record {
        there = names_long schema facts body.last is.slot body files is.fits is.at;
        found = declared_again schema lawful (text_in body files) (text_is schema facts body.last is.slot body files is.fits is.at);
      };
      of_schema = rw (is.at.body_is.views, is.at.body_is.masses, no_masses_past schema facts lawful accepted.each, eq-eqb (length schema.views) (length schema.views) refl) refl;
      read = own_read;
      pages = le-leb (4096 * page_total body schema) (length (files (side_of body))) (side_long schema facts body.last is.slot body files is.fits is.at lawful accepted);
    }

    -- and other names are not read
    pub kept_names : (found : Book) → HasRead (no_names schema) found (entries_in body files) [] → HoldsNamesOf found facts
    kept_names found read =
        subst (λ (b : Book). HoldsNamesOf b facts) (sym (read-only (no_names schema) found (entries_in body files) (names facts) (entries_are schema facts body.last is.slot body files is.fits is.at) read)) own_hold

-- ---- the live body of files that keep facts

module _ (schema : Schema) (facts : List Fact) (last : ℕ) (body : Body) (files : Files) (kept : KeepsFacts schema facts last files) (live : IsLiveBody body (files 0)) where
  live_there : LiveAt (held kept.format schema facts last) kept.there.keeps.0 body files
  live_there = subst (λ (b : Body). LiveAt (held kept.format schema facts last) kept.there.keeps.0 b files) (sym (one_live (held kept.format schema facts last) kept.there.keeps.0 kept.there.keeps.1 body files kept.there.keeps.2 live)) kept.there.keeps.2

  live_format : body.format ≡ kept.format
  live_format = live_there.body_is.format

  -- it has the number that they keep
  pub live_last : body.last ≡ last
  live_last = live_there.body_is.last

  pub live_body : IsLive schema body facts files
  live_body = record {
    slot = kept.there.keeps.0;
    fits = subst (λ (f : ℕ). FitsFormat f facts) (sym live_format) kept.there.fits;
    at = subst (λ n. LiveAt (held body.format schema facts n) kept.there.keeps.0 body files) (sym live_last)
        (subst (λ (f : ℕ). LiveAt (held f schema facts last) kept.there.keeps.0 body files) (sym live_format) live_there);
  }

-- files that keep facts have no slot whose body does not decode
pub kept_decodes : (schema : Schema) (facts : List Fact) (last slot : ℕ) (files : Files) → KeepsFacts schema facts last files → IsFirstDamaged slot (files 0) → ⊥
kept_decodes schema facts last slot files kept first = live_damaged (files 0) kept.there.keeps.1 slot (held_is_live (held kept.format schema facts last) kept.there.keeps.0 kept.there.keeps.1 files kept.there.keeps.2) first

-- the names that the live body counts are those of the facts
pub names_counted : (schema : Schema) (facts : List Fact) (last : ℕ) (body : Body) (files : Files) → KeepsFacts schema facts last files → IsLiveBody body (files 0) → body.names_len ≡ length (names_text schema facts)
names_counted schema facts last body files kept live = (live_body schema facts last body files kept live).at.body_is.names_len

-- ---- what opening answers

module _ (schema : Schema) (facts : List Fact) (last : ℕ) (body : Body) (now files : Files) (lawful : IsSchema schema) (accepted : AreAccepted schema facts)
    (kept : KeepsFacts schema facts last files) (live : IsLiveBody body (files 0)) where
  is_live : IsLive schema body facts files
  is_live = live_body schema facts last body files kept live

  pub warehouse_as : (result : Result (Option Store) OpenStop) → now ≡ files → Judges body files result → IfOk result (λ found. IfSome found IsWhole) → IfOk result (IsWarehouse schema facts last now)
  warehouse_as (Ok None) same judged whole = judged
  warehouse_as (Ok (Some store)) same judged whole =
      let opened = kept_opened schema facts lawful accepted body files is_live in
      let is = some_is store.forest.schema schema (schema_in body files) judged.1.declared.found opened.declared.found in
      let read = subst (λ (s : Schema). HasRead (no_names s) store.dicts (entries_in body files) []) is judged.1.read in
      record {
        schema_is = is;
        last_is = ap (λ (b : Body). b.last) judged.0 ∙ live_last schema facts last body files kept live;
        stored = record {
          accepted = subst (λ (s : Schema). AreAccepted s facts) (sym is) accepted;
          live = subst (λ (s : Schema). IsLive s store.forest.body facts now) (sym is) (subst (λ (f : Files). IsLive schema store.forest.body facts f) (sym same) (subst (λ (b : Body). IsLive schema b facts files) (sym judged.0) is_live));
          names = named_shown store facts whole (kept_names schema facts lawful accepted body files is_live store.dicts read);
        };
      }
  warehouse_as (Err stop) same judged whole = tt

  pub undamaged_as : (result : Result (Option Store) OpenStop) → Judges body files result → IfErr result IsNoDamage
  undamaged_as (Ok found) judged = tt
  undamaged_as (Err stops.Disk) judged = tt
  undamaged_as (Err (stops.Damaged file offset)) judged =
      opened_whole body files (file, offset) schema (book_of schema facts) (kept_opened schema facts lawful accepted body files is_live) judged
  undamaged_as (Err stops.Memory) judged = tt

-- what is known of files that were opened, whatever they hold
pub opened_as : (body : Body) (now : Files) (disk : Disk) (result : Result (Option Store) OpenStop) → now ≡ disk.files → IsStable disk → IsLiveBody body (now 0)
    → Judges body now result → IfOk result (λ found. MayBeOpened found disk)
opened_as body now disk (Ok None) same stable live judged = absurd judged
opened_as body now disk (Ok (Some store)) same stable live judged = record {
  stable = all_stable disk stable;
  root = subst (λ (b : Body). HasRoot b disk.files) (sym judged.0) (subst (HasRoot body) same (record {
    gate = (let there = live.raised.there in let side = live.decodes.1.within.side in omega arith);
    names = judged.1.declared.there;
  }));
}
opened_as body now disk (Err stop) same stable live judged = tt

-- what is opened has the live body
pub found_as : (body : Body) (files : Files) (result : Result (Option Store) OpenStop) → IsLiveBody body (files 0) → Judges body files result → IfOk result (IsFound files)
found_as body files (Ok None) live judged = absurd judged
found_as body files (Ok (Some store)) live judged =
    (subst (λ (b : Body). IsLiveBody b (files 0)) (sym judged.0) live, subst (λ (b : Body). AreOpened b files store.forest.schema store.dicts) (sym judged.0) judged.1)
found_as body files (Err stop) live judged = tt

-- damage that is told is where a rule is broken
pub damaged_as : (body : Body) (files : Files) (result : Result (Option Store) OpenStop) → IsLiveBody body (files 0) → Judges body files result → IfErr result (TellsBreak files)
damaged_as body files (Ok found) live judged = tt
damaged_as body files (Err stops.Disk) live judged = tt
damaged_as body files (Err (stops.Damaged file offset)) live judged = inr (body, live, judged)
damaged_as body files (Err stops.Memory) live judged = tt

-- files in which a rule is broken are not opened, and the place is named
pub broken_as : (body : Body) (files : Files) (place : Place) (result : Result (Option Store) OpenStop) → BreaksBody body files place → Judges body files result
    → IfErr result (NamesPlace place) × OnOk result ⊥
broken_as body files place (Ok None) broken judged = absurd judged
broken_as body files place (Ok (Some store)) broken judged = (tt, opened_whole body files place store.forest.schema store.dicts judged.1 broken)
broken_as body files place (Err stops.Disk) broken judged = (tt, tt)
broken_as body files place (Err (stops.Damaged file offset)) broken judged = (break_one body files place (file, offset) broken judged, tt)
broken_as body files place (Err stops.Memory) broken judged = (tt, tt)

-- the same at a place where the files break a rule
pub broken_at : (body : Body) (files : Files) (place : Place) (result : Result (Option Store) OpenStop) → IsLiveBody body (files 0) → BreaksAt files place → Judges body files result
    → IfErr result (NamesPlace place) × OnOk result ⊥
broken_at body files place result live (inl damaged) judged = absurd (live_damaged (files 0) body damaged.0 live damaged.1)
broken_at body files place result live (inr other) judged =
    broken_as body files place result (subst (λ (b : Body). BreaksBody b files place) (one_body (files 0) other.0 body other.1 live) other.2) judged

-- where one slot is damaged, no body is live, and it is the first one
pub one_break : (slot : ℕ) (files : Files) (place : Place) → IsFirstDamaged slot (files 0) → BreaksAt files place → place ≡ (0, body_at slot)
one_break slot files place first (inl other) = other.2 ∙ ap (λ s. (0, body_at s)) (one_first (files 0) other.0 slot other.1 first)
one_break slot files place first (inr live) = absurd (live_damaged (files 0) live.0 slot live.1 first)

-- what `live` found behind calls that change nothing
pub found_now : (found : Option Body) (body : Body) (now files : Files) → now ≡ files → found ≡ Some body → IfSome found (λ b. IsLiveBody b (now 0)) → IsLiveBody body (files 0)
found_now found body now files same is live =
    subst (λ (f : Files). IsLiveBody body (f 0)) same (subst (λ (o : Option Body). IfSome o (λ b. IsLiveBody b (now 0))) is live)

-- the first damaged slot that `live` named behind such calls
pub damaged_now : (slot : ℕ) (now files : Files) → now ≡ files → IsFirstDamaged slot (now 0) → IsFirstDamaged slot (files 0)
damaged_now slot now files same first = subst (λ (f : Files). IsFirstDamaged slot (f 0)) same first

-- what holds at each stop holds where no file failed
pub unless_failed : {A P : Type 0} (result : Result A OpenStop) → P → IfErr result (λ stop. stop ≢ stops.Disk → P)
unless_failed (Ok found) is = tt
unless_failed (Err stop) is = λ other. is
