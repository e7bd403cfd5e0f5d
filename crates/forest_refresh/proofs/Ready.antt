-- The body of the next generation is lawful, and a plan with it makes the facts of the batch accepted.
use Rattle.std.proofs.Common.{◌≡◌, ℕ, min, zero, suc, ◌+◌, ◌<◌, ◌≤◌, ◌^◌, ◌-◌, List, [], ◌∷◌, ◌++◌, map, length, replicate, slice_index, Result, Ok, Err, IfErr, refl, sym, ◌∙◌, ap, subst, arith, append_assoc, length-append}
use Rattle.std.specs.List.{All}
use Rattle.std.proofs.lemmas.List.{get_or-drop}
use Rattle.std.specs.Prelude.{IsErrAnd, nat_abs, get_or, take}
use Rattle.std.proofs.lemmas.List.{take_more}
use Rattle.fact_model.specs.Fact.{measure_at}
use Rattle.site_core.specs.Disk.{Files}
use Rattle.fact_model.specs.declared.fact.Fact.{Fact}
use Rattle.fact_model.specs.Fact.{mass, mass_limit}
use Rattle.spec_points.proofs.Members.{every-append, every-from_All, All-from_every}
use Rattle.site_core.specs.Causes.{HasCauseWhere}
use Rattle.spec_points.proofs.Sums.{mass-append}
use Rattle.forest_root.specs.declared.body.Body.{Body}
use Rattle.forest_root.specs.Body.{IsBody, max_facts, max_names_len}
use Rattle.page_fmt.specs.Formats.{wide_format}
use Rattle.cube_schema.specs.declared.schema.Schema.{Schema}
use Rattle.cube_schema.specs.Writing.{canonical}
use Rattle.forest_refresh.specs.declared.stop.BeginStop.TheVariants as begins
use Rattle.cube_schema.specs.Agreeing.{Agrees}
use Rattle.attr_dict.specs.Admitting.{entries_text}
use Rattle.spec_points.specs.Codes.{names}
use Rattle.spec_store.specs.Held.{AreAccepted, HasNames, IsLive, masses_of, names_text}
use Rattle.forest_refresh.specs.Limits.{TellsLimit}
use Rattle.forest_refresh.specs.Next.{AddsNames, HasMass, HasNumbers, KeepsLimits, added, next_body}
use Rattle.forest_commit.specs.Commit.{slot_of}

-- ---- what a live body tells

abbrev pub IsSound : Body → Type 0
IsSound body = IsBody (slot_of body) body

-- ---- masses

-- two numbers added up, or the greatest number that fits
abbrev pub capped : List ℕ → List Fact → ℕ → ℕ
capped old batch m = min (slice_index old m + min (mass m batch) (2 ^ 128 - 1)) (2 ^ 128 - 1)

pub each_of_four : (a b c d : ℕ) (f : ℕ → ℕ) → a ≡ f 0 → b ≡ f 1 → c ≡ f 2 → d ≡ f 3 → (k : ℕ) → k < 4 → slice_index (a ∷ b ∷ c ∷ d ∷ []) k ≡ f k
each_of_four a b c d f p q r s zero low = p
each_of_four a b c d f p q r s (suc zero) low = q
each_of_four a b c d f p q r s (suc (suc zero)) low = r
each_of_four a b c d f p q r s (suc (suc (suc zero))) low = s
each_of_four a b c d f p q r s (suc (suc (suc (suc k)))) low = absurd (omega arith)

-- four numbers, one by one
at_four : (f : ℕ → ℕ) (k : ℕ) → k < 4 → slice_index (map f (0 ∷ 1 ∷ 2 ∷ 3 ∷ [])) k ≡ f k
at_four f zero low = refl
at_four f (suc zero) low = refl
at_four f (suc (suc zero)) low = refl
at_four f (suc (suc (suc zero))) low = refl
at_four f (suc (suc (suc (suc k)))) low = absurd (omega arith)

module _ (accepted batch : List Fact) where
  mass_at : (k : ℕ) → k < 4 → slice_index (masses_of accepted) k + mass k batch ≡ mass k (accepted ++ batch)
  mass_at k low = omega (arith, at_four (λ m. mass m accepted) k low, mass-append k accepted batch)

  -- added up they are the masses of all
  masses_all : added (masses_of accepted) batch ≡ masses_of (accepted ++ batch)
  masses_all = λ i. sym (mass-append 0 accepted batch) i ∷ sym (mass-append 1 accepted batch) i ∷ sym (mass-append 2 accepted batch) i ∷ sym (mass-append 3 accepted batch) i ∷ []

  pub refused_mass : (schema : Schema) (m : ℕ) → length (accepted ++ batch) ≤ max_facts → HasNames schema (accepted ++ batch) → HasMass (masses_of accepted) batch m
      → TellsLimit schema (accepted ++ batch) (begins.Mass m)
  refused_mass schema m few named is = (
    few,
    named,
    record {
      four = is.0;
      passes = omega (arith, is.1, mass_at m is.0);
      first = λ k low. omega (arith, is.2 k low, mass_at k (omega (arith, is.0)));
    },
  )

-- the limits are kept
limits : (old : List ℕ) (accepted batch : List Fact) → old ≡ masses_of accepted → length (accepted ++ batch) ≤ max_facts
    → ((m : ℕ) → m < 4 → slice_index (added old batch) m ≤ mass_limit) → KeepsLimits (accepted ++ batch)
limits old accepted batch same few within = record {
  few = few;
  masses = λ m low. omega (arith, within m low, at_four (λ k. slice_index old k + mass k batch) m low, ap (λ (l : List ℕ). slice_index l m) same, mass_at accepted batch m low);
}

-- what is counted and added up is that of all, and keeps the limits
pub summed : (schema : Schema) (files : Files) (live : Body) (accepted batch : List Fact) (facts : ℕ) (old masses : List ℕ) → IsLive schema live accepted files
    → facts ≡ live.facts + length batch → facts ≤ max_facts → old ≡ live.masses → masses ≡ added old batch → ((m : ℕ) → m < 4 → slice_index masses m ≤ mass_limit)
    → (facts ≡ length (accepted ++ batch)) × (masses ≡ masses_of (accepted ++ batch)) × KeepsLimits (accepted ++ batch)
summed schema files live accepted batch facts old masses is counted few from up within =
    let all : facts ≡ length (accepted ++ batch) = omega (arith, counted, is.at.body_is.facts, length-append accepted batch) in
    let were : old ≡ masses_of accepted = from ∙ is.at.body_is.masses in (
      all,
      up ∙ (ap (λ (l : List ℕ). added l batch) were ∙ masses_all accepted batch),
      limits old accepted batch were (omega (arith, all, few)) (subst (λ (l : List ℕ). (m : ℕ) → m < 4 → slice_index l m ≤ mass_limit) up within),
    )

-- ---- a plan that may be carried out

zeros_at : (n i : ℕ) → slice_index (replicate n 0) i ≡ 0
zeros_at zero i = refl
zeros_at (suc n) zero = refl
zeros_at (suc n) (suc i) = zeros_at n i

-- the body of the next generation
pub body_is : (live : Body) (format names_len facts last : ℕ) (masses : List ℕ) (more : ℕ) → IsSound live → live.format ≤ format → format ≤ wide_format → live.names_len ≤ names_len → names_len ≤ max_names_len → live.format < format + more → facts ≡ live.facts + more → facts ≤ max_facts
    → last ≤ live.last + more → length masses ≡ 4 → ((m : ℕ) → m < 4 → slice_index masses m ≤ mass_limit)
    → IsBody (slot_of (next_body live format names_len facts last masses)) (next_body live format names_len facts last masses)
body_is live format names_len facts last masses more sound later known longer short some all few near long within = record {
  within = record {
    some_format = omega (arith, later, sound.within.some_format);
    known_format = known;
    views = sound.within.views;
    few_views = sound.within.few_views;
    schema_len = omega (arith, longer, sound.within.schema_len);
    names_len = short;
    facts = few;
    generation = omega (arith, all, sound.within.generation, some, later);
    last = omega (arith, near, all, sound.within.last);
    side = refl;
  };
  schema_fits = sound.schema_fits;
  masses = long;
  each_mass = λ i below. within i (omega (arith, below, long));
  counts = refl;
  each_count = record {
    few = λ i below. omega (arith, zeros_at 32 i);
    past = λ i below. get_or-drop live.views (replicate 32 0) i 0 ∙ zeros_at 32 (live.views + i);
  };
}

-- with numbers of points
pub body_with : (next : Body) (counts : List ℕ) → IsSound next → HasNumbers next.views next.facts counts → IsSound (record next { counts = counts })
body_with next counts sound numbers = record {
  within = record {
    some_format = sound.within.some_format;
    known_format = sound.within.known_format;
    views = sound.within.views;
    few_views = sound.within.few_views;
    schema_len = sound.within.schema_len;
    names_len = sound.within.names_len;
    facts = sound.within.facts;
    generation = sound.within.generation;
    last = sound.within.last;
    side = sound.within.side;
  };
  schema_fits = sound.schema_fits;
  masses = sound.masses;
  each_mass = sound.each_mass;
  counts = numbers.long;
  each_count = record {
    few = λ i below. numbers.few i;
    past = λ i below. get_or-drop next.views counts i 0 ∙ numbers.past (next.views + i) (omega arith);
  };
}

-- ---- accepted facts

-- the facts of both agree
pub both_agree : (schema : Schema) (xs ys : List Fact) → All (Agrees schema) xs → All (Agrees schema) ys → All (Agrees schema) (xs ++ ys)
both_agree schema xs ys h k = All-from_every (Agrees schema) (xs ++ ys) (every-append (Agrees schema) xs ys (every-from_All (Agrees schema) xs h) (every-from_All (Agrees schema) ys k))

-- the names of all facts, from those of accepted facts
pub more_names : (schema : Schema) (accepted batch : List Fact) (entries : List ℕ) → AddsNames accepted batch entries → names_text schema (accepted ++ batch) ≡ names_text schema accepted ++ entries
more_names schema accepted batch entries adds = ap (λ (l : List ℕ). canonical schema ++ l) adds ∙ sym (append_assoc (canonical schema) (entries_text (names accepted)) entries)

-- all facts are accepted
pub all_accepted : (schema : Schema) (accepted batch : List Fact) → All (Agrees schema) accepted → All (Agrees schema) batch → HasNames schema (accepted ++ batch) → KeepsLimits (accepted ++ batch)
    → AreAccepted schema (accepted ++ batch)
all_accepted schema accepted batch old new named keeps = record { each = both_agree schema accepted batch old new; few = keeps.few; named = named; masses = keeps.masses }

-- ---- through results

pub err_then : {A E : Type 0} (result : Result A E) (P Q : E → Type 0) → IfErr result P → ((e : E) → P e → Q e) → IfErr result Q
err_then (Ok x) P Q p then = tt
err_then (Err e) P Q p then = then e p

-- the error of an answer that has one
abbrev err_in : {B E : Type 0} → E → Result B E → E
err_in d (Ok x) = d
err_in d (Err e) = e

-- a cause goes on where the same error is handed on
pub cause_again : {A B E : Type 0} (fault : E) (before now : ℕ) (e : E) (result : Result B E) → HasCauseWhere {T = A} fault before now (Err e) → IsErrAnd result (λ x. x ≡ e) → HasCauseWhere fault before now result
cause_again fault before now e (Ok x) was is = absurd is
cause_again fault before now e (Err d) was is = record {
  later = was.later;
  once = was.once;
  failed = λ same. was.failed (ap Err (sym is ∙ ap (err_in d) same));
  other = λ apart. was.other (λ same. apart (ap Err (is ∙ ap (err_in e) same)));
  ok = tt;
}

-- an error of which something holds
pub err_if : {A E : Type 0} (result : Result A E) (P : E → Type 0) → IsErrAnd result P → IfErr result P
err_if (Ok x) P h = tt
err_if (Err e) P h = h

-- one fact more
pub mass_more : (m : ℕ) (facts : List Fact) (at : ℕ) (d : Fact) → at < length facts → mass m (take (at + 1) facts) ≡ mass m (take at facts) + nat_abs (measure_at m (get_or facts at d))
mass_more m facts at d lt =
    let one : mass m (get_or facts at d ∷ []) ≡ nat_abs (measure_at m (get_or facts at d)) = omega arith in
    omega (arith, ap (mass m) (take_more facts at d lt), mass-append m (take at facts) (get_or facts at d ∷ []), one)

-- where nothing failed, an error is no fault
pub cause_none : {A E : Type 0} (fault : E) (before now : ℕ) (e : E) (result : Result A E) → now ≡ before → (e ≡ fault → ⊥) → IsErrAnd result (λ x. x ≡ e) → HasCauseWhere fault before now result
cause_none fault before now e (Ok x) same not is = absurd is
cause_none {A = A} {E = E} fault before now e (Err d) same not is = record {
  later = omega (arith, same);
  once = omega (arith, same);
  failed = λ told. absurd (not (sym is ∙ ap (λ (r : Result A E). err_in d r) told));
  other = λ apart. same;
  ok = tt;
}
