-- A batch against the limits: what the plain machine makes of it.
use Rattle.attr_dict.proofs.Kept.{all-agree, names-past}
use Rattle.cube_schema.specs.Agreeing.{Agrees}
use Rattle.cube_schema.specs.Kinds.{max_at, max_of, no_attr}
use Rattle.cube_schema.specs.Lawful.{IsSchema}
use Rattle.cube_schema.specs.declared.schema.Attr.{Attr}
use Rattle.cube_schema.specs.declared.schema.Schema.{Schema}
use Rattle.cube_state.specs.Batches.{refusal_text}
use Rattle.fact_model.specs.Fact.{mass, mass_limit}
use Rattle.fact_model.specs.declared.fact.Fact.{Fact}
use Rattle.forest_open.proofs.Openings.{mass_past}
use Rattle.forest_refresh.specs.Limits.{TellsLimit}
use Rattle.forest_refresh.specs.declared.stop.BeginStop.{BeginStop}
use Rattle.spec_store.proofs.Schemas.{few_measures}
use Rattle.spec_store.specs.Held.{AreAccepted, HasNames}
use Rattle.spec_machine.specs.Machine.{fact_limit, first_full, first_heavy, full_refusal, heavy_refusal, refusal_of}
use Rattle.spec_machine.specs.World.{Warehouse}
use Rattle.std.proofs.Common.{Bool, List, None, Option, Some, [], ap, append-nil, arith, cond, false, get_or, inl, inr, length, refl, subst, suc, sym, true, zero, ℕ, ◌++◌, ◌+◌, ◌<◌, ◌∙◌, ◌∷◌, ◌≡◌, ◌≤◌}
use Rattle.std.proofs.lemmas.Bool.{cases_Bool}
use Rattle.std.proofs.lemmas.Bool.Decides.{nat_tests}
use Rattle.std.proofs.lemmas.List.{length-map}
use Rattle.std.specs.List.{All}
use Rattle.std.specs.Prelude.{nat_le, nat_lt}
use Rattle.spec_points.specs.Codes.{names_of}
use Rattle.forest_refresh.specs.declared.stop.BeginStop.TheVariants as begins

-- ---- the first of some items that passes

module _ {A : Type 0} (first : ℕ → List A → Option (List ℕ)) (size most : ℕ → A → ℕ) (name : A → List ℕ) (other : A) (none : (k : ℕ) → first k [] ≡ None)
    (one : (k : ℕ) (x : A) (xs : List A) → first k (x ∷ xs) ≡ cond (nat_le (size k x) (most k x)) (first (suc k) xs) (Some (name x))) where
  -- none does
  none_passes : (k : ℕ) (items : List A) → ((a : ℕ) → a < length items → size (k + a) (get_or items a other) ≤ most (k + a) (get_or items a other)) → first k items ≡ None
  none_passes k [] room = none k
  none_passes k (x ∷ xs) room =
      let here : size k x ≤ most k x = subst (λ (n : ℕ). size n x ≤ most n x) (omega arith) (room 0 (omega arith)) in
      let fits : nat_le (size k x) (most k x) ≡ true = grind (arith, nat_tests) in
      one k x xs ∙ (ap (λ (b : Bool). cond b (first (suc k) xs) (Some (name x))) fits
      ∙ none_passes (suc k) xs (λ a low. subst (λ (n : ℕ). size n (get_or xs a other) ≤ most n (get_or xs a other)) (omega arith) (room (suc a) (omega (arith, low)))))

  -- the one behind a others does
  one_passes : (k a : ℕ) (items : List A) → a < length items → ((c : ℕ) → c < a → size (k + c) (get_or items c other) ≤ most (k + c) (get_or items c other))
      → most (k + a) (get_or items a other) < size (k + a) (get_or items a other) → first k items ≡ Some (name (get_or items a other))
  one_passes k a [] low room full = absurd (omega (arith, low))
  one_passes k zero (x ∷ xs) low room full =
      let here : most k x < size k x = subst (λ (n : ℕ). most n x < size n x) (omega arith) full in
      let passes : nat_le (size k x) (most k x) ≡ false = grind (arith, nat_tests) in
      one k x xs ∙ ap (λ (b : Bool). cond b (first (suc k) xs) (Some (name x))) passes
  one_passes k (suc a) (x ∷ xs) low room full =
      let here : size k x ≤ most k x = subst (λ (n : ℕ). size n x ≤ most n x) (omega arith) (room 0 (omega arith)) in
      let fits : nat_le (size k x) (most k x) ≡ true = grind (arith, nat_tests) in
      one k x xs ∙ (ap (λ (b : Bool). cond b (first (suc k) xs) (Some (name x))) fits ∙ one_passes (suc k) a xs (omega (arith, low))
      (λ c below. subst (λ (n : ℕ). size n (get_or xs c other) ≤ most n (get_or xs c other)) (omega arith) (room (suc c) (omega (arith, below))))
      (subst (λ (n : ℕ). most n (get_or xs a other) < size n (get_or xs a other)) (omega arith) full))

-- ---- a batch

module _ (warehouse : Warehouse) (batch : List Fact) (lawful : IsSchema warehouse.schema) where
  abbrev schema : Schema
  schema = warehouse.schema

  abbrev all : List Fact
  all = warehouse.facts ++ batch

  past_few : nat_le (length all) fact_limit ≡ true → refusal_of schema all ≡ full_refusal schema all (first_full 0 schema.attrs all)
  past_few low = rw low refl

  past_named : nat_le (length all) fact_limit ≡ true → HasNames schema all → refusal_of schema all ≡ heavy_refusal (first_heavy 0 schema.measures all)
  past_named low named = past_few low ∙ ap (full_refusal schema all)
      (none_passes (λ k attrs. first_full k attrs all) (λ k attr. length (names_of all k)) (λ k attr. max_of attr.kind) (λ attr. attr.name) no_attr (λ k. refl) (λ k x xs. refl)
      0 schema.attrs (λ c low. subst (λ (n : ℕ). length (names_of all n) ≤ max_at schema c) (omega arith) (named c)))

  -- a batch that keeps the limits is not refused
  pub none_refused : AreAccepted warehouse.schema (warehouse.facts ++ batch) → refusal_of warehouse.schema (warehouse.facts ++ batch) ≡ None
  none_refused fine = past_named (let long = fine.few in grind (arith, nat_tests)) fine.named
      ∙ ap heavy_refusal (none_passes (λ k names. first_heavy k names all) (λ k name. mass k all) (λ k name. mass_limit) (λ name. name) [] (λ k. refl) (λ k x xs. refl)
      0 schema.measures (λ m low. fine.masses (0 + m) (omega (arith, low, few_measures schema lawful))))

  -- a full attribute is declared
  full_declared : All (Agrees warehouse.schema) all → (a : ℕ) → max_at warehouse.schema a < length (names_of all a) → a < length warehouse.schema.attrs
  full_declared each a full = elim (cases_Bool (nat_lt a (length warehouse.schema.attrs))) [
    | inl low ↦ grind (arith, nat_tests)
    | inr past ↦ absurd (let beyond : length warehouse.schema.attrs ≤ a = grind (arith, nat_tests) in omega (
      arith,
      full,
      ap length (names-past all (length warehouse.schema.attrs) a
          (λ k d low. (all-agree warehouse.schema all each k d low).values ∙ length-map warehouse.schema.attrs (λ (attr : Attr). attr.kind)) beyond),
    ))
  ]

  -- and so is a measure whose mass passes the limit
  heavy_declared : All (Agrees warehouse.schema) all → (m : ℕ) → mass_limit < mass m all → m < length warehouse.schema.measures
  heavy_declared each m heavy = elim (cases_Bool (nat_lt m (length warehouse.schema.measures))) [
    | inl low ↦ grind (arith, nat_tests)
    | inr past ↦ absurd (omega (arith, heavy, mass_past warehouse.schema all m each (grind (arith, nat_tests))))
  ]

  -- a batch that passes a limit is refused by it
  pub one_refused : All (Agrees warehouse.schema) (warehouse.facts ++ batch) → (why : BeginStop) (text : List ℕ) → TellsLimit warehouse.schema (warehouse.facts ++ batch) why
      → refusal_text warehouse.schema why ≡ Some text → refusal_of warehouse.schema (warehouse.facts ++ batch) ≡ Some text
  one_refused each begins.FactsFull text is same = let over : nat_le (length all) fact_limit ≡ false = grind (arith, nat_tests) in rw over same
  one_refused each (begins.NamesFull c) text is same =
      past_few (let long = is.0 in grind (arith, nat_tests)) ∙ (ap (full_refusal schema all)
      (one_passes (λ k attrs. first_full k attrs all) (λ k attr. length (names_of all k)) (λ k attr. max_of attr.kind) (λ attr. attr.name) no_attr (λ k. refl) (λ k x xs. refl)
      0 c schema.attrs (full_declared each c is.1.passes)
      (λ k below. subst (λ (n : ℕ). length (names_of all n) ≤ max_at schema k) (omega arith) (is.1.first k below))
      (subst (λ (n : ℕ). max_at schema c < length (names_of all n)) (omega arith) is.1.passes)) ∙ same)
  one_refused each (begins.Mass m) text is same =
      past_named (let long = is.0 in grind (arith, nat_tests)) is.1 ∙ (ap heavy_refusal
      (one_passes (λ k names. first_heavy k names all) (λ k name. mass k all) (λ k name. mass_limit) (λ name. name) [] (λ k. refl) (λ k x xs. refl)
      0 m schema.measures (heavy_declared each m is.2.passes) (λ j below. subst (λ (n : ℕ). mass n all ≤ mass_limit) (omega arith) (is.2.first j below))
      (subst (λ (n : ℕ). mass_limit < mass n all) (omega arith) is.2.passes)) ∙ same)
  one_refused each begins.Memory text is same = absurd (cc)
  one_refused each begins.Disk text is same = absurd (cc)

-- nor is an empty one, which changes no fact
pub empty_fits : (warehouse : Warehouse) → IsSchema warehouse.schema → AreAccepted warehouse.schema warehouse.facts → refusal_of warehouse.schema (warehouse.facts ++ []) ≡ None
empty_fits warehouse lawful fine = none_refused warehouse [] lawful (subst (AreAccepted warehouse.schema) (sym (append-nil warehouse.facts)) fine)
