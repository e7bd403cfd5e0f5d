-- Facts of a schema are such that leaves hold their points.
use Rattle.std.proofs.Common.{◌≡◌, ℕ, suc, ◌<◌, ◌≤◌, ◌^◌, Bool, true, List, length, get_or, inl, inr, sym, ap, subst, arith}
use Rattle.std.proofs.lemmas.Bool.{cases_Bool, ltb-false}
use Rattle.std.proofs.lemmas.List.{get_or-map}
use Rattle.std.specs.List.{All}
use Rattle.fact_model.specs.declared.fact.Fact.{Fact}
use Rattle.fact_model.specs.declared.fact.Value.{Value}
use Rattle.fact_model.specs.declared.fact.Value.TheVariants.{Word, Number}
use Rattle.fact_model.specs.Limits.{IsWithin}
use Rattle.attr_dict.specs.Admitting.{Agrees as AgreesKinds, HasSmallCode, HasSmallCodes}
use Rattle.attr_dict.specs.Book.{Book, IsBook, kind_at, names_at, no_names}
use Rattle.attr_dict.specs.Entering.{after_entries}
use Rattle.attr_dict.proofs.Kept.{all-agree, book-own, codes-small, kinds-after, names-after}
use Rattle.cube_schema.specs.Agreeing.{Agrees}
use Rattle.cube_schema.specs.declared.schema.Attr.{Attr}
use Rattle.cube_schema.specs.declared.schema.Kind.{Kind}
use Rattle.cube_schema.specs.declared.schema.Kind.TheVariants as kind
use Rattle.cube_schema.specs.declared.schema.Schema.{Schema}
use Rattle.cube_schema.specs.Kinds.{max_of, measure_count, no_attr}
use Rattle.cube_schema.specs.Lawful.{IsSchema}
use Rattle.spec_points.specs.Codes.{Text, names, names_of}
use Rattle.spec_points.specs.Points.{Names, coord}
use Rattle.spec_points.specs.Agree.{IsCoded, narrow_limit}
use Rattle.spec_points.proofs.Codes.{own-names}
use Rattle.spec_points.specs.Light.{KeepMasses}
use Rattle.spec_forest.specs.Storable.{AreStorable, HasCodesFor}
use Rattle.forest_root.specs.Body.{max_facts}
use Rattle.page_fmt.specs.Formats.{is_wide, wide_format}
use Rattle.page_entry.specs.Stored.{IsCoordinate}
use Rattle.page_entry.proofs.Widths.{narrow-fits, wide-is}
use Rattle.fact_model.specs.Fact.{value_at}
use Rattle.spec_store.specs.Held.{FitsFormat, HasNarrowNumbers, AreAccepted}

-- the kind of an attribute, from the list of kinds
kinds_same : (schema : Schema) (a : ℕ) → a < length schema.attrs → (get_or schema.attrs a no_attr).kind ≡ kind_at (no_names schema) a
kinds_same schema a low = sym (get_or-map (λ (attr : Attr). attr.kind) schema.attrs a no_attr kind.Number low)

-- ---- the points of facts under names

-- a small code is a coordinate of 64 bits
wide-code : (wide : Bool) (names : List Text) (v : Value) → wide ≡ true → HasSmallCode names v → IsCoordinate wide (coord names v)
wide-code wide names (Word t) is small = narrow-fits wide (coord names (Word t)) (omega (arith, small))
wide-code wide names (Number n) is small = subst (λ (w : ℕ). suc n < 256 ^ w) (sym (wide-is wide is)) (omega (arith, small))

-- and of 32 where a number is narrow
narrow-code : (wide : Bool) (names : List Text) (v : Value) → HasSmallCode names v → IsWithin narrow_limit v → IsCoordinate wide (coord names v)
narrow-code wide names (Word t) small narrow = narrow-fits wide (coord names (Word t)) (omega (arith, small))
narrow-code wide names (Number n) small narrow = narrow-fits wide (suc n) (omega (arith, narrow))

small-coded : (format : ℕ) (names : Names) (x : Fact) → HasSmallCodes names x → (format < wide_format → HasNarrowNumbers x) → HasCodesFor format names x
small-coded format names x small fits a = elim (cases_Bool (is_wide format)) [
  | inl is ↦ wide-code (is_wide format) (names a) (value_at x a) is (small a)
  | inr not ↦ narrow-code (is_wide format) (names a) (value_at x a) (small a) (fits (omega (arith, ltb-false 1 format not)) a)
]

-- facts of the schema whose codes are small, and which fit the format
pub storable_by : (format : ℕ) (schema : Schema) (names : Names) (facts : List Fact) → All (Agrees schema) facts → All (IsCoded names) facts → All (HasSmallCodes names) facts
    → FitsFormat format facts → length facts ≤ max_facts → KeepMasses facts → AreStorable format names (measure_count schema) facts
storable_by format schema names facts agree coded small fits few masses = record {
  coded = coded;
  narrow = λ i d low. small-coded format names (get_or facts i d) (small i d low) (λ below. fits.narrow below i d low);
  numbers = λ i d low. omega (arith, (agree i d low).measures);
  masses = masses;
  few = few;
}

module _ (schema : Schema) (facts : List Fact) (lawful : IsSchema schema) (accepted : AreAccepted schema facts) where
  agree_kinds : All (AgreesKinds (no_names schema).kinds) facts
  agree_kinds = all-agree schema facts accepted.each

  -- the names of accepted facts make a book
  abbrev own_book : Book
  own_book = after_entries (no_names schema) (names facts)

  few_names : (a : ℕ) → a < length schema.attrs → length (names_of facts a) ≤ max_of (kind_at (no_names schema) a)
  few_names a low = omega (arith, accepted.named a, ap max_of (kinds_same schema a low))

  own_is_book : IsBook own_book
  own_is_book = book-own schema facts lawful agree_kinds few_names

  own_names_are : names_at own_book ≡ names_of facts
  own_names_are = λ i a. names-after schema facts agree_kinds few_names a i

  own_small : All (HasSmallCodes (names_of facts)) facts
  own_small = subst (λ (ns : Names). All (HasSmallCodes ns) facts) own_names_are
      (λ i d low. codes-small own_book (get_or facts i d) own_is_book
      (subst (λ (ks : List Kind). AgreesKinds ks (get_or facts i d)) (sym (kinds-after (no_names schema) (names facts))) (agree_kinds i d low)))

  -- their points are such that a leaf holds them
  pub storable : (format : ℕ) → FitsFormat format facts → AreStorable format (names_of facts) (measure_count schema) facts
  storable format fits = storable_by format schema (names_of facts) facts accepted.each (own-names facts) own_small fits accepted.few accepted.masses

-- each list of facts fits the wide format
pub any-wide : (facts : List Fact) → FitsFormat wide_format facts
any-wide facts = record { narrow = λ low. absurd (omega (arith, low)) }
