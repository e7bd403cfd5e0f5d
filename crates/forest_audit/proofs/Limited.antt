-- The coordinates of the points of facts stand for values.
use Rattle.std.proofs.Common.{◌≡◌, ◌≤◌, inl, inr, ℕ, zero, suc, Bool, true, false, cond, List, [], ◌∷◌, ◌++◌, Option, Some, None, get_or, length, map, replicate, refl, ap, sym, ◌∙◌, arith, subst}
use Rattle.std.specs.Prelude.{option_map, slice_index, unwrap_or}
use Rattle.std.specs.List.{All, AllByRecursion}
use Rattle.std.specs.Str.{bytes_eq}
use Rattle.std.proofs.lemmas.Bool.{cases_lt}
use Rattle.std.proofs.lemmas.List.{get_or_past}
use Rattle.fact_model.specs.declared.fact.Fact.{Fact}
use Rattle.fact_model.specs.declared.fact.Value.{Value}
use Rattle.fact_model.specs.declared.fact.Value.TheVariants.{Word, Number}
use Rattle.fact_model.specs.Fact.{value_at}
use Rattle.attr_dict.specs.Admitting.{Agrees}
use Rattle.attr_dict.specs.Book.{Book, HoldsNamesOf, kind_at, no_names}
use Rattle.cube_point.specs.declared.point.Entry.{Entry}
use Rattle.cube_schema.specs.Agreeing.{IsOfKind}
use Rattle.cube_schema.specs.Kinds.{measure_count}
use Rattle.cube_schema.specs.declared.schema.Kind.{Kind}
use Rattle.cube_schema.specs.declared.schema.Kind.TheVariants as kind
use Rattle.cube_schema.specs.declared.schema.Schema.{Schema}
use Rattle.spec_forest.specs.Forest.{view_entries}
use Rattle.spec_forest.specs.Storable.{AreStorable}
use Rattle.spec_forest.proofs.Cells.{each-point}
use Rattle.audit_tree.specs.Packed.{IsWithin}
use Rattle.tree_pack.specs.Pages.{joined}
use Rattle.spec_points.specs.Codes.{Text, names_of, place}
use Rattle.spec_points.specs.Entries.{entry_of}
use Rattle.spec_points.specs.Points.{PlacedCell, View, coord, padded, place_of, points}
use Rattle.spec_points.proofs.Members.{every-append, every-both, every-from_All, every-map}
use Rattle.forest_audit.specs.Limits.{attr_limit, limit_for}
use Rattle.forest_audit.proofs.Slots.{has-arity, views_in}

-- ---- the code of a value

-- a text has at most the code of the last name
place-few : (t : Text) (ns : List Text) → coord ns (Word t) ≤ length ns
place-few t [] = omega arith
place-few t (y ∷ ys) = by (bytes_eq t y) (place bytes_eq t ys) (place-few t ys)
  where
    by : (same : Bool) (o : Option ℕ) → unwrap_or (option_map suc o) 0 ≤ length ys → unwrap_or (option_map suc (cond same (Some 0) (option_map suc o))) 0 ≤ suc (length ys)
    by true o few = omega arith
    by false None few = omega arith
    by false (Some i) few = omega (arith, few)

coord-within : (k : Kind) (ns : List Text) (v : Value) → IsOfKind k v → coord ns v ≤ limit_for k ns
coord-within (kind.Word max) ns (Word t) is = place-few t ns
coord-within (kind.Word max) ns (Number n) is = absurd is
coord-within kind.Number ns (Word t) is = absurd is
coord-within kind.Number ns (Number n) is = omega (arith, is)

-- an attribute that there is not is a number, and its value 0
of-kind : (kinds : List Kind) (x : Fact) → Agrees kinds x → (a : ℕ) → IsOfKind (get_or kinds a kind.Number) (value_at x a)
of-kind kinds x is a = elim (cases_lt a (length kinds)) [
  | inl lt ↦ is.each a lt
  | inr not ↦
      let number : value_at x a ≡ Number 0 = get_or_past x.values a (Number 0) (omega (arith, not, is.values)) in
      let zero-fits : IsOfKind kind.Number (Number 0) = omega arith in
      subst (λ (k : Kind). IsOfKind k (value_at x a)) (sym (get_or_past kinds a kind.Number not)) (subst (λ (v : Value). IsOfKind kind.Number v) (sym number) zero-fits)
]

-- ---- the place of a fact

zeros-none : (n i : ℕ) → slice_index (replicate n 0) i ≡ 0
zeros-none zero i = refl
zeros-none (suc n) zero = refl
zeros-none (suc n) (suc i) = zeros-none n i

mapped-le : (c g : ℕ → ℕ) → ((a : ℕ) → c a ≤ g a) → (view : List ℕ) (p q i : ℕ) → slice_index (map c view ++ replicate p 0) i ≤ slice_index (map g view ++ replicate q 0) i
mapped-le c g le [] p q i = omega (arith, zeros-none p i)
mapped-le c g le (a ∷ view) p q zero = le a
mapped-le c g le (a ∷ view) p q (suc i) = mapped-le c g le view p q i

module _ (schema : Schema) (book : Book) (facts : List Fact) (agree : All (Agrees (no_names schema).kinds) facts) (named : HoldsNamesOf book facts) where
  -- the limits of a view
  abbrev pub row : View → List ℕ
  row view = padded (map (attr_limit schema book) view)

  -- no coordinate is above its limit
  abbrev Bounded : View → List ℕ → Type 0
  Bounded view at = (i : ℕ) → slice_index at i ≤ slice_index (row view) i

  code-within : (x : Fact) → Agrees (no_names schema).kinds x → (a : ℕ) → coord (names_of facts a) (value_at x a) ≤ attr_limit schema book a
  code-within x is a =
      subst (λ (ns : List Text). coord (names_of facts a) (value_at x a) ≤ limit_for (kind_at (no_names schema) a) ns) (sym (named a))
      (coord-within (kind_at (no_names schema) a) (names_of facts a) (value_at x a) (of-kind (no_names schema).kinds x is a))

  place-within : (view : View) (x : Fact) → Agrees (no_names schema).kinds x → Bounded view (place_of (names_of facts) view x)
  place-within view x is = λ i. mapped-le (λ a. coord (names_of facts a) (value_at x a)) (attr_limit schema book) (code-within x is) view _ _ i

  points-within : (n : ℕ) (view : View) → AllByRecursion (λ (e : PlacedCell). Bounded view e.0 × Unit {0}) (points n view facts)
  points-within n view =
      each-point (Bounded view) (λ c. Unit {0}) (λ c d p q. tt) (names_of facts) n view facts
      (every-map (Agrees (no_names schema).kinds) (λ x. Bounded view (place_of (names_of facts) view x) × Unit {0}) (λ x is. (place-within view x is, tt)) facts
      (every-from_All (Agrees (no_names schema).kinds) facts agree))

  of-entries : (P : Entry → Type 0) (es : List PlacedCell) → AllByRecursion (λ e. P (entry_of e)) es → AllByRecursion P (map entry_of es)
  of-entries P [] h = tt
  of-entries P (e ∷ es) h = (h.0, of-entries P es h.1)

  entries-bounded : (view : View) → AllByRecursion (λ (e : Entry). Bounded view e.point.at) (view_entries schema facts view)
  entries-bounded view = of-entries (λ (e : Entry). Bounded view e.point.at) (points (measure_count schema) view facts)
      (every-map (λ (e : PlacedCell). Bounded view e.0 × Unit {0}) (λ (e : PlacedCell). Bounded view e.0) (λ e h. h.0) (points (measure_count schema) view facts) (points-within (measure_count schema) view))

  module _ {format : ℕ} (storable : AreStorable format (names_of facts) (measure_count schema) facts) (limits : List (List ℕ)) where
    abbrev view_at : ℕ → View
    view_at v = get_or schema.views v []

    -- the limits have the row of this view
    abbrev pub HasRow : ℕ → Type 0
    HasRow v = get_or limits (length (view_at v)) [] ≡ row (view_at v)

    view-within : (v : ℕ) → HasRow v → AllByRecursion (IsWithin limits) (view_entries schema facts (view_at v))
    view-within v has =
        every-map (λ (e : Entry). (e.point.arity ≡ length (view_at v)) × Bounded (view_at v) e.point.at) (IsWithin limits)
        (λ e h i lt. subst (λ (r : List ℕ). slice_index e.point.at i ≤ slice_index r i) (sym (ap (λ a. get_or limits a []) h.0 ∙ has)) (h.1 i)) (view_entries schema facts (view_at v))
        (every-both (λ (e : Entry). e.point.arity ≡ length (view_at v)) (λ (e : Entry). Bounded (view_at v) e.point.at) (view_entries schema facts (view_at v)) (has-arity schema facts storable v) (entries-bounded (view_at v)))

    -- so no coordinate of the points in slots is
    pub slots-within : (slots : List (Option ℕ)) → ((i v : ℕ) → get_or slots i None ≡ Some v → HasRow v) → AllByRecursion (IsWithin limits) (joined (views_in schema facts storable slots))
    slots-within [] has = tt
    slots-within (None ∷ slots) has = slots-within slots (λ i v there. has (suc i) v there)
    slots-within (Some v ∷ slots) has =
        every-append (IsWithin limits) (view_entries schema facts (view_at v)) (joined (views_in schema facts storable slots)) (view-within v (has 0 v refl)) (slots-within slots (λ i w there. has (suc i) w there))
