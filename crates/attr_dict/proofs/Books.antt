-- The names that a schema begins with.
use Rattle.std.proofs.Common.{◌≡◌, ℕ, zero, suc, true, ◌<◌, ◌≤◌, List, [], ◌∷◌, length, get_or, map, refl, sym, ap, subst, ◌∙◌, ⊎_elim, arith}
use Rattle.std.specs.Prelude.{nat_lt, nat_le}
use Rattle.std.specs.List.{All, IsDistinct}
use Rattle.std.specs.Str.{bytes_eq}
use Rattle.std.proofs.lemmas.Bool.{and_parts, leb-true, cases_lt}
use Rattle.std.proofs.lemmas.List.{length-map, get_or-map, get_or_past}
use Rattle.std.proofs.lemmas.List.Elements.{All-nil}
use Rattle.cube_schema.specs.declared.Attr.{Attr}
use Rattle.cube_schema.specs.declared.Kind.{Kind}
use Rattle.cube_schema.specs.declared.Kind.TheVariants as kind
use Rattle.cube_schema.specs.declared.Schema.{Schema}
use Rattle.cube_schema.specs.Kinds.{max_of, no_attr}
use Rattle.cube_schema.specs.Words.{is_in_range}
use Rattle.cube_schema.specs.Lawful.{IsSchema}
use Rattle.cube_schema.proofs.Tests.{all-at}
use Rattle.spec_points.specs.Codes.{Text}
use Rattle.spec_points.specs.Agree.{name_limit}
use Rattle.attr_dict.specs.Book.{IsBook, IsShort, none_yet, no_names}
use Rattle.attr_dict.proofs.Columns.{distinct-none}

kind-range : (k : Kind) → is_in_range k ≡ true → max_of k ≤ name_limit
kind-range (kind.Word max) h = leb-true max 16777215 (and_parts (nat_le 1 max) (nat_le max 16777215) h).1
kind-range kind.Number h = omega arith

-- at first no attribute has a name
pub unnamed : (attrs : List Attr) (a : ℕ) → get_or (map (λ (attr : Attr). none_yet) attrs) a [] ≡ []
unnamed [] a = refl
unnamed (attr ∷ attrs) zero = refl
unnamed (attr ∷ attrs) (suc a) = unnamed attrs a

pub book-new : (s : Schema) → IsSchema s → IsBook (no_names s)
book-new s lawful =
    let kinds = map (λ (attr : Attr). attr.kind) s.attrs in
    let some = and_parts (nat_lt 0 (length s.attrs)) (nat_le (length s.attrs) 16) lawful.some_attrs in
    let few = leb-true (length s.attrs) 16 some.1 in
    let size = length-map s.attrs (λ (attr : Attr). attr.kind) in
    record {
      same = length-map s.attrs (λ (attr : Attr). none_yet) ∙ sym size;
      few = omega arith;
      ranges = λ a.
          ⊎_elim
          (λ (lt : a < length s.attrs).
          subst (λ (k : Kind). max_of k ≤ name_limit) (sym (get_or-map (λ (attr : Attr). attr.kind) s.attrs a no_attr kind.Number lt))
          (kind-range (get_or s.attrs a no_attr).kind (all-at (λ (attr : Attr). is_in_range attr.kind) s.attrs a no_attr lawful.ranges lt)))
          (λ (le : length s.attrs ≤ a). subst (λ (k : Kind). max_of k ≤ name_limit) (sym (get_or_past kinds a kind.Number (omega arith))) (omega arith))
          (cases_lt a (length s.attrs));
      within = λ a. (let none = ap length (unnamed s.attrs a) in omega arith);
      distinct = λ a. subst (IsDistinct bytes_eq) (sym (unnamed s.attrs a)) distinct-none;
      short = λ a. subst (All IsShort) (sym (unnamed s.attrs a)) (All-nil IsShort);
    }

pub book-made : (s : Schema) (kinds : List Kind) (names : List (List Text)) → kinds ≡ (no_names s).kinds → names ≡ (no_names s).names → IsSchema s → IsBook (record { kinds = kinds; names = names })
book-made s kinds names kinds-are names-are lawful = subst IsBook (λ i. record { kinds = sym kinds-are i; names = sym names-are i }) (book-new s lawful)
