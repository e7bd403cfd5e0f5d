-- Whether the page that was read is the next of the tree.
use Rattle.std.proofs.Common.{◌≡◌, ◌<◌, ℕ, None, Some, Option, zero, suc, inl, inr, ◌⊎◌, List, [], ◌∷◌, length, get_or, refl, ap, sym, ◌∙◌, arith, subst}
use Rattle.std.specs.List.{All}
use Rattle.cube_point.specs.declared.point.Entry.{Entry}
use Rattle.cube_point.specs.declared.point.Shape.{Shape}
use Rattle.leaf_pack.specs.Leaf.{arity_of}
use Rattle.spec_tree.specs.Levels.{children_at, full_level}
use Rattle.page_fmt.specs.Pages.{inner_bytes, leaf_bytes}
use Rattle.page_entry.specs.Entries.{entries}
use Rattle.page_fmt.specs.Trees.{fanout_of, room_of}
use Rattle.page_fmt.specs.Writing.{leaf_arity}
use Rattle.tree_pack.specs.Moving.{Moving, with_inner, with_leaf}
use Rattle.tree_scan.specs.Scanning.{leaf_entries}
use Rattle.audit_tree.specs.Fitting.{Fits, IsFound, IsLeafDue, IsNextArity, IsRest, behind_leaf, due, fits_full, fits_leaf, fits_rest}
use Rattle.audit_tree.specs.Numbers.{arities}
use Rattle.audit_tree.specs.Packed.{IsWithin}
use Rattle.audit_tree.proofs.Arities.{run-some}

none≢some : {A : Type 0} (a : A) → None ≡ Some a → ⊥
none≢some a e = cc

some-same : {A : Type 0} (d a b : A) → Some a ≡ Some b → a ≡ b
some-same d a b e = cc

-- ---- a leaf

front-arity : (es : List Entry) (x : Entry) → 0 < length es → x ≡ get_or es 0 x → leaf_arity es ≡ x.point.arity
front-arity [] x some is = absurd (omega (arith, some))
front-arity (e ∷ es) x some is = sym (ap arity_of is)

module _ (shape : Shape) (page : List ℕ) (count : ℕ) (found : IsFound shape page count) (left : List ℕ) (arity : ℕ) (next : IsNextArity left arity) (room : 0 < room_of shape arity)
    (is_due : count ≡ due shape left arity) (x : Entry) (first : x ≡ get_or (entries shape page) 0 x) (own : x.point.arity ≡ arity) where
  abbrev es : List Entry
  es = entries shape page

  some : 0 < count
  some = omega (arith, is_due, room, next.some)

  long : count ≡ length es
  long = found.many ∙ ap length (found.are some)

  front : leaf_arity es ≡ arity
  front = front-arity es x (omega (arith, some, long)) first ∙ own

  pub due-own : All (λ e. arity_of e ≡ arity) es
  due-own k d lt = (found.holds some).arities k d lt ∙ front

  pub due-leaf : (limits : List (List ℕ)) → All (IsWithin limits) es → IsLeafDue shape limits left page arity
  due-leaf limits within =
      let same : leaf_entries shape page ≡ es = found.are some in
      record {
        whole = record {
          next = next;
          written = found.written some ∙ (λ i. leaf_bytes (front i) shape (sym same i));
          arities = subst (All (λ e. arity_of e ≡ arity)) (sym same) due-own;
          many = sym found.many ∙ is_due;
        };
        within = subst (All (IsWithin limits)) (sym same) within;
      }

  pub leaf-within : (limits : List (List ℕ)) → IsLeafDue shape limits left page arity → All (IsWithin limits) es
  leaf-within limits leaf = subst (All (IsWithin limits)) (found.are some) leaf.within

-- the next arity is one alone
next-same : (left : List ℕ) (a b : ℕ) → IsNextArity left a → IsNextArity left b → a ≡ b
next-same left a b na nb = elim (cases_order a b) [
  | inl lt ↦ absurd (omega (arith, nb.first a lt, na.some))
  | inr rest ↦ elim rest [ inl is ↦ is | inr gt ↦ absurd (omega (arith, na.first b gt, nb.some)) ]
]
  where
    cases_order : (a b : ℕ) → (a < b) ⊎ ((a ≡ b) ⊎ (b < a))
    cases_order zero zero = inr (inl refl)
    cases_order zero (suc b) = inl (omega arith)
    cases_order (suc a) zero = inr (inr (omega arith))
    cases_order (suc a) (suc b) = elim (cases_order a b) [
      | inl lt ↦ inl (omega (arith, lt))
      | inr rest ↦ elim rest [ inl is ↦ inr (inl (ap suc is)) | inr gt ↦ inr (inr (omega (arith, gt))) ]
    ]

module _ (shape : Shape) (limits : List (List ℕ)) (left : List ℕ) (m : Moving) (same : m.shape ≡ shape) (page : List ℕ) where
  full-in : (o : Option ℕ) → full_level (fanout_of m.shape) m.levels ≡ o → full_level (fanout_of shape) m.levels ≡ o
  full-in o full = subst (λ (s : Shape). full_level (fanout_of s) m.levels ≡ o) same full

  inner-in : (i : ℕ) → page ≡ inner_bytes m.shape (children_at i m.levels) → page ≡ inner_bytes shape (children_at i m.levels)
  inner-in i is = is ∙ ap (λ (s : Shape). inner_bytes s (children_at i m.levels)) same

  pub none-in : full_level (fanout_of m.shape) m.levels ≡ None → full_level (fanout_of shape) m.levels ≡ None
  none-in none = full-in None none

  -- a full level
  pub full-fits : (i : ℕ) → full_level (fanout_of m.shape) m.levels ≡ Some i → page ≡ inner_bytes m.shape (children_at i m.levels) → (to : List ℕ) (w : Moving) → to ≡ left → w ≡ with_inner i m → Fits shape limits left m page to w
  full-fits i full is to w to_is w_is =
      subst (λ (l : List ℕ). Fits shape limits left m page l w) (sym to_is) (subst (λ (v : Moving). Fits shape limits left m page left v) (sym w_is) (fits_full (full-in (Some i) full) (inner-in i is)))

  pub full-only : (i : ℕ) → full_level (fanout_of m.shape) m.levels ≡ Some i → (page ≡ inner_bytes m.shape (children_at i m.levels) → ⊥) → {to : List ℕ} {w : Moving} → Fits shape limits left m page to w → ⊥
  full-only i full not (fits_full {i = j} other is) =
      let one : j ≡ i = some-same 0 j i (sym other ∙ full-in (Some i) full) in
      not (is ∙ (λ k. inner_bytes (sym same k) (children_at (one k) m.levels)))
  full-only i full not (fits_leaf none leaf) = none≢some i (sym none ∙ full-in (Some i) full)
  full-only i full not (fits_rest none nothing rest is) = none≢some i (sym none ∙ full-in (Some i) full)

  module _ (none : full_level (fanout_of shape) m.levels ≡ None) where
    -- a leaf
    pub leaf-fits : (arity : ℕ) → IsLeafDue shape limits left page arity → (to : List ℕ) (w : Moving) → to ≡ behind_leaf shape left arity → w ≡ with_leaf (record m { buffer = leaf_entries shape page }) → Fits shape limits left m page to w
    leaf-fits arity leaf to w to_is w_is =
        subst (λ (l : List ℕ). Fits shape limits left m page l w) (sym to_is) (subst (λ (v : Moving). Fits shape limits left m page (behind_leaf shape left arity) v) (sym w_is) (fits_leaf none leaf))

    pub leaf-only : (arity : ℕ) → IsNextArity left arity → (IsLeafDue shape limits left page arity → ⊥) → {to : List ℕ} {w : Moving} → Fits shape limits left m page to w → ⊥
    leaf-only arity next not (fits_full {i = j} full is) = none≢some j (sym none ∙ full)
    leaf-only arity next not (fits_leaf {arity = other} also leaf) = not (subst (IsLeafDue shape limits left page) (next-same left other arity leaf.whole.next next) leaf)
    leaf-only arity next not (fits_rest also nothing rest is) = run-some left arity next.nine next.some nothing

    -- what is left
    pub rest-fits : arities left ≡ [] → (to : List ℕ) (w : Moving) → to ≡ left → IsRest m page w → Fits shape limits left m page to w
    rest-fits nothing to w to_is r =
        subst (λ (l : List ℕ). Fits shape limits left m page l w) (sym to_is) (subst (λ (v : Moving). Fits shape limits left m page left v) (sym r.behind) (fits_rest none nothing r.due (inner-in r.level r.written)))

    pub rest-only : arities left ≡ [] → ((w : Moving) → IsRest m page w → ⊥) → {to : List ℕ} {w : Moving} → Fits shape limits left m page to w → ⊥
    rest-only nothing not (fits_full {i = j} full is) = none≢some j (sym none ∙ full)
    rest-only nothing not (fits_leaf {arity = other} also leaf) = run-some left other leaf.whole.next.nine leaf.whole.next.some nothing
    rest-only nothing not (fits_rest {i = i} also empty rest is) = not (with_inner i m) (record { level = i; due = rest; written = is ∙ ap (λ (s : Shape). inner_bytes s (children_at i m.levels)) (sym same); behind = refl })
