-- What is kept behind one page more.
use Rattle.std.proofs.Common.{◌≡◌, ◌≢◌, ◌≤◌, ◌<◌, ◌+◌, ◌-◌, ◌^◌, ℕ, Bool, true, false, cond, List, [], ◌∷◌, ◌++◌, Option, filter, get_or, length, set, refl, ap, sym, ◌∙◌, arith, inl, inr, subst, append-nil, length-append}
use Rattle.std.specs.Prelude.{◌==◌, slice_index}
use Rattle.std.specs.List.{All, range_with_len}
use Rattle.std.proofs.lemmas.Bool.{cases_Bool, eqb-true, eqb-false, eq-eqb, ne_eqb}
use Rattle.std.proofs.lemmas.List.{get_or-set_same, get_or-set_other}
use Rattle.std.proofs.lemmas.List.Elements.{All-append, All-cons, All-nil, filter-append, recursion_from_All}
use Rattle.cube_point.specs.declared.point.Entry.{Entry}
use Rattle.cube_point.specs.declared.point.Shape.{Shape}
use Rattle.audit_points.specs.Kept.{AreFresh, AreFull, Kept, first_or, points_of}
use Rattle.audit_points.proofs.Leaves.{entries-long, points-more}
use Rattle.leaf_pack.specs.Leaf.{arity_of}
use Rattle.spec_tree.specs.Leaves.{HaveArity}
use Rattle.page_fmt.specs.declared.page.Place.{Place}
use Rattle.page_fmt.specs.InFiles.{page_at}
use Rattle.page_entry.specs.Entries.{entries, page_count}
use Rattle.page_fmt.specs.Trees.{room_of}
use Rattle.page_entry.specs.Stored.{FitsLeaf}
use Rattle.tree_scan.specs.Scanning.{leaf_entries}
use Rattle.tree_scan.specs.Streaming.{first_of}
use Rattle.audit_tree.specs.Broken.{AreFew}
use Rattle.audit_tree.specs.Fitting.{IsLeafOf, behind_leaf, due}
use Rattle.audit_tree.specs.Kept.{AreKept, AreKeptWith, AreOpen, AreViewsOf, IsKeptWith, IsOpen, Keeps, first_with, has_arity, is_leaf_of}
use Rattle.audit_tree.specs.Packed.{points_in}
use Rattle.audit_tree.proofs.Going.{points-more as tree-points}
use Rattle.audit_tree.proofs.Pages.{range-more}

-- ---- before the first page

module _ (shape : Shape) (views : List Kept) (fresh : AreFresh shape views) where
  pub kept-begins : (place : Place) (bytes : List ℕ) → AreKept place bytes 0 views
  kept-begins place bytes arity d lt = record {
    points = ap points_of (fresh arity d lt);
    first = ap (λ (k : Kept). k.first) (fresh arity d lt);
  }

  pub open-begins : (counts : List ℕ) → AreFew counts → AreOpen shape counts views
  open-begins counts few arity d lt =
      subst (IsOpen shape arity (slice_index counts arity)) (sym (fresh arity d lt)) (record {
        view = record { shape_is = refl; arity_is = refl; good = All-nil (FitsLeaf shape) };
        full = λ _. All-nil (λ (p : List ℕ). page_count p ≡ room_of shape arity);
        few = omega (arith, few arity);
      })

pub open-views : (shape : Shape) (left : List ℕ) (views : List Kept) → AreOpen shape left views → AreViewsOf shape views
open-views shape left views is arity d lt = (is arity d lt).view

-- ---- one page more

first-more : (xs : List ℕ) (b : Bool) (number : ℕ) → first_of (xs ++ cond b (number ∷ []) []) ≡ first_with (first_of xs) b number
first-more [] true number = refl
first-more [] false number = refl
first-more (x ∷ xs) true number = refl
first-more (x ∷ xs) false number = refl

pub kept-more : (place : Place) (bytes : List ℕ) (n number : ℕ) → place.first + n ≡ number → (views next : List Kept) → AreKept place bytes n views
    → AreKeptWith (leaf_entries place.shape (page_at bytes number)) number views next → AreKept place bytes (n + 1) next
kept-more place bytes n number here views next is with_page arity d lt =
    let es = leaf_entries place.shape (page_at bytes number) in
    let old = is arity d lt in
    let new = with_page arity d lt in
    let test : ℕ → Bool = λ k. is_leaf_of arity (leaf_entries place.shape (page_at bytes k)) in
    record {
      points = new.points ∙ (ap (λ (l : List Entry). l ++ filter (has_arity arity) es) old.points
          ∙ (sym (filter-append (has_arity arity) (points_in place bytes n) es) ∙ ap (filter (has_arity arity)) (sym (tree-points place bytes n number here))));
      first = new.first ∙ (ap (λ (f : Option ℕ). first_with f (is_leaf_of arity es) number) old.first
          ∙ (sym (first-more (filter test (range_with_len place.first n)) (is_leaf_of arity es) number)
          ∙ ap first_of (sym (filter-append test (range_with_len place.first n) (number ∷ []))
          ∙ ap (filter test) (ap (λ (k : ℕ). range_with_len place.first n ++ k ∷ []) (sym here) ∙ sym (range-more place.first n)))));
    }

-- an inner page
pub keeps-inner : (shape : Shape) (left to : List ℕ) (es : List Entry) (number : ℕ) (views : List Kept) → es ≡ [] → to ≡ left → AreOpen shape left views → Keeps shape to es number views views
keeps-inner shape left to es number views none same is = record {
  kept = λ arity d lt. record {
    points = sym (append-nil (points_of (get_or views arity d))) ∙ ap (λ (l : List Entry). points_of (get_or views arity d) ++ filter (has_arity arity) l) (sym none);
    first = ap (λ (l : List Entry). first_with (get_or views arity d).first (is_leaf_of arity l) number) (sym none);
  };
  open_again = subst (λ (l : List ℕ). AreOpen shape l views) (sym same) is;
}

-- ---- a leaf

own-points : (arity : ℕ) (es : List Entry) → HaveArity arity_of arity es → filter (has_arity arity) es ≡ es
own-points arity [] own = refl
own-points arity (e ∷ es) own =
    ap (λ (b : Bool). cond b (e ∷ filter (has_arity arity) es) (filter (has_arity arity) es)) (eq-eqb (arity_of e) arity own.0) ∙ ap (λ (l : List Entry). e ∷ l) (own-points arity es own.1)

other-points : (arity other : ℕ) (es : List Entry) → arity ≢ other → HaveArity arity_of arity es → filter (has_arity other) es ≡ []
other-points arity other [] differ own = refl
other-points arity other (e ∷ es) differ own =
    ap (λ (b : Bool). cond b (e ∷ filter (has_arity other) es) (filter (has_arity other) es)) (ne_eqb (arity_of e) other (λ is. differ (sym own.0 ∙ is))) ∙ other-points arity other es differ own.1

own-leaf : (arity : ℕ) (es : List Entry) → 0 < length es → HaveArity arity_of arity es → is_leaf_of arity es ≡ true
own-leaf arity [] some own = absurd (omega (arith, some))
own-leaf arity (e ∷ es) some own = eq-eqb (arity_of e) arity own.0

other-leaf : (arity other : ℕ) (es : List Entry) → arity ≢ other → HaveArity arity_of arity es → is_leaf_of other es ≡ false
other-leaf arity other [] differ own = refl
other-leaf arity other (e ∷ es) differ own = ne_eqb (arity_of e) other (λ is. differ (sym own.0 ∙ is))

-- what is kept of an arity with a leaf more
abbrev pub with_leaf : Kept → List ℕ → ℕ → Kept
with_leaf k page number = record k { leaves = k.leaves ++ page ∷ []; first = first_or k.first number }

module _ (shape : Shape) (left page : List ℕ) (arity number : ℕ) (nine : length left ≡ 9) (room : 0 < room_of shape arity) (leaf : IsLeafOf shape left page arity)
    (are : leaf_entries shape page ≡ entries shape page) (good : All (FitsLeaf shape) (leaf_entries shape page)) (views : List Kept) (is : AreOpen shape left views) where
  abbrev es : List Entry
  es = leaf_entries shape page

  own : HaveArity arity_of arity es
  own = recursion_from_All (λ e. arity_of e ≡ arity) es leaf.arities

  some : 0 < length es
  some = omega (arith, leaf.many, room, leaf.next.some)

  said : page_count page ≡ due shape left arity
  said = sym (entries-long shape page) ∙ (ap length (sym are) ∙ leaf.many)

  module _ (d : Kept) where
    abbrev old : Kept
    old = get_or views arity d

    open_here : IsOpen shape arity (slice_index left arity) old
    open_here = is arity d leaf.next.nine

    pub leaf-full : AreFull old
    leaf-full = open_here.full leaf.next.some

    pub leaf-room : due shape left arity ≤ room_of old.shape old.arity
    leaf-room = let at : room_of old.shape old.arity ≡ room_of shape arity = (λ i. room_of (open_here.view.shape_is i) (open_here.view.arity_is i)) in omega (arith, at)

    pub leaf-long : length (points_of old) + due shape left arity < 2 ^ 60
    leaf-long = omega (arith, open_here.few)

    points-now : points_of (with_leaf old page number) ≡ points_of old ++ es
    points-now = points-more old.shape old.leaves page
        ∙ ap (λ (l : List Entry). points_of old ++ l) (ap (λ (s : Shape). entries s page) open_here.view.shape_is ∙ sym are)

    here-kept : IsKeptWith es number arity old (with_leaf old page number)
    here-kept = record {
      points = points-now ∙ ap (λ (l : List Entry). points_of old ++ l) (sym (own-points arity es own));
      first = ap (λ (b : Bool). first_with old.first b number) (sym (own-leaf arity es some own));
    }

    here-open : IsOpen shape arity (slice_index left arity - due shape left arity) (with_leaf old page number)
    here-open = record {
      view = record {
        shape_is = open_here.view.shape_is;
        arity_is = open_here.view.arity_is;
        good = subst (All (FitsLeaf shape)) (sym points-now) (All-append (FitsLeaf shape) (points_of old) es open_here.view.good good);
      };
      full = λ more.
          let at : room_of old.shape old.arity ≡ room_of shape arity = (λ i. room_of (open_here.view.shape_is i) (open_here.view.arity_is i)) in
          All-append (λ (p : List ℕ). page_count p ≡ room_of old.shape old.arity) old.leaves (page ∷ []) leaf-full
          (All-cons (λ (p : List ℕ). page_count p ≡ room_of old.shape old.arity) page [] (omega (arith, said, more, at)) (All-nil (λ (p : List ℕ). page_count p ≡ room_of old.shape old.arity)));
      few = omega (arith, ap length points-now, length-append (points_of old) es, leaf.many, open_here.few);
    }

  abbrev Next : List Kept → Type 0
  Next next = (d : Kept) → next ≡ set views arity (with_leaf (get_or views arity d) page number)

  module _ (next : List Kept) (to : List ℕ) (nine_too : length views ≡ 9) (now : Next next) (to_is : to ≡ behind_leaf shape left arity) where
    at-own : (d : Kept) → get_or next arity d ≡ with_leaf (get_or views arity d) page number
    at-own d = ap (λ (l : List Kept). get_or l arity d) (now d) ∙ get_or-set_same views arity (with_leaf (get_or views arity d) page number) d (omega (arith, nine_too, leaf.next.nine))

    at-other : (other : ℕ) (d : Kept) → other ≢ arity → get_or next other d ≡ get_or views other d
    at-other other d differ = ap (λ (l : List Kept). get_or l other d) (now d) ∙ get_or-set_other views arity other (with_leaf (get_or views arity d) page number) d differ

    each-kept : (other : ℕ) (d : Kept) → IsKeptWith es number other (get_or views other d) (get_or next other d)
    each-kept other d = elim (cases_Bool (other == arity)) [
      | inl e ↦
          let same : arity ≡ other = sym (eqb-true other arity e) in
          subst (λ (a : ℕ). IsKeptWith es number a (get_or views a d) (get_or next a d)) same (subst (IsKeptWith es number arity (get_or views arity d)) (sym (at-own d)) (here-kept d))
      | inr e ↦
          let differ : other ≡ arity → ⊥ = eqb-false other arity e in
          subst (IsKeptWith es number other (get_or views other d)) (sym (at-other other d differ)) (record {
            points = sym (append-nil (points_of (get_or views other d))) ∙ ap (λ (l : List Entry). points_of (get_or views other d) ++ l) (sym (other-points arity other es (λ s. differ (sym s)) own));
            first = ap (λ (b : Bool). first_with (get_or views other d).first b number) (sym (other-leaf arity other es (λ s. differ (sym s)) own));
          })
    ]

    each-open : (other : ℕ) (d : Kept) → other < 9 → IsOpen shape other (slice_index to other) (get_or next other d)
    each-open other d lt = elim (cases_Bool (other == arity)) [
      | inl e ↦
          let same : arity ≡ other = sym (eqb-true other arity e) in
          let many : slice_index left arity - due shape left arity ≡ slice_index to arity
          = sym (ap (λ (l : List ℕ). slice_index l arity) to_is ∙ get_or-set_same left arity (slice_index left arity - due shape left arity) 0 (omega (arith, nine, leaf.next.nine))) in
          subst (λ (a : ℕ). IsOpen shape a (slice_index to a) (get_or next a d)) same
          (subst (λ (n : ℕ). IsOpen shape arity n (get_or next arity d)) many (subst (IsOpen shape arity (slice_index left arity - due shape left arity)) (sym (at-own d)) (here-open d)))
      | inr e ↦
          let differ : other ≡ arity → ⊥ = eqb-false other arity e in
          let many : slice_index left other ≡ slice_index to other
          = sym (ap (λ (l : List ℕ). slice_index l other) to_is ∙ get_or-set_other left arity other (slice_index left arity - due shape left arity) 0 differ) in
          subst (λ (n : ℕ). IsOpen shape other n (get_or next other d)) many (subst (IsOpen shape other (slice_index left other)) (sym (at-other other d differ)) (is other d lt))
    ]

    pub keeps-leaf : Keeps shape to es number views next
    keeps-leaf = record { kept = λ other d lt. each-kept other d; open_again = each-open }
