-- The leaf that is due is packed.
use Rattle.std.proofs.Common.{◌≡◌, ◌≢◌, ◌≤◌, ◌<◌, ◌+◌, ◌-◌, ℕ, zero, suc, Bool, true, false, None, List, [], ◌∷◌, ◌++◌, length, map, take, drop, refl, ap, sym, ◌∙◌, arith, inl, inr, ◌⊎◌, subst, append_assoc, append-nil, length-append}
use Rattle.std.specs.Prelude.{◌==◌, ◌||◌, not, replicate, slice_index}
use Rattle.std.proofs.lemmas.Bool.{cases_Bool, eqb-true, eqb-false, eq-eqb, ne_eqb}
use Rattle.std.proofs.lemmas.List.{get_or-set_same, get_or-set_other}
use Rattle.cube_point.specs.declared.point.Entry.{Entry}
use Rattle.cube_point.specs.declared.point.Shape.{Shape}
use Rattle.leaf_pack.specs.Leaf.{arity_of}
use Rattle.spec_tree.specs.Leaves.{HaveArity, leaf_ends}
use Rattle.spec_tree.specs.Levels.{full_level}
use Rattle.spec_tree.specs.Tree.{Leaf}
use Rattle.page_fmt.specs.Trees.{fanout_of, room_of}
use Rattle.tree_pack.specs.Moving.{IsMoving, Moving, with_leaf}
use Rattle.tree_pack.specs.Pages.{PointPage}
use Rattle.tree_pack.proofs.Moving.{leaf-moves, point-moves}
use Rattle.audit_tree.specs.Fitting.{IsNextArity, behind_leaf, due}
use Rattle.audit_tree.specs.Numbers.{arities}
use Rattle.audit_tree.proofs.Arities.{run-head, run-split}

-- ---- the arities of points of one arity

pub arities-same : (a : ℕ) (es : List Entry) → HaveArity arity_of a es → map arity_of es ≡ replicate (length es) a
arities-same a [] h = refl
arities-same a (e ∷ es) h = λ i. h.0 i ∷ arities-same a es h.1 i

pub record IsCut (a k : ℕ) (tail : List ℕ) (es : List Entry) : Type 0 where
  pub own : HaveArity arity_of a (take k es)
  pub many : length (take k es) ≡ k
  pub rest : map arity_of (drop k es) ≡ tail

pub arities-cut : (a k : ℕ) (tail : List ℕ) (es : List Entry) → map arity_of es ≡ replicate k a ++ tail → IsCut a k tail es
arities-cut a zero tail es h = record { own = tt; many = refl; rest = h }
arities-cut a (suc k) tail [] h = absurd cc
arities-cut a (suc k) tail (e ∷ es) h =
    let less = arities-cut a k tail es (ap (drop 1) h) in
    record { own = (ap (λ (l : List ℕ). slice_index l 0) h, less.own); many = ap suc less.many; rest = less.rest }

-- ---- the numbers behind a leaf

module _ (shape : Shape) (left : List ℕ) (nine : length left ≡ 9) (a : ℕ) (next : IsNextArity left a) where
  pub due-few : due shape left a ≤ slice_index left a
  due-few = omega arith

  here : slice_index (behind_leaf shape left a) a ≡ slice_index left a - due shape left a
  here = get_or-set_same left a (slice_index left a - due shape left a) 0 (omega (arith, nine, next.nine))

  other : (b : ℕ) → b ≢ a → slice_index (behind_leaf shape left a) b ≡ slice_index left b
  other b differ = get_or-set_other left a b (slice_index left a - due shape left a) 0 differ

  pub arities-behind : arities left ≡ replicate (due shape left a) a ++ arities (behind_leaf shape left a)
  arities-behind = run-split (slice_index left) (slice_index (behind_leaf shape left a)) a (due shape left a) 0 9 (omega arith) (omega (arith, next.nine))
      next.first (λ b lt. other b (λ e. omega (arith, e, lt)) ∙ next.first b lt) (omega (arith, here, due-few))
      (λ b le. sym (other b (λ e. omega (arith, e, le))))

-- ---- points are moved into the buffer, up to the end of their leaf

module _ (room : ℕ → ℕ) (a : ℕ) where
  pub goes-on : (b : List Entry) (e : Entry) (more : List Entry) → HaveArity arity_of a b → arity_of e ≡ a → length b < room a → leaf_ends arity_of room b (e ∷ more) ≡ false
  goes-on [] e more own is few = refl
  goes-on (x ∷ b) e more own is few =
      let not_full : (length (x ∷ b) == room (arity_of x)) ≡ false = ne_eqb (length (x ∷ b)) (room (arity_of x)) (λ same. omega (arith, same, ap room own.0, few)) in
      let same_arity : (arity_of x == arity_of e) ≡ true = eq-eqb (arity_of x) (arity_of e) (own.0 ∙ sym is) in
      λ i. not_full i || not (same_arity i)

  pub full-ends : (es more : List Entry) → HaveArity arity_of a es → 0 < length es → length es ≡ room a → leaf_ends arity_of room es more ≡ true
  full-ends [] more own some full = absurd (omega (arith, some))
  full-ends (x ∷ es) [] own some full = refl
  full-ends (x ∷ es) (y ∷ more) own some full =
      let whole : (length (x ∷ es) == room (arity_of x)) ≡ true = eq-eqb (length (x ∷ es)) (room (arity_of x)) (full ∙ sym (ap room own.0)) in
      ap (λ (b : Bool). b || not (arity_of x == arity_of y)) whole

  pub other-ends : (es more : List Entry) (left : List ℕ) → HaveArity arity_of a es → 0 < length es → map arity_of more ≡ arities left → slice_index left a ≡ 0 → leaf_ends arity_of room es more ≡ true
  other-ends [] more left own some are none = absurd (omega (arith, some))
  other-ends (x ∷ es) [] left own some are none = refl
  other-ends (x ∷ es) (y ∷ more) left own some are none =
      let there : 0 < slice_index left (arity_of y) = run-head (slice_index left) 0 9 (arity_of y) (map arity_of more) are in
      let differ : (arity_of x == arity_of y) ≡ false = ne_eqb (arity_of x) (arity_of y) (λ same. omega (arith, ap (slice_index left) (sym same ∙ own.0), none, there)) in
      or-true (length (x ∷ es) == room (arity_of x)) (not (arity_of x == arity_of y)) (ap not differ)
    where
      or-true : (p q : Bool) → q ≡ true → (p || q) ≡ true
      or-true true q e = refl
      or-true false q e = e

module _ (first : ℕ) (all : List Entry) (pages : List PointPage) (m : Moving) (none : full_level (fanout_of m.shape) m.levels ≡ None) (a : ℕ) where
  points-move : (b es more : List Entry) → HaveArity arity_of a b → HaveArity arity_of a es → length b + length es ≤ room_of m.shape a
      → IsMoving first all pages (es ++ more) (record m { buffer = b }) → IsMoving first all pages more (record m { buffer = b ++ es })
  points-move b [] more own own_too few is = subst (λ (l : List Entry). IsMoving first all pages more (record m { buffer = l })) (sym (append-nil b)) is
  points-move b (e ∷ es) more own own_too few is =
      let moved = point-moves first all pages (record m { buffer = b }) e (es ++ more) is none (goes-on (room_of m.shape) a b e (es ++ more) own own_too.0 (omega (arith, few))) in
      subst (λ (l : List Entry). IsMoving first all pages more (record m { buffer = l })) (append_assoc b (e ∷ []) es)
      (points-move (b ++ e ∷ []) es more (push b own) own_too.1 (omega (arith, few, length-append b (e ∷ []))) moved)
    where
      push : (b : List Entry) → HaveArity arity_of a b → HaveArity arity_of a (b ++ e ∷ [])
      push [] h = (own_too.0, tt)
      push (x ∷ b) h = (h.0, push b h.1)

  -- a whole leaf
  pub leaf-packs : (left : List ℕ) (es more : List Entry) → length left ≡ 9 → IsNextArity left a → HaveArity arity_of a es → length es ≡ due m.shape left a → 0 < length es
      → map arity_of more ≡ arities (behind_leaf m.shape left a) → m.buffer ≡ [] → IsMoving first all pages (es ++ more) m
      → IsMoving first all (pages ++ Leaf es ∷ []) more (with_leaf (record m { buffer = es }))
  leaf-packs left es more nine next own many some are empty is =
      leaf-moves first all pages (record m { buffer = es }) more
      (points-move [] es more tt own (omega (arith, many)) (subst (λ (b : List Entry). IsMoving first all pages (es ++ more) (record m { buffer = b })) empty is)) none
      (ends (cases_Bool (length es == room_of m.shape a)))
    where
      ends : ((length es == room_of m.shape a) ≡ true) ⊎ ((length es == room_of m.shape a) ≡ false) → leaf_ends arity_of (room_of m.shape) es more ≡ true
      ends (inl e) = full-ends (room_of m.shape) a es more own some (eqb-true (length es) (room_of m.shape a) e)
      ends (inr e) =
          let short : length es ≡ room_of m.shape a → ⊥ = eqb-false (length es) (room_of m.shape a) e in
          other-ends (room_of m.shape) a es more (behind_leaf m.shape left a) own some are
          (here m.shape left nine a next ∙ omega (arith, many, short))

  -- the same where the shape is known under another name
  pub leaf-packed : (shape : Shape) → m.shape ≡ shape → (left : List ℕ) (es more : List Entry) → length left ≡ 9 → IsNextArity left a → HaveArity arity_of a es → length es ≡ due shape left a → 0 < length es
      → map arity_of more ≡ arities (behind_leaf shape left a) → m.buffer ≡ [] → IsMoving first all pages (es ++ more) m
      → IsMoving first all (pages ++ Leaf es ∷ []) more (with_leaf (record m { buffer = es }))
  leaf-packed shape same left es more nine next own many some are empty is =
      leaf-packs left es more nine next own (subst (λ (s : Shape). length es ≡ due s left a) (sym same) many) some
      (subst (λ (s : Shape). map arity_of more ≡ arities (behind_leaf s left a)) (sym same) are) empty is
