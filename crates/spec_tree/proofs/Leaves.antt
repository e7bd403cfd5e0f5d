-- The leaves that end one after another are those of the views, each in runs.
use Rattle.std.proofs.Common.{◌≡◌, ℕ, Bool, true, false, List, [], ◌∷◌, ◌++◌, length, refl, ap, sym, ◌∙◌, inl, inr, arith, append_assoc, ◌<◌, subst}
use Rattle.std.specs.Prelude.{◌==◌, ◌||◌, flat_map, not}
use Rattle.std.proofs.lemmas.Bool.{cases_Bool, eq-eqb, ne_eqb, true≢false}
use Rattle.std.specs.List.{AllByRecursion}
use Rattle.spec_tree.specs.Runs.{rest_after, full_after, rest, full, short, runs}
use Rattle.spec_tree.specs.Leaves.{is_full_leaf, is_other_arity, leaf_ends, leaf_runs, Rise, HaveArity, AreViews}
use Rattle.spec_tree.proofs.Runs.{rest_after-whole, rest_after-more, full_after-whole, full_after-more}

module _ {E : Type 0} (arity : E → ℕ) (room : ℕ → ℕ) where
  -- the buffer ends: it is the next leaf, and the others come from an empty buffer
  pub runs-ends : (b es : List E) → leaf_ends arity room b es ≡ true → leaf_runs arity room b es ≡ b ∷ leaf_runs arity room [] es
  runs-ends [] es e = absurd (true≢false (sym e))
  runs-ends (x ∷ b) [] e = refl
  runs-ends (x ∷ b) (y ∷ es) e = ap (λ (t : Bool). elim t as (λ _. List (List E)) [ true ↦ (x ∷ b) ∷ leaf_runs arity room (y ∷ []) es | false ↦ leaf_runs arity room ((x ∷ b) ++ y ∷ []) es ]) e

  -- the next entry goes into the buffer, and the leaves stay
  pub runs-takes : (b : List E) (x : E) (es : List E) → leaf_ends arity room b (x ∷ es) ≡ false → leaf_runs arity room b (x ∷ es) ≡ leaf_runs arity room (b ++ x ∷ []) es
  runs-takes b x es e = ap (λ (t : Bool). elim t as (λ _. List (List E)) [ true ↦ b ∷ leaf_runs arity room (x ∷ []) es | false ↦ leaf_runs arity room (b ++ x ∷ []) es ]) e

  true-or : (p q : Bool) → q ≡ true → (p || q) ≡ true
  true-or true q e = refl
  true-or false q e = e

  or-true : (p q : Bool) → p ≡ true → (p || q) ≡ true
  or-true p q e = ap (λ t. t || q) e

  or-false : (p q : Bool) → p ≡ false → q ≡ false → (p || q) ≡ false
  or-false p q e f = ap (λ t. t || q) e ∙ f

  all-push : (a : ℕ) (b : List E) (x : E) → HaveArity arity a b → arity x ≡ a → HaveArity arity a (b ++ x ∷ [])
  all-push a [] x h e = (e, tt)
  all-push a (y ∷ b) x h e = (h.0, all-push a b x h.1 e)

  full-push : (a : ℕ) (b : List E) (x : E) → HaveArity arity a b → arity x ≡ a → is_full_leaf arity room (b ++ x ∷ []) ≡ (length (b ++ x ∷ []) == room a)
  full-push a [] x h e = ap (λ z. 1 == room z) e
  full-push a (y ∷ b) x h e = ap (λ z. length (y ∷ (b ++ x ∷ [])) == room z) h.0

  -- a full buffer ends
  full-ends : (b : List E) (es : List E) → is_full_leaf arity room b ≡ true → leaf_ends arity room b es ≡ true
  full-ends [] es e = absurd (true≢false (sym e))
  full-ends (x ∷ b) [] e = refl
  full-ends (x ∷ b) (y ∷ es) e = or-true (is_full_leaf arity room (x ∷ b)) (is_other_arity arity (x ∷ b) y) e

  -- a buffer that is not full goes on with an entry of its arity
  goes-on : (a : ℕ) (b : List E) (x : E) (es : List E) → HaveArity arity a b → arity x ≡ a → is_full_leaf arity room b ≡ false → leaf_ends arity room b (x ∷ es) ≡ false
  goes-on a [] x es h e f = refl
  goes-on a (y ∷ b) x es h e f = or-false (is_full_leaf arity room (y ∷ b)) (is_other_arity arity (y ∷ b) x) f (ap not (eq-eqb (arity y) (arity x) (h.0 ∙ sym e)))

  -- the entries of a view go into runs, and the rest stays in the buffer
  view-runs : (a : ℕ) (b es more : List E) → HaveArity arity a b → HaveArity arity a es → is_full_leaf arity room b ≡ false
      → leaf_runs arity room b (es ++ more) ≡ full_after (room a) b es ++ leaf_runs arity room (rest_after (room a) b es) more
  view-runs a b [] more hb hp f = refl
  view-runs a b (x ∷ es) more hb hp f = runs-takes b x (es ++ more) (goes-on a b x (es ++ more) hb hp.0 f) ∙ elim (cases_Bool (length (b ++ x ∷ []) == room a)) [
    | inl w ↦ runs-ends (b ++ x ∷ []) (es ++ more) (full-ends (b ++ x ∷ []) (es ++ more) (full-push a b x hb hp.0 ∙ w))
        ∙ (ap (λ r. (b ++ x ∷ []) ∷ r) (view-runs a [] es more tt hp.1 refl)
        ∙ sym (ap (λ g. g ++ leaf_runs arity room (rest_after (room a) b (x ∷ es)) more) (full_after-whole (room a) b x es w)
        ∙ ap (λ r. (b ++ x ∷ []) ∷ (full_after (room a) [] es ++ leaf_runs arity room r more)) (rest_after-whole (room a) b x es w)))
    | inr w ↦ view-runs a (b ++ x ∷ []) es more (all-push a b x hb hp.0) hp.1 (full-push a b x hb hp.0 ∙ w)
        ∙ sym (ap (λ g. g ++ leaf_runs arity room (rest_after (room a) b (x ∷ es)) more) (full_after-more (room a) b x es w)
        ∙ ap (λ r. full_after (room a) (b ++ x ∷ []) es ++ leaf_runs arity room r more) (rest_after-more (room a) b x es w))
  ]

  all-rest : (a : ℕ) (b es : List E) → HaveArity arity a b → HaveArity arity a es → HaveArity arity a (rest_after (room a) b es)
  all-rest a b [] hb hp = hb
  all-rest a b (x ∷ es) hb hp = elim (cases_Bool (length (b ++ x ∷ []) == room a)) [
    | inl e ↦ subst (HaveArity arity a) (sym (rest_after-whole (room a) b x es e)) (all-rest a [] es tt hp.1)
    | inr e ↦ subst (HaveArity arity a) (sym (rest_after-more (room a) b x es e)) (all-rest a (b ++ x ∷ []) es (all-push a b x hb hp.0) hp.1)
  ]

  -- the first entry that follows is of a greater arity, or there is none
  abbrev Later : ℕ → List E → Type 0
  Later a [] = Unit {0}
  Later a (x ∷ es) = a < arity x

  turn-short : (a : ℕ) (b more : List E) → HaveArity arity a b → Later a more → leaf_runs arity room b more ≡ short b ++ leaf_runs arity room [] more
  turn-short a [] more hb h = refl
  turn-short a (x ∷ b) [] hb h = refl
  turn-short a (x ∷ b) (y ∷ es) hb h = runs-ends (x ∷ b) (y ∷ es) (true-or (is_full_leaf arity room (x ∷ b)) (is_other_arity arity (x ∷ b) y)
      (ap not (ne_eqb (arity x) (arity y) (λ e. let z : arity x ≡ a = hb.0 in omega (arith, h, z, e)))))

  -- one view, and those after it
  view-leaves : (a : ℕ) (es more : List E) → HaveArity arity a es → Later a more
      → leaf_runs arity room [] (es ++ more) ≡ runs (room a) es ++ leaf_runs arity room [] more
  view-leaves a es more hp h = view-runs a [] es more tt hp refl ∙ (ap (λ r. full (room a) es ++ r) (turn-short a (rest (room a) es) more (all-rest a [] es tt hp) h)
      ∙ sym (append_assoc (full (room a) es) (short (rest (room a) es)) (leaf_runs arity room [] more)))

  abbrev Arities : List (ℕ × List E) → Type 0
  Arities views = AllByRecursion (λ v. HaveArity arity v.0 v.1) views

  first-later : (a b : ℕ) (es more : List E) → a < b → HaveArity arity b es → Later a more → Later a (es ++ more)
  first-later a b [] more l h m = m
  first-later a b (x ∷ es) more l h m = let e : arity x ≡ b = h.0 in omega (arith, e, l)

  -- the entries of the views after one are later
  views-later : (a : ℕ) (views : List (ℕ × List E)) → AllByRecursion (λ v. a < v.0) views → Arities views → Later a (flat_map (λ v. v.1) views)
  views-later a [] l h = tt
  views-later a (v ∷ views) l h = first-later a v.0 v.1 (flat_map (λ v. v.1) views) l.0 h.0 (views-later a views l.1 h.1)

  all-above : (a : ℕ) (v : ℕ × List E) (views : List (ℕ × List E)) → a < v.0 → Rise (v ∷ views) → AllByRecursion (λ w. a < w.0) (v ∷ views)
  all-above a v [] l r = (l, tt)
  all-above a v (w ∷ views) l r = (l, all-above a w views (omega (arith, l, r.0)) r.1)

  rise-above : (v : ℕ × List E) (views : List (ℕ × List E)) → Rise (v ∷ views) → AllByRecursion (λ w. v.0 < w.0) views × Rise views
  rise-above v [] r = (tt, tt)
  rise-above v (w ∷ views) r = (all-above v.0 w views r.0 r.1, r.1)

  runs-views : (views : List (ℕ × List E)) → Arities views → Rise views
      → leaf_runs arity room [] (flat_map (λ v. v.1) views) ≡ flat_map (λ v. runs (room v.0) v.1) views
  runs-views [] h r = refl
  runs-views (v ∷ views) h r = view-leaves v.0 v.1 (flat_map (λ v. v.1) views) h.0 (views-later v.0 views (rise-above v views r).0 h.1)
      ∙ ap (λ z. runs (room v.0) v.1 ++ z) (runs-views views h.1 (rise-above v views r).1)

  -- from an empty buffer the leaves of the views' entries are each view's entries in runs
  pub leaves-views : (views : List (ℕ × List E)) → AreViews arity room views → leaf_runs arity room [] (flat_map (λ v. v.1) views) ≡ flat_map (λ v. runs (room v.0) v.1) views
  leaves-views views h = runs-views views h.arities h.rise
