-- A point more among points joined by their places: where it goes, by the place in the list.
use Rattle.std.proofs.Common.{◌≡◌, ℕ, zero, suc, ◌+◌, ◌-◌, ◌<◌, ◌==◌, Bool, true, false, List, [], ◌∷◌, ◌++◌, map, length, get_or, set, refl, sym, ◌∙◌, ap, subst, arith, true≢false, Result, Ok, Err}
use Rattle.std.specs.Prelude.{OnOk}
use Rattle.std.proofs.lemmas.Bool.{and_from, and_parts, eq-eqb, eqb-true}
use Rattle.std.proofs.lemmas.List.{get_or-map, length-map, map-append, map-set}
use Rattle.std.specs.Cmp.{tied_itself}
use Rattle.std.specs.declared.cmp.Ordering.TheVariants.{Less, Equal}
use Rattle.std.specs.Ordering.{is_eq}
use Rattle.fact_model.specs.Cell.{join}
use Rattle.cube_point.specs.declared.point.Entry.{Entry}
use Rattle.cube_point.specs.Points.{point_cmp}
use Rattle.cube_point.proofs.PointOrder.{point-total, point-only}
use Rattle.page_entry.specs.Cells.{EndsInZeros}
use Rattle.row_fold.specs.Ascends.{Ascends}
use Rattle.spec_points.specs.Entries.{pair_of, both}
use Rattle.spec_points.specs.Points.{PlacedCell}
use Rattle.point_groups.specs.Folded.{AllApart, JoinsInto, NoneAt, taken}
use Rattle.point_groups.specs.Held.{AllEndInZeros}
use Rattle.point_groups.specs.Joins.{Joins}
use Rattle.point_groups.specs.Kept.{TookIn, same_place}
use Rattle.point_groups.proofs.FoldPlaces.{apart-taken, ascends-apart, ascends-joined, ascends-more, at-into, behind-last, into-at, into-new, some-at, taken-at, taken-new}

-- two facts of a success
pub from-both : {A E : Type 0} {P Q R : Type 0} (result : Result A E) → OnOk result P → OnOk result Q → (P → Q → R) → OnOk result R
from-both (Ok x) p q to = to p q
from-both (Err e) p q to = tt

-- a fact, of a success too
pub on-ok : {A E : Type 0} {P : Type 0} (result : Result A E) → P → OnOk result P
on-ok (Ok x) p = p
on-ok (Err e) p = tt

any-default : (gs : List Entry) (i : ℕ) (a b : Entry) → i < length gs → get_or gs i a ≡ get_or gs i b
any-default [] i a b low = absurd (omega arith)
any-default (g ∷ gs) zero a b low = refl
any-default (g ∷ gs) (suc i) a b low = any-default gs i a b (omega arith)

pub same-is_equal : (j k : List ℕ) → same_place j k ≡ true → j ≡ k
same-is_equal [] [] h = refl
same-is_equal [] (d ∷ ds) h = absurd (true≢false (sym h))
same-is_equal (c ∷ cs) [] h = absurd (true≢false (sym h))
same-is_equal (c ∷ cs) (d ∷ ds) h =
    let both = and_parts (c == d) (same_place cs ds) h in
    let first = eqb-true c d both.0 in
    let rest = same-is_equal cs ds both.1 in
    λ i. first i ∷ rest i

pub same-itself : (k : List ℕ) → same_place k k ≡ true
same-itself [] = refl
same-itself (c ∷ cs) = and_from (c == c) (same_place cs cs) (eq-eqb c c refl) (same-itself cs)

less-other : (j k : List ℕ) → point_cmp j k ≡ Less → same_place j k ≡ false
less-other j k less = by (same_place j k) refl
  where
    by : (b : Bool) → same_place j k ≡ b → b ≡ false
    by false h = refl
    by true h =
        let tied : is_eq (point_cmp j k) ≡ true = ap (λ (k : List ℕ). is_eq (point_cmp j k)) (sym (same-is_equal j k h)) ∙ ap is_eq (tied_itself point-total j) in
        absurd (true≢false (sym tied ∙ ap is_eq less))

-- the places
module _ (gs : List Entry) (e x : Entry) (i : ℕ) (low : i < length gs) (is : x ≡ get_or gs i x) where
  at-pairs : get_or (map pair_of gs) i (pair_of x) ≡ pair_of x
  at-pairs = get_or-map pair_of gs i x (pair_of x) low ∙ ap pair_of (sym is)

  in-pairs : i < length (map pair_of gs)
  in-pairs = omega (arith, length-map gs pair_of)

  module _ (here : same_place x.point.at e.point.at ≡ true) where
    here-pairs : same_place (get_or (map pair_of gs) i (pair_of x)).0 e.point.at ≡ true
    here-pairs = ap (λ (p : PlacedCell). same_place p.0 e.point.at) at-pairs ∙ here

    pub joined-there : (j : Entry) → AllApart same_place (map pair_of gs) → j ≡ both x e → map pair_of (set gs i j) ≡ taken same_place (map pair_of gs) (pair_of e)
    joined-there j apart to =
        map-set pair_of gs i j
        ∙ (ap (λ j. set (map pair_of gs) i (pair_of j)) to
        ∙ (ap (λ (p : PlacedCell). set (map pair_of gs) i (p.0, join p.1 e.cell)) (sym at-pairs)
        ∙ sym (taken-at same_place same-is_equal (map pair_of gs) (pair_of e) (pair_of x) i in-pairs apart here-pairs)))

    pub joins-there : AllApart same_place (map pair_of gs) → Joins x.cell e.cell → JoinsInto same_place (map pair_of gs) (pair_of e)
    joins-there apart joins = into-at same_place same-is_equal (map pair_of gs) (pair_of e) (pair_of x) i in-pairs apart here-pairs
        (subst (λ (p : PlacedCell). Joins p.1 e.cell) (sym at-pairs) joins)

    pub there-joins : JoinsInto same_place (map pair_of gs) (pair_of e) → Joins x.cell e.cell
    there-joins joins = subst (λ (p : PlacedCell). Joins p.1 e.cell) at-pairs
        (at-into same_place (map pair_of gs) (pair_of e) (pair_of x) i in-pairs here-pairs joins)

-- the place at a given element, from the place at another default
pub here-from : (gs : List Entry) (e x : Entry) (i : ℕ) → i < length gs → x ≡ get_or gs i x → same_place (get_or gs i e).point.at e.point.at ≡ true → same_place x.point.at e.point.at ≡ true
here-from gs e x i low is here = ap (λ (y : Entry). same_place y.point.at e.point.at) (is ∙ any-default gs i x e low) ∙ here

-- the cell of a given element ends in zeros, where all do
pub ends-there : (gs : List Entry) (x : Entry) (i : ℕ) → i < length gs → x ≡ get_or gs i x → AllEndInZeros gs → EndsInZeros x.cell
ends-there gs x i low is zeros = subst (λ (e : Entry). EndsInZeros e.cell) (sym is) (zeros i x low)

pub appended : (gs : List Entry) (e : Entry) → NoneAt same_place e.point.at (map pair_of gs) → map pair_of (gs ++ e ∷ []) ≡ taken same_place (map pair_of gs) (pair_of e)
appended gs e none = map-append pair_of gs (e ∷ []) ∙ sym (taken-new same_place (map pair_of gs) (pair_of e) none)

pub appended-joins : (gs : List Entry) (e : Entry) → NoneAt same_place e.point.at (map pair_of gs) → JoinsInto same_place (map pair_of gs) (pair_of e)
appended-joins gs e none = into-new same_place (map pair_of gs) (pair_of e) none

-- no two points have one place still
pub apart-still : (old new : List Entry) (e : Entry) → TookIn old new e → AllApart same_place (map pair_of old) → AllApart same_place (map pair_of new)
apart-still old new e took apart = subst (AllApart same_place) (sym took.items) (apart-taken same_place (map pair_of old) (pair_of e) apart)

-- ---- in order

pub all-apart : (gs : List Entry) → Ascends point_cmp (map pair_of gs) → AllApart same_place (map pair_of gs)
all-apart gs up = ascends-apart same_place point_cmp point-total less-other (map pair_of gs) up

-- they ascend still, where the point is joined to one of them
pub ascends-at : (gs : List Entry) (e : Entry) (i : ℕ) → i < length gs → same_place (get_or gs i e).point.at e.point.at ≡ true → Ascends point_cmp (map pair_of gs)
    → Ascends point_cmp (taken same_place (map pair_of gs) (pair_of e))
ascends-at gs e i low here up = ascends-joined same_place point_cmp (map pair_of gs) (pair_of e) up
    (some-at same_place (map pair_of gs) (pair_of e) (pair_of e) i (omega (arith, low, length-map gs pair_of))
    (ap (λ (p : PlacedCell). same_place p.0 e.point.at) (get_or-map pair_of gs i e (pair_of e) low) ∙ here))

module _ (gs : List Entry) (e x : Entry) (n : ℕ) (some : n ≡ 0 → ⊥) (long : n ≡ length gs) (is : x ≡ get_or gs (n - 1) x) where
  last-pair : get_or (map pair_of gs) (n - 1) (pair_of x) ≡ pair_of x
  last-pair = at-pairs gs e x (n - 1) (omega (arith, some, long)) is

  last-place : n - 1 + 1 ≡ length (map pair_of gs)
  last-place = omega (arith, some, long, length-map gs pair_of)

  module _ (up : Ascends point_cmp (map pair_of gs)) where
    pub none-behind : point_cmp x.point.at e.point.at ≡ Less → NoneAt same_place e.point.at (map pair_of gs)
    none-behind less = behind-last same_place point_cmp point-total less-other (map pair_of gs) (pair_of e) (pair_of x) (n - 1) last-place up
        (ap (λ (p : PlacedCell). point_cmp p.0 e.point.at) last-pair ∙ less)

    pub still-ascends : point_cmp x.point.at e.point.at ≡ Less → Ascends point_cmp (taken same_place (map pair_of gs) (pair_of e))
    still-ascends less = subst (Ascends point_cmp) (sym (taken-new same_place (map pair_of gs) (pair_of e) (none-behind less)))
        (ascends-more same_place point_cmp point-total less-other (map pair_of gs) (pair_of e) (pair_of x) (n - 1) last-place up
        (ap (λ (p : PlacedCell). point_cmp p.0 e.point.at) last-pair ∙ less))

  pub same-last : point_cmp x.point.at e.point.at ≡ Equal → same_place (get_or gs (n - 1) e).point.at e.point.at ≡ true
  same-last tied =
      ap (λ (y : Entry). same_place y.point.at e.point.at) (any-default gs (n - 1) e x (omega (arith, some, long)) ∙ sym is)
      ∙ (ap (λ (k : List ℕ). same_place k e.point.at) (point-only x.point.at e.point.at tied) ∙ same-itself e.point.at)

  pub ascends-there : Ascends point_cmp (map pair_of gs) → point_cmp x.point.at e.point.at ≡ Equal → Ascends point_cmp (taken same_place (map pair_of gs) (pair_of e))
  ascends-there up tied = ascends-at gs e (n - 1) (omega (arith, some, long)) (same-last tied) up
