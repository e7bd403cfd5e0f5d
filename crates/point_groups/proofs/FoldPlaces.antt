-- Where an entry is joined, by the place in the list.
use Rattle.std.proofs.Common.{◌≡◌, ℕ, zero, suc, ◌+◌, ◌<◌, Bool, true, false, cond, List, [], ◌∷◌, ◌++◌, length, get_or, set, refl, sym, ◌∙◌, ap, subst, arith, true≢false, inl, inr, ◌⊎◌}
use Rattle.std.proofs.lemmas.Bool.{cases_Bool}
use Rattle.std.specs.declared.cmp.Ordering.{Ordering}
use Rattle.std.specs.declared.cmp.Ordering.TheVariants.{Less}
use Rattle.std.specs.List.{AllByRecursion}
use Rattle.std.specs.Cmp.{IsTotalOrder}
use Rattle.fact_model.specs.declared.cell.Cell.{Cell}
use Rattle.fact_model.specs.Cell.{join}
use Rattle.row_fold.specs.Ascends.{Ascends, Below}
use Rattle.point_groups.specs.Folded.{AllApart, JoinsInto, NoneAt, taken}
use Rattle.point_groups.specs.Joins.{Joins}

module _ {K : Type 0} (same : K → K → Bool) where
  -- an entry of a new place goes behind the others
  pub taken-new : (gs : List (K × Cell)) (e : K × Cell) → NoneAt same e.0 gs → taken same gs e ≡ gs ++ e ∷ []
  taken-new [] e none = refl
  taken-new (g ∷ gs) e none =
      ap (λ (b : Bool). cond b ((g.0, join g.1 e.1) ∷ gs) (g ∷ taken same gs e)) none.0 ∙ ap (λ ks. g ∷ ks) (taken-new gs e none.1)

  pub into-new : (gs : List (K × Cell)) (e : K × Cell) → NoneAt same e.0 gs → JoinsInto same gs e
  into-new [] e none = tt
  into-new (g ∷ gs) e none = (λ here. absurd (true≢false (sym here ∙ none.0)), into-new gs e none.1)

  -- where it joins, it joins to each entry of its place
  pub at-into : (gs : List (K × Cell)) (e d : K × Cell) (i : ℕ) → i < length gs → same (get_or gs i d).0 e.0 ≡ true → JoinsInto same gs e → Joins (get_or gs i d).1 e.1
  at-into [] e d i low here joins = absurd (omega arith)
  at-into (g ∷ gs) e d zero low here joins = joins.0 here
  at-into (g ∷ gs) e d (suc i) low here joins = at-into gs e d i (omega arith) here joins.1

  -- the list still has no two entries of one place
  none-taken : (k : K) (gs : List (K × Cell)) (e : K × Cell) → AllByRecursion (λ (h : K × Cell). same k h.0 ≡ false) gs → same k e.0 ≡ false
      → AllByRecursion (λ (h : K × Cell). same k h.0 ≡ false) (taken same gs e)
  none-taken k [] e all new = (new, tt)
  none-taken k (g ∷ gs) e all new = elim (same g.0 e.0) as (λ b. AllByRecursion (λ (h : K × Cell). same k h.0 ≡ false) (cond b ((g.0, join g.1 e.1) ∷ gs) (g ∷ taken same gs e)))
      [ true ↦ all | false ↦ (all.0, none-taken k gs e all.1 new) ]

  pub apart-taken : (gs : List (K × Cell)) (e : K × Cell) → AllApart same gs → AllApart same (taken same gs e)
  apart-taken [] e apart = (tt, tt)
  apart-taken (g ∷ gs) e apart = elim (cases_Bool (same g.0 e.0)) [
    | inl here ↦ subst (λ (b : Bool). AllApart same (cond b ((g.0, join g.1 e.1) ∷ gs) (g ∷ taken same gs e))) (sym here) apart
    | inr other ↦ subst (λ (b : Bool). AllApart same (cond b ((g.0, join g.1 e.1) ∷ gs) (g ∷ taken same gs e))) (sym other)
        (none-taken g.0 gs e apart.0 other, apart-taken gs e apart.1)
  ]

  module _ (only : (j k : K) → same j k ≡ true → j ≡ k) where
    -- the first entry has another place, where a later one has this place
    other-first : (g : K × Cell) (gs : List (K × Cell)) (k : K) (d : K × Cell) (i : ℕ) → i < length gs → AllByRecursion (λ (h : K × Cell). same g.0 h.0 ≡ false) gs
        → same (get_or gs i d).0 k ≡ true → same g.0 k ≡ false
    other-first g [] k d i low all here = absurd (omega arith)
    other-first g (h ∷ gs) k d zero low all here = ap (same g.0) (sym (only h.0 k here)) ∙ all.0
    other-first g (h ∷ gs) k d (suc i) low all here = other-first g gs k d i (omega arith) all.1 here

    -- an entry of a place that is there is joined there
    pub taken-at : (gs : List (K × Cell)) (e d : K × Cell) (i : ℕ) → i < length gs → AllApart same gs → same (get_or gs i d).0 e.0 ≡ true
        → taken same gs e ≡ set gs i ((get_or gs i d).0, join (get_or gs i d).1 e.1)
    taken-at [] e d i low apart here = absurd (omega arith)
    taken-at (g ∷ gs) e d zero low apart here = ap (λ (b : Bool). cond b ((g.0, join g.1 e.1) ∷ gs) (g ∷ taken same gs e)) here
    taken-at (g ∷ gs) e d (suc i) low apart here =
        ap (λ (b : Bool). cond b ((g.0, join g.1 e.1) ∷ gs) (g ∷ taken same gs e)) (other-first g gs e.0 d i (omega arith) apart.0 here)
        ∙ ap (λ ks. g ∷ ks) (taken-at gs e d i (omega arith) apart.1 here)

    -- and joins, where it joins to the entry there
    pub into-at : (gs : List (K × Cell)) (e d : K × Cell) (i : ℕ) → i < length gs → AllApart same gs → same (get_or gs i d).0 e.0 ≡ true
        → Joins (get_or gs i d).1 e.1 → JoinsInto same gs e
    into-at [] e d i low apart here joins = absurd (omega arith)
    into-at (g ∷ gs) e d zero low apart here joins = (λ is. joins, into-new gs e (none-from gs apart.0))
      where
        none-from : (hs : List (K × Cell)) → AllByRecursion (λ (h : K × Cell). same g.0 h.0 ≡ false) hs → NoneAt same e.0 hs
        none-from [] all = tt
        none-from (h ∷ hs) all = (
          elim (cases_Bool (same h.0 e.0)) [
            | inl too ↦ absurd (true≢false (sym here ∙ (ap (same g.0) (sym (only h.0 e.0 too)) ∙ all.0)))
            | inr other ↦ other
          ],
          none-from hs all.1,
        )
    into-at (g ∷ gs) e d (suc i) low apart here joins =
        (λ is. absurd (true≢false (sym is ∙ other-first g gs e.0 d i (omega arith) apart.0 here)), into-at gs e d i (omega arith) apart.1 here joins)

  -- ---- places in order

  module _ (R : K → K → Ordering) (o : IsTotalOrder R) (less-other : (j k : K) → R j k ≡ Less → same j k ≡ false) where
    below-apart : (k : K) (gs : List (K × Cell)) → Below R k gs → AllByRecursion (λ (h : K × Cell). same k h.0 ≡ false) gs
    below-apart k [] below = tt
    below-apart k (g ∷ gs) below = (less-other k g.0 below.0, below-apart k gs below.1)

    pub ascends-apart : (gs : List (K × Cell)) → Ascends R gs → AllApart same gs
    ascends-apart [] up = tt
    ascends-apart (g ∷ gs) up = (below-apart g.0 gs up.0, ascends-apart gs up.1)

    -- an entry behind the last one is of a new place
    pub behind-last : (gs : List (K × Cell)) (e d : K × Cell) (n : ℕ) → n + 1 ≡ length gs → Ascends R gs → R (get_or gs n d).0 e.0 ≡ Less → NoneAt same e.0 gs
    behind-last [] e d n long up less = tt
    behind-last (g ∷ []) e d n long up less = (less-other g.0 e.0 (subst (λ n. R (get_or (g ∷ []) n d).0 e.0 ≡ Less) (first n long) less), tt)
      where
        first : (n : ℕ) → n + 1 ≡ 1 → n ≡ 0
        first n long = omega arith
    behind-last (g ∷ h ∷ gs) e d zero long up less = absurd (omega arith)
    behind-last (g ∷ h ∷ gs) e d (suc n) long up less =
        (less-other g.0 e.0 (o.trans g.0 (get_or (h ∷ gs) n d).0 e.0 (below-at (h ∷ gs) n (omega arith) up.0) less), behind-last (h ∷ gs) e d n (omega arith) up.1 less)
      where
        below-at : (hs : List (K × Cell)) (n : ℕ) → n < length hs → Below R g.0 hs → R g.0 (get_or hs n d).0 ≡ Less
        below-at [] n low below = absurd (omega arith)
        below-at (h ∷ hs) zero low below = below.0
        below-at (h ∷ hs) (suc n) low below = below-at hs n (omega arith) below.1

    pub ascends-more : (gs : List (K × Cell)) (e d : K × Cell) (n : ℕ) → n + 1 ≡ length gs → Ascends R gs → R (get_or gs n d).0 e.0 ≡ Less → Ascends R (gs ++ e ∷ [])
    ascends-more [] e d n long up less = (tt, tt)
    ascends-more (g ∷ []) e d n long up less = ((subst (λ n. R (get_or (g ∷ []) n d).0 e.0 ≡ Less) (first n long) less, tt), (tt, tt))
      where
        first : (n : ℕ) → n + 1 ≡ 1 → n ≡ 0
        first n long = omega arith
    ascends-more (g ∷ h ∷ gs) e d zero long up less = absurd (omega arith)
    ascends-more (g ∷ h ∷ gs) e d (suc n) long up less =
        (below-more (h ∷ gs) up.0 (o.trans g.0 (get_or (h ∷ gs) n d).0 e.0 (below-at (h ∷ gs) n (omega arith) up.0) less), ascends-more (h ∷ gs) e d n (omega arith) up.1 less)
      where
        below-at : (hs : List (K × Cell)) (n : ℕ) → n < length hs → Below R g.0 hs → R g.0 (get_or hs n d).0 ≡ Less
        below-at [] n low below = absurd (omega arith)
        below-at (h ∷ hs) zero low below = below.0
        below-at (h ∷ hs) (suc n) low below = below-at hs n (omega arith) below.1

        below-more : (hs : List (K × Cell)) → Below R g.0 hs → R g.0 e.0 ≡ Less → Below R g.0 (hs ++ e ∷ [])
        below-more [] below less = (less, tt)
        below-more (h ∷ hs) below less = (below.0, below-more hs below.1 less)

  -- some entry has the place
  abbrev pub JoinedSomewhere : List (K × Cell) → K × Cell → Type 0
  JoinedSomewhere [] e = ⊥
  JoinedSomewhere (g ∷ gs) e = (same g.0 e.0 ≡ true) ⊎ JoinedSomewhere gs e

  later-some : (g : K × Cell) (gs : List (K × Cell)) (e : K × Cell) → JoinedSomewhere (g ∷ gs) e → same g.0 e.0 ≡ false → JoinedSomewhere gs e
  later-some g gs e some other = elim some [ inl here ↦ absurd (true≢false (sym here ∙ other)) | inr later ↦ later ]

  pub some-at : (gs : List (K × Cell)) (e d : K × Cell) (i : ℕ) → i < length gs → same (get_or gs i d).0 e.0 ≡ true → JoinedSomewhere gs e
  some-at [] e d i low here = absurd (omega arith)
  some-at (g ∷ gs) e d zero low here = inl here
  some-at (g ∷ gs) e d (suc i) low here = inr (some-at gs e d i (omega arith) here)

  -- the places stay as they are, where an entry is joined
  module _ (R : K → K → Ordering) where
    below-joined : (k : K) (gs : List (K × Cell)) (e : K × Cell) → Below R k gs → JoinedSomewhere gs e → Below R k (taken same gs e)
    below-joined k [] e below some = absurd some
    below-joined k (g ∷ gs) e below some = elim (cases_Bool (same g.0 e.0)) [
      | inl here ↦ subst (λ (b : Bool). Below R k (cond b ((g.0, join g.1 e.1) ∷ gs) (g ∷ taken same gs e))) (sym here) below
      | inr other ↦ subst (λ (b : Bool). Below R k (cond b ((g.0, join g.1 e.1) ∷ gs) (g ∷ taken same gs e))) (sym other)
          (below.0, below-joined k gs e below.1 (later-some g gs e some other))
    ]

    pub ascends-joined : (gs : List (K × Cell)) (e : K × Cell) → Ascends R gs → JoinedSomewhere gs e → Ascends R (taken same gs e)
    ascends-joined [] e up some = absurd some
    ascends-joined (g ∷ gs) e up some = elim (cases_Bool (same g.0 e.0)) [
      | inl here ↦ subst (λ (b : Bool). Ascends R (cond b ((g.0, join g.1 e.1) ∷ gs) (g ∷ taken same gs e))) (sym here) up
      | inr other ↦ subst (λ (b : Bool). Ascends R (cond b ((g.0, join g.1 e.1) ∷ gs) (g ∷ taken same gs e))) (sym other)
          (below-joined g.0 gs e up.0 (later-some g gs e some other), ascends-joined gs e up.1 (later-some g gs e some other))
    ]
