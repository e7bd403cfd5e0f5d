-- One entry more behind those that came.
use Rattle.std.proofs.Common.{◌≡◌, ℕ, Bool, true, false, cond, List, [], ◌∷◌, ◌++◌, map, refl, sym, ◌∙◌, ap, subst, true≢false}
use Rattle.std.proofs.lemmas.List.{map-append}
use Rattle.std.specs.List.{AllByRecursion}
use Rattle.fact_model.specs.declared.cell.Cell.{Cell}
use Rattle.fact_model.specs.Cell.{join}
use Rattle.cube_point.specs.declared.point.Entry.{Entry}
use Rattle.spec_points.specs.Entries.{pair_of}
use Rattle.spec_points.specs.Points.{PlacedCell}
use Rattle.point_groups.specs.Folded.{AllApart, AllJoinInto, JoinsInto, folded, taken}
use Rattle.point_groups.specs.Held.{ArePlaced, WereGiven}
use Rattle.point_groups.specs.Kept.{AllGather, StaysApart, TookIn, gathered, kept_pair, same_place}
use Rattle.point_groups.specs.declared.groups.Groups.{Groups}
use Rattle.point_groups.proofs.FoldPlaces.{apart-taken}

module _ {K : Type 0} (same : K → K → Bool) where
  pub folded-more : (gs es : List (K × Cell)) (e : K × Cell) → folded same gs (es ++ e ∷ []) ≡ taken same (folded same gs es) e
  folded-more gs [] e = refl
  folded-more gs (d ∷ es) e = folded-more (taken same gs d) es e

  pub into-more : (gs es : List (K × Cell)) (e : K × Cell) → AllJoinInto same gs es → JoinsInto same (folded same gs es) e → AllJoinInto same gs (es ++ e ∷ [])
  into-more gs [] e all joins = (joins, tt)
  into-more gs (d ∷ es) e all joins = (all.0, into-more (taken same gs d) es e all.1 joins)

  pub more-into : (gs es : List (K × Cell)) (e : K × Cell) → AllJoinInto same gs (es ++ e ∷ []) → AllJoinInto same gs es × JoinsInto same (folded same gs es) e
  more-into gs [] e all = (tt, all.0)
  more-into gs (d ∷ es) e all = let rest = more-into (taken same gs d) es e all.1 in ((all.0, rest.0), rest.1)

  pub apart-folded : (gs es : List (K × Cell)) → AllApart same gs → AllApart same (folded same gs es)
  apart-folded gs [] apart = apart
  apart-folded gs (e ∷ es) apart = apart-folded (taken same gs e) es (apart-taken same gs e apart)

module _ (dims : List Bool) where
  abbrev pairs : List Entry → List PlacedCell
  pairs es = map (kept_pair dims) (map pair_of es)

  pairs-more : (es : List Entry) (e : Entry) → pairs (es ++ e ∷ []) ≡ pairs es ++ kept_pair dims (pair_of e) ∷ []
  pairs-more es e = ap (map (kept_pair dims)) (map-append pair_of es (e ∷ [])) ∙ map-append (kept_pair dims) (map pair_of es) (pair_of e ∷ [])

  pub gathered-more : (es : List Entry) (e : Entry) → gathered dims (es ++ e ∷ []) ≡ taken same_place (gathered dims es) (kept_pair dims (pair_of e))
  gathered-more es e = ap (folded same_place []) (pairs-more es e) ∙ folded-more same_place [] (pairs es) (kept_pair dims (pair_of e))

  pub gather-more : (es : List Entry) (e : Entry) → AllGather dims es → JoinsInto same_place (gathered dims es) (kept_pair dims (pair_of e)) → AllGather dims (es ++ e ∷ [])
  gather-more es e all joins = subst (AllJoinInto same_place []) (sym (pairs-more es e)) (into-more same_place [] (pairs es) (kept_pair dims (pair_of e)) all joins)

  pub more-gather : (es : List Entry) (e : Entry) → AllGather dims (es ++ e ∷ []) → AllGather dims es × JoinsInto same_place (gathered dims es) (kept_pair dims (pair_of e))
  more-gather es e all = more-into same_place [] (pairs es) (kept_pair dims (pair_of e)) (subst (AllJoinInto same_place []) (pairs-more es e) all)

-- ---- one point more was given

module _ (start old new : Groups) (es : List Entry) (e k : Entry) (was : WereGiven start es old) where
  -- the point by its kept coordinates, as these were told at the start
  as-start : pair_of k ≡ kept_pair old.dims (pair_of e) → pair_of k ≡ kept_pair start.dims (pair_of e)
  as-start is = is ∙ ap (λ dims. kept_pair dims (pair_of e)) was.dims

  -- groups that took it in
  pub given-joined : old.is_sound ≡ true → new.is_sound ≡ true → new.dims ≡ old.dims → pair_of k ≡ kept_pair old.dims (pair_of e)
      → TookIn old.items new.items k → ArePlaced new.is_ascending new.items new.index.keys → WereGiven start (es ++ e ∷ []) new
  given-joined sound still same is took placed =
      let before = was.sound sound in
      let by-start = as-start is in record {
        dims = same ∙ was.dims;
        sound = λ h. record {
          items = took.items ∙ ((λ i. taken same_place (before.items i) (by-start i)) ∙ sym (gathered-more start.dims es e));
          joins = gather-more start.dims es e before.joins
              (subst (λ gs. JoinsInto same_place gs (kept_pair start.dims (pair_of e))) before.items (subst (JoinsInto same_place (map pair_of old.items)) by-start took.joins));
          placed = placed;
        };
        broken = λ h. absurd (true≢false (sym still ∙ h));
      }

  -- groups that could not join it
  pub given-apart : old.is_sound ≡ true → new.is_sound ≡ false → new.dims ≡ old.dims → pair_of k ≡ kept_pair old.dims (pair_of e)
      → StaysApart old.items k → WereGiven start (es ++ e ∷ []) new
  given-apart sound now same is apart =
      let before = was.sound sound in record {
        dims = same ∙ was.dims;
        sound = λ h. absurd (true≢false (sym h ∙ now));
        broken = λ h all. apart (subst (JoinsInto same_place (map pair_of old.items)) (sym (as-start is))
            (subst (λ gs. JoinsInto same_place gs (kept_pair start.dims (pair_of e))) (sym before.items) (more-gather start.dims es e all).1));
      }

  -- groups that are broken stay so
  pub given-broken : old.is_sound ≡ false → new ≡ old → WereGiven start (es ++ e ∷ []) new
  given-broken broken same = subst (WereGiven start (es ++ e ∷ [])) (sym same) (record {
    dims = was.dims;
    sound = λ h. absurd (true≢false (sym h ∙ broken));
    broken = λ h all. was.broken broken (more-gather start.dims es e all).0;
  })

-- ---- what holds of each place

every-taken : (P : List ℕ → Type 0) (gs : List PlacedCell) (e : PlacedCell) → AllByRecursion (λ (e : PlacedCell). P e.0) gs → P e.0
    → AllByRecursion (λ (e : PlacedCell). P e.0) (taken same_place gs e)
every-taken P [] e all p = (p, tt)
every-taken P (g ∷ gs) e all p = elim (same_place g.0 e.0) as (λ b. AllByRecursion (λ (e : PlacedCell). P e.0) (cond b ((g.0, join g.1 e.1) ∷ gs) (g ∷ taken same_place gs e)))
    [ true ↦ all | false ↦ (all.0, every-taken P gs e all.1 p) ]

pub every-folded : (P : List ℕ → Type 0) (gs es : List PlacedCell) → AllByRecursion (λ (e : PlacedCell). P e.0) gs → AllByRecursion (λ (e : PlacedCell). P e.0) es
    → AllByRecursion (λ (e : PlacedCell). P e.0) (folded same_place gs es)
every-folded P gs [] all more = all
every-folded P gs (e ∷ es) all more = every-folded P (taken same_place gs e) es (every-taken P gs e all more.0) more.1
