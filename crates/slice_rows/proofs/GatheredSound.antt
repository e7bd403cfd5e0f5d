-- Points of facts, joined by their grouped coordinates, are sound.
use Rattle.std.proofs.Common.{◌≡◌, ◌&&◌, ℕ, ◌^◌, ◌<◌, ◌+◌, Bool, true, cond, List, [], ◌∷◌, map, filter, length, is_some, refl, sym, ◌∙◌, ap, subst, arith, inl, inr}
use Rattle.std.proofs.lemmas.Bool.{cases_Bool}
use Rattle.std.specs.List.{AllByRecursion, list_all}
use Rattle.fact_model.specs.declared.cell.Cell.{Cell}
use Rattle.fact_model.specs.declared.fact.Fact.{Fact}
use Rattle.fact_model.specs.declared.slice.Slice.{Slice}
use Rattle.fact_model.specs.Groups.{is}
use Rattle.fact_model.specs.Value.{Key, key_cmp}
use Rattle.cube_point.specs.declared.point.Entry.{Entry}
use Rattle.spec_points.specs.Agree.{among}
use Rattle.spec_points.specs.Answer.{coordinate}
use Rattle.spec_points.specs.Entries.{entry_of, pair_of}
use Rattle.spec_points.specs.Points.{PlacedCell, View}
use Rattle.spec_points.specs.Weights.{weight, size_at, count_in}
use Rattle.spec_points.proofs.Members.{all-every, list_all-every}
use Rattle.attr_dict.specs.Book.{Book, value_of}
use Rattle.spec_points.specs.Light.{IsLight, KeepMasses}
use Rattle.point_groups.specs.Kept.{AllGather, gathered, grouped_dims, kept, kept_pair, same_place}
use Rattle.point_groups.proofs.FoldSteps.{every-folded}
use Rattle.slice_rows.specs.Grouped.{AllJoin, Answers, AreSound, cells_of, group_key, has_values, key_of_entry, points_inside}
use Rattle.slice_rows.specs.Sound.{GiveRows}
use Rattle.slice_rows.proofs.FactPoints as facts
use Rattle.slice_rows.proofs.GatheredRows.{coordinate-kept, in-itself}
use Rattle.slice_rows.proofs.LightFolds.{light-folded, light-gathers}

module _ (b : Book) (view : View) (group : List ℕ) where
  abbrev Stands : List ℕ → Type 0
  Stands place = list_all (λ a. is_some (value_of b a (coordinate view place a))) group ≡ true

  tests-kept : (some : List ℕ) (place : List ℕ) → AllByRecursion (λ a. among group a ≡ true) some
      → list_all (λ a. is_some (value_of b a (coordinate view (kept (grouped_dims group view) place) a))) some ≡ list_all (λ a. is_some (value_of b a (coordinate view place a))) some
  tests-kept [] place m = refl
  tests-kept (a ∷ some) place m = λ i. is_some (value_of b a (coordinate-kept group view place a m.0 i)) && tests-kept some place m.1 i

  stand-kept : (ps : List Entry) → AllByRecursion (λ e. has_values b view group e ≡ true) ps → AllByRecursion (λ (e : PlacedCell). Stands e.0) (map (kept_pair (grouped_dims group view)) (map pair_of ps))
  stand-kept [] all = tt
  stand-kept (e ∷ ps) all = (tests-kept group e.point.at (in-itself group group (λ a h. h)) ∙ all.0, stand-kept ps all.1)

  from-pairs : (gs : List Entry) → AllByRecursion (λ (e : PlacedCell). Stands e.0) (map pair_of gs) → AllByRecursion (λ e. has_values b view group e ≡ true) gs
  from-pairs [] all = tt
  from-pairs (g ∷ gs) all = (all.0, from-pairs gs all.1)

  -- the values of grouped coordinates stay known
  pub values-gathered : (es gs : List Entry) → map pair_of gs ≡ gathered (grouped_dims group view) es → list_all (has_values b view group) es ≡ true → list_all (has_values b view group) gs ≡ true
  values-gathered es gs is known =
      list_all-every (has_values b view group) gs (from-pairs gs (subst (AllByRecursion (λ (e : PlacedCell). Stands e.0)) (sym is)
      (every-folded Stands [] (map (kept_pair (grouped_dims group view)) (map pair_of es)) tt (stand-kept es (all-every (has_values b view group) es known)))))

  -- the cells of a key, from pairs
  cells-pairs : (k : Key) (gs : List Entry) → cells_of b view group k gs ≡ map (λ (e : PlacedCell). e.1) (filter (λ (e : PlacedCell). is key_cmp k (group_key b view group e.0)) (map pair_of gs))
  cells-pairs k [] = refl
  cells-pairs k (g ∷ gs) =
      let test : Entry → Bool = λ e. is key_cmp k (key_of_entry b view group e) in
      let pair_test : PlacedCell → Bool = λ e. is key_cmp k (group_key b view group e.0) in
      elim (cases_Bool (test g)) [
        | inl t ↦
            ap (λ (t : Bool). map (λ (e : Entry). e.cell) (cond t (g ∷ filter test gs) (filter test gs))) t
            ∙ (ap (λ cs. g.cell ∷ cs) (cells-pairs k gs)
            ∙ sym (ap (λ (t : Bool). map (λ (e : PlacedCell). e.1) (cond t (pair_of g ∷ filter pair_test (map pair_of gs)) (filter pair_test (map pair_of gs)))) t))
        | inr f ↦
            ap (λ (t : Bool). map (λ (e : Entry). e.cell) (cond t (g ∷ filter test gs) (filter test gs))) f
            ∙ (cells-pairs k gs
            ∙ sym (ap (λ (t : Bool). map (λ (e : PlacedCell). e.1) (cond t (pair_of g ∷ filter pair_test (map pair_of gs)) (filter pair_test (map pair_of gs)))) f))
      ]

  -- so do the values
  values-pairs : (gs : List Entry) → list_all (has_values b view group) gs ≡ list_all (λ (e : PlacedCell). list_all (λ a. is_some (value_of b a (coordinate view e.0 a))) group) (map pair_of gs)
  values-pairs [] = refl
  values-pairs (g ∷ gs) = ap (λ t. has_values b view group g && t) (values-pairs gs)

  -- points of the same places and cells are sound alike
  pub sound-alike : (gs hs : List Entry) → map pair_of gs ≡ map pair_of hs → AreSound b view group gs → AreSound b view group hs
  sound-alike gs hs same sound = record {
    values = values-pairs hs ∙ (ap (list_all (λ (e : PlacedCell). list_all (λ a. is_some (value_of b a (coordinate view e.0 a))) group)) (sym same) ∙ (sym (values-pairs gs) ∙ sound.values));
    cells = λ k. subst AllJoin (cells-pairs k gs
        ∙ (ap (λ (ps : List PlacedCell). map (λ (e : PlacedCell). e.1) (filter (λ (e : PlacedCell). is key_cmp k (group_key b view group e.0)) ps)) same
        ∙ sym (cells-pairs k hs))) (sound.cells k);
  }

  -- ---- weights look at cells alone

  weight-kept : (f : Cell → ℕ) (ps : List PlacedCell) → weight f (map (kept_pair (grouped_dims group view)) ps) ≡ weight f ps
  weight-kept f [] = refl
  weight-kept f (e ∷ ps) = ap (λ n. f e.1 + n) (weight-kept f ps)

  measures-kept : (n : ℕ) (ps : List PlacedCell) → AllByRecursion (λ (e : PlacedCell). e.1.measures ≡ n) ps → AllByRecursion (λ (e : PlacedCell). e.1.measures ≡ n) (map (kept_pair (grouped_dims group view)) ps)
  measures-kept n [] all = tt
  measures-kept n (e ∷ ps) all = (all.0, measures-kept n ps all.1)

  light-kept : (n : ℕ) (ps : List PlacedCell) → IsLight n ps → IsLight n (map (kept_pair (grouped_dims group view)) ps)
  light-kept n ps light = record {
    masses = λ m low. omega (arith, light.masses m low, weight-kept (size_at m) ps);
    count = omega (arith, light.count, weight-kept count_in ps);
    same = measures-kept n ps light.same;
  }

  -- light points join as they come
  pub light-all_gather : (n : ℕ) (es : List Entry) → IsLight n (map pair_of es) → AllGather (grouped_dims group view) es
  light-all_gather n es light = light-gathers same_place n (map (kept_pair (grouped_dims group view)) (map pair_of es)) (light-kept n (map pair_of es) light)

  -- and what comes of them is sound
  pub sound-gathered : (n : ℕ) (es gs : List Entry) → map pair_of gs ≡ gathered (grouped_dims group view) es → IsLight n (map pair_of es) → list_all (has_values b view group) es ≡ true
      → AreSound b view group gs
  sound-gathered n es gs to light known = record {
    values = values-gathered es gs to known;
    cells = λ k. subst AllJoin (sym (cells-pairs k gs))
        (facts.light-joins n (filter (λ (e : PlacedCell). is key_cmp k (group_key b view group e.0)) (map pair_of gs))
        (facts.light-filter n (λ (e : PlacedCell). is key_cmp k (group_key b view group e.0)) (map pair_of gs)
        (subst (IsLight n) (sym to) (light-folded same_place n (map (kept_pair (grouped_dims group view)) (map pair_of es)) (light-kept n (map pair_of es) light)))));
  }

-- ---- points of facts

module _ (b : Book) (view : View) (s : Slice) (n : ℕ) (all : List Fact) (are : Answers b view s all) (masses : KeepMasses all) (few : length all < 2 ^ 64) where
  light-inside : IsLight n (map pair_of (points_inside b n view s all))
  light-inside = subst (IsLight n) (sym (facts.pairs-back (facts.kept b view s n all are))) (facts.inside-light b view s n all are masses few)

  -- they join as they come
  pub facts-gather : AllGather (grouped_dims s.group view) (points_inside b n view s all)
  facts-gather = light-all_gather b view s.group n (points_inside b n view s all) light-inside

  -- and what comes of them is sound
  pub facts-sound : (gs : List Entry) → map pair_of gs ≡ gathered (grouped_dims s.group view) (points_inside b n view s all) → AreSound b view s.group gs
  facts-sound gs is = sound-gathered b view s.group n (points_inside b n view s all) gs is light-inside (facts.inside-known b view s n all are)

  -- so they give rows
  pub facts-give : GiveRows b view s.group (points_inside b n view s all)
  facts-give = record {
    gather = facts-gather;
    sound = facts-sound (map entry_of (gathered (grouped_dims s.group view) (points_inside b n view s all))) (facts.pairs-back (gathered (grouped_dims s.group view) (points_inside b n view s all)));
  }
