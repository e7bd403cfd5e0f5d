-- Points in the order of their keys, those of one key joined: one turn of the loop.
use Rattle.std.proofs.Common.{◌≡◌, ℕ, ◌+◌, ◌<◌, true, false, List, [], ◌∷◌, ◌++◌, map, length, drop, get_or, sym, ◌∙◌, ap, subst, append_assoc, true≢false}
use Rattle.std.proofs.lemmas.List.{drop_more, map-append}
use Rattle.std.specs.Ordering.{is_eq}
use Rattle.fact_model.specs.declared.cell.Cell.{Cell}
use Rattle.fact_model.specs.Cell.{join}
use Rattle.fact_model.specs.Value.{Key, key_cmp}
use Rattle.fact_model.proofs.ValueOrder.{key_cmp-IsAntisymmetric}
use Rattle.cube_point.specs.declared.point.Entry.{Entry}
use Rattle.spec_points.specs.Points.{View}
use Rattle.row_fold.specs.Squeezed.{squeezed}
use Rattle.spec_points.proofs.Cells.{join-assoc}
use Rattle.attr_dict.specs.Book.{Book}
use Rattle.row_fold.proofs.Squeezes.{squeezed-same, squeezed-other}
use Rattle.spec_points.specs.Entries.{both}
use Rattle.point_groups.specs.Bare.{bare, nowhere}
use Rattle.point_groups.specs.Joins.{Joins}
use Rattle.slice_rows.specs.Grouped.{NeighboursJoinTo, key_of_entry, keyed, picked}

module _ (b : Book) (view : View) (group : List ℕ) where
  abbrev pub squeezed_keys : List Entry → List (Key × Cell)
  squeezed_keys es = squeezed key_cmp join (map (keyed b view group) es)

  -- the point of number i of what follows the first, at which the loop stands
  module _ (points : List Entry) (rest : List ℕ) (i : ℕ) (last : Entry) (d : ℕ) (low : i < length rest) where
    abbrev next : Entry
    next = get_or points (get_or rest i d) nowhere

    abbrev same_key : Type 0
    same_key = is_eq (key_cmp (key_of_entry b view group last) (key_of_entry b view group next)) ≡ true

    abbrev other_key : Type 0
    other_key = is_eq (key_cmp (key_of_entry b view group last) (key_of_entry b view group next)) ≡ false

    two-same : same_key → squeezed_keys (last ∷ picked points (drop i rest)) ≡ squeezed_keys (both last next ∷ picked points (drop (i + 1) rest))
    two-same same =
        ap (λ ns. squeezed_keys (last ∷ picked points ns)) (drop_more rest i d low)
        ∙ squeezed-same key_cmp key_cmp-IsAntisymmetric join join-assoc (keyed b view group last) (keyed b view group next) (map (keyed b view group) (picked points (drop (i + 1) rest))) same

    two-other : other_key → squeezed_keys (last ∷ picked points (drop i rest)) ≡ keyed b view group last ∷ squeezed_keys (next ∷ picked points (drop (i + 1) rest))
    two-other other =
        ap (λ ns. squeezed_keys (last ∷ picked points ns)) (drop_more rest i d low)
        ∙ squeezed-other key_cmp key_cmp-IsAntisymmetric join join-assoc (keyed b view group last) (keyed b view group next) (map (keyed b view group) (picked points (drop (i + 1) rest))) other

    abbrev pub so_far : List Entry → Entry → ℕ → List (Key × Cell)
    so_far done e k = map (keyed b view group) done ++ squeezed_keys (e ∷ picked points (drop k rest))

    -- a point of the same key is joined to the one before it
    pub turn-same : (done : List Entry) (whole : List (Key × Cell)) (j : Entry) → so_far done last i ≡ whole → same_key → j ≡ both last next → so_far done j (i + 1) ≡ whole
    turn-same done whole j before same is =
        ap (λ e. so_far done e (i + 1)) is ∙ (ap (λ es. map (keyed b view group) done ++ es) (sym (two-same same)) ∙ before)

    -- a point of another key begins a new one
    pub turn-other : (done : List Entry) (whole : List (Key × Cell)) (more : List Entry) (j : Entry) → so_far done last i ≡ whole → other_key → more ≡ done ++ bare last ∷ [] → j ≡ next
        → so_far more j (i + 1) ≡ whole
    turn-other done whole more j before other pushed is =
        (λ k. so_far (pushed k) (is k) (i + 1))
        ∙ (ap (λ es. es ++ squeezed_keys (next ∷ picked points (drop (i + 1) rest))) (map-append (keyed b view group) done (bare last ∷ []))
        ∙ (append_assoc (map (keyed b view group) done) (keyed b view group last ∷ []) (squeezed_keys (next ∷ picked points (drop (i + 1) rest)))
        ∙ (ap (λ es. map (keyed b view group) done ++ es) (sym (two-other other)) ∙ before)))

    -- ---- which cells join

    abbrev pub left : Entry → ℕ → Type 0
    left e k = NeighboursJoinTo (keyed b view group e) (map (keyed b view group) (picked points (drop k rest)))

    opened : left last i → NeighboursJoinTo (keyed b view group last) (keyed b view group next ∷ map (keyed b view group) (picked points (drop (i + 1) rest)))
    opened = subst (λ (ns : List ℕ). NeighboursJoinTo (keyed b view group last) (map (keyed b view group) (picked points ns))) (drop_more rest i d low)

    closed : NeighboursJoinTo (keyed b view group last) (keyed b view group next ∷ map (keyed b view group) (picked points (drop (i + 1) rest))) → left last i
    closed = subst (λ (ns : List ℕ). NeighboursJoinTo (keyed b view group last) (map (keyed b view group) (picked points ns))) (sym (drop_more rest i d low))

    pub first-join : same_key → left last i → Joins last.cell next.cell
    first-join same h = ((opened h).0 same).0

    pub later-join : (j : Entry) → j ≡ both last next → same_key → left last i → left j (i + 1)
    later-join j is same h = subst (λ (e : Entry). left e (i + 1)) (sym is) ((opened h).0 same).1

    pub other-join : (j : Entry) → j ≡ next → other_key → left last i → left j (i + 1)
    other-join j is other h = subst (λ (e : Entry). left e (i + 1)) (sym is) ((opened h).1 other)

    pub joined-too : (j : Entry) → j ≡ both last next → same_key → Joins last.cell next.cell → left j (i + 1) → left last i
    joined-too j is same join h = closed (λ _. (join, subst (λ (e : Entry). left e (i + 1)) is h), λ other. absurd (true≢false (sym same ∙ other)))

    pub apart-too : (j : Entry) → j ≡ next → other_key → left j (i + 1) → left last i
    apart-too j is other h = closed (λ same. absurd (true≢false (sym same ∙ other)), λ _. subst (λ (e : Entry). left e (i + 1)) is h)
