-- The promises of a packer: its steps write the pages of the tree, one after another, and come to an end.
use Rattle.std.proofs.Common.{◌≡◌, ℕ, zero, suc, List, [], ◌∷◌, ◌++◌, length, map, refl, ap, sym, ◌∙◌, inl, inr, ◌⊎◌, arith, ◌≤◌, ◌<◌, ◌+◌, length-append, subst, Option, Some, None}
use Rattle.std.specs.Prelude.{flat_map}
use Rattle.std.proofs.lemmas.Bool.{cases_Bool}
use Rattle.spec_tree.specs.Runs.{runs, top}
use Rattle.spec_tree.specs.Tree.{Page, laid, leaf, inner, tree}
use Rattle.spec_tree.specs.Counts.{counts_of, tree_pages, reach}
use Rattle.spec_tree.specs.Leaves.{leaf_ends, leaf_runs}
use Rattle.spec_tree.specs.Children.{IsChildOver}
use Rattle.spec_tree.specs.Levels.{full_level, rest_level}
use Rattle.spec_tree.specs.Packing.{State, start, all_entries, IsPackable, IsDone, Packs, takes_entry, writes_leaf, closes_full, closes_rest, PacksMany, none_yet, one_more}
use Rattle.spec_tree.proofs.Leaves.{leaves-views}
use Rattle.spec_tree.proofs.Counts.{leaves-count, tree-count}
use Rattle.spec_tree.proofs.Packing.{StandsAt, packs-many, packs-begins, packs-done}

module _ {E C : Type 0} (arity : E → ℕ) (room : ℕ → ℕ) (k : ℕ) (child : List E → ℕ → C) (over : List C → ℕ → C) where
  -- ---- some step applies until all is written

  abbrev Goes : State E C → Type 0
  Goes s = IsDone k s ⊎ ((page : Page E C) × (t : State E C) × Packs arity room k child over s page t)

  not-done : (es b : List E) (e : E) (ls : List (List C)) (n : ℕ) → IsDone k (record { to_come = es; buffer = b ++ e ∷ []; levels = ls; next_page = n }) → ⊥
  not-done es b e ls n d = let z : length (b ++ e ∷ []) ≡ 0 = ap length d.buffer in omega (arith, z, length-append b (e ∷ []))

  goes : (es b : List E) (ls : List (List C)) (n : ℕ) → full_level k ls ≡ None → Goes (record { to_come = es; buffer = b; levels = ls; next_page = n })
  goes [] [] ls n none = by_rest (rest_level ls) refl
    where
      by_rest : (o : Option ℕ) → rest_level ls ≡ o → Goes (record { to_come = []; buffer = []; levels = ls; next_page = n })
      by_rest None is = inl (record { to_come = refl; buffer = refl; full = none; rest = is })
      by_rest (Some i) is = inr (_, _, closes_rest none is)
  goes [] (x ∷ b) ls n none = inr (_, _, writes_leaf none refl)
  goes (e ∷ es) b ls n none = elim (cases_Bool (leaf_ends arity room b (e ∷ es))) [
    | inl w ↦ inr (_, _, writes_leaf none w)
    | inr w ↦ elim (goes es (b ++ e ∷ []) ls n none) [ inl d ↦ absurd (not-done es b e ls n d) | inr s ↦ inr (s.0, s.1, takes_entry none w s.2) ]
  ]

  -- nothing is left to be written, or the packer writes a page
  pub packs-goes-on : (s : State E C) → Goes s
  packs-goes-on s = by_full (full_level k s.levels) refl
    where
      by_full : (o : Option ℕ) → full_level k s.levels ≡ o → Goes s
      by_full None is = goes s.to_come s.buffer s.levels s.next_page is
      by_full (Some i) is = inr (_, _, closes_full is)

  -- the same step between equal states
  pub packs-same : {s u t v : State E C} {p q : Page E C} → s ≡ u → p ≡ q → t ≡ v → Packs arity room k child over s p t → Packs arity room k child over u q v
  packs-same {s} {u} {t} {v} {p} {q} e f g step = subst (λ z. Packs arity room k child over z q v) e (subst (λ z. Packs arity room k child over s z v) f (subst (λ z. Packs arity room k child over s p z) g step))

  -- ---- each step writes one page

  -- the next page's number goes up by one
  pub packs-next : {s t : State E C} {page : Page E C} → Packs arity room k child over s page t → t.next_page ≡ s.next_page + 1
  packs-next (takes_entry none more step) = packs-next step
  packs-next (writes_leaf none ends) = refl
  packs-next (closes_full full) = refl
  packs-next (closes_rest none rest) = refl

  -- it is that of the first page, and one more for each page that is written
  pub packs-number : {first : ℕ} {es : List E} {pages : List (Page E C)} {t : State E C} → PacksMany arity room k child over (start first es) pages t → t.next_page ≡ first + length pages
  packs-number none_yet = omega arith
  packs-number (one_more {pages} {page} {t} many step) = omega (arith, packs-number many, packs-next step, length-append pages (page ∷ []))

module _ {E C : Type 0} (arity : E → ℕ) (room : ℕ → ℕ) (k : ℕ) (child : List E → ℕ → C) (over : List C → ℕ → C) (law : IsChildOver child over) (first : ℕ) (views : List (ℕ × List E)) (fits : IsPackable arity room k views) where
  -- from the start of the tree these pages are written, and this state is left
  abbrev pub Written : List (Page E C) → State E C → Type 0
  Written pages t = PacksMany arity room k child over (start first (all_entries views)) pages t

  the_runs : leaf_runs arity room [] (all_entries views) ≡ flat_map (λ v. runs (room v.0) v.1) views
  the_runs = leaves-views arity room views fits.views_fit

  few_leaves : length (leaf_runs arity room [] (all_entries views)) ≤ reach k 11
  few_leaves = subst (λ z. z ≤ reach k 11) (sym (ap length the_runs ∙ leaves-count child room views fits.views_fit.rooms)) fits.few

  the_tree : laid first (top k (inner child) 11 (map leaf (leaf_runs arity room [] (all_entries views)))) ≡ tree child room k first views
  the_tree = ap (λ r. laid first (top k (inner child) 11 (map leaf r))) the_runs

  -- what the packer's levels are after these pages
  pub packs-stands : {pages : List (Page E C)} {t : State E C} → Written pages t → StandsAt arity room k fits.fanout child over law first (all_entries views) pages t
  packs-stands w = packs-many arity room k fits.fanout child over law first (all_entries views) few_leaves w

  -- at each moment the pages written begin those of the tree
  pub packs-prefix : {pages : List (Page E C)} {t : State E C} → Written pages t → (more : List (Page E C)) × (tree child room k first views ≡ pages ++ more)
  packs-prefix w = let b : (more : List (Page E C)) × _ = packs-begins arity room k fits.fanout child over law first (all_entries views) few_leaves (packs-stands w) in (b.0, sym the_tree ∙ b.1)

  -- where nothing is left to be written, they are exactly those of the tree
  pub packs-tree : {pages : List (Page E C)} {t : State E C} → Written pages t → IsDone k t → pages ≡ tree child room k first views
  packs-tree w done = packs-done arity room k fits.fanout child over law first (all_entries views) few_leaves (packs-stands w) done ∙ the_tree

  -- the pages of the tree number as the counts say
  pub pages-count : length (tree child room k first views) ≡ tree_pages room k (counts_of views)
  pages-count = tree-count child room k fits.fanout first views fits.views_fit.rooms

  -- in the end as many pages are written
  pub packs-count : {pages : List (Page E C)} {t : State E C} → Written pages t → IsDone k t → length pages ≡ tree_pages room k (counts_of views)
  packs-count w done = ap length (packs-tree w done) ∙ pages-count

  -- while a step applies, fewer are written
  pub packs-fewer : {pages : List (Page E C)} {page : Page E C} {t u : State E C} → Written pages t → Packs arity room k child over t page u → length pages < tree_pages room k (counts_of views)
  packs-fewer {pages} {page} w step = let p : (more : List (Page E C)) × (tree child room k first views ≡ (pages ++ page ∷ []) ++ more) = packs-prefix (one_more w step) in
      omega (arith, ap length p.1, length-append (pages ++ page ∷ []) p.0, length-append pages (page ∷ []), pages-count)

  -- the steps come to an end
  abbrev Ends : Type 0
  Ends = (pages : List (Page E C)) × (t : State E C) × (Written pages t × IsDone k t)

  ends : (left : ℕ) {pages : List (Page E C)} {t : State E C} → Written pages t → tree_pages room k (counts_of views) ≤ length pages + left → Ends
  ends zero {pages} {t} w l = elim (packs-goes-on arity room k child over t) [
    | inl d ↦ (pages, t, (w, d))
    | inr s ↦ absurd (let z : length pages < tree_pages room k (counts_of views) = packs-fewer w s.2 in omega (arith, z, l))
  ]
  ends (suc left) {pages} {t} w l = elim (packs-goes-on arity room k child over t) [
    | inl d ↦ (pages, t, (w, d))
    | inr s ↦ ends left (one_more w s.2) (omega (arith, l, length-append pages (s.0 ∷ [])))
  ]

  -- from the start of the tree they come to where nothing is left
  pub packs-ends : Ends
  packs-ends = ends (tree_pages room k (counts_of views)) none_yet (omega arith)
