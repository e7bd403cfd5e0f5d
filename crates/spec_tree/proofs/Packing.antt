-- What the steps of a packer write is the tree, page by page.
use Rattle.std.proofs.Common.{◌≡◌, ℕ, true, false, List, [], ◌∷◌, ◌++◌, length, map, refl, ap, sym, ◌∙◌, arith, ◌≤◌, ◌<◌, ◌+◌, subst, Some, None}
use Rattle.std.proofs.lemmas.Bool.{true≢false}
use Rattle.std.proofs.lemmas.List.{length-map}
use Rattle.spec_tree.specs.Pending.{push, close_full, close_rest, flat, total, Roomy, Orderly}
use Rattle.std.specs.List.{AllByRecursion}
use Rattle.spec_tree.specs.Runs.{top}
use Rattle.spec_tree.specs.Tree.{Page, Leaf, Inner, Node, size, laid, leaf, inner}
use Rattle.spec_tree.specs.Counts.{reach}
use Rattle.spec_tree.specs.Leaves.{leaf_ends, leaf_runs}
use Rattle.spec_tree.specs.Children.{places, IsChildOver}
use Rattle.spec_tree.specs.Levels.{no_levels, count_children, full_level, rest_level, children_at, put_at, closed}
use Rattle.spec_tree.specs.Packing.{State, start, IsDone, Packs, takes_entry, writes_leaf, closes_full, closes_rest, PacksMany, none_yet, one_more}
use Rattle.spec_tree.proofs.Leaves.{runs-ends, runs-takes}
use Rattle.spec_tree.proofs.Settle.{total-full, total-leaf, total-rest, total-done, total-start}
use Rattle.spec_tree.proofs.Pages.{size-append, laid-leaf, flat-push}
use Rattle.spec_tree.proofs.Begins.{Begins, begins-total}
use Rattle.spec_tree.proofs.Closing.{has_children, full-found, full-not_found, IsFirst, is_full_level, none-orderly, full-lowest, orderly-push, orderly-closed, room-above, room-below, full-closed, none-full, put-push}
use Rattle.spec_tree.proofs.Rest.{rest-found, rest-none, rest-closed}
use Rattle.spec_tree.proofs.Room.{roomy-less, roomy-start, roomy-push, roomy-full, roomy-rest, full-inside, rest-inside, top-more, reach-next}
use Rattle.spec_tree.proofs.Children.{Hold, length-places, full-places, rest-places, children-places, push-places, closed-places, closed-laid, closed-size, hold-none, hold-push, hold-closed, length-closed, length-push}

module _ {E C : Type 0} (arity : E → ℕ) (room : ℕ → ℕ) (k : ℕ) (two : 2 ≤ k) (child : List E → ℕ → C) (over : List C → ℕ → C) (law : IsChildOver child over) (first : ℕ) (entries : List E) where
  -- the leaves of a buffer and the entries to come
  abbrev Left : List E → List E → List (Node E C)
  Left b es = map leaf (leaf_runs arity room b es)

  -- the levels in the end, after these leaves
  abbrev End : List (List (Node E C)) → List (Node E C) → List (Node E C)
  End ls ns = total k (inner child) ls ns

  -- after these pages the packer holds the children of nodes, of which the pages are these, and which become the tree
  pub record Stands (pages : List (Page E C)) (b es : List E) (ls : List (List C)) (n : ℕ) : Type 0 where
    pub nodes : List (List (Node E C))
    pub levels : ls ≡ places child first nodes
    pub next : n ≡ first + size (flat nodes)
    pub written : pages ≡ laid first (flat nodes)
    pub twelve : length nodes ≡ 12
    pub in_the_end : End nodes (Left b es) ≡ End no_levels (Left [] entries)
    pub orderly : Orderly k nodes
    pub roomy : Roomy k (length (leaf_runs arity room b es)) nodes
    pub hold : AllByRecursion Hold nodes

  -- the same of a state
  abbrev pub StandsAt : List (Page E C) → State E C → Type 0
  StandsAt pages s = Stands pages s.buffer s.to_come s.levels s.next_page

  -- before the first page, where twelve levels are enough
  pub packs-start : length (leaf_runs arity room [] entries) ≤ reach k 11 → StandsAt [] (start first entries)
  packs-start few = record {
    nodes = no_levels;
    levels = refl;
    next = omega arith;
    written = refl;
    twelve = refl;
    in_the_end = refl;
    orderly = tt;
    roomy = roomy-less k (length (leaf_runs arity room [] entries)) no_levels few (roomy-start k 11);
    hold = hold-none child 12;
  }

  -- an entry goes into the buffer
  pub packs-point : {pages : List (Page E C)} {e : E} {es b : List E} {ls : List (List C)} {n : ℕ} → Stands pages b (e ∷ es) ls n → leaf_ends arity room b (e ∷ es) ≡ false → Stands pages (b ++ e ∷ []) es ls n
  packs-point {e = e} {es = es} {b = b} s goes = let same : leaf_runs arity room b (e ∷ es) ≡ leaf_runs arity room (b ++ e ∷ []) es = runs-takes arity room b e es goes in record {
    nodes = s.nodes;
    levels = s.levels;
    next = s.next;
    written = s.written;
    twelve = s.twelve;
    orderly = s.orderly;
    hold = s.hold;
    in_the_end = ap (λ r. End s.nodes (map leaf r)) (sym same) ∙ s.in_the_end;
    roomy = subst (λ r. Roomy k (length r) s.nodes) same s.roomy;
  }

  some-ends : (b es : List E) → leaf_ends arity room b es ≡ true → 0 < length b
  some-ends [] es e = absurd (true≢false (sym e))
  some-ends (x ∷ b) es e = omega arith

  -- no level of nodes is full where none of children is
  none-nodes : (nodes : List (List (Node E C))) (ls : List (List C)) → ls ≡ places child first nodes → full_level k ls ≡ None → full_level k nodes ≡ None
  none-nodes nodes ls e none = sym (full-places child k first nodes) ∙ (ap (full_level k) (sym e) ∙ none)

  -- a leaf is written
  pub packs-leaf : {pages : List (Page E C)} {es b : List E} {ls : List (List C)} {n : ℕ} → Stands pages b es ls n → full_level k ls ≡ None → leaf_ends arity room b es ≡ true
      → Stands (pages ++ Leaf b ∷ []) [] es (put_at 0 (child b n) ls) (n + 1)
  packs-leaf {pages} {es} {b} {ls} {n} s none ends =
      let none : full_level k s.nodes ≡ None = none-nodes s.nodes ls s.levels none in
      let some : 0 < length s.nodes = omega (arith, s.twelve) in
      let runs : leaf_runs arity room b es ≡ b ∷ leaf_runs arity room [] es = runs-ends arity room b es ends in
      let more : size (flat (push (leaf b) s.nodes)) ≡ size (flat s.nodes) + 1 = ap size (flat-push (leaf b) s.nodes) ∙ size-append (flat s.nodes) (leaf b ∷ []) in record {
        nodes = push (leaf b) s.nodes;
        levels = ap (put_at 0 (child b n)) s.levels ∙ (put-push (child b n) (places child first s.nodes) (omega (arith, length-places child first s.nodes, s.twelve))
            ∙ (ap (λ m. push (child b m) (places child first s.nodes)) (omega (arith, s.next)) ∙ sym (push-places child first (leaf b) s.nodes)));
        next = omega (arith, s.next, more);
        written = ap (λ p. p ++ Leaf b ∷ []) s.written ∙ (sym (laid-leaf first (flat s.nodes) b) ∙ ap (laid first) (sym (flat-push (leaf b) s.nodes)));
        twelve = length-push (leaf b) s.nodes some ∙ s.twelve;
        in_the_end = total-leaf k (inner child) two s.nodes (leaf b) (Left [] es) (none-full k two (inner child) s.nodes none) ∙ (ap (λ r. End s.nodes (map leaf r)) (sym runs) ∙ s.in_the_end);
        orderly = orderly-push k two (leaf b) s.nodes (none-orderly k two s.nodes s.orderly (full-not_found k s.nodes none));
        roomy = roomy-push k (inner child) two (leaf b) s.nodes (subst (λ r. Roomy k (length r) s.nodes) runs s.roomy);
        hold = hold-push child (leaf b) s.nodes (some-ends b es ends) s.hold;
      }

  -- the lowest level that holds anything is closed
  closes : {pages : List (Page E C)} {es b : List E} {ls : List (List C)} {n : ℕ} (i : ℕ) (s : Stands pages b es ls n) → IsFirst has_children i s.nodes → i + 1 < length s.nodes
      → End (closed (inner child) i s.nodes) (Left b es) ≡ End s.nodes (Left b es) → Roomy k (length (leaf_runs arity room b es)) (closed (inner child) i s.nodes)
      → Stands (pages ++ Inner (children_at i ls) ∷ []) b es (closed (λ cs. over cs n) i ls) (n + 1)
  closes {pages} {es} {b} {ls} {n} i s lowest inside stays roomy = record {
    nodes = closed (inner child) i s.nodes;
    levels = ap (closed (λ cs. over cs n) i) s.levels ∙ closed-places child over law first n i s.nodes s.next lowest inside s.hold;
    next = omega (arith, s.next, closed-size child i s.nodes lowest inside);
    written = (λ j. s.written j ++ Inner (children_at i (s.levels j)) ∷ []) ∙ sym (closed-laid child first i s.nodes lowest inside);
    twelve = length-closed (inner child) i s.nodes ∙ s.twelve;
    in_the_end = stays ∙ s.in_the_end;
    orderly = orderly-closed k two (inner child) i s.nodes s.orderly lowest inside;
    roomy = roomy;
    hold = hold-closed child i s.nodes lowest inside s.hold;
  }

  -- a full level is written as an inner page
  pub packs-full : {pages : List (Page E C)} {es b : List E} {ls : List (List C)} {n i : ℕ} → Stands pages b es ls n → full_level k ls ≡ Some i
      → Stands (pages ++ Inner (children_at i ls) ∷ []) b es (closed (λ cs. over cs n) i ls) (n + 1)
  packs-full {es = es} {b} {ls} {n} {i} s full =
      let found : IsFirst (is_full_level k) i s.nodes = full-found k i s.nodes (sym (full-places child k first s.nodes) ∙ (ap (full_level k) (sym s.levels) ∙ full)) in
      let inside : i + 1 < length s.nodes = full-inside k two i s.nodes s.roomy found in
      let after : close_full k (inner child) s.nodes ≡ Some (closed (inner child) i s.nodes) = full-closed k two (inner child) i s.nodes found inside in
      closes i s (full-lowest k two i s.nodes s.orderly found) inside
      (total-full k (inner child) two s.nodes (closed (inner child) i s.nodes) (Left b es) after)
      (roomy-full k (inner child) two s.nodes (closed (inner child) i s.nodes) s.roomy after)

  -- after the last leaf the rest is written as inner pages
  pub packs-rest : {pages : List (Page E C)} {ls : List (List C)} {n i : ℕ} → Stands pages [] [] ls n → full_level k ls ≡ None → rest_level ls ≡ Some i
      → Stands (pages ++ Inner (children_at i ls) ∷ []) [] [] (closed (λ cs. over cs n) i ls) (n + 1)
  packs-rest {ls = ls} {n} {i} s none rest =
      let found : (1 < count_children s.nodes) × IsFirst has_children i s.nodes = rest-found i s.nodes (sym (rest-places child first s.nodes) ∙ (ap rest_level (sym s.levels) ∙ rest)) in
      let inside : i + 1 < length s.nodes = rest-inside k i s.nodes s.roomy found.1 found.0 in
      let after : close_rest k (inner child) s.nodes ≡ Some (closed (inner child) i s.nodes) = rest-closed k (inner child) i s.nodes found.1 found.0 inside in
      closes i s found.1 inside
      (total-rest k (inner child) two s.nodes (closed (inner child) i s.nodes) (none-full k two (inner child) s.nodes (none-nodes s.nodes ls s.levels none)) after)
      (roomy-rest k (inner child) two s.nodes (closed (inner child) i s.nodes) s.roomy after)

  -- each step keeps it, with one page more
  pub packs-step : {pages : List (Page E C)} {page : Page E C} {s t : State E C} → StandsAt pages s → Packs arity room k child over s page t → StandsAt (pages ++ page ∷ []) t
  packs-step s (takes_entry none goes more) = packs-step (packs-point s goes) more
  packs-step s (writes_leaf none ends) = packs-leaf s none ends
  packs-step s (closes_full full) = packs-full s full
  packs-step s (closes_rest none rest) = packs-rest s none rest

  -- any number of pages
  pub packs-many : {pages : List (Page E C)} {t : State E C} → length (leaf_runs arity room [] entries) ≤ reach k 11 → PacksMany arity room k child over (start first entries) pages t → StandsAt pages t
  packs-many few none_yet = packs-start few
  packs-many few (one_more before step) = packs-step (packs-many few before) step

  -- ---- what stands in the end

  -- the levels in the end are the top of the tree
  end-top : length (leaf_runs arity room [] entries) ≤ reach k 11 → End no_levels (Left [] entries) ≡ top k (inner child) 11 (Left [] entries)
  end-top few =
      let l : length (Left [] entries) ≡ length (leaf_runs arity room [] entries) = length-map (leaf_runs arity room [] entries) leaf in
      let next : reach k 11 < reach k 12 = reach-next k two 11 in
      total-start k (inner child) two 12 (Left [] entries) (omega (arith, l, few, next)) ∙ top-more k (inner child) two 11 (Left [] entries) (omega (arith, l, few))

  -- at each moment the pages written begin those of the whole tree
  pub packs-begins : {pages : List (Page E C)} {s : State E C} → length (leaf_runs arity room [] entries) ≤ reach k 11 → StandsAt pages s
      → (more : List (Page E C)) × (laid first (top k (inner child) 11 (Left [] entries)) ≡ pages ++ more)
  packs-begins {s = t} few s =
      let b : Begins first (flat s.nodes) (End s.nodes (Left t.buffer t.to_come)) = begins-total child k two first s.nodes (Left t.buffer t.to_come) s.orderly in
      (b.more, ap (laid first) (sym (s.in_the_end ∙ end-top few)) ∙ (b.is ∙ ap (λ p. p ++ b.more) (sym s.written)))

  -- where nothing is left to be written they are those of the whole tree
  pub packs-done : {pages : List (Page E C)} {s : State E C} → length (leaf_runs arity room [] entries) ≤ reach k 11 → StandsAt pages s → IsDone k s
      → pages ≡ laid first (top k (inner child) 11 (Left [] entries))
  packs-done {s = t} few s done =
      let none : full_level k s.nodes ≡ None = none-nodes s.nodes t.levels s.levels done.full in
      let rest : rest_level s.nodes ≡ None = sym (rest-places child first s.nodes) ∙ (ap rest_level (sym s.levels) ∙ done.rest) in
      s.written ∙ ap (laid first) (sym (total-done k (inner child) two s.nodes (none-full k two (inner child) s.nodes none) (rest-none k (inner child) s.nodes rest))
      ∙ ((λ i. End s.nodes (Left (sym done.buffer i) (sym done.to_come i))) ∙ (s.in_the_end ∙ end-top few)))

  -- ---- where there is room

  pub record HasRoomAbove (ls : List (List C)) (i : ℕ) : Type 0 where
    pub inside : i + 1 < 12
    pub not_full : length (children_at (i + 1) ls) < k

  above-room : (nodes : List (List (Node E C))) (ls : List (List C)) (i : ℕ) → ls ≡ places child first nodes → Orderly k nodes → IsFirst has_children i nodes → length (children_at (i + 1) ls) < k
  above-room nodes ls i e o f = subst (λ z. z < k) (sym (ap (λ z. length (children_at (i + 1) z)) e ∙ children-places child first (i + 1) nodes)) (room-above k two i nodes o f)

  -- a full level has one above it, with room
  pub packs-full-room : {pages : List (Page E C)} {es b : List E} {ls : List (List C)} {n : ℕ} (i : ℕ) → Stands pages b es ls n → full_level k ls ≡ Some i → HasRoomAbove ls i
  packs-full-room {ls = ls} i s full =
      let found : IsFirst (is_full_level k) i s.nodes = full-found k i s.nodes (sym (full-places child k first s.nodes) ∙ (ap (full_level k) (sym s.levels) ∙ full)) in
      record { inside = subst (λ z. i + 1 < z) s.twelve (full-inside k two i s.nodes s.roomy found); not_full = above-room s.nodes ls i s.levels s.orderly (full-lowest k two i s.nodes s.orderly found) }

  -- so has the level that the closing takes
  pub packs-rest-room : {pages : List (Page E C)} {es b : List E} {ls : List (List C)} {n : ℕ} (i : ℕ) → Stands pages b es ls n → rest_level ls ≡ Some i → HasRoomAbove ls i
  packs-rest-room {ls = ls} i s rest =
      let found : (1 < count_children s.nodes) × IsFirst has_children i s.nodes = rest-found i s.nodes (sym (rest-places child first s.nodes) ∙ (ap rest_level (sym s.levels) ∙ rest)) in
      record { inside = subst (λ z. i + 1 < z) s.twelve (rest-inside k i s.nodes s.roomy found.1 found.0); not_full = above-room s.nodes ls i s.levels s.orderly found.1 }

  -- where no level is full the lowest has room
  pub packs-leaf-room : {pages : List (Page E C)} {es b : List E} {ls : List (List C)} {n : ℕ} → Stands pages b es ls n → full_level k ls ≡ None → length (children_at 0 ls) < k
  packs-leaf-room {ls = ls} s none = subst (λ z. z < k) (sym (ap (λ z. length (children_at 0 z)) s.levels ∙ children-places child first 0 s.nodes)) (room-below k two s.nodes s.orderly (none-nodes s.nodes ls s.levels none))
