-- Over the pages of a packed tree a search finds the points in the region, in their order, goes to no more pages than there
-- are, to none twice, and to none that is not sound.
use Rattle.std.proofs.Common.{◌≡◌, ◌≤◌, ◌+◌, ℕ, suc, Bool, true, false, cond, List, [], ◌∷◌, ◌++◌, filter, length, map, refl, sym, ap, ◌∙◌, subst, arith, append-nil, length-append}
use Rattle.std.specs.Prelude.{flat_map}
use Rattle.std.specs.List.{All, AllByRecursion}
use Rattle.std.proofs.lemmas.Grind.{flat_map-append}
use Rattle.std.proofs.lemmas.List.Elements.{All-append, All-cons, All-nil, filter-append}
use Rattle.cube_point.specs.declared.bounds.Region.{Region}
use Rattle.cube_point.specs.declared.point.Entry.{Entry}
use Rattle.spec_tree.specs.Tree.{Leaf, Inner, Node, entries_in, inner, laid, leaf, placed, size}
use Rattle.spec_tree.proofs.Counts.{Sized, length-laid}
use Rattle.spec_tree.proofs.Entries.{entries-append}
use Rattle.spec_tree.proofs.Pages.{size-cons}
use Rattle.page_fmt.specs.declared.page.Child.{Child}
use Rattle.page_fmt.specs.declared.page.Place.{Place}
use Rattle.leaf_pack.specs.Cover.{box_of}
use Rattle.tree_pack.specs.Pages.{PointPage, child_of}
use Rattle.range_scan.specs.Meeting.{is_inside, is_met}
use Rattle.range_scan.specs.Searching.{IsSound, children_in}
use Rattle.range_scan.specs.Visits.{all_ways, below, hits, met, page_of}
use Rattle.range_scan.proofs.Boxes.{none-inside}
use Rattle.range_scan.proofs.Downward.{ways-go_on}
use Rattle.range_scan.proofs.Ranges.{AreOnce, none-once, once-append, once-behind, once-cons}
use Rattle.range_scan.proofs.Standing.{AreThere, IsThere, there-back, there-front}
use Rattle.range_scan.proofs.Underway.{page-falls}

-- the points of nodes side by side
abbrev pub points_of : List (Node Entry Child) → List Entry
points_of ns = flat_map (λ n. n.points) ns

-- no child stands before the first page of all
placed-from : (first f : ℕ) (ns : List (Node Entry Child)) → first ≤ f → All (λ (c : Child). first ≤ c.page) (placed child_of f ns)
placed-from first f [] low = All-nil (λ (c : Child). first ≤ c.page)
placed-from first f (n ∷ ns) low = All-cons (λ (c : Child). first ≤ c.page) (child_of n.points (f + n.below)) (placed child_of (f + suc n.below) ns) (omega (arith, low)) (placed-from first (f + suc n.below) ns (omega (arith, low)))

module _ (tree : Place) (region : Region) (bytes : List ℕ) where
  abbrev pub down : ℕ → List ℕ
  down n = all_ways region (page_of tree.shape bytes) n

  abbrev hit : ℕ → List Entry
  hit n = hits region (page_of tree.shape bytes n)

  down-is : (n : ℕ) (page : PointPage) → page_of tree.shape bytes n ≡ page → down n ≡ n ∷ flat_map down (below region page)
  down-is n page is = ways-go_on region (page_of tree.shape bytes) (page-falls tree.shape bytes region) n ∙ ap (λ p. n ∷ flat_map down (below region p)) is

  there-sound : (n : ℕ) (page : PointPage) → IsThere tree.shape bytes n page → All (λ (c : Child). tree.first ≤ c.page) (children_in page) → IsSound tree bytes n
  there-sound n page there all = record {
    whole = there.whole;
    lawful = there.lawful;
    within = subst (λ (p : PointPage). All (λ (c : Child). tree.first ≤ c.page) (children_in p)) (sym there.is) all;
  }

  -- the pages to which these ways lead are sound, no more than so many, each once of those from the first on, and have those
  -- of these points that lie in the region
  pub record AreFound (first : ℕ) (points : List Entry) (most : ℕ) (numbers : List ℕ) : Type 0 where
    pub finds : flat_map hit numbers ≡ filter (is_inside region) points
    pub few : length numbers ≤ most
    pub once : AreOnce first most numbers
    pub sound : All (IsSound tree bytes) numbers

  -- where the pages of a node stand, they have its points
  pub record IsFound (n : Node Entry Child) : Type 0 where
    pub sized : Sized n
    pub listed : (f : ℕ) → entries_in (n.pages f) ≡ n.points
    pub found : (f : ℕ) → tree.first ≤ f → AreThere tree.shape bytes f (n.pages f) → AreFound f n.points (suc n.below) (down (f + n.below))

  abbrev pub AreAllFound : List (Node Entry Child) → Type 0
  AreAllFound ns = AllByRecursion IsFound ns

  pub all-sized : (ns : List (Node Entry Child)) → AreAllFound ns → AllByRecursion Sized ns
  all-sized [] h = tt
  all-sized (n ∷ ns) h = (h.0.sized, all-sized ns h.1)

  pub entries-laid : (f : ℕ) (ns : List (Node Entry Child)) → AreAllFound ns → entries_in (laid f ns) ≡ points_of ns
  entries-laid f [] h = refl
  entries-laid f (n ∷ ns) h = entries-append (n.pages f) (laid (f + suc n.below) ns) ∙ (λ i. h.0.listed f i ++ entries-laid (f + suc n.below) ns h.1 i)

  -- two lists of pages, the second from pages behind those of the first
  found-append : (f : ℕ) (a b : List Entry) (m k : ℕ) (xs ys : List ℕ) → AreFound f a m xs → AreFound (f + m) b k ys → AreFound f (a ++ b) (m + k) (xs ++ ys)
  found-append f a b m k xs ys h g = record {
    finds = flat_map-append hit xs ys ∙ ((λ i. h.finds i ++ g.finds i) ∙ sym (filter-append (is_inside region) a b));
    few = omega (arith, h.few, g.few, length-append xs ys);
    once = once-append f m k xs ys h.once g.once;
    sound = All-append (IsSound tree bytes) xs ys h.sound g.sound;
  }

  -- a node whose box does not meet the region is passed by
  found-past : (f : ℕ) (n : Node Entry Child) (b : List Entry) (k : ℕ) (ys : List ℕ) → is_met region (box_of n.points) ≡ false
      → AreFound (f + suc n.below) b k ys → AreFound f (n.points ++ b) (suc n.below + k) ys
  found-past f n b k ys apart g = record {
    finds = g.finds ∙ (ap (λ l. l ++ filter (is_inside region) b) (sym (none-inside region n.points apart)) ∙ sym (filter-append (is_inside region) n.points b));
    few = omega (arith, g.few);
    once = once-behind f (suc n.below) k ys g.once;
    sound = g.sound;
  }

  child-found : (f : ℕ) (n : Node Entry Child) (ns : List (Node Entry Child)) (cs : List Child) (b : Bool) → is_met region (box_of n.points) ≡ b
      → AreFound f n.points (suc n.below) (down (f + n.below)) → AreFound (f + suc n.below) (points_of ns) (size ns) (flat_map down (met region cs))
      → AreFound f (n.points ++ points_of ns) (suc n.below + size ns)
      (flat_map down (map (λ (c : Child). c.page) (cond b (child_of n.points (f + n.below) ∷ filter (λ (c : Child). is_met region c.bounds) cs) (filter (λ (c : Child). is_met region c.bounds) cs))))
  child-found f n ns cs true test here rest = found-append f n.points (points_of ns) (suc n.below) (size ns) (down (f + n.below)) (flat_map down (met region cs)) here rest
  child-found f n ns cs false test here rest = found-past f n (points_of ns) (size ns) (flat_map down (met region cs)) test rest

  -- below the children of nodes side by side
  children-found : (f : ℕ) (ns : List (Node Entry Child)) → AreAllFound ns → tree.first ≤ f → AreThere tree.shape bytes f (laid f ns)
      → AreFound f (points_of ns) (size ns) (flat_map down (met region (placed child_of f ns)))
  children-found f [] h low there = record { finds = refl; few = omega arith; once = none-once f 0; sound = All-nil (IsSound tree bytes) }
  children-found f (n ∷ ns) h low there =
      let here = there-front tree.shape bytes f (n.pages f) (laid (f + suc n.below) ns) there in
      let behind = there-back tree.shape bytes f (f + suc n.below) (n.pages f) (laid (f + suc n.below) ns) (omega (arith, h.0.sized f)) there in
      subst (λ m. AreFound f (points_of (n ∷ ns)) m (flat_map down (met region (placed child_of f (n ∷ ns))))) (sym (size-cons n ns))
      (child-found f n ns (placed child_of (f + suc n.below) ns) (is_met region (box_of n.points)) refl (h.0.found f low here)
      (children-found (f + suc n.below) ns h.1 (omega (arith, low)) behind))

  -- ---- an inner page, and a leaf

  page-found : (first : ℕ) (page : PointPage) (points : List Entry) (most : ℕ) → IsThere tree.shape bytes (first + most) page → All (λ (c : Child). tree.first ≤ c.page) (children_in page)
      → hits region page ++ flat_map hit (flat_map down (below region page)) ≡ filter (is_inside region) points → length (flat_map down (below region page)) ≤ most
      → AreOnce first most (flat_map down (below region page)) → All (IsSound tree bytes) (flat_map down (below region page)) → AreFound first points (suc most) (down (first + most))
  page-found first page points most there all finds few once sound = subst (AreFound first points (suc most)) (sym (down-is (first + most) page there.is)) (record {
    finds = ap (λ p. hits region p ++ flat_map hit (flat_map down (below region page))) there.is ∙ finds;
    few = omega (arith, few);
    once = once-cons first most (flat_map down (below region page)) once;
    sound = All-cons (IsSound tree bytes) (first + most) (flat_map down (below region page)) (there-sound (first + most) page there all) sound;
  })

  pub inner-found : (ns : List (Node Entry Child)) → AreAllFound ns → IsFound (inner child_of ns)
  inner-found ns h = record {
    sized = λ f. length-append (laid f ns) (Inner (placed child_of f ns) ∷ []) ∙ omega (arith, length-laid f ns (all-sized ns h));
    listed = λ f. entries-append (laid f ns) (Inner (placed child_of f ns) ∷ []) ∙ (append-nil (entries_in (laid f ns)) ∙ entries-laid f ns h);
    found = λ f low there.
        let page : PointPage = Inner (placed child_of f ns) in
        let top = there-back tree.shape bytes f (f + size ns) (laid f ns) (page ∷ []) (omega (arith, length-laid f ns (all-sized ns h))) there in
        let kids = children-found f ns h low (there-front tree.shape bytes f (laid f ns) (page ∷ []) there) in
        page-found f page (points_of ns) (size ns) top.0 (placed-from tree.first f ns low) kids.finds kids.few kids.once kids.sound;
  }

  leaf-found : (es : List Entry) → IsFound (leaf es)
  leaf-found es = record {
    sized = λ f. refl;
    listed = λ f. append-nil es;
    found = λ f low there.
        let same : f ≡ f + 0 = omega arith in
        page-found f (Leaf es) es 0 (subst (λ n. IsThere tree.shape bytes n (Leaf es)) same there.0) (All-nil (λ (c : Child). tree.first ≤ c.page))
        (append-nil (filter (is_inside region) es)) (omega arith) (none-once f 0) (All-nil (IsSound tree bytes));
  }

  pub leaves-found : (rs : List (List Entry)) → AreAllFound (map leaf rs)
  leaves-found [] = tt
  leaves-found (r ∷ rs) = (leaf-found r, leaves-found rs)
