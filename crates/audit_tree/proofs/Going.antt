-- A page that fits is audited, and one that is audited fits.
use Rattle.std.proofs.Common.{◌≡◌, ◌≤◌, ◌<◌, ◌+◌, ℕ, None, Some, List, [], ◌∷◌, ◌++◌, Option, length, map, take, drop, refl, ap, sym, ◌∙◌, arith, subst, append_assoc, append-nil, length-append}
use Rattle.std.specs.Prelude.{replicate}
use Rattle.std.specs.List.{All}
use Rattle.std.proofs.lemmas.List.{append_cancel_left, length-map, length-take, map-append, take-append-drop}
use Rattle.std.proofs.lemmas.List.Elements.{All-append, All-nil, All-from_recursion, recursion_from_All}
use Rattle.cube_point.specs.declared.point.Entry.{Entry}
use Rattle.cube_point.specs.declared.point.Point.{Point}
use Rattle.cube_point.specs.declared.point.Shape.{Shape}
use Rattle.leaf_pack.specs.Leaf.{arity_of}
use Rattle.spec_tree.specs.Leaves.{HaveArity}
use Rattle.spec_tree.specs.Levels.{children_at, full_level, rest_level}
use Rattle.spec_tree.specs.Tree.{Inner, Leaf}
use Rattle.page_fmt.specs.declared.page.Place.{Place}
use Rattle.page_fmt.specs.InFiles.{IsPageOf, page_at}
use Rattle.page_fmt.specs.Pages.{inner_bytes, leaf_bytes}
use Rattle.page_fmt.specs.Trees.{fanout_of, room_of, tree_pages}
use Rattle.page_fmt.specs.Writing.{IsShape, leaf_arity}
use Rattle.tree_pack.specs.Moving.{IsMoving, Moving, begun, with_inner, with_leaf}
use Rattle.tree_pack.specs.Pages.{PointPage, page_bytes, pages_of}
use Rattle.tree_pack.proofs.Moving.{full-moves, moving-begins, rest-moves}
use Rattle.tree_scan.specs.Scanning.{AreGood, ArePoints, entries_of, leaf_entries}
use Rattle.tree_scan.specs.Streaming.{IsScanning, MayCome, Scanned, after_page, last_point}
use Rattle.tree_scan.proofs.Extending.{entries-more}
use Rattle.tree_scan.proofs.Streaming.{scanning-reads, scanning-stops}
use Rattle.audit_tree.specs.Auditing.{IsAuditing, IsSafe}
use Rattle.audit_tree.specs.Broken.{AreFew}
use Rattle.audit_tree.specs.Fitting.{Fits, IsLeafDue, IsNextArity, behind_leaf, due, fits_full, fits_leaf, fits_rest}
use Rattle.audit_tree.specs.Numbers.{arities, views_of}
use Rattle.audit_tree.specs.Packed.{AreAudited, IsAuditedTree, IsWithin, packed_pages, pages_in, points_in}
use Rattle.audit_tree.proofs.Leaves.{arities-behind, arities-cut, arities-same, leaf-packed}
use Rattle.audit_tree.proofs.Pages.{front-bytes, inner-none, leaf-long, next-page, page-more, pages-long, pages-more, same-front}
use Rattle.audit_tree.proofs.Views.{no-points, views-all, views-front, views-whole}
use Rattle.tree_pack.proofs.Runs.{every-back}

long-more : (ps : List PointPage) (p : PointPage) (n : ℕ) → length ps ≡ n → length (ps ++ p ∷ []) ≡ n + 1
long-more ps p n h = omega (arith, h, length-append ps (p ∷ []))

-- a leaf that is due has a point
due-some : (shape : Shape) (left : List ℕ) (arity : ℕ) → 0 < room_of shape arity → IsNextArity left arity → 0 < due shape left arity
due-some shape left arity room next = omega (arith, room, next.some)

first-arity : (a : ℕ) (es : List Entry) → HaveArity arity_of a es → 0 < length es → leaf_arity es ≡ a
first-arity a [] own some = absurd (omega (arith, some))
first-arity a (e ∷ es) own some = own.0

-- ---- the good pages, and one more

module _ (place : Place) (bytes : List ℕ) (n number : ℕ) (here : place.first + n ≡ number) (last : Option Point) where
  abbrev seen : Scanned
  seen = record { held = []; shape = place.shape; file = place.file; next = number; left = 1; last = last }

  scans : AreGood place.shape bytes place.first n → last ≡ last_point None (points_in place bytes n) → IsScanning bytes place.first (n + 1) seen
  scans good is = record {
    from = omega (arith, here);
    all = omega (arith, here);
    so_far = λ count at.
        let same : n ≡ count = omega (arith, at, here) in
        subst (λ (k : ℕ). AreGood place.shape bytes place.first k × (last ≡ last_point None (entries_of place.shape bytes place.first k))) same (good, is);
  }

  pub good-more : (page : List ℕ) → AreGood place.shape bytes place.first n → last ≡ last_point None (points_in place bytes n) → IsPageOf bytes number page → MayCome place.shape number page last
      → ArePoints place.shape (leaf_entries place.shape page) → length (leaf_entries place.shape page) ≤ 73
      → AreGood place.shape bytes place.first (n + 1) × (last_point last (leaf_entries place.shape page) ≡ last_point None (points_in place bytes (n + 1)))
  good-more page good is there may points few =
      let es = leaf_entries place.shape page in
      let reads = scanning-reads bytes place.first (n + 1) seen (scans good is) (after_page seen es) (omega arith)
      (record { page = page; read = λ _. there; may = may; points = points; few = few; scan = refl }) in
      reads.so_far (n + 1) (omega (arith, here))

  -- a page that may not come is not good
  pub bad-more : AreGood place.shape bytes place.first n → last ≡ last_point None (points_in place bytes n) → AreGood place.shape bytes place.first (n + 1)
      → (MayCome place.shape number (page_at bytes number) last → ⊥) → ⊥
  bad-more good is more not =
      (scanning-stops bytes place.first (n + 1) seen (scans good is) number (omega arith) (refl, λ _ _. not)).bad (more number (omega (arith, here)) (omega (arith, here)))

-- ---- the points, and those of one page more

pub points-more : (place : Place) (bytes : List ℕ) (n number : ℕ) → place.first + n ≡ number → points_in place bytes (n + 1) ≡ points_in place bytes n ++ leaf_entries place.shape (page_at bytes number)
points-more place bytes n number here = entries-more place.shape bytes place.first n number here

module _ (place : Place) (counts : List ℕ) (limits : List (List ℕ)) (bytes : List ℕ) (n number : ℕ) (here : place.first + n ≡ number)
    (left : List ℕ) (last : Option Point) (m : Moving) (safe : IsSafe place.shape left m) (is : IsAuditing place counts limits bytes n left last m) where
  abbrev page : List ℕ
  page = page_at bytes number

  abbrev found : List Entry
  found = leaf_entries place.shape page

  none-more : found ≡ [] → points_in place bytes (n + 1) ≡ points_in place bytes n
  none-more none = points-more place bytes n number here ∙ (ap (λ (l : List Entry). points_in place bytes n ++ l) none ∙ append-nil (points_in place bytes n))

  -- ---- a page that fits

  module _ (good : AreGood place.shape bytes place.first (n + 1)) (point : last_point last found ≡ last_point None (points_in place bytes (n + 1))) where
    read-with : (p : PointPage) → page ≡ page_bytes place.shape p → pages_in place bytes (n + 1) ≡ map (page_bytes place.shape) (is.pages ++ p ∷ [])
    read-with p same = pages-more place bytes n number here ∙ ((λ i. is.bytes_are i ++ same i ∷ []) ∙ sym (page-more place.shape is.pages p))

    -- an inner page
    inner-goes : (i : ℕ) (w : Moving) → page ≡ inner_bytes place.shape (children_at i m.levels)
        → ((more : List Entry) → map arity_of more ≡ arities left → IsMoving place.first (points_in place bytes n ++ more) (is.pages ++ Inner (children_at i m.levels) ∷ []) more w)
        → IsAuditing place counts limits bytes (n + 1) left (last_point last found) w
    inner-goes i w same moves =
        let none = none-more (inner-none place.shape page (children_at i m.levels) same) in
        record {
          good = good;
          last_is = point;
          within = subst (All (IsWithin limits)) (sym none) is.within;
          numbers = ap (λ (l : List Entry). map arity_of l ++ arities left) none ∙ is.numbers;
          pages = is.pages ++ Inner (children_at i m.levels) ∷ [];
          many = long-more is.pages (Inner (children_at i m.levels)) n is.many;
          bytes_are = read-with (Inner (children_at i m.levels)) same;
          moving = λ more h. subst (λ (l : List Entry). IsMoving place.first (l ++ more) (is.pages ++ Inner (children_at i m.levels) ∷ []) more w) (sym none) (moves more h);
        }

    -- a leaf
    leaf-goes : (arity : ℕ) → 0 < room_of place.shape arity → full_level (fanout_of place.shape) m.levels ≡ None → IsLeafDue place.shape limits left page arity
        → IsAuditing place counts limits bytes (n + 1) (behind_leaf place.shape left arity) (last_point last found) (with_leaf (record m { buffer = found }))
    leaf-goes arity room none leaf =
        let read = points_in place bytes n in
        let more_points = points-more place bytes n number here in
        let own : HaveArity arity_of arity found = recursion_from_All (λ e. arity_of e ≡ arity) found leaf.whole.arities in
        let some : 0 < length found = omega (arith, leaf.whole.many, due-some place.shape left arity room leaf.whole.next) in
        let behind = arities-behind place.shape left safe.nine arity leaf.whole.next in
        let these : map arity_of found ≡ replicate (due place.shape left arity) arity = arities-same arity found own ∙ ap (λ (k : ℕ). replicate k arity) leaf.whole.many in
        record {
          good = good;
          last_is = point;
          within = subst (All (IsWithin limits)) (sym more_points) (All-append (IsWithin limits) read found is.within leaf.within);
          numbers = ap (λ (l : List Entry). map arity_of l ++ arities (behind_leaf place.shape left arity)) more_points
              ∙ (ap (λ (l : List ℕ). l ++ arities (behind_leaf place.shape left arity)) (map-append arity_of read found)
              ∙ (append_assoc (map arity_of read) (map arity_of found) (arities (behind_leaf place.shape left arity))
              ∙ (ap (λ (l : List ℕ). map arity_of read ++ l) (ap (λ (l : List ℕ). l ++ arities (behind_leaf place.shape left arity)) these ∙ sym behind) ∙ is.numbers)));
          pages = is.pages ++ Leaf found ∷ [];
          many = long-more is.pages (Leaf found) n is.many;
          bytes_are = read-with (Leaf found) (leaf.whole.written ∙ ap (λ (a : ℕ). leaf_bytes a place.shape found) (sym (first-arity arity found own some)));
          moving = λ more h.
              let to_come : map arity_of (found ++ more) ≡ arities left = map-append arity_of found more ∙ ((λ i. these i ++ h i) ∙ sym behind) in
              let moves = leaf-packed place.first (read ++ (found ++ more)) is.pages m (subst (λ (s : Shape). full_level (fanout_of s) m.levels ≡ None) (sym safe.shape_is) none) arity
              place.shape safe.shape_is left found more safe.nine leaf.whole.next own leaf.whole.many some h safe.empty (is.moving (found ++ more) to_come) in
              subst (λ (l : List Entry). IsMoving place.first l (is.pages ++ Leaf found ∷ []) more (with_leaf (record m { buffer = found })))
              (sym (append_assoc read found more) ∙ ap (λ (l : List Entry). l ++ more) (sym more_points)) moves;
        }

    pub fits-goes : ((arity : ℕ) → arity < 9 → 0 < room_of place.shape arity) → {to : List ℕ} {w : Moving} → Fits place.shape limits left m page to w → IsAuditing place counts limits bytes (n + 1) to (last_point last found) w
    fits-goes room (fits_full {i = i} full same) = inner-goes i (with_inner i m) same
        (λ more h. full-moves place.first (points_in place bytes n ++ more) is.pages m i more (is.moving more h) (subst (λ (s : Shape). full_level (fanout_of s) m.levels ≡ Some i) (sym safe.shape_is) full))
    fits-goes room (fits_leaf {arity = arity} none leaf) = leaf-goes arity (room arity leaf.whole.next.nine) none leaf
    fits-goes room (fits_rest {i = i} none nothing rest same) = inner-goes i (with_inner i m) same
        (λ more h.
        let empty : more ≡ [] = no-points more (h ∙ nothing) in
        let all = points_in place bytes n ++ more in
        let moves = rest-moves place.first all is.pages m i (subst (λ (l : List Entry). IsMoving place.first all is.pages l m) empty (is.moving more h)) safe.empty
        (subst (λ (s : Shape). full_level (fanout_of s) m.levels ≡ None) (sym safe.shape_is) none) rest in
        subst (λ (l : List Entry). IsMoving place.first all (is.pages ++ Inner (children_at i m.levels) ∷ []) l (with_inner i m)) (sym empty) moves)

  -- ---- a page that is audited

  -- the page is the next of the tree
  pub data Follows : Type 0 where
    follows : {to : List ℕ} {w : Moving} → Fits place.shape limits left m page to w → Follows

  module _ (shape : IsShape place.shape) (few : AreFew counts) (audited : AreAudited place counts limits bytes (n + 1)) where
    abbrev read : List Entry
    read = points_in place bytes n

    abbrev rest : List Entry
    rest = found ++ audited.packed.more

    all-are : points_in place bytes (n + 1) ++ audited.packed.more ≡ read ++ rest
    all-are = ap (λ (l : List Entry). l ++ audited.packed.more) (points-more place bytes n number here) ∙ append_assoc read found audited.packed.more

    numbers : map arity_of (read ++ rest) ≡ arities counts
    numbers = ap (map arity_of) (sym all-are) ∙ audited.packed.numbers

    to-come : map arity_of rest ≡ arities left
    to-come = append_cancel_left (map arity_of read) (map arity_of rest) (arities left) (sym (map-append arity_of read rest) ∙ (numbers ∙ sym is.numbers))

    moving : IsMoving place.first (read ++ rest) is.pages rest m
    moving = is.moving rest to-come

    abbrev all : List PointPage
    all = pages_of place.shape place.first (views_of counts (read ++ rest))

    theirs : pages_in place bytes (n + 1) ≡ take (n + 1) (map (page_bytes place.shape) all)
    theirs = audited.packed.pages ∙ ap (λ (l : List Entry). take (n + 1) (packed_pages place counts l)) all-are

    -- where the packing has this page next, it stands in the file
    stands : (p : PointPage) (to : List Entry) (w : Moving) → w.shape ≡ place.shape → IsMoving place.first (read ++ rest) (is.pages ++ p ∷ []) to w → page ≡ page_bytes place.shape p
    stands p to w same moves =
        let front = views-front place.shape shape counts few (read ++ rest) numbers place.first (is.pages ++ p ∷ []) to w same moves in
        next-page place bytes n number all is.pages front.0 p here front.1 is.many is.bytes_are theirs

    none-there : (xs : List PointPage) → length xs ≡ n → xs ≡ all → ⊥
    none-there xs long same =
        omega (arith, ap length same, long, ap length theirs, pages-long place bytes (n + 1), length-take (n + 1) (map (page_bytes place.shape) all), length-map all (page_bytes place.shape))

    abbrev Full : Option ℕ → Type 0
    Full o = full_level (fanout_of place.shape) m.levels ≡ o

    here-full : (o : Option ℕ) → Full o → full_level (fanout_of m.shape) m.levels ≡ o
    here-full o full = subst (λ (s : Shape). full_level (fanout_of s) m.levels ≡ o) (sym safe.shape_is) full

    pub follows-full : (i : ℕ) → Full (Some i) → Follows
    follows-full i full = follows (fits_full full (stands (Inner (children_at i m.levels)) rest (with_inner i m) safe.shape_is
        (full-moves place.first (read ++ rest) is.pages m i rest moving (here-full (Some i) full))))

    pub follows-rest : Full None → arities left ≡ [] → (o : Option ℕ) → rest_level m.levels ≡ o → Follows
    follows-rest none nothing (Some i) level =
        let empty : rest ≡ [] = no-points rest (to-come ∙ nothing) in
        let moves = rest-moves place.first (read ++ rest) is.pages m i (subst (λ (l : List Entry). IsMoving place.first (read ++ rest) is.pages l m) empty moving) safe.empty (here-full None none) level in
        follows (fits_rest none nothing level (stands (Inner (children_at i m.levels)) [] (with_inner i m) safe.shape_is moves))
    follows-rest none nothing None level =
        let empty : rest ≡ [] = no-points rest (to-come ∙ nothing) in
        absurd (none-there is.pages is.many (views-all place.shape shape counts few (read ++ rest) numbers place.first is.pages rest m safe.shape_is moving empty safe.empty none level))

    pub follows-leaf : Full None → (arity : ℕ) → IsNextArity left arity → 0 < room_of place.shape arity → room_of place.shape arity < 65536 → Follows
    follows-leaf none arity next room room_few =
        let k = due place.shape left arity in
        let parts = arities-cut arity k (arities (behind_leaf place.shape left arity)) rest (to-come ∙ arities-behind place.shape left safe.nine arity next) in
        let chunk = take k rest in
        let later = drop k rest in
        let whole : chunk ++ later ≡ rest = take-append-drop k rest in
        let some : 0 < length chunk = omega (arith, parts.many, due-some place.shape left arity room next) in
        let moves = leaf-packed place.first (read ++ rest) is.pages m (here-full None none) arity place.shape safe.shape_is left chunk later safe.nine next parts.own parts.many some parts.rest safe.empty
        (subst (λ (l : List Entry). IsMoving place.first (read ++ rest) is.pages l m) (sym whole) moving) in
        let at : page ≡ leaf_bytes (leaf_arity chunk) place.shape chunk = stands (Leaf chunk) later (with_leaf (record m { buffer = chunk })) safe.shape_is moves in
        let few_points : length chunk < 65536 = omega (arith, parts.many, room_few) in
        let long : length found ≡ length chunk = leaf-long place.shape page (leaf_arity chunk) chunk at few_points in
        let same : chunk ≡ found = same-front chunk found later audited.packed.more whole (sym long) in
        let own : HaveArity arity_of arity found = subst (HaveArity arity_of arity) same parts.own in
        follows (fits_leaf none (record {
          whole = record {
            next = next;
            written = at ∙ ((λ i. leaf_bytes (leaf_arity (same i)) place.shape (same i)) ∙ ap (λ (a : ℕ). leaf_bytes a place.shape found) (first-arity arity found own (omega (arith, some, long))));
            arities = All-from_recursion (λ e. arity_of e ≡ arity) found own;
            many = long ∙ parts.many;
          };
          within = All-back (subst (All (IsWithin limits)) (points-more place bytes n number here) audited.within);
        }))
      where
        All-back : All (IsWithin limits) (read ++ found) → All (IsWithin limits) found
        All-back h = All-from_recursion (IsWithin limits) found (every-back (IsWithin limits) read found (recursion_from_All (IsWithin limits) (read ++ found) h))

-- ---- before the first page, and behind any

pub auditing-begins : (place : Place) (counts : List ℕ) (limits : List (List ℕ)) (bytes : List ℕ) → IsAuditing place counts limits bytes 0 counts None (begun place.shape place.first)
auditing-begins place counts limits bytes = record {
  good = λ number low high. absurd (omega (arith, low, high));
  last_is = refl;
  within = All-nil (IsWithin limits);
  numbers = refl;
  pages = [];
  many = refl;
  bytes_are = refl;
  moving = λ more h. moving-begins place.shape place.first more;
}

-- points of these arities
abbrev any-of : List ℕ → List Entry
any-of ns = map (λ a. record { point = record { arity = a; at = [] }; cell = record { count = 0; measures = 0; parts = [] } }) ns

any-arities : (ns : List ℕ) → map arity_of (any-of ns) ≡ ns
any-arities [] = refl
any-arities (a ∷ ns) = ap (λ (l : List ℕ). a ∷ l) (any-arities ns)

-- the pages so far keep the rules
pub auditing-audited : (place : Place) (counts : List ℕ) (limits : List (List ℕ)) (bytes : List ℕ) (n : ℕ) (left : List ℕ) (last : Option Point) (m : Moving) → IsShape place.shape → AreFew counts → m.shape ≡ place.shape
    → IsAuditing place counts limits bytes n left last m → AreAudited place counts limits bytes n
auditing-audited place counts limits bytes n left last m shape few same is =
    let more = any-of (arities left) in
    let all = points_in place bytes n ++ more in
    let numbers : map arity_of all ≡ arities counts = map-append arity_of (points_in place bytes n) more ∙ (ap (λ (l : List ℕ). map arity_of (points_in place bytes n) ++ l) (any-arities (arities left)) ∙ is.numbers) in
    let front = views-front place.shape shape counts few all numbers place.first is.pages more m same (is.moving more (any-arities (arities left))) in
    record {
      good = is.good;
      within = is.within;
      packed = record {
        more = more;
        numbers = numbers;
        pages = is.bytes_are ∙ (sym (front-bytes place.shape is.pages front.0 n is.many) ∙ ap (λ (l : List PointPage). take n (map (page_bytes place.shape) l)) (sym front.1));
      };
    }

-- behind the last page all keep them
pub auditing-whole : (place : Place) (counts : List ℕ) (limits : List (List ℕ)) (bytes left : List ℕ) (last : Option Point) (m : Moving) → IsShape place.shape → AreFew counts → m.shape ≡ place.shape → m.buffer ≡ []
    → place.pages ≡ tree_pages place.shape counts → IsAuditing place counts limits bytes place.pages left last m → IsAuditedTree place counts limits bytes
auditing-whole place counts limits bytes left last m shape few same empty all_pages is =
    let read = points_in place bytes place.pages in
    let more = any-of (arities left) in
    let numbers : map arity_of (read ++ more) ≡ arities counts = map-append arity_of read more ∙ (ap (λ (l : List ℕ). map arity_of read ++ l) (any-arities (arities left)) ∙ is.numbers) in
    let whole = views-whole place.shape shape counts few (read ++ more) numbers place.first is.pages more m same (is.moving more (any-arities (arities left))) (is.many ∙ all_pages) empty in
    let none : read ++ more ≡ read = ap (λ (l : List Entry). read ++ l) whole.0 ∙ append-nil read in
    record {
      good = is.good;
      within = is.within;
      numbers = ap (map arity_of) (sym none) ∙ numbers;
      pages = is.bytes_are ∙ (ap (map (page_bytes place.shape)) whole.1 ∙ ap (packed_pages place counts) none);
    }
