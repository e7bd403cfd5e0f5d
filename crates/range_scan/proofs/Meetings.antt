-- The children of an inner page: those whose boxes meet the region, and their pages.
use Rattle.std.proofs.Common.{◌≡◌, ◌≤◌, ◌<◌, ◌+◌, ◌*◌, ◌++◌, ◌⊎◌, inl, inr, ℕ, true, false, List, [], ◌∷◌, drop, get_or, filter, map, reverse, sym, ap, ◌∙◌, arith}
use Rattle.std.specs.Prelude.{slice_index}
use Rattle.std.specs.List.{All}
use Rattle.std.proofs.lemmas.Bool.{cases_Bool, cases_lt, ltb-true}
use Rattle.std.proofs.lemmas.List.{reverse-append, reverse-reverse}
use Rattle.std.proofs.lemmas.List.Elements.{All-append, All-cons, All-filter, All-head, All-map, All-nil, All-push, All-same, All-tail}
use Rattle.cube_point.specs.declared.bounds.Bounds.{Bounds}
use Rattle.cube_point.specs.declared.bounds.Region.{Region}
use Rattle.cube_point.specs.declared.point.Shape.{Shape}
use Rattle.page_fmt.specs.declared.page.Child.{Child}
use Rattle.page_fmt.specs.declared.page.Place.{Place}
use Rattle.page_fmt.specs.Pages.{child_size}
use Rattle.page_entry.specs.Entries.{ascend, page_count}
use Rattle.page_fmt.specs.Taking.{child_of, children, page_before}
use Rattle.page_fmt.specs.Writing.{IsBox}
use Rattle.page_entry.proofs.Tests.{and-both}
use Rattle.page_fmt.proofs.Loops.{child-read}
use Rattle.range_scan.specs.Meeting.{HoldsSome, is_met}
use Rattle.range_scan.specs.Steps.{AreAhead}
use Rattle.range_scan.specs.Visits.{met}
use Rattle.range_scan.proofs.Boxes.{filter-none}
use Rattle.range_scan.proofs.Lists.{IsOf}
use Rattle.range_scan.proofs.Tests.{met-from, met-told}

-- the one at its place
pub there : (shape : Shape) (b : List ℕ) (i at : ℕ) → i < page_count b → at ≡ 8 + i * child_size shape → child_of shape (drop at b) ≡ get_or (children shape b) i (child_of shape (drop at b))
there shape b i at lt at-is = ap (λ (k : ℕ). child_of shape (drop k b)) at-is ∙ sym (child-read shape b i (child_of shape (drop at b)) lt)

-- ---- boxes

-- a box that lies beyond the region in one dimension does not meet it
pub apart : (region : Region) (b : Bounds) (i : ℕ) → i < 8 → (slice_index region.bounds.high i < slice_index b.low i) ⊎ (slice_index b.high i < slice_index region.bounds.low i) → is_met region b ≡ false
apart region b i lt out = elim (cases_Bool (is_met region b)) [
  | inl meets ↦
      let share = met-told region b meets in
      let one = share.first i lt in
      let two = share.second i lt in
      elim out [ inl above ↦ absurd (omega (arith, above, one.0, two.1)) | inr below ↦ absurd (omega (arith, below, one.1, two.0)) ]
  | inr not ↦ not
]

module _ (shape : Shape) (region : Region) where
  -- one that lies beyond it in no used dimension does
  pub meets-used : (b : Bounds) → IsBox shape b → HoldsSome shape.dims region
      → ((i : ℕ) → i < shape.dims → (slice_index b.low i ≤ slice_index region.bounds.high i) × (slice_index region.bounds.low i ≤ slice_index b.high i)) → is_met region b ≡ true
  meets-used b box some h = met-from region b (λ i lt. elim (cases_lt i shape.dims) [
    | inl used ↦ let here = h i used in omega (arith, box.ordered i lt, some.used i used, here.0, here.1)
    | inr past ↦ omega (arith, box.ordered i lt, box.unused i past, some.unused i past lt)
  ])

  some-of : (b : Bounds) → shape.dims ≤ 8 → IsBox shape b → is_met region b ≡ true → HoldsSome shape.dims region
  some-of b dims box meets =
      let share = met-told region b meets in
      record {
        used = λ i lt. let here = share.second i (omega (arith, lt, dims)) in omega (arith, here.0, here.1);
        unused = λ i past lt. let one = share.first i lt in let two = share.second i lt in omega (arith, one.1, two.0, box.unused i past);
      }

  -- where the region holds nothing in these dimensions, no child meets it
  pub none-met : (cs : List Child) → shape.dims ≤ 8 → All (λ (c : Child). IsBox shape c.bounds) cs → (HoldsSome shape.dims region → ⊥) → met region cs ≡ []
  none-met cs dims boxes none = ap (map (λ (c : Child). c.page)) (filter-none (λ (c : Child). is_met region c.bounds) cs (λ k d lt. elim (cases_Bool (is_met region (get_or cs k d).bounds)) [
    | inl meets ↦ absurd (none (some-of (get_or cs k d).bounds dims (boxes k d lt) meets))
    | inr not ↦ not
  ]))

-- ---- pages

-- what the first child's page is not below no other's is
pub from-first : (first : ℕ) (cs : List Child) (d : Child) → ascend page_before cs ≡ true → first ≤ (get_or cs 0 d).page → All (λ (c : Child). first ≤ c.page) cs
from-first first [] d h low = All-nil (λ (c : Child). first ≤ c.page)
from-first first (c ∷ []) d h low = All-cons (λ (c : Child). first ≤ c.page) c [] low (All-nil (λ (c : Child). first ≤ c.page))
from-first first (c ∷ e ∷ cs) d h low =
    let both = and-both (page_before c e) (ascend page_before (e ∷ cs)) h in
    let less = ltb-true c.page e.page both.0 in
    All-cons (λ (c : Child). first ≤ c.page) c (e ∷ cs) low (from-first first (e ∷ cs) d both.1 (omega (arith, low, less)))

all-reverse : {A : Type 0} (P : A → Type 0) (xs : List A) → All P xs → All P (reverse xs)
all-reverse P [] h = All-nil P
all-reverse P (x ∷ xs) h =
    All-same P (reverse (x ∷ xs)) (reverse xs ++ x ∷ []) (reverse-append (x ∷ []) xs) (All-push P (reverse xs) x (all-reverse P xs (All-tail P x xs h)) (All-head P x xs h))

-- the pages that come next are the tree's
pub ahead-met : (tree : Place) (region : Region) (cs : List Child) (old now : List ℕ) → AreAhead tree old → All (λ (c : Child). tree.first ≤ c.page) cs
    → All (λ (c : Child). c.page < tree.first + tree.pages) cs → reverse now ≡ met region cs ++ reverse old → AreAhead tree now
ahead-met tree region cs old now are from below is =
    let meets = λ (c : Child). is_met region c.bounds in
    let ones = All-filter meets (λ (c : Child). IsOf tree c.page) cs (λ k d lt. (from k d lt, below k d lt)) in
    let all = All-append (IsOf tree) (met region cs) (reverse old) (All-map (IsOf tree) (λ (c : Child). c.page) (filter meets cs) ones) (all-reverse (IsOf tree) old are) in
    All-same (IsOf tree) now (reverse (reverse now)) (sym (reverse-reverse now)) (all-reverse (IsOf tree) (reverse now) (All-same (IsOf tree) (reverse now) (met region cs ++ reverse old) is all))
