-- Where children stand before their page, a search goes on below each page that it comes to.
use Rattle.std.proofs.Common.{◌≡◌, ◌<◌, ℕ, zero, suc, List, [], ◌∷◌, ◌++◌, refl, ap, ◌∙◌, arith}
use Rattle.std.specs.Prelude.{flat_map}
use Rattle.std.specs.List.{AllByRecursion}
use Rattle.cube_point.specs.declared.bounds.Region.{Region}
use Rattle.tree_pack.specs.Pages.{PointPage}
use Rattle.range_scan.specs.Visits.{all_ways, below, ways}

abbrev pub AllBelow : ℕ → List ℕ → Type 0
AllBelow n ms = AllByRecursion (λ m. m < n) ms

same-below : {A : Type 0} (f g : ℕ → List A) (n : ℕ) (ms : List ℕ) → AllBelow n ms → ((m : ℕ) → m < n → f m ≡ g m) → flat_map f ms ≡ flat_map g ms
same-below f g n [] all same = refl
same-below f g n (m ∷ ms) all same = ap (λ r. r ++ flat_map f ms) (same m all.0) ∙ ap (λ r. g m ++ r) (same-below f g n ms all.1 same)

module _ (region : Region) (pages : ℕ → PointPage) (falls : (n : ℕ) → AllBelow n (below region (pages n))) where
  -- more steps than a page's number lead no further
  enough : (d e n : ℕ) → n < d → n < e → ways region pages d n ≡ ways region pages e n
  enough zero e n p q = absurd (omega arith)
  enough (suc d) zero n p q = absurd (omega arith)
  enough (suc d) (suc e) n p q = ap (λ r. n ∷ r) (same-below (ways region pages d) (ways region pages e) n (below region (pages n)) (falls n)
      (λ m lt. enough d e m (omega arith) (omega arith)))

  -- the ways from a page are its own, and those from the pages below it
  pub ways-go_on : (n : ℕ) → all_ways region pages n ≡ n ∷ flat_map (all_ways region pages) (below region (pages n))
  ways-go_on n = ap (λ r. n ∷ r) (same-below (ways region pages n) (all_ways region pages) n (below region (pages n)) (falls n)
      (λ m lt. enough n (suc m) m lt (omega arith)))
