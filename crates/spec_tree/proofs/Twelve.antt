-- A packer has twelve levels, and writes no more leaves than points.
use Rattle.std.proofs.Common.{◌≡◌, ◌≤◌, ◌<◌, ◌+◌, ℕ, true, List, [], ◌∷◌, ◌++◌, length, refl, ap, sym, ◌∙◌, arith, append-nil, length-append}
use Rattle.std.proofs.lemmas.Bool.{true≢false}
use Rattle.std.proofs.lemmas.List.{length-set}
use Rattle.spec_tree.specs.Digits.{leaf_count}
use Rattle.spec_tree.specs.Leaves.{leaf_ends}
use Rattle.spec_tree.specs.Packing.{State, start, Packs, takes_entry, writes_leaf, closes_full, closes_rest, PacksMany, none_yet, one_more}
use Rattle.spec_tree.specs.Tree.{Page, Leaf, Inner, entries_in}
use Rattle.spec_tree.proofs.Children.{length-closed}
use Rattle.spec_tree.proofs.Entries.{entries-append}

pub leaves-append : {E C : Type 0} (a b : List (Page E C)) → leaf_count (a ++ b) ≡ leaf_count a + leaf_count b
leaves-append [] b = omega arith
leaves-append (Leaf es ∷ a) b = let rest : leaf_count (a ++ b) ≡ leaf_count a + leaf_count b = leaves-append a b in omega (arith, rest)
leaves-append (Inner cs ∷ a) b = leaves-append a b

module _ {E C : Type 0} (arity : E → ℕ) (room : ℕ → ℕ) (k : ℕ) (child : List E → ℕ → C) (over : List C → ℕ → C) where
  -- no level comes or goes
  step-long : {s t : State E C} {page : Page E C} → Packs arity room k child over s page t → length t.levels ≡ length s.levels
  step-long (takes_entry none goes step) = step-long step
  step-long (writes_leaf {ls = ls} none ends) = length-set ls 0 _
  step-long (closes_full {ls = ls} {n = n} {i = i} full) = length-closed (λ cs. over cs n) i ls
  step-long (closes_rest {ls = ls} {n = n} {i = i} none rest) = length-closed (λ cs. over cs n) i ls

  pub packs-twelve : {first : ℕ} {entries : List E} {pages : List (Page E C)} {t : State E C} → PacksMany arity room k child over (start first entries) pages t → length t.levels ≡ 12
  packs-twelve none_yet = refl
  packs-twelve (one_more many step) = step-long step ∙ packs-twelve many

  some-ends : (b es : List E) → leaf_ends arity room b es ≡ true → 0 < length b
  some-ends [] es e = absurd (true≢false (sym e))
  some-ends (x ∷ b) es e = omega arith

  -- a leaf that is written holds a point
  page-leaves : {s t : State E C} {page : Page E C} → Packs arity room k child over s page t → leaf_count (page ∷ []) ≤ length (entries_in (page ∷ []))
  page-leaves (takes_entry none goes step) = page-leaves step
  page-leaves (writes_leaf {es = es} {b = b} none ends) =
      let some : 0 < length b = some-ends b es ends in
      let same : length (b ++ []) ≡ length b = ap length (append-nil b) in
      omega (arith, some, same)
  page-leaves (closes_full full) = omega arith
  page-leaves (closes_rest none rest) = omega arith

  pub packs-leaves : {first : ℕ} {entries : List E} {pages : List (Page E C)} {t : State E C} → PacksMany arity room k child over (start first entries) pages t → leaf_count pages ≤ length (entries_in pages)
  packs-leaves none_yet = omega arith
  packs-leaves (one_more {pages = pages} {page = page} many step) =
      let before : leaf_count pages ≤ length (entries_in pages) = packs-leaves many in
      let this : leaf_count (page ∷ []) ≤ length (entries_in (page ∷ [])) = page-leaves step in
      let leaves : leaf_count (pages ++ page ∷ []) ≡ leaf_count pages + leaf_count (page ∷ []) = leaves-append pages (page ∷ []) in
      let points : length (entries_in (pages ++ page ∷ [])) ≡ length (entries_in pages) + length (entries_in (page ∷ [])) =
      ap length (entries-append pages (page ∷ [])) ∙ length-append (entries_in pages) (entries_in (page ∷ [])) in
      omega (arith, before, this, leaves, points)
