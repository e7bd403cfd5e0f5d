-- One element more of a list.
use Rattle.std.proofs.Common.{◌≡◌, ◌≤◌, ◌<◌, ◌+◌, ◌++◌, arith, length-append, refl, subst, ℕ, zero, suc, Bool, true, false, List, [], ◌∷◌, cond, length, get_or, filter, map, reverse, take, drop, sym, ap, ◌∙◌, append_assoc, append-nil}
use Rattle.std.proofs.lemmas.List.{drop_more, get_or_push, reverse-append}
use Rattle.std.proofs.lemmas.List.Elements.{All-cons, All-nil, filter_more}
use Rattle.cube_point.specs.declared.bounds.Region.{Region}
use Rattle.page_fmt.specs.declared.page.Child.{Child}
use Rattle.page_fmt.specs.declared.page.Place.{Place}
use Rattle.range_scan.specs.Meeting.{is_met}
use Rattle.range_scan.specs.Steps.{AreAhead}
use Rattle.range_scan.specs.Visits.{met, top_page}

-- the next element from the front passes, or does not
module _ {A : Type 0} (p : A → Bool) (xs : List A) where
  pub keeps : (i : ℕ) (x : A) (old now : List A) → i < length xs → x ≡ get_or xs i x → p x ≡ true → now ≡ old ++ filter p (take i xs) → now ++ x ∷ [] ≡ old ++ filter p (take (i + 1) xs)
  keeps i x old now lt is passes so_far =
      let more : filter p (take (i + 1) xs) ≡ filter p (take i xs) ++ x ∷ []
      = filter_more p xs i x lt ∙ (λ j. filter p (take i xs) ++ cond ((ap p (sym is) ∙ passes) j) (sym is j ∷ []) []) in
      ap (λ (l : List A). l ++ x ∷ []) so_far ∙ (append_assoc old (filter p (take i xs)) (x ∷ []) ∙ ap (λ (l : List A). old ++ l) (sym more))

  pub skips : (i : ℕ) (x : A) (old now : List A) → i < length xs → x ≡ get_or xs i x → p x ≡ false → now ≡ old ++ filter p (take i xs) → now ≡ old ++ filter p (take (i + 1) xs)
  skips i x old now lt is fails so_far =
      let more : filter p (take (i + 1) xs) ≡ filter p (take i xs) ++ []
      = filter_more p xs i x lt ∙ (λ j. filter p (take i xs) ++ cond ((ap p (sym is) ∙ fails) j) (sym is j ∷ []) []) in
      so_far ∙ ap (λ (l : List A). old ++ l) (sym (more ∙ append-nil (filter p (take i xs))))

pub reverse-push : {A : Type 0} (xs : List A) (x : A) → reverse (xs ++ x ∷ []) ≡ x ∷ reverse xs
reverse-push xs x = reverse-append xs (x ∷ [])

-- the child before those passed, from the last one on, meets the region, or does not
module _ (region : Region) (cs : List Child) where
  abbrev from : ℕ → List ℕ
  from i = met region (drop i cs)

  first : (i : ℕ) (c : Child) (b : Bool) → i < length cs → c ≡ get_or cs i c → is_met region c.bounds ≡ b → from i ≡ map (λ x. x.page) (cond b (c ∷ filter (λ x. is_met region x.bounds) (drop (i + 1) cs)) (filter (λ x. is_met region x.bounds) (drop (i + 1) cs)))
  first i c b lt is test =
      ap (met region) (drop_more cs i c lt ∙ ap (λ (x : Child). x ∷ drop (i + 1) cs) (sym is))
      ∙ ap (λ t. map (λ (x : Child). x.page) (cond t (c ∷ filter (λ (x : Child). is_met region x.bounds) (drop (i + 1) cs)) (filter (λ (x : Child). is_met region x.bounds) (drop (i + 1) cs)))) test

  pub goes_on : (i j : ℕ) (c : Child) (now old : List ℕ) → j ≡ i + 1 → i < length cs → c ≡ get_or cs i c → is_met region c.bounds ≡ true → reverse now ≡ from j ++ old → reverse (now ++ c.page ∷ []) ≡ from i ++ old
  goes_on i j c now old next lt is meets so_far =
      reverse-push now c.page
      ∙ (ap (λ (l : List ℕ). c.page ∷ l) (so_far ∙ ap (λ (k : ℕ). from k ++ old) next) ∙ ap (λ (l : List ℕ). l ++ old) (sym (first i c true lt is meets)))

  pub passes_by : (i j : ℕ) (c : Child) (now old : List ℕ) → j ≡ i + 1 → i < length cs → c ≡ get_or cs i c → is_met region c.bounds ≡ false → reverse now ≡ from j ++ old → reverse now ≡ from i ++ old
  passes_by i j c now old next lt is apart so_far =
      so_far ∙ (ap (λ (k : ℕ). from k ++ old) next ∙ ap (λ (l : List ℕ). l ++ old) (sym (first i c false lt is apart)))

-- one of the tree's pages
abbrev pub IsOf : Place → ℕ → Type 0
IsOf tree number = (tree.first ≤ number) × (number < tree.first + tree.pages)

-- the page that comes next is one of the tree
pub ahead-next : (tree : Place) (ahead rest : List ℕ) (page : ℕ) → ahead ≡ rest ++ page ∷ [] → AreAhead tree ahead → (tree.first ≤ page) × (page < tree.first + tree.pages)
ahead-next tree ahead rest page top all =
    let here = all (length rest) page (omega (arith, ap length top, length-append rest (page ∷ []))) in
    let is : get_or ahead (length rest) page ≡ page = ap (λ (l : List ℕ). get_or l (length rest) page) top ∙ get_or_push rest page page (length rest) refl in
    (omega (arith, here.0, is), omega (arith, here.1, is))

pub top-ahead : (tree : Place) (ahead : List ℕ) → ahead ≡ top_page tree.first tree.pages → AreAhead tree ahead
top-ahead tree ahead top = subst (AreAhead tree) (sym top) (by tree.pages refl)
  where
    by : (pages : ℕ) → pages ≡ tree.pages → AreAhead tree (top_page tree.first pages)
    by zero is = All-nil (IsOf tree)
    by (suc pages) is = All-cons (IsOf tree) (tree.first + pages) [] (omega arith, omega (arith, is)) (All-nil (IsOf tree))
