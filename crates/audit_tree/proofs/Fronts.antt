-- The pages in front of audited ones are audited, so the first page that breaks a rule is one alone.
use Rattle.std.proofs.Common.{◌≡◌, ◌<◌, ◌+◌, ◌-◌, ℕ, zero, suc, List, [], ◌∷◌, ◌++◌, length, map, take, refl, ap, sym, ◌∙◌, arith, inl, inr, subst, append_assoc, append-nil}
use Rattle.std.specs.List.{All}
use Rattle.std.proofs.lemmas.Bool.{cases_lt}
use Rattle.std.proofs.lemmas.List.{take-take, take_all, take_at}
use Rattle.std.proofs.lemmas.List.Elements.{All-from_recursion, recursion_from_All}
use Rattle.cube_point.specs.declared.point.Entry.{Entry}
use Rattle.leaf_pack.specs.Leaf.{arity_of}
use Rattle.page_fmt.specs.declared.page.Place.{Place}
use Rattle.page_fmt.specs.InFiles.{page_at}
use Rattle.tree_pack.proofs.Runs.{every-front}
use Rattle.tree_scan.specs.Scanning.{leaf_entries}
use Rattle.audit_tree.specs.Broken.{IsFirstBroken}
use Rattle.audit_tree.specs.Packed.{AreAudited, IsAuditedTree, IsWithin, packed_pages, pages_in, points_in}
use Rattle.audit_tree.proofs.Going.{points-more}
use Rattle.audit_tree.proofs.Pages.{pages-long, pages-more}

module _ (place : Place) (counts : List ℕ) (limits : List (List ℕ)) (bytes : List ℕ) where
  abbrev Audited : ℕ → Type 0
  Audited n = AreAudited place counts limits bytes n

  -- one page less
  audited-less : (n : ℕ) → Audited (n + 1) → Audited n
  audited-less n is =
      let number = place.first + n in
      let found = leaf_entries place.shape (page_at bytes number) in
      let read = points_in place bytes n in
      let more = is.packed.more in
      let points : points_in place bytes (n + 1) ≡ read ++ found = points-more place bytes n number refl in
      let all : points_in place bytes (n + 1) ++ more ≡ read ++ (found ++ more) = ap (λ (l : List Entry). l ++ more) points ∙ append_assoc read found more in
      record {
        good = λ number low high. is.good number low (omega (arith, high));
        within = All-from_recursion (IsWithin limits) read (every-front (IsWithin limits) read found (recursion_from_All (IsWithin limits) (read ++ found) (subst (All (IsWithin limits)) points is.within)));
        packed = record {
          more = found ++ more;
          numbers = ap (map arity_of) (sym all) ∙ is.packed.numbers;
          pages = sym (take_at (pages_in place bytes n) (page_at bytes number ∷ []) n (pages-long place bytes n))
              ∙ (ap (take n) (sym (pages-more place bytes n number refl) ∙ is.packed.pages)
              ∙ (take-take n (n + 1) (packed_pages place counts (points_in place bytes (n + 1) ++ more)) (omega arith)
              ∙ ap (λ (l : List Entry). take n (packed_pages place counts l)) all));
        };
      }

  pub audited-front : (n k : ℕ) → Audited (n + k) → Audited n
  audited-front n zero is = subst Audited (omega arith) is
  audited-front n (suc k) is = audited-front n k (audited-less (n + k) (subst Audited (omega arith) is))

  -- all pages
  pub tree-audited : IsAuditedTree place counts limits bytes → Audited place.pages
  tree-audited is =
      let read = points_in place bytes place.pages in
      let none : read ++ [] ≡ read = append-nil read in
      let long : length (packed_pages place counts read) ≡ place.pages = ap length (sym is.pages) ∙ pages-long place bytes place.pages in
      record {
        good = is.good;
        within = is.within;
        packed = record {
          more = [];
          numbers = ap (map arity_of) none ∙ is.numbers;
          pages = is.pages ∙ (sym (take_all place.pages (packed_pages place counts read) (omega (arith, long))) ∙ ap (λ (l : List Entry). take place.pages (packed_pages place counts l)) (sym none));
        };
      }

  -- where all pages keep the rules, none breaks one
  pub audited-unbroken : Audited place.pages → (number : ℕ) → IsFirstBroken place counts limits bytes number → ⊥
  audited-unbroken is number first = first.broken (audited-front (first.before + 1) (place.pages - (first.before + 1)) (subst Audited (omega (arith, first.inside)) is))

  broken-before : (a b : ℕ) → (first : IsFirstBroken place counts limits bytes a) → (second : IsFirstBroken place counts limits bytes b) → first.before < second.before → ⊥
  broken-before a b first second lt = first.broken (audited-front (first.before + 1) (second.before - (first.before + 1)) (subst Audited (omega (arith, lt)) second.kept))

  -- and no other page is the first that breaks one
  pub broken-alone : (a b : ℕ) → IsFirstBroken place counts limits bytes a → IsFirstBroken place counts limits bytes b → a ≡ b
  broken-alone a b first second = elim (cases_lt first.before second.before) [
    | inl lt ↦ absurd (broken-before a b first second lt)
    | inr not ↦ elim (cases_lt second.before first.before) [
      | inl lt ↦ absurd (broken-before b a second first lt)
      | inr neither ↦ omega (arith, not, neither, first.at, second.at)
    ]
  ]
