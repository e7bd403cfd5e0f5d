-- The pages of a packed tree, as they stand in a file.
use Rattle.std.proofs.Common.{◌≡◌, ◌≤◌, ◌+◌, ◌*◌, ℕ, suc, List, [], ◌∷◌, ◌++◌, length, take, drop, Ok, refl, sym, ap, ◌∙◌, subst, arith, length-append}
use Rattle.std.specs.Prelude.{IsOk, flat_map, is_ok}
use Rattle.std.proofs.lemmas.List.{drop-drop, drop-take, drop_at, length-drop, length-take, take-take, take_at}
use Rattle.cube_point.specs.declared.point.Shape.{Shape}
use Rattle.spec_tree.specs.Tree.{Leaf, Inner}
use Rattle.page_entry.specs.declared.size.TheConstants.{PAGE}
use Rattle.page_fmt.specs.Lawful.{IsLawful, content_bytes, content_head}
use Rattle.page_fmt.specs.Taking.{taken}
use Rattle.page_fmt.specs.Writing.{IsShape, leaf_arity}
use Rattle.page_fmt.proofs.Laws.{inner-children, is-lawful, leaf-entries}
use Rattle.tree_pack.specs.Lawful.{AreLawful, content_of}
use Rattle.tree_pack.specs.Pages.{PointPage, page_bytes}
use Rattle.tree_pack.proofs.Bytes.{each-long}
use Rattle.page_fmt.specs.InFiles.{page_at}
use Rattle.range_scan.specs.Visits.{held, held_if, page_of}

module _ (shape : Shape) (bytes : List ℕ) where
  -- the page stands in the file under this number, and is lawful
  pub record IsThere (number : ℕ) (page : PointPage) : Type 0 where
    pub whole : PAGE * (number + 1) ≤ length bytes
    pub lawful : IsOk (taken shape number (page_at bytes number))
    pub is : page_of shape bytes number ≡ page

  -- these pages stand one after another
  abbrev pub AreThere : ℕ → List PointPage → Type 0
  AreThere first [] = Unit {0}
  AreThere first (page ∷ pages) = IsThere first page × AreThere (suc first) pages

  pub there-front : (first : ℕ) (a b : List PointPage) → AreThere first (a ++ b) → AreThere first a
  there-front first [] b h = tt
  there-front first (page ∷ a) b h = (h.0, there-front (suc first) a b h.1)

  pub there-back : (first behind : ℕ) (a b : List PointPage) → first + length a ≡ behind → AreThere first (a ++ b) → AreThere behind b
  there-back first behind [] b at h = let same : first ≡ behind = omega (arith, at) in subst (λ n. AreThere n b) same h
  there-back first behind (page ∷ a) b at h = there-back (suc first) behind a b (omega (arith, at)) h.1

  module _ (is : IsShape shape) where
    content-is : (page : PointPage) → page_bytes shape page ≡ content_bytes shape (content_of page)
    content-is (Leaf es) = refl
    content-is (Inner cs) = refl

    held-is : (number : ℕ) (page : PointPage) → IsLawful shape number (content_of page) → held shape (page_bytes shape page) (content_head shape (content_of page)).node ≡ page
    held-is number (Leaf es) h = ap Leaf (leaf-entries shape (leaf_arity es) es h)
    held-is number (Inner cs) h = ap Inner (inner-children shape cs is.dims h.stored h.count)

    module _ (number : ℕ) (page : PointPage) (lawful : IsLawful shape number (content_of page)) (at : page_at bytes number ≡ page_bytes shape page) where
      accepted : taken shape number (page_at bytes number) ≡ Ok (content_head shape (content_of page))
      accepted = ap (taken shape number) (at ∙ content-is page) ∙ is-lawful shape number (content_of page) is.dims lawful

      page-there : PAGE * (number + 1) ≤ length bytes → IsThere number page
      unfolding page_of
      page-there whole = record {
        whole = whole;
        lawful = ap is_ok accepted;
        is = ap (held_if shape (page_at bytes number)) accepted ∙ (ap (λ p. held shape p (content_head shape (content_of page)).node) at ∙ held-is number page lawful);
      }

    -- what bytes from a page on are these pages
    pub bytes-there : (first : ℕ) (pages : List PointPage) → AreLawful shape first pages
        → take (PAGE * length pages) (drop (PAGE * first) bytes) ≡ flat_map (page_bytes shape) pages → AreThere first pages
    bytes-there first [] lawful stand = tt
    bytes-there first (page ∷ pages) lawful stand =
        let long : length (page_bytes shape page) ≡ PAGE = each-long shape is first (page ∷ pages) lawful 0 page (omega arith) in
        let rest = flat_map (page_bytes shape) pages in
        let at : page_at bytes first ≡ page_bytes shape page = sym (take-take PAGE (PAGE * length (page ∷ pages)) (drop (PAGE * first) bytes) (omega arith))
        ∙ (ap (take PAGE) stand ∙ take_at (page_bytes shape page) rest PAGE long) in
        let more : PAGE * (suc first) ≡ PAGE * first + PAGE = omega arith in
        let all : PAGE + PAGE * length pages ≡ PAGE * length (page ∷ pages) = omega arith in
        let behind : take (PAGE * length pages) (drop (PAGE * suc first) bytes) ≡ rest = ap (λ n. take (PAGE * length pages) (drop n bytes)) more
        ∙ (ap (take (PAGE * length pages)) (sym (drop-drop PAGE (PAGE * first) bytes))
        ∙ (sym (drop-take PAGE (PAGE * length pages) (drop (PAGE * first) bytes))
        ∙ (ap (λ n. drop PAGE (take n (drop (PAGE * first) bytes))) all
        ∙ (ap (drop PAGE) stand ∙ drop_at (page_bytes shape page) rest PAGE long)))) in
        let size = ap length stand ∙ length-append (page_bytes shape page) rest in
        let next : first + 1 ≡ suc first = omega arith in (
          page-there first page lawful.0 at (omega (arith, long, size, length-take (PAGE * length (page ∷ pages)) (drop (PAGE * first) bytes), length-drop (PAGE * first) bytes)),
          bytes-there (suc first) pages (subst (λ n. AreLawful shape n pages) next lawful.1) behind,
        )
