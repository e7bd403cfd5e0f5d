-- Packed pages in a file, page by page.
use Rattle.std.proofs.Common.{◌≡◌, ◌≤◌, ◌<◌, ◌+◌, ℕ, List, [], ◌∷◌, length, map, refl, ap, sym, ◌∙◌, arith, subst}
use Rattle.std.specs.List.{range_with_len}
use Rattle.std.proofs.lemmas.List.{get_or-map, length-map}
use Rattle.cube_point.specs.declared.point.Shape.{Shape}
use Rattle.spec_tree.specs.Tree.{Leaf, Inner}
use Rattle.page_fmt.specs.InFiles.{page_at}
use Rattle.page_fmt.specs.Lawful.{Content, IsLawful, content_bytes}
use Rattle.page_fmt.specs.Writing.{IsShape}
use Rattle.tree_pack.specs.Lawful.{AreLawful as AreLawfulPages, content_of}
use Rattle.tree_pack.specs.Pages.{PointPage, page_bytes}
use Rattle.tree_pack.proofs.Bytes.{each-lawful}
use Rattle.tree_scan.specs.Packed.{AreLawful, HasPages}
use Rattle.tree_scan.proofs.Packed.{page-is, rest-has, rest-lawful}

-- the bytes of each page are those of its content
contents-there : (shape : Shape) (dims : shape.dims ≤ 8) (bytes : List ℕ) (first : ℕ) (cs : List Content) → AreLawful shape first cs → HasPages shape bytes first cs
    → map (λ number. page_at bytes number) (range_with_len first (length cs)) ≡ map (content_bytes shape) cs
contents-there shape dims bytes first [] lawful has = refl
contents-there shape dims bytes first (c ∷ cs) lawful has =
    let rest = contents-there shape dims bytes (first + 1) cs (rest-lawful shape dims bytes first c cs lawful has) (rest-has shape dims bytes first c cs lawful has) in
    λ i. page-is shape dims bytes first c cs lawful has i ∷ rest i

contents-bytes : (shape : Shape) (pages : List PointPage) → map (content_bytes shape) (map content_of pages) ≡ map (page_bytes shape) pages
contents-bytes shape [] = refl
contents-bytes shape (Leaf es ∷ pages) = ap (λ (r : List (List ℕ)). page_bytes shape (Leaf es) ∷ r) (contents-bytes shape pages)
contents-bytes shape (Inner cs ∷ pages) = ap (λ (r : List (List ℕ)). page_bytes shape (Inner cs) ∷ r) (contents-bytes shape pages)

lawful-contents : (shape : Shape) → IsShape shape → (first : ℕ) (pages : List PointPage) → AreLawfulPages shape first pages → AreLawful shape first (map content_of pages)
lawful-contents shape is first pages h i d lt =
    let low : i < length pages = omega (arith, lt, length-map pages content_of) in
    subst (IsLawful shape (first + i)) (sym (get_or-map content_of pages i (Leaf []) d low)) (each-lawful shape is first pages h i (Leaf []) low)

-- the same of pages that stand there
pub pages-there : (shape : Shape) → IsShape shape → (bytes : List ℕ) (first n : ℕ) (pages : List PointPage) → AreLawfulPages shape first pages → HasPages shape bytes first (map content_of pages) → length pages ≡ n
    → map (λ number. page_at bytes number) (range_with_len first n) ≡ map (page_bytes shape) pages
pages-there shape is bytes first n pages lawful has many =
    (λ i. map (λ number. page_at bytes number) (range_with_len first ((sym many ∙ sym (length-map pages content_of)) i)))
    ∙ (contents-there shape is.dims bytes first (map content_of pages) (lawful-contents shape is first pages lawful) has
    ∙ contents-bytes shape pages)
