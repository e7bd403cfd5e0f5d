-- The pages in front, and the next one.
use Rattle.std.proofs.Common.{◌≡◌, ◌<◌, ◌+◌, ℕ, zero, suc, Bool, true, false, cond, List, [], ◌∷◌, ◌++◌, length, map, take, get_or, refl, ap, sym, ◌∙◌, arith, length-append}
use Rattle.std.specs.Prelude.{◌==◌}
use Rattle.std.specs.List.{range_with_len}
use Rattle.std.proofs.lemmas.List.{append_cancel_left, length-map, map-append, take_at}
use Rattle.std.proofs.lemmas.List.FromFn.{length-range_with_len}
use Rattle.be_numbers.proofs.Format.{is_number}
use Rattle.page_entry.proofs.Loops.{many-long}
use Rattle.cube_point.specs.declared.point.Entry.{Entry}
use Rattle.cube_point.specs.declared.point.Shape.{Shape}
use Rattle.page_fmt.specs.declared.page.Child.{Child}
use Rattle.page_fmt.specs.declared.page.Place.{Place}
use Rattle.page_fmt.specs.InFiles.{page_at}
use Rattle.page_fmt.specs.Pages.{inner_bytes, inner_kind, leaf_bytes, leaf_kind}
use Rattle.page_entry.specs.Entries.{entries, page_count}
use Rattle.tree_pack.specs.Pages.{PointPage, page_bytes}
use Rattle.tree_scan.specs.Scanning.{leaf_entries}
use Rattle.audit_tree.specs.Packed.{pages_in}

-- ---- one page more

pub range-more : (s n : ℕ) → range_with_len s (n + 1) ≡ range_with_len s n ++ (s + n) ∷ []
range-more s zero = ap (λ (k : ℕ). k ∷ []) (omega arith)
range-more s (suc n) =
    let more : suc n + 1 ≡ suc (n + 1) = omega arith in
    let last : s + 1 + n ≡ s + suc n = omega arith in
    ap (range_with_len s) more ∙ ap (λ (l : List ℕ). s ∷ l) (range-more (s + 1) n ∙ ap (λ (k : ℕ). range_with_len (s + 1) n ++ k ∷ []) last)

pub pages-more : (place : Place) (bytes : List ℕ) (n number : ℕ) → place.first + n ≡ number → pages_in place bytes (n + 1) ≡ pages_in place bytes n ++ page_at bytes number ∷ []
pages-more place bytes n number here =
    ap (map (λ number. page_at bytes number)) (range-more place.first n ∙ ap (λ (k : ℕ). range_with_len place.first n ++ k ∷ []) here)
    ∙ map-append (λ number. page_at bytes number) (range_with_len place.first n) (number ∷ [])

pub pages-long : (place : Place) (bytes : List ℕ) (n : ℕ) → length (pages_in place bytes n) ≡ n
pages-long place bytes n = length-map (range_with_len place.first n) (λ number. page_at bytes number) ∙ length-range_with_len place.first n

-- the bytes of one page more
pub page-more : (shape : Shape) (pages : List PointPage) (page : PointPage) → map (page_bytes shape) (pages ++ page ∷ []) ≡ map (page_bytes shape) pages ++ page_bytes shape page ∷ []
page-more shape pages page = map-append (page_bytes shape) pages (page ∷ [])

-- the first of a list, as many
pub same-front : {A : Type 0} (xs ys more later : List A) → xs ++ more ≡ ys ++ later → length xs ≡ length ys → xs ≡ ys
same-front xs ys more later same long =
    sym (take_at xs more (length xs) refl) ∙ (ap (take (length xs)) same ∙ take_at ys later (length xs) (sym long))

-- the first pages of a packing
pub front-bytes : (shape : Shape) (pages more : List PointPage) (n : ℕ) → length pages ≡ n → take n (map (page_bytes shape) (pages ++ more)) ≡ map (page_bytes shape) pages
front-bytes shape pages more n long =
    ap (take n) (map-append (page_bytes shape) pages more)
    ∙ take_at (map (page_bytes shape) pages) (map (page_bytes shape) more) n (length-map pages (page_bytes shape) ∙ long)

-- the page behind the first, where both are of one packing
pub next-page : (place : Place) (bytes : List ℕ) (n number : ℕ) (all pages more : List PointPage) (page : PointPage) → place.first + n ≡ number
    → all ≡ (pages ++ page ∷ []) ++ more → length pages ≡ n → pages_in place bytes n ≡ map (page_bytes place.shape) pages
    → pages_in place bytes (n + 1) ≡ take (n + 1) (map (page_bytes place.shape) all) → page_at bytes number ≡ page_bytes place.shape page
next-page place bytes n number all pages more page here mine long are are_too =
    let theirs : take (n + 1) (map (page_bytes place.shape) all) ≡ map (page_bytes place.shape) (pages ++ page ∷ [])
    = ap (λ (l : List PointPage). take (n + 1) (map (page_bytes place.shape) l)) mine ∙ front-bytes place.shape (pages ++ page ∷ []) more (n + 1) (omega (arith, long, length-append pages (page ∷ []))) in
    let ends : page_at bytes number ∷ [] ≡ page_bytes place.shape page ∷ []
    = append_cancel_left (map (page_bytes place.shape) pages) (page_at bytes number ∷ []) (page_bytes place.shape page ∷ [])
    (ap (λ (l : List (List ℕ)). l ++ page_at bytes number ∷ []) (sym are) ∙ (sym (pages-more place bytes n number here) ∙ (are_too ∙ (theirs ∙ page-more place.shape pages page)))) in
    ap (λ (l : List (List ℕ)). get_or l 0 []) ends

-- ---- the points of a page

leaf-told : (wide : Bool) → (leaf_kind wide == leaf_kind wide) ≡ true
leaf-told true = refl
leaf-told false = refl

inner-told : (wide : Bool) → (inner_kind wide == leaf_kind wide) ≡ false
inner-told true = refl
inner-told false = refl

pub inner-none : (shape : Shape) (page : List ℕ) (cs : List Child) → page ≡ inner_bytes shape cs → leaf_entries shape page ≡ []
unfolding leaf_entries
inner-none shape page cs is = ap (leaf_entries shape) is ∙ ap (λ (b : Bool). cond b (entries shape (inner_bytes shape cs)) []) (inner-told shape.wide)

-- a leaf has as many as were written
pub leaf-long : (shape : Shape) (page : List ℕ) (arity : ℕ) (es : List Entry) → page ≡ leaf_bytes arity shape es → length es < 65536 → length (leaf_entries shape page) ≡ length es
unfolding leaf_entries entries
leaf-long shape page arity es is few =
    ap (λ (p : List ℕ). length (leaf_entries shape p)) is
    ∙ (ap (λ (b : Bool). length (cond b (entries shape (leaf_bytes arity shape es)) [])) (leaf-told shape.wide)
    ∙ (many-long _ _ (page_count (leaf_bytes arity shape es)) _ ∙ (is_number 2).again (length es) _ few))
