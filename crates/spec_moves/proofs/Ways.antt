-- What comes of lists one after another: their moves, the writes among them, and their bytes.
use Rattle.std.proofs.Common.{◌≡◌, ◌≤◌, ◌+◌, ℕ, List, [], ◌∷◌, ◌++◌, length, refl, ap, sym, ◌∙◌, arith, append_assoc, append-nil}
use Rattle.std.specs.Prelude.{flat_map}
use Rattle.std.proofs.lemmas.List.Sums.{sum_by-cons}
use Rattle.cube_point.specs.declared.point.Shape.{Shape}
use Rattle.spec_tree.proofs.Counts.{tree-count}
use Rattle.page_fmt.specs.Trees.{fanout_of, room_of}
use Rattle.page_fmt.proofs.Rooms.{fanout-many}
use Rattle.tree_pack.specs.Lawful.{AreLawful}
use Rattle.tree_pack.specs.Pages.{PointPage, child_of, page_bytes, pages_of}
use Rattle.spec_tree.specs.Moves.{Move}
use Rattle.spec_moves.specs.Trees.{TreeMerge, IsTreeMerge, all_bytes, all_moves, moves_in, total_of, totals}

pub flat-append : {A B : Type 0} (f : A → List B) (xs ys : List A) → flat_map f (xs ++ ys) ≡ flat_map f xs ++ flat_map f ys
flat-append f [] ys = refl
flat-append f (x ∷ xs) ys = ap (λ (l : List _). f x ++ l) (flat-append f xs ys) ∙ sym (append_assoc (f x) (flat_map f xs) (flat_map f ys))

-- a tree more
pub moves-more : (done : List TreeMerge) (t : TreeMerge) → all_moves (done ++ t ∷ []) ≡ all_moves done ++ moves_in t
moves-more done t = flat-append moves_in done (t ∷ []) ∙ ap (λ (l : List Move). all_moves done ++ l) (append-nil (moves_in t))

pub totals-more : (done : List TreeMerge) (t : TreeMerge) → totals (done ++ t ∷ []) ≡ totals done + total_of t
totals-more [] t = omega (arith, sum_by-cons total_of t [])
totals-more (d ∷ done) t = omega (arith, sum_by-cons total_of d (done ++ t ∷ []), sum_by-cons total_of d done, totals-more done t)

pub bytes-append : (first : ℕ) (done rest : List TreeMerge) → all_bytes first (done ++ rest) ≡ all_bytes first done ++ all_bytes (first + totals done) rest
bytes-append first [] rest = let e : first ≡ first + 0 = omega arith in ap (λ (n : ℕ). all_bytes n rest) e
bytes-append first (d ∷ done) rest =
    let pages : List ℕ = flat_map (page_bytes d.shape) (pages_of d.shape first d.views) in
    let next : first + total_of d + totals done ≡ first + totals (d ∷ done) = omega (arith, sum_by-cons total_of d done) in
    ap (λ (l : List ℕ). pages ++ l) (bytes-append (first + total_of d) done rest)
    ∙ (sym (append_assoc pages (all_bytes (first + total_of d) done) (all_bytes (first + total_of d + totals done) rest))
    ∙ ap (λ (n : ℕ). all_bytes first (d ∷ done) ++ all_bytes n rest) next)

-- the pages of a tree are as many wherever its first page stands
pub total-same : (t : TreeMerge) → IsTreeMerge t → (first : ℕ) → length (pages_of t.shape first t.views) ≡ total_of t
total-same t is first =
    let two : 2 ≤ fanout_of t.shape = omega (arith, fanout-many t.shape is.shape_is.dims) in
    tree-count child_of (room_of t.shape) (fanout_of t.shape) two first t.views is.are.fit.rooms
    ∙ sym (tree-count child_of (room_of t.shape) (fanout_of t.shape) two 0 t.views is.are.fit.rooms)

-- the first of lawful pages are lawful
pub lawful-front : (shape : Shape) (first : ℕ) (pages more : List PointPage) → AreLawful shape first (pages ++ more) → AreLawful shape first pages
lawful-front shape first [] more h = tt
lawful-front shape first (page ∷ pages) more h = (h.0, lawful-front shape (first + 1) pages more h.1)
