-- The points of a tree's pages, page by page, are the same wherever its first page stands.
use Rattle.std.proofs.Common.{◌≡◌, ◌+◌, ℕ, suc, List, [], ◌∷◌, ◌++◌, map, refl, ap, sym, ◌∙◌}
use Rattle.std.specs.List.{AllByRecursion}
use Rattle.std.specs.Prelude.{flat_map}
use Rattle.std.proofs.lemmas.List.{map-append}
use Rattle.cube_point.specs.declared.point.Entry.{Entry}
use Rattle.cube_point.specs.declared.point.Shape.{Shape}
use Rattle.spec_tree.specs.Runs.{runs, top}
use Rattle.spec_tree.specs.Tree.{Inner, Node, inner, laid, leaf, placed}
use Rattle.spec_tree.proofs.Tops.{every-top}
use Rattle.page_fmt.specs.declared.page.Child.{Child}
use Rattle.page_fmt.specs.Trees.{fanout_of, room_of}
use Rattle.tree_pack.specs.Pages.{Views, child_of, pages_of}
use Rattle.spec_moves.specs.Forest.{points_on}

-- a node has the same points, page by page, whatever its first page's number
abbrev Same : Node Entry Child → Type 0
Same n = (f g : ℕ) → map points_on (n.pages f) ≡ map points_on (n.pages g)

laid-same : (f g : ℕ) (ns : List (Node Entry Child)) → AllByRecursion Same ns → map points_on (laid f ns) ≡ map points_on (laid g ns)
laid-same f g [] h = refl
laid-same f g (n ∷ ns) h =
    map-append points_on (n.pages f) (laid (f + suc n.below) ns)
    ∙ ((λ i. h.0 f g i ++ laid-same (f + suc n.below) (g + suc n.below) ns h.1 i) ∙ sym (map-append points_on (n.pages g) (laid (g + suc n.below) ns)))

inner-same : (ns : List (Node Entry Child)) → AllByRecursion Same ns → Same (inner child_of ns)
inner-same ns h f g =
    map-append points_on (laid f ns) (Inner (placed child_of f ns) ∷ [])
    ∙ (ap (λ (l : List (List Entry)). l ++ [] ∷ []) (laid-same f g ns h) ∙ sym (map-append points_on (laid g ns) (Inner (placed child_of g ns) ∷ [])))

leaves-same : (rs : List (List Entry)) → AllByRecursion Same (map leaf rs)
leaves-same [] = tt
leaves-same (r ∷ rs) = ((λ f g. refl), leaves-same rs)

pub places-same : (shape : Shape) (views : Views) (first other : ℕ) → map points_on (pages_of shape first views) ≡ map points_on (pages_of shape other views)
places-same shape views first other =
    let rs : List (List Entry) = flat_map (λ v. runs (room_of shape v.0) v.1) views in
    laid-same first other (top (fanout_of shape) (inner child_of) 11 (map leaf rs)) (every-top Same (fanout_of shape) (inner child_of) inner-same 11 (map leaf rs) (leaves-same rs))
