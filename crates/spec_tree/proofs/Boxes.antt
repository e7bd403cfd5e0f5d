-- The child over some children from their boxes: where the box of two lists is the join of theirs, it is that of all points.
use Rattle.std.proofs.Common.{◌≡◌, ℕ, List, [], ◌∷◌, ◌++◌, length, map, ap, sym, ◌∙◌, arith, append_assoc, append-nil, ◌<◌, length-append}
use Rattle.std.specs.Prelude.{flat_map}
use Rattle.std.specs.List.{AllByRecursion}
use Rattle.spec_tree.specs.Children.{IsChildOver, joined_boxes, over_boxes}

module _ {E B C : Type 0} (box : List E → B) (join : B → B → B) (joins : (a b : List E) → 0 < length a → 0 < length b → box (a ++ b) ≡ join (box a) (box b))
    (at : B → ℕ → C) (bounds : C → B) (keeps : (b : B) (n : ℕ) → bounds (at b n) ≡ b) where
  abbrev Parts : Type 0
  Parts = List (List E × ℕ)

  abbrev points_of : Parts → List E
  points_of parts = flat_map (λ p. p.0) parts

  abbrev children_of : Parts → List C
  children_of parts = map (λ p. at (box p.0) p.1) parts

  -- boxes joined one after another
  join-from : (a : List E) (parts : Parts) → 0 < length a → AllByRecursion (λ p. 0 < length p.0) parts → joined_boxes join bounds (box a) (children_of parts) ≡ box (a ++ points_of parts)
  join-from a [] h all = ap box (sym (append-nil a))
  join-from a (p ∷ parts) h all = ap (λ b. joined_boxes join bounds b (children_of parts)) (ap (join (box a)) (keeps (box p.0) p.1) ∙ sym (joins a p.0 h all.0))
      ∙ (join-from (a ++ p.0) parts (omega (arith, h, length-append a p.0)) all.1 ∙ ap box (append_assoc a p.0 (points_of parts)))

  -- the join of the children's boxes is the box of all points below
  pub box-inner : (none : B) → IsChildOver (λ es n. at (box es) n) (over_boxes none join at bounds)
  box-inner none = record { joins = joins_of }
    where
      joins_of : (parts : Parts) (number : ℕ) → 0 < length parts → AllByRecursion (λ p. 0 < length p.0) parts → over_boxes none join at bounds (children_of parts) number ≡ at (box (points_of parts)) number
      joins_of [] number l all = absurd (omega (arith, l))
      joins_of (p ∷ parts) number l all = ap (λ b. at b number) (ap (λ b. joined_boxes join bounds b (children_of parts)) (keeps (box p.0) p.1) ∙ join-from p.0 parts all.0 all.1)
