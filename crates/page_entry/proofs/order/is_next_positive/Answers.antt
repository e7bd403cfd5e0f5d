use Rattle.std.proofs.Common.{◌≡◌, ◌<◌, ◌+◌, ◌-◌, ◌*◌, ℕ, Bool, drop, sym, ap, ◌∙◌, arith}
use Rattle.std.specs.Prelude.{◌==◌, ◌&&◌, ◌||◌}
use Rattle.std.proofs.Math.Bool.{and-true}
use Rattle.std.proofs.lemmas.Bool.{eq-eqb, ne_eqb}
use Rattle.cube_point.specs.Points.{comes_before}
use Rattle.cube_point.specs.declared.point.Point.{Point}
use Rattle.page_entry.specs.Entries.{are_positive, point_of}
use Rattle.page_entry.proofs.Loops.{next-place}
use Rattle.page_entry.proofs.order.is_next_positive.Goals as goal

pub is_positive_after-requires : goal.is_positive_after-requires
is_positive_after-requires c =
    let some : 0 < c.args.index = omega (arith, c.if-index-eq0.false) in
    let next = next-place c.args.index c.args.size some in
    record {
      arity = c.requires.arity;
      last = omega (arith, next, c.requires.place, c.requires.coordinates);
      place = omega (arith, next, c.requires.place, c.requires.coordinates);
      positive = c.requires.positive some;
    }

pub returns-then-index-eq0 : goal.returns-then-index-eq0
returns-then-index-eq0 c =
    let last : Point = point_of c.args.wide c.args.arity (drop (8 + (c.args.index - 1) * c.args.size) c.args.page.now) in
    let this : Point = point_of c.args.wide c.args.arity (drop (8 + c.args.index * c.args.size) c.args.page.now) in
    let none : c.args.index * c.args.size ≡ 0 * c.args.size = ap (λ (i : ℕ). i * c.args.size) c.if-index-eq0.true in
    let first : 8 ≡ 8 + c.args.index * c.args.size = omega (arith, none) in
    c.are_coordinates_positive.ensures
    ∙ (ap (λ (k : ℕ). are_positive (point_of c.args.wide c.args.arity (drop k c.args.page.now))) first
    ∙ sym (ap (λ (t : Bool). are_positive this && (t || comes_before last this)) (eq-eqb c.args.index 0 c.if-index-eq0.true) ∙ and-true (are_positive this)))

pub returns : goal.returns
returns c =
    let back = 8 + (c.args.index - 1) * c.args.size in
    let last : Point = point_of c.args.wide c.args.arity (drop back c.args.page.now) in
    let this : Point = point_of c.args.wide c.args.arity (drop (8 + c.args.index * c.args.size) c.args.page.now) in
    let next : back + c.args.size ≡ 8 + c.args.index * c.args.size = omega (arith, next-place c.args.index c.args.size (omega (arith, c.if-index-eq0.false))) in
    let before : comes_before last this ≡ (c.args.index == 0 || comes_before last this)
    = ap (λ (t : Bool). t || comes_before last this) (sym (ne_eqb c.args.index 0 c.if-index-eq0.false)) in
    c.is_positive_after.ensures
    ∙ (ap (λ (k : ℕ). are_positive (point_of c.args.wide c.args.arity (drop k c.args.page.now)) && comes_before last (point_of c.args.wide c.args.arity (drop k c.args.page.now))) next
    ∙ ap (λ (t : Bool). are_positive this && t) before)
