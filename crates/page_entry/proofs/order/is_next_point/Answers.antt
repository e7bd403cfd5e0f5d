use Rattle.std.proofs.Common.{◌≡◌, ◌+◌, ◌-◌, ◌*◌, ℕ, Bool, drop, sym, ap, ◌∙◌, arith}
use Rattle.std.specs.Prelude.{◌||◌}
use Rattle.std.proofs.lemmas.Bool.{ne_eqb}
use Rattle.cube_point.specs.Points.{comes_before}
use Rattle.cube_point.specs.declared.point.Point.{Point}
use Rattle.page_entry.specs.Entries.{point_of}
use Rattle.page_entry.proofs.Loops.{next-place}
use Rattle.page_entry.proofs.order.is_next_point.Goals as goal

pub returns : goal.returns
returns c =
    let back = 8 + (c.args.index - 1) * c.args.size in
    let last : Point = point_of c.args.wide c.args.arity (drop back c.args.page.now) in
    let this : Point = point_of c.args.wide c.args.arity (drop (8 + c.args.index * c.args.size) c.args.page.now) in
    let next : back + c.args.size ≡ 8 + c.args.index * c.args.size = omega (arith, next-place c.args.index c.args.size (omega (arith, c.if-index-eq0.false))) in
    c.is_before.ensures ∙ (ap (λ (k : ℕ). comes_before last (point_of c.args.wide c.args.arity (drop k c.args.page.now))) next
    ∙ ap (λ (t : Bool). t || comes_before last this) (sym (ne_eqb c.args.index 0 c.if-index-eq0.false)))
