use Rattle.std.proofs.Common.{arith, ℕ, ◌≡◌, ◌<◌, ◌-◌, get_or, length, sym, ◌∙◌, ap, subst}
use Rattle.std.proofs.lemmas.List.{get_or_default}
use Rattle.std.proofs.lemmas.Result.{err_from_is_err_and}
use Rattle.cube_point.specs.declared.point.Entry.{Entry}
use Rattle.cube_point.specs.declared.point.Point.{Point}
use Rattle.cube_point.specs.Points.{point_cmp}
use Rattle.row_fold.specs.Ascends.{Ascends}
use Rattle.point_groups.specs.Bare.{nowhere}
use Rattle.point_groups.specs.Kept.{at_point}
use Rattle.point_groups.proofs.GatheredPlaces.{all-apart, ascends-there, none-behind, same-last, still-ascends}
use Rattle.point_groups.proofs.place_order.gather_next.Goals as goal

pub join_at-requires : goal.join_at-requires
join_at-requires c = omega (arith, c.if-count-eq0.false, c.len-count.ensures)

pub point-requires : goal.point-requires
point-requires c = omega (arith, c.if-count-eq0.false, c.len-count.ensures)

pub returns-in-Greater-clause-before : goal.returns-in-Greater-clause-before
returns-in-Greater-clause-before c = λ d is.
    let gs = c.args.groups.now in
    let n = c.len-count.result in
    let some = c.if-count-eq0.false in
    let low : n - 1 < length gs = omega (arith, some, c.len-count.ensures) in
    let last = ap (λ (k : ℕ). get_or gs (k - 1) d) (sym c.len-count.ensures) ∙ get_or_default gs (n - 1) d nowhere low in (
      omega (arith, some, c.len-count.ensures),
      ap (λ (e : Entry). point_cmp e.point.at c.args.point.now.at) last
          ∙ (ap (λ (q : Point). point_cmp q.at c.args.point.now.at) (sym c.point.ensures) ∙ (sym c.compare.ensures ∙ c.in-Greater.is)),
    )

pub returns-in_err-join_at-in-Equal-clause-damaged : goal.returns-in_err-join_at-in-Equal-clause-damaged
returns-in_err-join_at-in-Equal-clause-damaged c = λ up.
    let gs = c.args.groups.now in
    let p = c.args.point.now in
    let e = at_point p c.args.entry.now in
    let n = c.len-count.result in
    let some = c.if-count-eq0.false in
    let x = get_or gs (n - 1) nowhere in
    let is = get_or_default gs (n - 1) nowhere x (omega (arith, some, c.len-count.ensures)) in
    let order : point_cmp x.point.at p.at ≡ c.compare.result = ap (λ (q : Point). point_cmp q.at p.at) (sym c.point.ensures) ∙ sym c.compare.ensures in
    let here = same-last gs e x n some c.len-count.ensures is (order ∙ c.in-Equal.is) in
    let p = err_from_is_err_and c.from_residual-in_err-join_at-in-Equal.result c.from_residual-in_err-join_at-in-Equal.ensures.1 in
    rw p.1 (λ to. c.in_err-join_at-in-Equal.ensures.apart c.args.point.now here (sym p.2 ∙ to))

pub returns-in_ok-append-in-Less-clause-took : goal.returns-in_ok-append-in-Less-clause-took
returns-in_ok-append-in-Less-clause-took c = λ up zeros to.
    let gs = c.args.groups.now in
    let p = c.args.point.now in
    let e = at_point p c.args.entry.now in
    let n = c.len-count.result in
    let some = c.if-count-eq0.false in
    let x = get_or gs (n - 1) nowhere in
    let is = get_or_default gs (n - 1) nowhere x (omega (arith, some, c.len-count.ensures)) in
    let order : point_cmp x.point.at p.at ≡ c.compare.result = ap (λ (q : Point). point_cmp q.at p.at) (sym c.point.ensures) ∙ sym c.compare.ensures in
    c.in_ok-append-in-Less.ensures.took (none-behind gs e x n some c.len-count.ensures is up (order ∙ c.in-Less.is))

pub returns-in_ok-append-in-Less-clause-ascends : goal.returns-in_ok-append-in-Less-clause-ascends
returns-in_ok-append-in-Less-clause-ascends c = λ up zeros.
    let gs = c.args.groups.now in
    let p = c.args.point.now in
    let e = at_point p c.args.entry.now in
    let n = c.len-count.result in
    let some = c.if-count-eq0.false in
    let x = get_or gs (n - 1) nowhere in
    let is = get_or_default gs (n - 1) nowhere x (omega (arith, some, c.len-count.ensures)) in
    let order : point_cmp x.point.at p.at ≡ c.compare.result = ap (λ (q : Point). point_cmp q.at p.at) (sym c.point.ensures) ∙ sym c.compare.ensures in
    let less = order ∙ c.in-Less.is in
    let none = none-behind gs e x n some c.len-count.ensures is up less in
    subst (Ascends point_cmp) (sym (c.in_ok-append-in-Less.ensures.took none).items) (still-ascends gs e x n some c.len-count.ensures is up less)

pub returns-in_ok-join_at-in-Equal-clause-took : goal.returns-in_ok-join_at-in-Equal-clause-took
returns-in_ok-join_at-in-Equal-clause-took c = λ up zeros to.
    let gs = c.args.groups.now in
    let p = c.args.point.now in
    let e = at_point p c.args.entry.now in
    let n = c.len-count.result in
    let some = c.if-count-eq0.false in
    let x = get_or gs (n - 1) nowhere in
    let is = get_or_default gs (n - 1) nowhere x (omega (arith, some, c.len-count.ensures)) in
    let order : point_cmp x.point.at p.at ≡ c.compare.result = ap (λ (q : Point). point_cmp q.at p.at) (sym c.point.ensures) ∙ sym c.compare.ensures in
    c.in_ok-join_at-in-Equal.ensures.took p (same-last gs e x n some c.len-count.ensures is (order ∙ c.in-Equal.is)) (all-apart gs up) zeros

pub returns-in_ok-join_at-in-Equal-clause-ascends : goal.returns-in_ok-join_at-in-Equal-clause-ascends
returns-in_ok-join_at-in-Equal-clause-ascends c = λ up zeros.
    let gs = c.args.groups.now in
    let p = c.args.point.now in
    let e = at_point p c.args.entry.now in
    let n = c.len-count.result in
    let some = c.if-count-eq0.false in
    let x = get_or gs (n - 1) nowhere in
    let is = get_or_default gs (n - 1) nowhere x (omega (arith, some, c.len-count.ensures)) in
    let order : point_cmp x.point.at p.at ≡ c.compare.result = ap (λ (q : Point). point_cmp q.at p.at) (sym c.point.ensures) ∙ sym c.compare.ensures in
    let tied = order ∙ c.in-Equal.is in
    let here = same-last gs e x n some c.len-count.ensures is tied in
    subst (Ascends point_cmp) (sym (c.in_ok-join_at-in-Equal.ensures.took p here (all-apart gs up) zeros).items)
    (ascends-there gs e x n some c.len-count.ensures is up tied)
