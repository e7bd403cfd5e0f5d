use Rattle.std.proofs.Common.{arith, ◌∷◌, ◌++◌, [], cond, ◌<◌, ◌≤◌, length, sym, ◌∙◌, ap, nat_eq}
use Rattle.std.specs.Cmp.Lexicographic.{pointwise}
use Rattle.std.specs.List.{list_any}
use Rattle.point_groups.specs.Kept.{at_point}
use Rattle.point_groups.proofs.GatheredPlaces.{apart-still, from-both}
use Rattle.point_groups.proofs.IndexedPlaces.{found-nowhere, placed-there, placed-nowhere}
use Rattle.point_groups.proofs.place_index.gather_any.Goals as goal

pub join_at-requires : goal.join_at-requires
join_at-requires c = ((c.is_at.ensures (at_point c.args.point.now c.args.entry.now)).0 c.if-is_at.true).0

pub returns-then-is_at-clause-index : goal.returns-then-is_at-clause-index
returns-then-is_at-clause-index c = λ is zeros.
    let gs = c.args.groups.now in
    let e = at_point c.args.point.now c.args.entry.now in
    let here = ((c.is_at.ensures e).0 c.if-is_at.true).1 in
    from-both c.join_at.result (c.join_at.ensures.took c.args.point.now here is.apart zeros) c.join_at.ensures.places
    (λ took places. record { are = is.are ∙ sym places; apart = apart-still gs c.join_at.new.groups e took is.apart })

pub returns-then-is_at-clause-damaged : goal.returns-then-is_at-clause-damaged
returns-then-is_at-clause-damaged c = λ is.
    let e = at_point c.args.point.now c.args.entry.now in
    let here = ((c.is_at.ensures e).0 c.if-is_at.true).1 in
    c.join_at.ensures.apart c.args.point.now here

pub returns-then-at-len-clause-took : goal.returns-then-at-len-clause-took
returns-then-at-len-clause-took c = λ is zeros.
    let gs = c.args.groups.now in
    let low : c.in_ok-at.at < length gs = omega (arith, c.if-at-len.true, c.len.ensures) in
    let there = placed-there gs (at_point c.args.point.now c.args.entry.now) c.args.index.now.keys c.in_ok-at.at is.are c.in_ok-at.ensures.index low in
    c.join_at-then-at-len.ensures.took c.args.point.now there.0 is.apart zeros

pub returns-then-at-len-clause-index : goal.returns-then-at-len-clause-index
returns-then-at-len-clause-index c = λ is zeros.
    let gs = c.args.groups.now in
    let e = (at_point c.args.point.now c.args.entry.now) in
    let keys = c.args.index.now.keys in
    let low : c.in_ok-at.at < length gs = omega (arith, c.if-at-len.true, c.len.ensures) in
    let there = placed-there gs e keys c.in_ok-at.at is.are c.in_ok-at.ensures.index low in
    let stay = c.in_ok-at.ensures.keys ∙ ap (λ b. cond b keys (keys ++ e.point.at ∷ [])) there.1 in
    from-both c.join_at-then-at-len.result (c.join_at-then-at-len.ensures.took c.args.point.now there.0 is.apart zeros) c.join_at-then-at-len.ensures.places
    (λ took places. record { are = stay ∙ (is.are ∙ sym places); apart = apart-still gs c.join_at-then-at-len.new.groups e took is.apart })

pub returns-then-at-len-clause-damaged : goal.returns-then-at-len-clause-damaged
returns-then-at-len-clause-damaged c = λ is.
    let gs = c.args.groups.now in
    let low : c.in_ok-at.at < length gs = omega (arith, c.if-at-len.true, c.len.ensures) in
    let there = placed-there gs (at_point c.args.point.now c.args.entry.now) c.args.index.now.keys c.in_ok-at.at is.are c.in_ok-at.ensures.index low in
    c.join_at-then-at-len.ensures.apart c.args.point.now there.0

pub returns-clause-took : goal.returns-clause-took
returns-clause-took c = λ is zeros.
    let gs = c.args.groups.now in
    let e = (at_point c.args.point.now c.args.entry.now) in
    let past : length gs ≤ c.in_ok-at.at = omega (arith, c.if-at-len.false, c.len.ensures) in
    let nowhere = placed-nowhere gs e c.args.index.now.keys c.in_ok-at.at is.are c.in_ok-at.ensures.index past in
    c.in_ok-append.ensures.took (found-nowhere gs e (ap (list_any (pointwise nat_eq e.point.at)) (sym is.are) ∙ nowhere))

pub returns-clause-index : goal.returns-clause-index
returns-clause-index c = λ is zeros.
    let gs = c.args.groups.now in
    let e = (at_point c.args.point.now c.args.entry.now) in
    let keys = c.args.index.now.keys in
    let past : length gs ≤ c.in_ok-at.at = omega (arith, c.if-at-len.false, c.len.ensures) in
    let nowhere = placed-nowhere gs e keys c.in_ok-at.at is.are c.in_ok-at.ensures.index past in
    let more = c.in_ok-at.ensures.keys ∙ (ap (λ b. cond b keys (keys ++ e.point.at ∷ [])) nowhere ∙ ap (λ ks. ks ++ e.point.at ∷ []) is.are) in
    record { are = more ∙ sym c.in_ok-append.ensures.places; apart = apart-still gs c.append.new.groups e (returns-clause-took c is zeros) is.apart }
