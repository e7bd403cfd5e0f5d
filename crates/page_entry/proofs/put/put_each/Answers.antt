use Rattle.std.proofs.Common.{◌≡◌, ◌+◌, ◌*◌, ◌++◌, ℕ, take, get_or, sym, ap, subst, ◌∙◌, arith}
use Rattle.std.specs.Prelude.{flat_map}
use Rattle.std.proofs.lemmas.List.{get_or-take, get_or_default}
use Rattle.be_numbers.specs.Numbers.{coded}
use Rattle.page_entry.specs.Stored.{IsCoordinate}
use Rattle.page_entry.specs.Bytes.{width}
use Rattle.page_entry.proofs.Widths.{value-inside}
use Rattle.page_entry.proofs.Writes.{put-next, each-of}
use Rattle.page_entry.proofs.put.put_each.Goals as goal

pub put_coordinate-next-requires : goal.put_coordinate-next-requires
put_coordinate-next-requires c =
    let i = c.loop-i.i in
    let z = value-inside (width c.args.wide) i c.args.arity c.loop-i-test.true in
    let small = each-of (IsCoordinate c.args.wide) c.args.arity (take c.args.arity c.args.coordinates.now) i 0 c.requires.narrow c.loop-i-test.true in
    record {
      place = omega (arith, z, c.loop-i.invariant.next, c.requires.place);
      narrow = subst (IsCoordinate c.args.wide) (get_or-take c.args.arity c.args.coordinates.now i 0 c.loop-i-test.true) small;
    }

pub loop-i-preserved : goal.loop-i-preserved
loop-i-preserved c =
    let i = c.loop-i.i in
    let w = width c.args.wide in
    let put = c.put_coordinate-next in
    let moved : take put.result put.new.page ≡ take (c.loop-i.next + w) put.new.page = ap (λ (k : ℕ). take k put.new.page) put.ensures.next in
    record {
      next = omega (arith, put.ensures.next, c.loop-i.invariant.next);
      written = put-next (coded w) c.args.coordinates.now i (get_or c.args.coordinates.now i 0) (take c.args.at c.args.page.now) (take c.loop-i.next c.loop-i.page) (take put.result put.new.page) (omega (arith, c.told-coordinates))
          (get_or_default c.args.coordinates.now i 0 (get_or c.args.coordinates.now i 0) (omega (arith, c.told-coordinates))) c.loop-i.invariant.written (moved ∙ put.ensures.written);
    }

pub returns : goal.returns
returns c =
    let w = width c.args.wide in
    let e : c.loop-i.i ≡ c.args.arity = omega arith in
    let n : c.loop-i.next ≡ c.args.at + c.args.arity * w = c.loop-i.invariant.next ∙ ap (λ (k : ℕ). c.args.at + k * w) e in
    record {
      next = n;
      written = ap (λ (k : ℕ). take k c.loop-i.page) (sym n) ∙ (c.loop-i.invariant.written ∙ ap (λ (k : ℕ). take c.args.at c.args.page.now ++ flat_map (coded w) (take k c.args.coordinates.now)) e);
    }
