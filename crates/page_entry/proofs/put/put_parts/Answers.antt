use Rattle.std.proofs.Common.{◌≡◌, ◌+◌, ◌*◌, ◌++◌, ℕ, take, get_or, sym, ap, ◌∙◌, arith}
use Rattle.std.specs.Prelude.{flat_map}
use Rattle.std.proofs.lemmas.List.{get_or_default}
use Rattle.page_entry.specs.Bytes.{part_bytes}
use Rattle.page_entry.specs.Entries.{no_part}
use Rattle.page_entry.proofs.Writes.{put-next}
use Rattle.page_entry.proofs.put.put_parts.Goals as goal

pub loop-i-preserved : goal.loop-i-preserved
loop-i-preserved c =
    let i = c.loop-i.i in
    let moved : take c.put_part-next.result c.put_part-next.new.page ≡ take (c.loop-i.next + 48) c.put_part-next.new.page = ap (λ (k : ℕ). take k c.put_part-next.new.page) c.put_part-next.ensures.next in
    record {
      next = omega (arith, c.put_part-next.ensures.next, c.loop-i.invariant.next);
      written = put-next part_bytes c.args.parts.now i (_) (take c.args.at c.args.page.now) (take c.loop-i.next c.loop-i.page) (take c.put_part-next.result c.put_part-next.new.page) (omega (arith, c.told-parts)) (get_or_default c.args.parts.now i no_part (get_or c.args.parts.now i no_part) (omega (arith, c.told-parts))) c.loop-i.invariant.written (moved ∙ c.put_part-next.ensures.written);
    }

pub returns : goal.returns
returns c =
    let e : c.loop-i.i ≡ c.args.measures = omega arith in
    let n : c.loop-i.next ≡ c.args.at + c.args.measures * 48 = c.loop-i.invariant.next ∙ ap (λ (k : ℕ). c.args.at + k * 48) e in
    record {
      next = n;
      written = ap (λ (k : ℕ). take k c.loop-i.page) (sym n) ∙ (c.loop-i.invariant.written ∙ ap (λ (k : ℕ). take c.args.at c.args.page.now ++ flat_map part_bytes (take k c.args.parts.now)) e);
    }
