use Rattle.std.proofs.Common.{refl, ◌≡◌, ◌+◌, ◌*◌, ◌-◌, ℕ, length, take, drop, arith, ap, ◌∙◌}
use Rattle.std.proofs.lemmas.List.{length-drop, length-take-le}
use Rattle.be_numbers.proofs.Format.{bytes-drop, bytes-take}
use Rattle.page_entry.specs.Entries.{entry_of, page_arity}
use Rattle.page_entry.proofs.Lent.{lent-read, lent-inside}
use Rattle.page_entry.proofs.coded.lent_entry.Goals as goal

pub returns : goal.returns
returns c =
    let b = c.args.bytes.now in
    let size = c.size_of_entry-size.result in
    let at = 8 + c.args.index * size in
    let m = c.args.shape.now in
    let inside = lent-inside c.args.shape.now b c.args.index size c.requires.page c.requires.index c.size_of_entry-size.ensures c.told-bytes in
    let one : at + size - at ≡ size = omega arith in
    ap (λ (k : ℕ). entry_of (page_arity b) m (take k (drop at b))) one ∙ lent-read m b c.args.index at size _ c.fits-bytes c.requires.index c.size_of_entry-size.ensures refl inside

pub invariant_of-result : goal.invariant_of-result
invariant_of-result c =
    let b = c.args.bytes.now in
    let size = c.size_of_entry-size.result in
    let at = 8 + c.args.index * size in
    let inside = lent-inside c.args.shape.now b c.args.index size c.requires.page c.requires.index c.size_of_entry-size.ensures c.told-bytes in
    let one : at + size - at ≡ size = omega arith in
    let left : length (drop at b) ≡ length b - at = length-drop at b in
    record {
      arity = c.requires.page.arity;
      measures = c.requires.page.measures;
      are = bytes-take (at + size - at) (drop at b) (bytes-drop at b c.fits-bytes) (omega (arith, left, inside));
      long = length-take-le (at + size - at) (drop at b) (omega (arith, left, inside)) ∙ (one ∙ c.size_of_entry-size.ensures);
    }
