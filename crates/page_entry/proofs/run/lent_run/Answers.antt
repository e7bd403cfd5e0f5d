use Rattle.std.proofs.Common.{refl, ◌≡◌, ◌+◌, ◌*◌, ◌-◌, ℕ, length, take, drop, arith, ap, ◌∙◌}
use Rattle.std.proofs.lemmas.List.{length-drop, length-take-le}
use Rattle.be_numbers.specs.Formats.{many}
use Rattle.be_numbers.proofs.Format.{bytes-drop, bytes-take}
use Rattle.page_entry.specs.Bytes.{entry_size}
use Rattle.page_entry.specs.Entries.{entry_of, page_arity}
use Rattle.page_entry.proofs.Runs.{run-inside, run-read}
use Rattle.page_entry.proofs.run.lent_run.Goals as goal

pub returns-clause-entries : goal.returns-clause-entries
returns-clause-entries c =
    let b = c.args.bytes.now in
    let size = c.size_of_entry-size.result in
    let at = 8 + c.args.index * size in
    let m = c.args.shape.now in
    let inside = run-inside m b c.args.index c.args.count size c.requires.page c.requires.inside c.size_of_entry-size.ensures c.told-bytes in
    let one : at + c.args.count * size - at ≡ c.args.count * size = omega arith in
    ap (λ (k : ℕ). many (entry_of (page_arity b) m) (entry_size (page_arity b) m) c.args.count (take k (drop at b))) one
    ∙ run-read m b c.args.index c.args.count at size c.fits-bytes c.requires.inside c.size_of_entry-size.ensures refl inside

pub invariant_of-result : goal.invariant_of-result
invariant_of-result c =
    let b = c.args.bytes.now in
    let size = c.size_of_entry-size.result in
    let at = 8 + c.args.index * size in
    let inside = run-inside c.args.shape.now b c.args.index c.args.count size c.requires.page c.requires.inside c.size_of_entry-size.ensures c.told-bytes in
    let one : at + c.args.count * size - at ≡ c.args.count * size = omega arith in
    let left : length (drop at b) ≡ length b - at = length-drop at b in
    record {
      arity = c.requires.page.arity;
      measures = c.requires.page.measures;
      are = bytes-take (at + c.args.count * size - at) (drop at b) (bytes-drop at b c.fits-bytes) (omega (arith, left, inside));
      long = length-take-le (at + c.args.count * size - at) (drop at b) (omega (arith, left, inside)) ∙ (one ∙ ap (λ (k : ℕ). c.args.count * k) c.size_of_entry-size.ensures);
      short = omega (arith, length-take-le (at + c.args.count * size - at) (drop at b) (omega (arith, left, inside)), inside, c.told-bytes);
    }

pub slice_bounds-result-end : goal.slice_bounds-result-end
slice_bounds-result-end c =
    let inside = run-inside c.args.shape.now c.args.bytes.now c.args.index c.args.count c.size_of_entry-size.result c.requires.page c.requires.inside c.size_of_entry-size.ensures c.told-bytes in
    omega (arith, inside, c.told-bytes)
