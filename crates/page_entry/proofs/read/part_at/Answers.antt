use Rattle.std.proofs.Common.{◌≡◌, ◌+◌, ℕ, drop, sym, ap, ◌∙◌, arith}
use Rattle.std.proofs.lemmas.List.{drop-drop}
use Rattle.std.specs.Int.{w128}
use Rattle.std.proofs.lemmas.Int.{to_z-of_z}
use Rattle.be_numbers.specs.Numbers.{signed}
use Rattle.page_entry.proofs.read.part_at.Goals as goal

pub returns : goal.returns
returns c =
    let p = c.args.bytes.now in
    let sum = to_z-of_z w128 c.take_i128.result (record { sfits = c.take_i128.type_inv }) ∙ c.take_i128.ensures in
    let low = to_z-of_z w128 c.take_i128-2.result (record { sfits = c.take_i128-2.type_inv }) ∙ (c.take_i128-2.ensures ∙ ap signed (sym (drop-drop 16 c.args.at p))) in
    let more : c.args.at + 16 + 16 ≡ c.args.at + 32 = omega arith in
    let back : drop 16 (drop 16 (drop c.args.at p)) ≡ drop (c.args.at + 32) p = ap (drop 16) (drop-drop 16 c.args.at p) ∙ (drop-drop 16 (c.args.at + 16) p ∙ ap (λ (n : ℕ). drop n p) more) in
    let high = to_z-of_z w128 c.take_i128-3.result (record { sfits = c.take_i128-3.type_inv }) ∙ (c.take_i128-3.ensures ∙ ap signed (sym back)) in
    λ i. record { sum = sum i; low = low i; high = high i }
