-- A buffer that is filled in two parts.
use Rattle.std.proofs.Common.{◌≡◌, ◌≤◌, ◌+◌, ◌-◌, ℕ, List, ◌++◌, length, take, drop, length-take, sym, ◌∙◌, ap, arith}
use Rattle.std.proofs.lemmas.List.{take-append-le, drop-drop}
use Rattle.std.proofs.Math.Seq.{take-add, take-append-add}
use borrow.Rule.Slice.PartMut.{put_mid, post_of}

pub filled-then : (file into part : List ℕ) (at c k place : ℕ) → place ≡ at + c → c ≤ length into → k ≤ length part → take c into ≡ take c (drop at file)
    → take k part ≡ take k (drop place file) → take (c + k) (put_mid c (length into - c) into part) ≡ take (c + k) (drop at file)
filled-then file into part at c k place there low few first second =
    let rest = post_of c (length into - c) into in
    let front : c + k ≡ length (take c into) + k = omega (arith, length-take c into) in
    ap (λ n. take n (put_mid c (length into - c) into part)) front
    ∙ take-append-add (take c into) (part ++ rest) k
    ∙ ap (λ (l : List ℕ). take c into ++ l) (take-append-le k part rest few ∙ second ∙ ap (λ n. take k (drop n file)) there ∙ ap (take k) (sym (drop-drop c at file)))
    ∙ ap (λ (l : List ℕ). l ++ take k (drop c (drop at file))) first ∙ sym (take-add c k (drop at file))
