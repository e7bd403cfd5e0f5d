-- A write in two parts, and a file that is written twice.
use Rattle.std.proofs.Common.{◌≡◌, ◌≤◌, ◌+◌, ℕ, List, ◌++◌, length, take, drop, max, length-take, length-append, sym, ◌∙◌, ap, arith}
use Rattle.std.proofs.lemmas.List.{take_at, append_assoc, drop-drop}
use Rattle.std.proofs.lemmas.Bool.Decides.{nat_tests}
use Rattle.std.proofs.Math.Seq.{take-add, drop-append-add}
use Rattle.site_core.specs.Disk.{Files, Disk, Torn, TornBytes, with_file, overwritten}
use Rattle.site_core.specs.Calls.{Writes}
use Rattle.site_core.proofs.Files.{with_file-same, Torn-refl}
use Rattle.site_core.proofs.Run.{Changes-refl, Changes-then, Changes-wider}

-- bytes are put over the old ones in two parts
module _ (old bytes : List ℕ) (at c k : ℕ) (place : at ≤ length old) (within : c + k ≤ length bytes) where
  long : length (take c bytes) ≡ c
  long = omega (arith, length-take c bytes)

  front : length (take at old ++ take c bytes) ≡ at + c
  front = omega (arith, length-append (take at old) (take c bytes), length-take at old, long)

  whole : take (c + k) bytes ≡ take c bytes ++ take k (drop c bytes)
  whole = take-add c k bytes

  long_rest : length (take (c + k) bytes) ≡ c + length (take k (drop c bytes))
  long_rest = omega (arith, ap length whole, length-append (take c bytes) (take k (drop c bytes)), long)

  before : take (at + c) (overwritten old at (take c bytes)) ≡ take at old ++ take c bytes
  before = take_at (take at old ++ take c bytes) (drop (at + length (take c bytes)) old) (at + c) front

  after : (n : ℕ) → drop (at + c + n) (overwritten old at (take c bytes)) ≡ drop (at + c + n) old
  after n =
      let sum : at + c + n ≡ length (take at old ++ take c bytes) + n = omega (arith, front) in
      let end : at + length (take c bytes) + n ≡ at + c + n = omega (arith, long) in
      ap (λ m. drop m (overwritten old at (take c bytes))) sum
      ∙ drop-append-add (take at old ++ take c bytes) (drop (at + length (take c bytes)) old) n
      ∙ drop-drop n (at + length (take c bytes)) old ∙ ap (λ m. drop m old) end

  pub overwritten-then : overwritten (overwritten old at (take c bytes)) (at + c) (take k (drop c bytes)) ≡ overwritten old at (take (c + k) bytes)
  overwritten-then =
      let y = take k (drop c bytes) in
      let sum : at + c + length y ≡ at + length (take (c + k) bytes) = omega (arith, long_rest) in
      ap (λ (l : List ℕ). l ++ y ++ drop (at + c + length y) (overwritten old at (take c bytes))) before
      ∙ ap (λ (l : List ℕ). take at old ++ take c bytes ++ y ++ l) (after (length y))
      ∙ ap (λ (l : List ℕ). l ++ drop (at + c + length y) old) (append_assoc (take at old) (take c bytes) y ∙ ap (λ (l : List ℕ). take at old ++ l) (sym whole))
      ∙ ap (λ m. take at old ++ take (c + k) bytes ++ drop m old) sum

-- a file that is written twice has what was written last
pub with_file-twice : (files : Files) (file : ℕ) (a b : List ℕ) → with_file (with_file files file a) file b ≡ with_file files file b
with_file-twice files file a b = grind (arith, nat_tests)

pub TornBytes-then : (at n end : ℕ) (x y z : List ℕ) → TornBytes at n end x y → TornBytes at n end y z → TornBytes at n end x z
TornBytes-then at n end x y z first second = record {
  no_shorter = omega (arith, first.no_shorter, second.no_shorter);
  no_longer = omega (arith, first.no_longer, second.no_longer);
  before = λ i old low. second.before i (omega (arith, first.no_shorter)) low ∙ first.before i old low;
  after = λ i old high. second.after i (omega (arith, first.no_shorter)) high ∙ first.after i old high;
}

pub Torn-then : (file at n end : ℕ) (x y z : Files) → Torn file at n end x y → Torn file at n end y z → Torn file at n end x z
Torn-then file at n end x y z first second = record {
  others = λ g other. second.others g other ∙ first.others g other;
  bytes = TornBytes-then at n end (x file) (y file) (z file) first.bytes second.bytes;
}

-- a write within a range is one of the range
pub Torn-within : (file at n end place m most : ℕ) (x y : Files) → at ≤ place → place + m ≤ at + n → most ≤ max end (at + n)
    → Torn file place m most x y → Torn file at n end x y
Torn-within file at n end place m most x y low high few torn = record {
  others = torn.others;
  bytes = record {
    no_shorter = torn.bytes.no_shorter;
    no_longer = omega (arith, torn.bytes.no_longer);
    before = λ i old below. torn.bytes.before i old (omega arith);
    after = λ i old above. torn.bytes.after i old (omega arith);
  };
}

-- one call more that writes within the range
pub Writes-then : (file at : ℕ) (bytes : List ℕ) (place : ℕ) (part : List ℕ) (a b d : Disk) → at ≤ place → place + length part ≤ at + length bytes
    → Writes file at bytes a b → Writes file place part b d → Writes file at bytes a d
Writes-then file at bytes place part a b d low high first second =
    let step = Torn file at (length bytes) (length (a.files file)) in
    Changes-then step a b d (Torn-then file at (length bytes) (length (a.files file))) first
    (Changes-wider (Torn file place (length part) (length (b.files file))) step b d
    (λ x y. Torn-within file at (length bytes) (length (a.files file)) place (length part) (length (b.files file)) x y low high (omega (arith, first.files.bytes.no_longer))) second)

-- nothing was written yet
pub Writes-none : (file at : ℕ) (bytes : List ℕ) (disk : Disk) → Writes file at bytes disk disk
Writes-none file at bytes disk = Changes-refl (Torn file at (length bytes) (length (disk.files file))) disk (Torn-refl file at (length bytes) (length (disk.files file)))

-- what one call more has written, of what was left
pub written-then : (file at c k place : ℕ) (bytes part : List ℕ) (a b d : Files) → part ≡ drop c bytes → place ≡ at + c → at ≤ length (a file) → c + k ≤ length bytes
    → b ≡ with_file a file (overwritten (a file) at (take c bytes)) → d ≡ with_file b file (overwritten (b file) place (take k part))
    → d ≡ with_file a file (overwritten (a file) at (take (c + k) bytes))
written-then file at c k place bytes part a b d rest there low within first second =
    let so_far : List ℕ = overwritten (a file) at (take c bytes) in
    let file_is : b file ≡ so_far = ap (λ (f : Files). f file) first ∙ with_file-same a file so_far in
    second
    ∙ ap (λ (l : List ℕ). with_file b file (overwritten l place (take k part))) file_is
    ∙ ap (λ (p : ℕ). with_file b file (overwritten so_far p (take k part))) there
    ∙ ap (λ (l : List ℕ). with_file b file (overwritten so_far (at + c) (take k l))) rest
    ∙ ap (λ (f : Files). with_file f file (overwritten so_far (at + c) (take k (drop c bytes)))) first
    ∙ with_file-twice a file so_far (overwritten so_far (at + c) (take k (drop c bytes)))
    ∙ ap (with_file a file) (overwritten-then (a file) bytes at c k low within)
