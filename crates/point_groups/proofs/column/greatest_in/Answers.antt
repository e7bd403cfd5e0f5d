use Rattle.std.proofs.Common.{◌≤◌, ℕ, List, Vec, Global, All, inl, inr, get_or, length, ap, arith}
use Rattle.std.proofs.Math.ListN.{get_or-eq_default}
use Rattle.std.proofs.lemmas.List.{get_or-map, length-map}
use Rattle.std.proofs.lemmas.Bool.{cases_lt}
use Rattle.point_groups.specs.Columns.{numbers_at}
use Rattle.point_groups.proofs.column.greatest_in.Goals as goal

-- nor is what stands past the end
all-below : (ns : List ℕ) (most place : ℕ) → All (λ n. n ≤ most) ns → get_or ns place 0 ≤ most
all-below ns most place all = elim (cases_lt place (length ns)) [
  | inl low ↦ all place 0 low
  | inr past ↦ omega (arith, get_or-eq_default ns 0 past)
]

pub returns-then-index-lt8 : goal.returns-then-index-lt8
returns-then-index-lt8 c = λ place.
    let lists = c.args.lists.now in
    let of = λ (l : Vec ℕ Global). get_or l.items place 0 in
    omega (
      arith,
      get_or-map of lists c.args.index c.index-lists-index.result 0 (omega (arith, c.type_inv.lists, c.if-index-lt8.true)),
      ap (λ (l : List ℕ). get_or l place 0) c.deref.ensures.value,
      all-below c.deref.result.now c.greatest_of.result place c.greatest_of.ensures,
    )

pub returns : goal.returns
returns c = λ place.
    let lists = c.args.lists.now in
    let of = λ (l : Vec ℕ Global). get_or l.items place 0 in
    let past : length (numbers_at place lists) ≤ c.args.index = omega (arith, c.if-index-lt8.false, c.type_inv.lists, length-map lists of) in
    omega (arith, get_or-eq_default (numbers_at place lists) 0 past)
