use Rattle.std.proofs.Common.{◌≡◌, ◌≤◌, ◌*◌, ℕ, List, false, drop, sym, ◌∙◌, arith}
use Rattle.be_numbers.specs.Formats.{many}
use Rattle.cube_point.specs.declared.point.Shape.{Shape}
use Rattle.page_entry.specs.Bytes.{entry_size}
use Rattle.page_entry.specs.Entries.{entry_of}
use Rattle.page_fmt.specs.Taking.{are_lawful_points}
use Rattle.page_entry.proofs.Widths.{as_it_is}
use Rattle.page_fmt.proofs.lawful.are_narrow_lawful.Goals as goal

-- the leaf's points, by the number of coordinates and the width that they have
points : (arity n count : ℕ) (shape : Shape) (page : List ℕ) → arity ≡ n → shape.wide ≡ false
    → are_lawful_points (many (entry_of n (record shape { wide = false })) (entry_size n (record shape { wide = false })) count (drop 8 page))
    ≡ are_lawful_points (many (entry_of arity shape) (entry_size arity shape) count (drop 8 page))
points arity n count shape page is narrow = λ i. are_lawful_points
    (many (entry_of (sym is i) (as_it_is shape false narrow i)) (entry_size (sym is i) (as_it_is shape false narrow i)) count (drop 8 page))

room : (arity n count : ℕ) (shape : Shape) → arity ≡ n → shape.wide ≡ false → count * entry_size arity shape ≤ 4088 → count * entry_size n (record shape { wide = false }) ≤ 4088
room arity n count shape is narrow fits =
    let same : count * entry_size n (record shape { wide = false }) ≡ count * entry_size arity shape
    = λ i. count * entry_size (sym is i) (as_it_is shape false narrow i) in
    omega (arith, same, fits)

pub are_pairs_lawful-requires-clause-room : goal.are_pairs_lawful-requires-clause-room
are_pairs_lawful-requires-clause-room c = room c.args.arity 3 c.args.count c.args.shape.now c.if-arity-eq3.true c.requires.narrow c.requires.room

pub returns-then-arity-eq3 : goal.returns-then-arity-eq3
returns-then-arity-eq3 c = c.are_pairs_lawful.ensures ∙ points c.args.arity 3 c.args.count c.args.shape.now c.args.page.now c.if-arity-eq3.true c.requires.narrow
