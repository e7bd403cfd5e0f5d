-- An entry in trees of either width.
use Rattle.std.proofs.Common.{◌≡◌, ◌+◌, ◌*◌, ℕ, List, ◌++◌, length, take, drop, sym, ap, ◌∙◌, arith, append_assoc}
use Rattle.std.specs.Prelude.{flat_map}
use Rattle.std.proofs.lemmas.List.{drop_at, length-drop}
use Rattle.be_numbers.specs.Formats.{IsBytes}
use Rattle.be_numbers.specs.Numbers.{coded, number}
use Rattle.be_numbers.proofs.Format.{is_number, many-long}
use Rattle.cube_point.specs.declared.point.Entry.{Entry}
use Rattle.cube_point.specs.declared.point.Shape.{Shape}
use Rattle.page_entry.specs.Stored.{IsCoordinate}
use Rattle.page_entry.specs.Bytes.{entry_bytes, entry_size, part_bytes, width}
use Rattle.page_entry.specs.Entries.{entry_of}
use Rattle.page_entry.proofs.Fields.{entry_format}
use Rattle.page_entry.proofs.Lent.{entry-back}

-- a shape counts by its width and its measures
pub same-bytes : (arity : ℕ) (own other : Shape) (e : Entry) → own.wide ≡ other.wide → own.measures ≡ other.measures → entry_bytes arity own e ≡ entry_bytes arity other e
same-bytes arity own other e wide measures = λ i. flat_map (coded (width (wide i))) (take arity e.point.at) ++ (coded 8 e.cell.count ++ flat_map part_bytes (take (measures i) e.cell.parts))

pub same-size : (arity : ℕ) (own other : Shape) → own.wide ≡ other.wide → own.measures ≡ other.measures → entry_size arity own ≡ entry_size arity other
same-size arity own other wide measures = λ i. arity * width (wide i) + (8 + measures i * 48)

-- the bytes behind the coordinates
abbrev pub behind : ℕ → Shape → List ℕ → List ℕ
behind arity shape b = drop (arity * width shape.wide) b

-- they are those of the cell, whatever the width
pub cell-back : (arity : ℕ) (shape : Shape) (b : List ℕ) → IsBytes b → length b ≡ entry_size arity shape
    → behind arity shape b ≡ coded 8 (entry_of arity shape b).cell.count ++ flat_map part_bytes (take shape.measures (entry_of arity shape b).cell.parts)
cell-back arity shape b are long =
    let e : Entry = entry_of arity shape b in
    let w = width shape.wide in
    let front = flat_map (coded w) (take arity e.point.at) in
    let used = ((entry_format arity shape).fits b are (omega (arith, long))).used in
    let front-long : length front ≡ arity * w = many-long w (coded w) (number w) (IsCoordinate shape.wide) (is_number w) arity (take arity e.point.at) used in
    ap (drop (arity * w)) (sym (entry-back arity shape b are long)) ∙ drop_at front (coded 8 e.cell.count ++ flat_map part_bytes (take shape.measures e.cell.parts)) (arity * w) front-long

pub behind-long : (arity : ℕ) (shape : Shape) (b : List ℕ) → length b ≡ entry_size arity shape → length (behind arity shape b) ≡ 8 + shape.measures * 48
behind-long arity shape b long = omega (arith, length-drop (arity * width shape.wide) b, long)

-- the coordinates written by another width, and behind them the bytes of the cell, are the entry there
pub carried : (arity at next : ℕ) (own other : Shape) (b old mid new : List ℕ) → IsBytes b → length b ≡ entry_size arity own → own.measures ≡ other.measures
    → next ≡ at + arity * width other.wide → take (at + arity * width other.wide) mid ≡ take at old ++ flat_map (coded (width other.wide)) (take arity (entry_of arity own b).point.at)
    → take (next + length (behind arity own b)) new ≡ take next mid ++ behind arity own b → take (at + entry_size arity other) new ≡ take at old ++ entry_bytes arity other (entry_of arity own b)
carried arity at next own other b old mid new are long measures next-is front back =
    let e : Entry = entry_of arity own b in
    let w = width other.wide in
    let cell = cell-back arity own b are long ∙ ap (λ m. coded 8 e.cell.count ++ flat_map part_bytes (take m e.cell.parts)) measures in
    let end : at + entry_size arity other ≡ next + length (behind arity own b) = omega (arith, next-is, behind-long arity own b long, ap (λ (m : ℕ). m * 48) measures) in
    ap (λ k. take k new) end
    ∙ (back
    ∙ ((λ i. (ap (λ k. take k mid) next-is ∙ front) i ++ cell i)
    ∙ append_assoc (take at old) (flat_map (coded w) (take arity e.point.at)) (coded 8 e.cell.count ++ flat_map part_bytes (take other.measures e.cell.parts))))
