-- An entry by its bytes alone.
use Rattle.std.proofs.Common.{◌≡◌, ◌≤◌, ◌<◌, ◌+◌, ◌-◌, ◌*◌, ℕ, Bool, List, [], length, take, drop, get_or, sym, ap, ◌∙◌, arith, append-nil}
use Rattle.std.proofs.lemmas.List.{take_all, length-append, length-drop, length-replicate}
use Rattle.be_numbers.specs.Formats.{IsBytes, many}
use Rattle.be_numbers.specs.Numbers.{number}
use Rattle.be_numbers.proofs.Format.{bytes-drop}
use Rattle.cube_point.specs.declared.point.Entry.{Entry}
use Rattle.page_entry.specs.Bytes.{width, entry_bytes, entry_size, zeros}
use Rattle.page_entry.specs.Entries.{point_of, entry_of, entries, page_arity, page_count, HasEntries}
use Rattle.cube_point.specs.declared.point.Shape.{Shape}
use Rattle.std.proofs.Math.Nat.{mul-le-mul_right}
use Rattle.page_entry.proofs.Fields.{entry_format}
use Rattle.page_entry.proofs.Loops.{entry-read, many-long}

-- its point has eight coordinates, whatever its arity
pub eight-coordinates : (wide : Bool) (arity : ℕ) (b : List ℕ) → arity ≤ 8 → length (point_of wide arity b).at ≡ 8
eight-coordinates wide arity b le = omega (arith, le, length-append (many (number (width wide)) (width wide) arity b) (zeros (8 - arity)), many-long (number (width wide)) (width wide) arity b, length-replicate {A = ℕ} (8 - arity) 0)

-- what stands behind an entry's bytes does not count
pub entry-cut : (arity : ℕ) (shape : Shape) (b : List ℕ) → IsBytes b → entry_size arity shape ≤ length b → entry_of arity shape (take (entry_size arity shape) b) ≡ entry_of arity shape b
entry-cut arity shape b are le =
    let form = entry_format arity shape in
    let e : Entry = entry_of arity shape b in
    ap (entry_of arity shape) (sym (form.back b are le) ∙ sym (append-nil (entry_bytes arity shape e))) ∙ form.again e [] (form.fits b are le)

-- an entry's bytes, read and written, are the same
pub entry-back : (arity : ℕ) (shape : Shape) (b : List ℕ) → IsBytes b → length b ≡ entry_size arity shape → entry_bytes arity shape (entry_of arity shape b) ≡ b
entry-back arity shape b are long = (entry_format arity shape).back b are (omega (arith, long)) ∙ take_all (entry_size arity shape) b (omega (arith, long))

-- the entry at an index of a leaf, by its bytes alone
pub lent-read : (shape : Shape) (b : List ℕ) (i at size : ℕ) (d : Entry) → IsBytes b → i < page_count b → size ≡ entry_size (page_arity b) shape → at ≡ 8 + i * size → at + size ≤ length b
    → entry_of (page_arity b) shape (take size (drop at b)) ≡ get_or (entries shape b) i d
lent-read shape b i at size d are lt size-is at-is le =
    let a = page_arity b in
    let s = entry_size a shape in
    let same : at ≡ 8 + i * s = at-is ∙ ap (λ (k : ℕ). 8 + i * k) size-is in
    ap (λ (k : ℕ). entry_of a shape (take k (drop at b))) size-is
    ∙ (entry-cut a shape (drop at b) (bytes-drop at b are) (omega (arith, length-drop at b, size-is))
    ∙ (ap (λ (k : ℕ). entry_of a shape (drop k b)) same ∙ sym (entry-read shape b i d lt)))

-- its bytes lie in the page
pub lent-inside : (shape : Shape) (b : List ℕ) (i size : ℕ) → HasEntries shape b → i < page_count b → size ≡ entry_size (page_arity b) shape → length b ≡ 4096 → 8 + i * size + size ≤ length b
lent-inside shape b i size has lt is long =
    let fits = has.fits in
    let below : (i + 1) * entry_size (page_arity b) shape ≤ page_count b * entry_size (page_arity b) shape = mul-le-mul_right (entry_size (page_arity b) shape) (let one : i + 1 ≤ page_count b = omega arith in one) in
    omega (arith, below, has.fits, long, is, ap (λ (k : ℕ). i * k) is)
