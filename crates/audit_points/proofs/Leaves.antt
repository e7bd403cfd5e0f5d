-- Where a point stands among leaves of which all but the last are full.
use Rattle.std.proofs.Common.{◌≡◌, ◌≤◌, ◌<◌, ◌+◌, ◌-◌, ◌*◌, ℕ, zero, suc, List, [], ◌∷◌, ◌++◌, drop, get_or, length, map, refl, ap, sym, ◌∙◌, arith, length-append, append_assoc, append-nil}
use Rattle.std.specs.List.{All}
use Rattle.std.proofs.Math.Seq.{get_or-append_right}
use Rattle.std.proofs.lemmas.List.{get_or-map, get_or_append_left, length-replicate}
use Rattle.std.specs.declared.alloc.Global.{Global}
use Rattle.std.specs.declared.boxed.Box.{Box}
use Rattle.cube_point.specs.declared.point.Entry.{Entry}
use Rattle.cube_point.specs.declared.point.Shape.{Shape}
use Rattle.page_entry.specs.Entries.{HasEntries, entries, page_arity, page_count}
use Rattle.be_numbers.specs.Formats.{many}
use Rattle.be_numbers.specs.Numbers.{number}
use Rattle.page_entry.specs.Bytes.{entry_size, width, zeros}
use Rattle.page_entry.proofs.Loops.{entry-read, many-long}
use Rattle.audit_points.specs.Kept.{AreLeaves, IsLeafBefore, bytes_of, entries_in}

-- a leaf has as many points as it says
pub entries-long : (shape : Shape) (page : List ℕ) → length (entries shape page) ≡ page_count page
unfolding entries
entries-long shape page = many-long _ _ (page_count page) _

-- a point by its leaf and its place there
pub record StandsAt (shape : Shape) (leaves : List (List ℕ)) (index leaf place : ℕ) : Type 0 where
  pub leaf_is : leaf < length leaves
  pub fits : (d : List ℕ) → HasEntries shape (get_or leaves leaf d)
  pub inside : (d : List ℕ) → place < page_count (get_or leaves leaf d)
  pub same : (d : List ℕ) (e : Entry) → get_or (entries_in shape leaves) index e ≡ get_or (entries shape (get_or leaves leaf d)) place e

module _ (shape : Shape) (room : ℕ) where
  pub stands-at : (leaves : List (List ℕ)) (leaf place index : ℕ) → AreLeaves shape room leaves → index ≡ room * leaf + place → place < room → index < length (entries_in shape leaves) → StandsAt shape leaves index leaf place
  stands-at [] leaf place index are is low inside = absurd (omega (arith, inside))
  stands-at (p ∷ ps) zero place index are is low inside =
      let here : index < length (entries shape p) = front-inside ps are.0 inside in
      record {
        leaf_is = omega arith;
        fits = λ d. are.0.fits;
        inside = λ d. omega (arith, here, entries-long shape p, is);
        same = λ d e. get_or_append_left (entries shape p) (entries_in shape ps) e index here ∙ ap (λ (n : ℕ). get_or (entries shape p) n e) (omega (arith, is));
      }
    where
      front-inside : (qs : List (List ℕ)) → IsLeafBefore shape room p (length qs) → index < length (entries shape p ++ entries_in shape qs) → index < length (entries shape p)
      front-inside [] more lt = omega (arith, lt, ap length (append-nil (entries shape p)))
      front-inside (q ∷ qs) more lt = omega (arith, more.full (omega arith), entries-long shape p, is, low)
  stands-at (p ∷ ps) (suc leaf) place index are is low inside =
      let whole : page_count p ≡ room = behind ps are.0 inside in
      let past : index ≡ room + (room * leaf + place) = omega (arith, is) in
      let long = length-append (entries shape p) (entries_in shape ps) in
      let less = stands-at ps leaf place (room * leaf + place) are.1 refl low (omega (arith, past, whole, entries-long shape p, long, inside)) in
      record {
        leaf_is = omega (arith, less.leaf_is);
        fits = less.fits;
        inside = less.inside;
        same = λ d e. get_or-append_right (entries shape p) (entries_in shape ps) index e (omega (arith, past, whole, entries-long shape p))
            ∙ (ap (λ (n : ℕ). get_or (entries_in shape ps) n e) (omega (arith, past, whole, entries-long shape p)) ∙ less.same d e);
      }
    where
      behind : (qs : List (List ℕ)) → IsLeafBefore shape room p (length qs) → index < length (entries shape p ++ entries_in shape qs) → page_count p ≡ room
      behind [] more lt = absurd (omega (arith, lt, ap length (append-nil (entries shape p)), entries-long shape p, more.few, is))
      behind (q ∷ qs) more lt = more.full (omega arith)

  -- a leaf behind full ones
  pub one-more : (leaves : List (List ℕ)) (page : List ℕ) → AreLeaves shape room leaves → All (λ p. page_count p ≡ room) leaves → HasEntries shape page → page_count page ≤ room → AreLeaves shape room (leaves ++ page ∷ [])
  one-more [] page are full fits few = (record { fits = fits; few = few; full = λ some. absurd (omega (arith, some)) }, tt)
  one-more (p ∷ ps) page are full fits few =
      (record { fits = are.0.fits; few = are.0.few; full = λ some. full 0 p (omega arith) }, one-more ps page are.1 (λ i d lt. full (suc i) d (omega (arith, lt))) fits few)

-- and its points
pub points-more : (shape : Shape) (leaves : List (List ℕ)) (page : List ℕ) → entries_in shape (leaves ++ page ∷ []) ≡ entries_in shape leaves ++ entries shape page
points-more shape [] page = append-nil (entries shape page)
points-more shape (p ∷ ps) page = ap (λ (l : List Entry). entries shape p ++ l) (points-more shape ps page) ∙ sym (append_assoc (entries shape p) (entries_in shape ps) (entries shape page))

-- a leaf as it lies in its box
pub page-is : (boxes : List (Box (List ℕ) Global)) (leaf : ℕ) (box : Box (List ℕ) Global) (page : List ℕ) → leaf < length boxes → box ≡ get_or boxes leaf box → page ≡ box.value → get_or (map bytes_of boxes) leaf page ≡ page
page-is boxes leaf box page low is at = get_or-map bytes_of boxes leaf box page low ∙ (ap bytes_of (sym is) ∙ sym at)

-- what is read of a leaf has eight coordinates, and the measures of the tree
pub read-measured : (shape : Shape) (page : List ℕ) (place : ℕ) (e : Entry) → place < page_count page → e ≡ get_or (entries shape page) place e → e.cell.measures ≡ shape.measures
read-measured shape page place e low is = ap (λ (x : Entry). x.cell.measures) (is ∙ entry-read shape page place e low)

pub read-eight : (shape : Shape) (page : List ℕ) (place : ℕ) (e : Entry) → HasEntries shape page → place < page_count page → e ≡ get_or (entries shape page) place e → length e.point.at ≡ 8
read-eight shape page place e fits low is =
    let arity = page_arity page in
    let bytes = drop (8 + place * entry_size arity shape) page in
    let long = length-append (many (number (width shape.wide)) (width shape.wide) arity bytes) (zeros (8 - arity)) in
    omega (arith, ap (λ (x : Entry). length x.point.at) (is ∙ entry-read shape page place e low), long, many-long (number (width shape.wide)) (width shape.wide) arity bytes, length-replicate {A = ℕ} (8 - arity) 0, fits.arity)
