-- Entries that stand one behind another in the bytes of a leaf.
use Rattle.std.proofs.Common.{◌≡◌, ◌≤◌, ◌<◌, ◌+◌, ◌-◌, ◌*◌, ℕ, zero, suc, true, false, List, [], ◌∷◌, length, take, drop, get_or, refl, sym, ap, subst, ◌∙◌, arith}
use Rattle.std.specs.Prelude.{flat_map}
use Rattle.std.specs.List.{All}
use Rattle.std.specs.Ordering.{is_lt}
use Rattle.std.specs.declared.cmp.Ordering.{Ordering}
use Rattle.std.specs.declared.cmp.Ordering.TheVariants.{Less, Equal, Greater}
use Rattle.std.proofs.lemmas.List.{drop-drop, drop-take, length-drop, length-take-le, take-take, take_all}
use Rattle.std.proofs.Math.Nat.{mul-le-mul_right}
use Rattle.be_numbers.specs.Formats.{IsBytes, many}
use Rattle.be_numbers.proofs.Format.{bytes-drop, bytes-take, many-back}
use Rattle.cube_point.specs.Points.{point_cmp}
use Rattle.cube_point.specs.declared.point.Entry.{Entry}
use Rattle.cube_point.specs.declared.point.Point.{Point}
use Rattle.cube_point.specs.declared.point.Shape.{Shape}
use Rattle.cube_point.proofs.PointOrder.{point-total}
use Rattle.page_entry.specs.Entries.{HasEntries, ascend, entries, entry_before, entry_of, page_arity, page_count}
use Rattle.page_entry.specs.Stored.{IsStored}
use Rattle.page_entry.specs.Bytes.{entry_bytes, entry_size}
use Rattle.page_entry.specs.Runs.{Follows, Precedes}
use Rattle.page_entry.proofs.Fields.{entry_format}
use Rattle.page_entry.proofs.Tests.{and-both}
use Rattle.page_entry.proofs.Lent.{entry-cut}
use Rattle.page_entry.proofs.Widths.{value-inside}
use Rattle.page_entry.proofs.Loops.{entries-are, many-at, many-long}

-- ---- their bytes

-- so many from an index on
many-drop : {A : Type 0} (r : List ℕ → A) (m n i : ℕ) (b : List ℕ) → i ≤ n → drop i (many r m n b) ≡ many r m (n - i) (drop (i * m) b)
many-drop r m n zero b le = let e : zero * m ≡ 0 = omega arith in let all : n ≡ n - 0 = omega arith in (λ i. many r m (all i) (drop (sym e i) b))
many-drop r m zero (suc i) b le = absurd (omega arith)
many-drop r m (suc n) (suc i) b le =
    let k : m + i * m ≡ suc i * m = omega arith in
    let left : n - i ≡ suc n - suc i = omega arith in
    many-drop r m n i (drop m b) (omega arith) ∙ ((λ j. many r m (left j) (drop-drop (i * m) m b j)) ∙ ap (λ (j : ℕ). many r m (suc n - suc i) (drop j b)) k)

many-take : {A : Type 0} (r : List ℕ → A) (m n i : ℕ) (b : List ℕ) → i ≤ n → take i (many r m n b) ≡ many r m i b
many-take r m n zero b le = refl
many-take r m zero (suc i) b le = absurd (omega arith)
many-take r m (suc n) (suc i) b le = ap (λ l. r b ∷ l) (many-take r m n i (drop m b) (omega arith))

-- what stands behind their bytes does not count
pub run-cut : (arity : ℕ) (shape : Shape) (n : ℕ) (b : List ℕ) → IsBytes b → n * entry_size arity shape ≤ length b
    → many (entry_of arity shape) (entry_size arity shape) n (take (n * entry_size arity shape) b) ≡ many (entry_of arity shape) (entry_size arity shape) n b
run-cut arity shape zero b are le = refl
run-cut arity shape (suc n) b are le =
    let s = entry_size arity shape in
    let r : List ℕ → Entry = entry_of arity shape in
    let more : suc n * s ≡ s + n * s = omega arith in
    let cut : take s (take (suc n * s) b) ≡ take s b = take-take s (suc n * s) b (omega (arith, more)) in
    let first : r (take (suc n * s) b) ≡ r b =
    sym (entry-cut arity shape (take (suc n * s) b) (bytes-take (suc n * s) b are le) (omega (arith, length-take-le (suc n * s) b le, more)))
    ∙ (ap r cut ∙ entry-cut arity shape b are (omega (arith, more, le))) in
    let behind : drop s (take (suc n * s) b) ≡ take (n * s) (drop s b) = ap (λ (k : ℕ). drop s (take k b)) more ∙ drop-take s (n * s) b in
    let rest = ap (many r s n) behind ∙ run-cut arity shape n (drop s b) (bytes-drop s b are) (omega (arith, length-drop s b, more, le)) in
    λ i. first i ∷ rest i

-- the entries from an index of a leaf on, by their bytes alone
pub run-read : (shape : Shape) (b : List ℕ) (index count at size : ℕ) → IsBytes b → index + count ≤ page_count b → size ≡ entry_size (page_arity b) shape → at ≡ 8 + index * size → at + count * size ≤ length b
    → many (entry_of (page_arity b) shape) (entry_size (page_arity b) shape) count (take (count * size) (drop at b)) ≡ take count (drop index (entries shape b))
run-read shape b index count at size are within size-is at-is le =
    let a = page_arity b in
    let s = entry_size a shape in
    let r : List ℕ → Entry = entry_of a shape in
    let times : count * size ≡ count * s = ap (λ (k : ℕ). count * k) size-is in
    let place : at ≡ index * s + 8 = omega (arith, at-is, ap (λ (k : ℕ). index * k) size-is) in
    let from : drop (index * s) (drop 8 b) ≡ drop at b = drop-drop (index * s) 8 b ∙ ap (λ (k : ℕ). drop k b) (omega (arith, place)) in
    let whole = ap (λ (l : List Entry). take count (drop index l)) (entries-are shape b (page_count b) refl) in
    let some = ap (take count) (many-drop r s (page_count b) index (drop 8 b) (omega (arith, within))) in
    let few = many-take r s (page_count b - index) count (drop (index * s) (drop 8 b)) (omega (arith, within)) in
    ap (λ (k : ℕ). many r s count (take k (drop at b))) times
    ∙ (run-cut a shape count (drop at b) (bytes-drop at b are) (omega (arith, length-drop at b, le, times))
    ∙ sym (whole ∙ (some ∙ (few ∙ ap (many r s count) from))))

-- their bytes lie in the page
pub run-inside : (shape : Shape) (b : List ℕ) (index count size : ℕ) → HasEntries shape b → index + count ≤ page_count b → size ≡ entry_size (page_arity b) shape → length b ≡ 4096
    → 8 + index * size + count * size ≤ length b
run-inside shape b index count size has within is long =
    let s = entry_size (page_arity b) shape in
    let below : (index + count) * s ≤ page_count b * s = mul-le-mul_right s within in
    let times : (index + count) * s ≡ index * s + count * s = omega arith in
    omega (arith, below, times, has.fits, long, ap (λ (k : ℕ). index * k) is, ap (λ (k : ℕ). count * k) is)

-- each is of their arity
pub run-arities : (arity : ℕ) (shape : Shape) (n : ℕ) (b : List ℕ) → All (λ (e : Entry). e.point.arity ≡ arity) (many (entry_of arity shape) (entry_size arity shape) n b)
run-arities arity shape n b i d lt =
    let long = many-long (entry_of arity shape) (entry_size arity shape) n b in
    ap (λ (e : Entry). e.point.arity) (many-at (entry_of arity shape) (entry_size arity shape) n i b d (omega (arith, lt, long)))

-- ---- their order

-- an entry before one that comes before a point
chain : (p : Point) (a b : Entry) → entry_before a b ≡ true → Precedes p b → Precedes p a
unfolding entry_before
chain p a b h k = point-total.trans a.point.at b.point.at p.at (is-less (point_cmp a.point.at b.point.at) h) k
  where
    is-less : (r : Ordering) → is_lt r ≡ true → r ≡ Less
    is-less Less h = refl
    is-less Equal h = absurd cc
    is-less Greater h = absurd cc

-- where one comes before a point, so do those before it
before-first : (p : Point) (es : List Entry) (i : ℕ) → ascend entry_before es ≡ true → i < length es → ((d : Entry) → Precedes p (get_or es i d)) → All (Precedes p) (take (suc i) es)
before-first p [] i order lt is k d l = absurd (omega (arith, lt))
before-first p (x ∷ es) zero order lt is zero d l = is d
before-first p (x ∷ es) zero order lt is (suc k) d l = absurd (omega (arith, l))
before-first p (x ∷ []) (suc i) order lt is k d l = absurd (omega (arith, lt))
before-first p (x ∷ y ∷ es) (suc i) order lt is zero d l =
    let both = and-both (entry_before x y) (ascend entry_before (y ∷ es)) order in
    chain p x y both.0 (before-first p (y ∷ es) i both.1 (omega (arith, lt)) is 0 d (omega (arith, l)))
before-first p (x ∷ y ∷ es) (suc i) order lt is (suc k) d l =
    let both = and-both (entry_before x y) (ascend entry_before (y ∷ es)) order in
    before-first p (y ∷ es) i both.1 (omega (arith, lt)) is k d (omega (arith, l))

pub before-all : (p : Point) (es : List Entry) (i : ℕ) → ascend entry_before es ≡ true → i < length es → ((d : Entry) → Precedes p (get_or es i d)) → All (Precedes p) (take (i + 1) es)
before-all p es i order lt is = let next : suc i ≡ i + 1 = omega arith in subst (λ (n : ℕ). All (Precedes p) (take n es)) next (before-first p es i order lt is)

-- where one does not, neither do those behind it
behind-first : (p : Point) (x : Entry) (es : List Entry) → ascend entry_before (x ∷ es) ≡ true → Follows p x → All (Follows p) (x ∷ es)
behind-first p x es order not zero d l = not
behind-first p x [] order not (suc k) d l = absurd (omega (arith, l))
behind-first p x (y ∷ es) order not (suc k) d l =
    let both = and-both (entry_before x y) (ascend entry_before (y ∷ es)) order in
    behind-first p y es both.1 (λ is. not (chain p x y both.0 is)) k d (omega (arith, l))

pub behind-all : (p : Point) (es : List Entry) (i : ℕ) → ascend entry_before es ≡ true → i < length es → ((d : Entry) → Follows p (get_or es i d)) → All (Follows p) (drop i es)
behind-all p [] i order lt not = absurd (omega (arith, lt))
behind-all p (x ∷ es) zero order lt not = behind-first p x es order (not x)
behind-all p (x ∷ []) (suc i) order lt not = absurd (omega (arith, lt))
behind-all p (x ∷ y ∷ es) (suc i) order lt not = behind-all p (y ∷ es) i (and-both (entry_before x y) (ascend entry_before (y ∷ es)) order).1 (omega (arith, lt)) not

-- ---- their bytes once more

pub run-back : (arity : ℕ) (shape : Shape) (n : ℕ) (b : List ℕ) → IsBytes b → length b ≡ n * entry_size arity shape
    → flat_map (entry_bytes arity shape) (many (entry_of arity shape) (entry_size arity shape) n b) ≡ b
run-back arity shape n b are long =
    let s = entry_size arity shape in
    many-back s (entry_bytes arity shape) (entry_of arity shape) (IsStored arity shape) (entry_format arity shape) n b are (omega (arith, long)) ∙ take_all (n * s) b (omega (arith, long))

-- how many there are
pub run-long : (arity : ℕ) (shape : Shape) (n : ℕ) (b : List ℕ) → length (many (entry_of arity shape) (entry_size arity shape) n b) ≡ n
run-long arity shape n b = many-long (entry_of arity shape) (entry_size arity shape) n b

-- one of them, by the bytes from its place on
pub run-at : (arity : ℕ) (shape : Shape) (n i : ℕ) (b : List ℕ) (d : Entry) → i < n
    → get_or (many (entry_of arity shape) (entry_size arity shape) n b) i d ≡ entry_of arity shape (drop (i * entry_size arity shape) b)
run-at arity shape n i b d lt = many-at (entry_of arity shape) (entry_size arity shape) n i b d lt

-- its coordinates lie there
pub run-room : (arity : ℕ) (shape : Shape) (n i at : ℕ) (b : List ℕ) → i < n → length b ≡ n * entry_size arity shape → at ≡ i * entry_size arity shape → at + entry_size arity shape ≤ length b
run-room arity shape n i at b lt long is = omega (arith, value-inside (entry_size arity shape) i n lt, long, is)

pub less-is : (r : Ordering) → is_lt r ≡ true → r ≡ Less
less-is Less h = refl
less-is Equal h = absurd cc
less-is Greater h = absurd cc

pub less-not : (r : Ordering) → is_lt r ≡ false → r ≡ Less → ⊥
less-not Less h = absurd cc
less-not Equal h = λ e. cc
less-not Greater h = λ e. cc

-- all of none, and all of a list
pub none-before : (P : Entry → Type 0) (es : List Entry) → All P (take 0 es)
none-before P es i d lt = absurd (omega (arith, lt))
