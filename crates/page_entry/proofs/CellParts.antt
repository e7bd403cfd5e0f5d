-- The parts of a cell in its bytes, one by one, and those of two cells joined.
use Rattle.std.proofs.Common.{◌≡◌, ◌≤◌, ◌<◌, ◌+◌, ◌-◌, ◌*◌, ℕ, zero, suc, List, [], ◌∷◌, inl, inr, length, drop, get_or, refl, rules, sym, ap, subst, ◌∙◌, arith}
use Rattle.std.specs.Prelude.{FitsSigned, max, replicate}
use Rattle.std.specs.Int.{w128}
use Rattle.std.proofs.Math.IntN.{+ℤ_idr}
use Rattle.std.proofs.lemmas.Bool.{cases_lt}
use Rattle.std.proofs.lemmas.List.{drop-drop, get_or-replicate, get_or_past, get_or_append_left, get_or-append_right, length-append, length-replicate}
use Rattle.be_numbers.specs.Formats.{many}
use Rattle.fact_model.specs.declared.cell.Cell.{Cell}
use Rattle.fact_model.specs.Cell.{FitCells, PartFits, SumFitsAt, each_joined, join, join_parts}
use Rattle.fact_model.specs.declared.cell.Part.{Part}
use Rattle.page_entry.specs.Cells.{EndsInZeros, IsJoined, cell_of}
use Rattle.page_entry.specs.Entries.{no_part, part_of}
use Rattle.page_entry.proofs.Loops.{many-at, many-long}

-- the parts of the cell in front of the bytes
abbrev pub parts : ℕ → List ℕ → List Part
parts measures b = (cell_of measures b).parts

pub four : (measures : ℕ) (b : List ℕ) → measures ≤ 4 → length (parts measures b) ≡ 4
four measures b le = omega (arith, le, length-append (many part_of 48 measures (drop 8 b)) (replicate (4 - measures) no_part), many-long part_of 48 measures (drop 8 b), length-replicate {A = Part} (4 - measures) no_part)

-- one of a measure is read at its place
pub part-read : (measures m at : ℕ) (b : List ℕ) → m < measures → part_of (drop (at + 8 + m * 48) b) ≡ get_or (parts measures (drop at b)) m no_part
part-read measures m at b lt =
    let there : m < length (many part_of 48 measures (drop 8 (drop at b))) = omega (arith, lt, many-long part_of 48 measures (drop 8 (drop at b))) in
    let place : drop (m * 48) (drop 8 (drop at b)) ≡ drop (at + 8 + m * 48) b = ap (drop (m * 48)) (drop-drop 8 at b) ∙ drop-drop (m * 48) (at + 8) b in
    ap part_of (sym place)
    ∙ (sym (many-at part_of 48 measures m (drop 8 (drop at b)) no_part lt)
    ∙ sym (get_or_append_left (many part_of 48 measures (drop 8 (drop at b))) (replicate (4 - measures) no_part) no_part m there))

-- the others are zero
pub part-none : (measures m : ℕ) (b : List ℕ) → measures ≤ m → get_or (parts measures b) m no_part ≡ no_part
part-none measures m b le =
    get_or-append_right (many part_of 48 measures (drop 8 b)) (replicate (4 - measures) no_part) measures m no_part (many-long part_of 48 measures (drop 8 b)) le
    ∙ none (4 - measures) (m - measures)
  where
    none : (n i : ℕ) → get_or (replicate n no_part) i no_part ≡ no_part
    none n i = elim (cases_lt i n) [
      | inl lt ↦ get_or-replicate n i no_part no_part lt
      | inr past ↦ get_or_past (replicate n no_part) i no_part (omega (arith, past, length-replicate {A = Part} n no_part))
    ]

-- parts that are each as joined are those joined
pub each-is : (ps qs rs : List Part) → length qs ≡ length ps → length rs ≡ length ps
    → ((m : ℕ) → m < length ps → get_or rs m no_part ≡ join_parts (get_or ps m no_part) (get_or qs m no_part)) → rs ≡ each_joined ps qs
each-is [] qs [] long too each = refl
each-is [] qs (r ∷ rs) long too each = absurd (omega (arith, too))
each-is (p ∷ ps) [] rs long too each = absurd (omega (arith, long))
each-is (p ∷ ps) (q ∷ qs) [] long too each = absurd (omega (arith, too))
each-is (p ∷ ps) (q ∷ qs) (r ∷ rs) long too each =
    λ i. each 0 (omega arith) i ∷ each-is ps qs rs (omega (arith, long)) (omega (arith, too)) (λ m low. each (suc m) (omega (arith, low))) i

-- ---- two cells of as many measures

pub each-of-four : (P : ℕ → Type 0) → P 0 → P 1 → P 2 → P 3 → (m : ℕ) → m < 4 → P m
each-of-four P a b c d zero low = a
each-of-four P a b c d (suc zero) low = b
each-of-four P a b c d (suc (suc zero)) low = c
each-of-four P a b c d (suc (suc (suc zero))) low = d
each-of-four P a b c d (suc (suc (suc (suc m)))) low = absurd (omega (arith, low))

-- a part that has none to it adds up
none-fits : (p : Part) → FitsSigned w128 p.sum → PartFits p no_part
none-fits p fits = subst (FitsSigned w128) (sym (+ℤ_idr p.sum)) fits

-- so the sums of the measures tell all
pub every-sum : (c : Cell) (b : List ℕ) → ((m : ℕ) → m < 4 → FitsSigned w128 (get_or c.parts m no_part).sum)
    → ((m : ℕ) → m < c.measures → SumFitsAt c (cell_of c.measures b) m) → (m : ℕ) → m < 4 → SumFitsAt c (cell_of c.measures b) m
every-sum c b own fit m low = elim (cases_lt m c.measures) [
  | inl lt ↦ fit m lt
  | inr past ↦ subst (PartFits (get_or c.parts m no_part)) (sym (part-none c.measures m b past)) (none-fits (get_or c.parts m no_part) (own m low))
]

pub sum-at : (c d : Cell) → FitCells c d → (m : ℕ) → m < 4 → SumFitsAt c d m
sum-at c d fit = each-of-four (SumFitsAt c d) fit.first fit.second fit.third fit.fourth

-- ---- a cell joined by its measures, where past them it is zeros

-- the parts past the measures are joined as they stay
stays-joined : (c : Cell) (b : List ℕ) (m : ℕ) → EndsInZeros c → c.measures ≤ m → m < 4 → get_or c.parts m no_part ≡ join_parts (get_or c.parts m no_part) (get_or (parts c.measures b) m no_part)
stays-joined c b m ends past low = ends m past low ∙ (λ i. join_parts (sym (ends m past low) i) (sym (part-none c.measures m b past) i))

pub whole-join : (c new : Cell) (b : List ℕ) → c.measures ≤ 4 → length c.parts ≡ 4 → length new.parts ≡ 4 → EndsInZeros c → IsJoined c (cell_of c.measures b) new → new ≡ join c (cell_of c.measures b)
whole-join c new b le own long ends is =
    let same : c.measures ≡ max c.measures c.measures = search rules in
    let measures = is.measures ∙ same in
    let each = each-is c.parts (parts c.measures b) new.parts (four c.measures b le ∙ sym own) (long ∙ sym own)
    (λ m low. elim (cases_lt m c.measures) [
      | inl lt ↦ is.parts m lt
      | inr past ↦ is.past m past ∙ stays-joined c b m ends past (omega (arith, low, own))
    ]) in
    λ i. record { count = is.count i; measures = measures i; parts = each i }
