-- Closed points, of which one more comes or one gets another cell.
use Rattle.std.proofs.Common.{◌≡◌, ◌≢◌, ℕ, ◌+◌, ◌<◌, ◌≤◌, List, [], ◌∷◌, ◌++◌, map, length, get_or, set, refl, sym, ◌∙◌, ap, subst, arith, Vec, Global, Bool, true, false, true≢false, ◌==◌}
use Rattle.std.proofs.lemmas.Bool.{eq-eqb, eqb-true}
use Rattle.std.specs.List.{range_with_len}
use Rattle.std.proofs.Math.ListN.{get_or-eq_default}
use Rattle.std.proofs.Math.Seq.{get_or-append_seam}
use Rattle.std.proofs.lemmas.List.{get_or-map, get_or-set_other, get_or-set_same, get_or_append_left, length-append, length-map, length-set, same_lists}
use Rattle.std.proofs.lemmas.List.FromFn.{get_or-map-range_with_len, length-map-range_with_len, map-range_with_len_more}
use Rattle.fact_model.specs.Cell.{part_of}
use Rattle.fact_model.specs.declared.cell.Cell.{Cell}
use Rattle.fact_model.specs.declared.cell.Part.{Part}
use Rattle.cube_point.specs.declared.point.Entry.{Entry}
use Rattle.point_groups.specs.Bare.{bare, nowhere, with_cell}
use Rattle.point_groups.specs.Closed.{closed_at, closed_points}
use Rattle.point_groups.specs.Columns.{numbers_at, parts_at}
use Rattle.point_groups.specs.declared.columns.ClosedPoints.TheInside.{Inside}

pub closed-long : (c : Inside) → length (closed_points c) ≡ length c.measures.items
closed-long c = length-map-range_with_len (closed_at c) 0 (length c.measures.items)

closed-there : (c : Inside) (n : ℕ) (d : Entry) → n < length c.measures.items → get_or (closed_points c) n d ≡ closed_at c n
closed-there c n d low = get_or-map-range_with_len (closed_at c) 0 (length c.measures.items) n n d low (omega arith)

-- ---- one of them

module _ (c : Inside) (es : List Entry) (n : ℕ) (are : closed_points c ≡ es) (low : n < length es) where
  pub within : n < length c.measures.items
  within = omega (arith, low, ap length are, closed-long c)

  pub found : closed_at c n ≡ get_or es n nowhere
  found = sym (closed-there c n nowhere within) ∙ ap (λ (l : List Entry). get_or l n nowhere) are

  -- a coordinate, from its list
  pub in-list : (dimension : ℕ) (l : Vec ℕ Global) → dimension < length c.coordinates → l ≡ get_or c.coordinates dimension l
      → get_or l.items n 0 ≡ get_or (get_or es n nowhere).point.at dimension 0
  in-list dimension l less is =
      ap (λ (l : Vec ℕ Global). get_or l.items n 0) is
      ∙ (sym (get_or-map (λ (l : Vec ℕ Global). get_or l.items n 0) c.coordinates dimension l 0 less)
      ∙ ap (λ (e : Entry). get_or e.point.at dimension 0) found)

  -- a part, from its list
  pub part-in-list : (measure : ℕ) (l : Vec Part Global) → measure < length c.parts → l ≡ get_or c.parts measure l
      → get_or l.items n (part_of []) ≡ get_or (get_or es n nowhere).cell.parts measure (part_of [])
  part-in-list measure l less is =
      ap (λ (l : Vec Part Global). get_or l.items n (part_of [])) is
      ∙ (sym (get_or-map (λ (l : Vec Part Global). get_or l.items n (part_of [])) c.parts measure l (part_of []) less)
      ∙ ap (λ (e : Entry). get_or e.cell.parts measure (part_of [])) found)

  -- past the eight there is none
  pub past-all : (dimension : ℕ) → 8 ≤ dimension → length c.coordinates ≡ 8 → 0 ≡ get_or (get_or es n nowhere).point.at dimension 0
  past-all dimension past eight =
      sym (get_or-eq_default (numbers_at n c.coordinates) 0 (omega (arith, past, eight, length-map c.coordinates (λ (l : Vec ℕ Global). get_or l.items n 0))))
      ∙ ap (λ (e : Entry). get_or e.point.at dimension 0) found

  pub past-parts : (measure : ℕ) → 4 ≤ measure → length c.parts ≡ 4 → part_of [] ≡ get_or (get_or es n nowhere).cell.parts measure (part_of [])
  past-parts measure past four =
      sym (get_or-eq_default (parts_at n c.parts) (part_of []) (omega (arith, past, four, length-map c.parts (λ (l : Vec Part Global). get_or l.items n (part_of [])))))
      ∙ ap (λ (e : Entry). get_or e.cell.parts measure (part_of [])) found

-- ---- one more

same-range : (f g : ℕ → Entry) (n : ℕ) → ((k : ℕ) → k < n → f k ≡ g k) → map f (range_with_len 0 n) ≡ map g (range_with_len 0 n)
same-range f g n same =
    let f-long = length-map-range_with_len f 0 n in
    let g-long = length-map-range_with_len g 0 n in
    same_lists (map f (range_with_len 0 n)) (map g (range_with_len 0 n)) (f-long ∙ sym g-long)
    (λ k d low.
    let less : k < n = omega (arith, low, f-long) in
    get_or-map-range_with_len f 0 n k k d less (omega arith) ∙ (same k less ∙ sym (get_or-map-range_with_len g 0 n k k d less (omega arith))))

-- what a point is made of
made : (c : Inside) (k : ℕ) (e : Entry) → numbers_at k c.coordinates ≡ e.point.at → get_or c.counts.items k 0 ≡ e.cell.count → get_or c.measures.items k 0 ≡ e.cell.measures
    → parts_at k c.parts ≡ e.cell.parts → closed_at c k ≡ bare e
made c k e place count measures parts =
    λ i. record { point = record { arity = 0; at = place i }; cell = record { count = count i; measures = measures i; parts = parts i } }

module _ (c now : Inside) (n : ℕ)
    (places : (k : ℕ) → k ≢ n → numbers_at k now.coordinates ≡ numbers_at k c.coordinates)
    (counts : (k : ℕ) → k ≢ n → get_or now.counts.items k 0 ≡ get_or c.counts.items k 0)
    (parts : (k : ℕ) → k ≢ n → parts_at k now.parts ≡ parts_at k c.parts) where
  pub pushed : (e : Entry) → n ≡ length c.measures.items → now.measures.items ≡ c.measures.items ++ e.cell.measures ∷ []
      → numbers_at n now.coordinates ≡ e.point.at → get_or now.counts.items n 0 ≡ e.cell.count → parts_at n now.parts ≡ e.cell.parts
      → closed_points now ≡ closed_points c ++ bare e ∷ []
  pushed e many more place count part =
      let ms = c.measures.items in
      let long : length now.measures.items ≡ n + 1 = ap length more ∙ (length-append ms (e.cell.measures ∷ []) ∙ omega (arith, many)) in
      let measured : get_or now.measures.items n 0 ≡ e.cell.measures =
      ap (λ (l : List ℕ). get_or l n 0) more ∙ (ap (λ (j : ℕ). get_or (ms ++ e.cell.measures ∷ []) j 0) many ∙ get_or-append_seam ms e.cell.measures [] 0) in
      let others : (k : ℕ) → k < n → closed_at now k ≡ closed_at c k = λ k less.
      (let other : k ≢ n = omega (arith, less) in
      made now k (closed_at c k) (places k other) (counts k other)
      (ap (λ (l : List ℕ). get_or l k 0) more ∙ get_or_append_left ms (e.cell.measures ∷ []) 0 k (omega (arith, less, many))) (parts k other)) in
      ap (λ m. map (closed_at now) (range_with_len 0 m)) long
      ∙ (map-range_with_len_more (closed_at now) 0 n n (omega arith)
      ∙ ((λ i. same-range (closed_at now) (closed_at c) n others i ++ made now n e place count measured part i ∷ [])
      ∙ ap (λ m. map (closed_at c) (range_with_len 0 m) ++ bare e ∷ []) many))

  -- ---- another cell
  pub celled : (cell : Cell) → n < length c.measures.items → now.measures.items ≡ set c.measures.items n cell.measures
      → numbers_at n now.coordinates ≡ numbers_at n c.coordinates → get_or now.counts.items n 0 ≡ cell.count → parts_at n now.parts ≡ cell.parts
      → closed_points now ≡ set (closed_points c) n (with_cell (get_or (closed_points c) n nowhere) cell)
  celled cell low are place count part =
      let ms = c.measures.items in
      let long : length now.measures.items ≡ length ms = ap length are ∙ length-set ms n cell.measures in
      let many : length (closed_points now) ≡ length (set (closed_points c) n new) =
      closed-long now ∙ (long ∙ (sym (closed-long c) ∙ sym (length-set (closed_points c) n new))) in
      same_lists (closed_points now) (set (closed_points c) n new) many
      (λ k d less.
      let below : k < length now.measures.items = omega (arith, less, closed-long now) in
      let old : k < length (closed_points c) = omega (arith, below, long, closed-long c) in
      closed-there now k d below ∙ at k d old (k == n) refl)
    where
      new : Entry
      new = with_cell (get_or (closed_points c) n nowhere) cell

      at : (k : ℕ) (d : Entry) → k < length (closed_points c) → (b : Bool) → (k == n) ≡ b → closed_at now k ≡ get_or (set (closed_points c) n new) k d
      at k d old true is =
          let same : k ≡ n = eqb-true k n is in
          let there = closed-there c n nowhere low in
          subst (λ (j : ℕ). closed_at now j ≡ get_or (set (closed_points c) n new) j d) (sym same)
          (made now n new (place ∙ ap (λ (e : Entry). e.point.at) (sym there)) count
          (ap (λ (l : List ℕ). get_or l n 0) are ∙ get_or-set_same c.measures.items n cell.measures 0 low) part
          ∙ (ap (λ (e : Entry). bare (with_cell e cell)) there
          ∙ (ap (λ (e : Entry). with_cell e cell) (sym there)
          ∙ sym (get_or-set_same (closed_points c) n new d (omega (arith, low, closed-long c))))))
      at k d old false is =
          let other : k ≢ n = λ same. true≢false (sym (eq-eqb k n same) ∙ is) in
          made now k (closed_at c k) (places k other) (counts k other)
          (ap (λ (l : List ℕ). get_or l k 0) are ∙ get_or-set_other c.measures.items n k cell.measures 0 other) (parts k other)
          ∙ (sym (closed-there c k d (omega (arith, old, closed-long c))) ∙ sym (get_or-set_other (closed_points c) n k new d other))
