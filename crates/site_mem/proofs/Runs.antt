-- Images, run by run.
use Rattle.std.proofs.Common.{◌≡◌, inl, inr, ℕ, suc, zero, ◌+◌, ◌-◌, ◌%◌, ◌<◌, ◌≤◌, Bool, true, false, ◌||◌, List, ◌++◌, length, map, take, drop, replicate, [], ◌∷◌, slice_index, get_or, nat_le, if◌then◌else◌, refl, sym, ◌∙◌, ap, subst, arith, Result, Ok, Err, OnOk, is_ok, length-take, length-drop}
use Rattle.std.specs.List.{range_with_len}
use Rattle.std.proofs.lemmas.Bool.{cases_lt}
use Rattle.std.proofs.lemmas.Bool.Decides.{nat_tests}
use Rattle.std.proofs.lemmas.List.{ext_get_or, get_or-take, get_or-drop, get_or-replicate, get_or-append_right, length-append, length-replicate, append_assoc, take_all}
use Rattle.std.proofs.Math.ListN.{get_or-append}
use Rattle.std.proofs.lemmas.List.FromFn.{get_or-map-range_with_len, length-map-range_with_len, map-range_with_len_more}
use Rattle.lcg.specs.Draw.{draw, next_state, state_after}
use Rattle.site_core.specs.Disk.{Files}
use Rattle.site_mem.specs.declared.step.Step.{Step}
use Rattle.site_mem.specs.Image.{pictured, unstable_below, drawn_bytes, IsDrawnSoFar}
use Rattle.site_mem.specs.Unstable.{stable, is_unstable, is_torn}
use Rattle.site_mem.proofs.Pictures.{below-more, state_after-more}

-- a list by places, with more behind it
extended : (f : ℕ → ℕ) (p n : ℕ) (more : List ℕ) → length more ≡ n → ((k : ℕ) → k < n → slice_index more k ≡ f (p + k))
    → map f (range_with_len 0 p) ++ more ≡ map f (range_with_len 0 (p + n))
extended f p n more size each = ext_get_or 0 (map f (range_with_len 0 p) ++ more) (map f (range_with_len 0 (p + n))) (omega (arith, front, whole, length-append (map f (range_with_len 0 p)) more, size)) at where
  front : length (map f (range_with_len 0 p)) ≡ p
  front = length-map-range_with_len f 0 p

  whole : length (map f (range_with_len 0 (p + n))) ≡ p + n
  whole = length-map-range_with_len f 0 (p + n)

  at : (i : ℕ) → i < length (map f (range_with_len 0 p) ++ more) → get_or (map f (range_with_len 0 p) ++ more) i 0 ≡ get_or (map f (range_with_len 0 (p + n))) i 0
  at i low =
      let inside : i < p + n = omega (arith, front, length-append (map f (range_with_len 0 p)) more, size) in
      let right = get_or-map-range_with_len f 0 (p + n) i i 0 inside (omega arith) in
      elim (cases_lt i p) [
        | inl before ↦ get_or-append (map f (range_with_len 0 p)) more 0 i (omega (arith, front)) ∙ get_or-map-range_with_len f 0 p i i 0 before (omega arith) ∙ sym right
        | inr from ↦
            let place : p + (i - p) ≡ i = omega arith in
            get_or-append_right (map f (range_with_len 0 p)) more p i 0 front (omega arith)
            ∙ each (i - p) (omega arith) ∙ ap f place ∙ sym right
      ]

-- one drawn byte more
pub drawn-push : (start bytes new : List ℕ) (state now count x : ℕ) → new ≡ bytes ++ x ∷ [] → bytes ≡ start ++ drawn_bytes state count → now ≡ state_after state count
    → x ≡ draw now % 256 → new ≡ start ++ drawn_bytes state (count + 1)
drawn-push start bytes new state now count x pushed so_far at is =
    pushed ∙ ap (λ (l : List ℕ). l ++ x ∷ []) so_far ∙ append_assoc start (drawn_bytes state count) (x ∷ [])
    ∙ ap (λ y. start ++ (drawn_bytes state count ++ y ∷ [])) (is ∙ ap (λ s. draw s % 256) at)
    ∙ ap (λ (l : List ℕ). start ++ l) (sym (map-range_with_len_more (λ k. draw (state_after state k) % 256) 0 count count (omega arith)))

module _ (first : Files) (steps : List Step) (file : ℕ) where
  pub unstable-past : (i : ℕ) → length (stable first steps file) ≤ i → is_unstable first steps file i ≡ true
  unstable-past i past = grind (arith, nat_tests)

  pub unstable-torn : (i : ℕ) → is_torn steps file i ≡ true → is_unstable first steps file i ≡ true
  unstable-torn i torn = by_case (nat_le (length (stable first steps file)) i) (is_torn steps file i) torn where
    by_case : (a b : Bool) → b ≡ true → a || b ≡ true
    by_case true b is = refl
    by_case false b is = is

  pub stable-whole : (i : ℕ) → i < length (stable first steps file) → is_torn steps file i ≡ false → is_unstable first steps file i ≡ false
  stable-whole i low whole = grind (arith, nat_tests)

  pub within-stable : (i : ℕ) → is_unstable first steps file i ≡ false → i < length (stable first steps file)
  within-stable i whole = grind (arith, nat_tests)

  module _ (p n : ℕ) (torn : (i : ℕ) → p ≤ i → i < p + n → is_unstable first steps file i ≡ true) where
    pub filled-torn : (byte : ℕ) (old : List ℕ) → old ≡ pictured first steps file p (λ i. byte) → old ++ replicate n byte ≡ pictured first steps file (p + n) (λ i. byte)
    filled-torn byte old is = ap (λ (l : List ℕ). l ++ replicate n byte) is
        ∙ extended (λ i. if is_unstable first steps file i then byte else slice_index (stable first steps file) i) p n (replicate n byte) (length-replicate n byte)
        (λ k low. get_or-replicate n k byte 0 low ∙ sym (ap (λ b. if b then byte else slice_index (stable first steps file) (p + k)) (torn (p + k) (omega arith) (omega arith))))

  module _ (p n : ℕ) (whole : (i : ℕ) → p ≤ i → i < p + n → is_unstable first steps file i ≡ false) (fits : p + n ≤ length (stable first steps file)) where
    pub pictured-whole : (byte : ℕ → ℕ) (old : List ℕ) → old ≡ pictured first steps file p byte → old ++ take n (drop p (stable first steps file)) ≡ pictured first steps file (p + n) byte
    pictured-whole byte old is = ap (λ (l : List ℕ). l ++ take n (drop p (stable first steps file))) is
        ∙ extended (λ i. if is_unstable first steps file i then byte i else slice_index (stable first steps file) i) p n (take n (drop p (stable first steps file)))
        (omega (arith, length-take n (drop p (stable first steps file)), length-drop p (stable first steps file)))
        (λ k low. get_or-take n (drop p (stable first steps file)) k 0 low ∙ get_or-drop p (stable first steps file) k 0
        ∙ sym (ap (λ b. if b then byte (p + k) else slice_index (stable first steps file) (p + k)) (whole (p + k) (omega arith) (omega arith))))

  -- how many places are unstable
  below-torn : (p n : ℕ) → ((i : ℕ) → p ≤ i → i < p + n → is_unstable first steps file i ≡ true) → unstable_below first steps file (p + n) ≡ unstable_below first steps file p + n
  below-torn p zero all = let same : p + zero ≡ p = omega arith in let moved = ap (unstable_below first steps file) same in omega (arith, moved)
  below-torn p (suc n) all =
      let next : p + suc n ≡ p + n + 1 = omega arith in
      let moved = ap (unstable_below first steps file) next in
      let more = below-more first steps file (p + n) in
      let here = ap {B = ℕ} (λ (b : Bool). if b then 1 else 0) (all (p + n) (omega arith) (omega arith)) in
      let before = below-torn p n (λ i from low. all i from (omega arith)) in
      omega (arith, moved, more, here, before)

  below-whole : (p n : ℕ) → ((i : ℕ) → p ≤ i → i < p + n → is_unstable first steps file i ≡ false) → unstable_below first steps file (p + n) ≡ unstable_below first steps file p
  below-whole p zero all = let same : p + zero ≡ p = omega arith in ap (unstable_below first steps file) same
  below-whole p (suc n) all =
      let next : p + suc n ≡ p + n + 1 = omega arith in
      let moved = ap (unstable_below first steps file) next in
      let more = below-more first steps file (p + n) in
      let here = ap {B = ℕ} (λ (b : Bool). if b then 1 else 0) (all (p + n) (omega arith) (omega arith)) in
      let before = below-whole p n (λ i from low. all i from (omega arith)) in
      omega (arith, moved, more, here, before)

  state_after-add : (state m n : ℕ) → state_after (state_after state m) n ≡ state_after state (m + n)
  state_after-add state m zero = let same : m ≡ m + zero = omega arith in ap (state_after state) same
  state_after-add state m (suc n) =
      let next : m + n + 1 ≡ m + suc n = omega arith in
      ap next_state (state_after-add state m n) ∙ sym (state_after-more state (m + n)) ∙ ap (state_after state) next

  module _ (start p n : ℕ) (old : List ℕ) (state : ℕ) (so_far : IsDrawnSoFar first steps file start p old state) where
    module _ (torn : (i : ℕ) → p ≤ i → i < p + n → is_unstable first steps file i ≡ true) where
      below : (k : ℕ) → k ≤ n → unstable_below first steps file (p + k) ≡ unstable_below first steps file p + k
      below k low = below-torn p k (λ i from under. torn i from (omega arith))

      state-at : (k : ℕ) → k ≤ n → state_after state k ≡ state_after start (unstable_below first steps file (p + k) + 1)
      state-at k low =
          let count : unstable_below first steps file p + 1 + k ≡ unstable_below first steps file (p + k) + 1 = omega (arith, below k low) in
          ap (λ s. state_after s k) so_far.1 ∙ state_after-add start (unstable_below first steps file p + 1) k ∙ ap (state_after start) count

      pub drawn-torn : IsDrawnSoFar first steps file start (p + n) (old ++ drawn_bytes state n) (state_after state n)
      drawn-torn = (
        ap (λ (l : List ℕ). l ++ drawn_bytes state n) so_far.0
            ∙ extended (λ i. if is_unstable first steps file i then draw (state_after start (unstable_below first steps file i + 1)) % 256 else slice_index (stable first steps file) i) p n (drawn_bytes state n)
            (length-map-range_with_len (λ k. draw (state_after state k) % 256) 0 n)
            (λ k low. get_or-map-range_with_len (λ k. draw (state_after state k) % 256) 0 n k k 0 low (omega arith) ∙ ap (λ s. draw s % 256) (state-at k (omega arith))
            ∙ sym (ap (λ b. if b then draw (state_after start (unstable_below first steps file (p + k) + 1)) % 256 else slice_index (stable first steps file) (p + k)) (torn (p + k) (omega arith) (omega arith)))),
        state-at n (omega arith),
      )

    module _ (whole : (i : ℕ) → p ≤ i → i < p + n → is_unstable first steps file i ≡ false) (fits : p + n ≤ length (stable first steps file)) where
      pub drawn-whole : IsDrawnSoFar first steps file start (p + n) (old ++ take n (drop p (stable first steps file))) state
      drawn-whole = (
        pictured-whole p n whole fits (λ i. draw (state_after start (unstable_below first steps file i + 1)) % 256) old so_far.0,
        so_far.1 ∙ ap (λ m. state_after start (m + 1)) (sym (below-whole p n whole)),
      )

  -- a run is appended, or there is no memory for it
  module _ (p e len : ℕ) (le : p < e) (old new : List ℕ) where
    end : p + (e - p) ≡ e
    end = omega arith

    module _ (torn : (i : ℕ) → p ≤ i → i < e → is_unstable first steps file i ≡ true) where
      pub filled_by : {T E : Type 0} → (r : Result T E) (byte : ℕ) → new ≡ (if is_ok r then take e old ++ replicate (e - p) byte else old) → len ≡ (if is_ok r then e else p)
          → old ≡ pictured first steps file p (λ i. byte) → OnOk r (new ≡ pictured first steps file len (λ i. byte))
      filled_by (Ok x) byte new_is len_is is =
          let size : length old ≡ p = ap length is ∙ length-map-range_with_len (λ i. if is_unstable first steps file i then byte else slice_index (stable first steps file) i) 0 p in
          new_is ∙ ap (λ (l : List ℕ). l ++ replicate (e - p) byte) (take_all e old (omega arith))
          ∙ filled-torn p (e - p) (λ i from low. torn i from (omega arith)) byte old is
          ∙ ap (λ n. pictured first steps file n (λ i. byte)) (end ∙ sym len_is)
      filled_by (Err x) byte new_is len_is is = tt

      pub drawn_by : {T E : Type 0} → (r : Result T E) (start state after : ℕ) → OnOk r (new ≡ old ++ drawn_bytes state (e - p)) → OnOk r (len ≡ e) → OnOk r (after ≡ state_after state (e - p))
          → IsDrawnSoFar first steps file start p old state → OnOk r (IsDrawnSoFar first steps file start len new after)
      drawn_by (Ok x) start state after new_is len_is after_is so_far =
          subst (λ n. IsDrawnSoFar first steps file start n new after) (end ∙ sym len_is)
          (subst (λ l. IsDrawnSoFar first steps file start (p + (e - p)) l after) (sym new_is)
          (subst (λ s. IsDrawnSoFar first steps file start (p + (e - p)) (old ++ drawn_bytes state (e - p)) s) (sym after_is)
          (drawn-torn start p (e - p) old state so_far (λ i from low. torn i from (omega arith)))))
      drawn_by (Err x) start state after new_is len_is after_is so_far = tt

    module _ (whole : (i : ℕ) → p ≤ i → i < e → is_unstable first steps file i ≡ false) where
      fits : e ≤ length (stable first steps file)
      fits = let last = within-stable (e - 1) (whole (e - 1) (omega arith) (omega arith)) in omega arith

      pub stable_by : {T E : Type 0} → (r : Result T E) (byte : ℕ → ℕ) → OnOk r (new ≡ old ++ take (e - p) (drop p (stable first steps file))) → OnOk r (len ≡ e)
          → old ≡ pictured first steps file p byte → OnOk r (new ≡ pictured first steps file len byte)
      stable_by (Ok x) byte new_is len_is is =
          new_is ∙ pictured-whole p (e - p) (λ i from low. whole i from (omega arith)) (omega (arith, fits)) byte old is
          ∙ ap (λ n. pictured first steps file n byte) (end ∙ sym len_is)
      stable_by (Err x) byte new_is len_is is = tt

      pub undrawn_by : {T E : Type 0} → (r : Result T E) (start state : ℕ) → OnOk r (new ≡ old ++ take (e - p) (drop p (stable first steps file))) → OnOk r (len ≡ e)
          → IsDrawnSoFar first steps file start p old state → OnOk r (IsDrawnSoFar first steps file start len new state)
      undrawn_by (Ok x) start state new_is len_is so_far =
          subst (λ n. IsDrawnSoFar first steps file start n new state) (end ∙ sym len_is)
          (subst (λ l. IsDrawnSoFar first steps file start (p + (e - p)) l state) (sym new_is)
          (drawn-whole start p (e - p) old state so_far (λ i from low. whole i from (omega arith)) (omega (arith, fits))))
      undrawn_by (Err x) start state new_is len_is so_far = tt
