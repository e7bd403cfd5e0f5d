-- Images, byte by byte.
use Rattle.std.proofs.Common.{◌≡◌, ℕ, ◌+◌, ◌%◌, Bool, true, false, List, [], ◌∷◌, ◌++◌, slice_index, if◌then◌else◌, count_by, sym, ◌∙◌, ap, add-one, arith}
use Rattle.std.specs.List.{range_with_len}
use Rattle.std.proofs.lemmas.List.{map-id}
use Rattle.std.proofs.lemmas.List.FromFn.{map-range_with_len_more}
use Rattle.std.proofs.lemmas.List.Sums.{sum_by_push}
use Rattle.lcg.specs.Draw.{draw, next_state, state_after}
use Rattle.site_core.specs.Disk.{Files}
use Rattle.site_mem.specs.declared.step.Step.{Step}
use Rattle.site_mem.specs.Image.{pictured, unstable_below}
use Rattle.site_mem.specs.Unstable.{stable, is_unstable}

pub state_after-more : (state count : ℕ) → state_after state (count + 1) ≡ next_state (state_after state count)
state_after-more state count = ap (state_after state) (add-one count)

module _ (first : Files) (steps : List Step) (file : ℕ) where
  -- one byte more
  pub pictured-push : (place : ℕ) (byte : ℕ → ℕ) (bytes new : List ℕ) (x : ℕ) → new ≡ bytes ++ x ∷ [] → bytes ≡ pictured first steps file place byte
      → x ≡ (if is_unstable first steps file place then byte place else slice_index (stable first steps file) place) → new ≡ pictured first steps file (place + 1) byte
  pictured-push place byte bytes new x pushed so_far here =
      pushed ∙ ap (λ (l : List ℕ). l ++ x ∷ []) so_far ∙ ap (λ y. pictured first steps file place byte ++ y ∷ []) here
      ∙ sym (map-range_with_len_more (λ i. if is_unstable first steps file i then byte i else slice_index (stable first steps file) i) 0 place place (omega arith))

  range-more : (n : ℕ) → range_with_len 0 (n + 1) ≡ range_with_len 0 n ++ n ∷ []
  range-more n = sym (map-id (range_with_len 0 (n + 1))) ∙ map-range_with_len_more (λ (i : ℕ). i) 0 n n (omega arith) ∙ ap (λ (l : List ℕ). l ++ n ∷ []) (map-id (range_with_len 0 n))

  pub below-more : (place : ℕ) → unstable_below first steps file (place + 1) ≡ unstable_below first steps file place + (if is_unstable first steps file place then 1 else 0)
  below-more place = ap (count_by (is_unstable first steps file)) (range-more place) ∙ sum_by_push (λ i. if is_unstable first steps file i then 1 else 0) (range_with_len 0 place) place

  -- one place more was drawn, or not
  pub state-more : (place start state new : ℕ) → state ≡ state_after start (unstable_below first steps file place + 1)
      → new ≡ (if is_unstable first steps file place then next_state state else state) → new ≡ state_after start (unstable_below first steps file (place + 1) + 1)
  state-more place start state new so_far is = is ∙ by_case (is_unstable first steps file place) ∙ sym (ap (λ n. state_after start (n + 1)) (below-more place)) where
    by_case : (b : Bool) → (if b then next_state state else state) ≡ state_after start (unstable_below first steps file place + (if b then 1 else 0) + 1)
    by_case true = ap next_state so_far ∙ sym (state_after-more start (unstable_below first steps file place + 1))
    by_case false = so_far ∙ ap (λ n. state_after start (n + 1)) (omega arith)

  pub draw-at : (place start state x : ℕ) → state ≡ state_after start (unstable_below first steps file place + 1)
      → x ≡ (if is_unstable first steps file place then draw state % 256 else slice_index (stable first steps file) place)
      → x ≡ (if is_unstable first steps file place then draw (state_after start (unstable_below first steps file place + 1)) % 256 else slice_index (stable first steps file) place)
  draw-at place start state x so_far is = is ∙ ap (λ s. if is_unstable first steps file place then draw s % 256 else slice_index (stable first steps file) place) so_far
