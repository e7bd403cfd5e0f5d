-- The rows of sorted points are in the order of the view.
use Rattle.std.proofs.Common.{◌≡◌, ◌≤◌, ◌^◌, ℕ, Bool, List, map, length, Result, Ok, Err, refl, ◌∙◌, ap, arith}
use Rattle.std.specs.Prelude.{IfOk}
use Rattle.std.specs.List.{range_with_len}
use Rattle.std.specs.Ordering.{is_eq}
use Rattle.std.proofs.lemmas.List.FromFn.{length-map-range_with_len}
use Rattle.fact_model.specs.declared.memory.Memory.{Memory}
use Rattle.cube_point.specs.Points.{comes_before, point_cmp}
use Rattle.delta_agg.specs.declared.placed.Placed.{Placed}
use Rattle.delta_agg.specs.declared.runs.Runs.{Runs}
use Rattle.delta_agg.specs.Keys.{IsSortedOut}
use Rattle.delta_agg.specs.Placed.{no_placed, placed_at}
use Rattle.delta_agg.specs.Rows.{IsOrdered}
use Rattle.delta_agg.proofs.Ordered.{rows-ordered}

abbrev before : Placed → Placed → Bool
before p q = comes_before p.point q.point

abbrev same : Placed → Placed → Bool
same p q = is_eq (point_cmp p.point.at q.point.at)

module _ (view : List ℕ) (coded : List (List ℕ)) (made placed : List Placed) (are : made ≡ map (placed_at view coded) (range_with_len 0 (length coded))) (lent : placed ≡ made) where
  -- no more of them than rows
  pub few-placed : length coded ≤ 2 ^ 18 → length placed ≤ 2 ^ 18
  few-placed rows = omega (arith, rows, ap length (lent ∙ are), length-map-range_with_len (placed_at view coded) 0 (length coded))

  pub points-ordered : (result : Result Runs Memory) → IfOk result (λ runs. IsSortedOut (λ (p : Placed). p.row) before same placed runs.order runs.cuts)
      → IfOk result (λ runs. IsOrdered view coded runs.order runs.cuts)
  points-ordered (Err stop) out = tt
  points-ordered (Ok runs) out =
      rows-ordered (placed_at view coded) (λ (p : Placed). p.row) (length coded) placed out.sorted (lent ∙ are) out.moved (λ i low. refl) view coded refl
      before same no_placed out.up (λ i j low other less. less) (λ i j low other. refl) runs.order runs.cuts out.rows (out.cut no_placed)
