use Rattle.std.proofs.Common.{◌≡◌, ℕ, List, length, map, take, true}
use Rattle.std.specs.Prelude.{slice_index}
use Rattle.std.specs.List.{All}
use Rattle.spec_points.specs.Agree.{among}
use Rattle.spec_points.specs.Answer.{coordinate}
use Rattle.forest_audit.proofs.views.dimensions.Given as goal

-- the first attributes stand in these dimensions
abbrev pub invariant-loop-place : goal.invariant-loop-place
invariant-loop-place l = record {
  many : length l.dims.items ≡ l.place;
  all : All (λ a. among l.fine a ≡ true) (take l.place l.coarse);
  place : (place : List ℕ) → length place ≡ 8 → map (coordinate l.fine place) (take l.place l.coarse) ≡ map (λ d. slice_index place d) l.dims.items;
}
