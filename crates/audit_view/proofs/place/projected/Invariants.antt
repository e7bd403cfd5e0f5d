use Rattle.std.proofs.Common.{◌≡◌, ◌-◌, ◌++◌, map, replicate, take}
use Rattle.std.specs.Prelude.{slice_index}
use Rattle.audit_view.proofs.place.projected.Given as goal

-- the first coordinates are put, and zeros follow
abbrev pub invariant-loop-place : goal.invariant-loop-place
invariant-loop-place l = l.at ≡ map (λ d. slice_index l.entry.point.at d) (take l.place l.dims) ++ replicate (8 - l.place) 0
