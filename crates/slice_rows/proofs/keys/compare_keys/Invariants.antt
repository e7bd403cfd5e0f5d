use Rattle.std.proofs.Common.{get_or, ◌≡◌, drop}
use Rattle.fact_model.specs.Value.{key_cmp}
use Rattle.point_groups.specs.Bare.{nowhere}
use Rattle.slice_rows.specs.Grouped.{key_of_entry}
use Rattle.slice_rows.proofs.keys.compare_keys.Given as goal

-- the values passed are equal
abbrev pub invariant-loop-attr : goal.invariant-loop-attr
invariant-loop-attr l =
    key_cmp (key_of_entry l.names l.view (drop l.attr-index l.group) (get_or l.points l.a nowhere)) (key_of_entry l.names l.view (drop l.attr-index l.group) (get_or l.points l.b nowhere))
    ≡ key_cmp (key_of_entry l.names l.view l.group (get_or l.points l.a nowhere)) (key_of_entry l.names l.view l.group (get_or l.points l.b nowhere))
