use Rattle.std.proofs.Common.{rules, ◌≡◌, ◌<◌, ℕ, List, All, true, false, length, map, ap, sym, ◌∙◌, subst, true≢false}
use Rattle.std.specs.List.{list_all}
use Rattle.std.proofs.lemmas.Result.{err_from_is_err_and}
use Rattle.fact_model.specs.declared.slice.Row.{Row}
use Rattle.fact_model.specs.Value.{Key}
use Rattle.spec_points.specs.Answer.{row_from}
use Rattle.slice_rows.specs.Grouped.{AllJoin, HasForm, by_key, cells_of, has_values, keyed}
use Rattle.slice_rows.proofs.KeyRows.{declared, formed}
use Rattle.slice_rows.proofs.group_rows.rows_by.Goals as goal

pub new-requires : goal.new-requires
new-requires c = declared (length c.args.names.now.kinds) c.args.view.now c.args.slice.now.group c.requires.declared c.requires.group

pub all_known-requires : goal.all_known-requires
all_known-requires c = subst (λ (group : List ℕ). All (λ a. a < length c.args.names.now.kinds) group) (sym c.as_slice-group.ensures)
    (declared (length c.args.names.now.kinds) c.args.view.now c.args.slice.now.group c.requires.declared c.requires.group)

pub joined_points-requires : goal.joined_points-requires
joined_points-requires c = subst (λ (group : List ℕ). All (λ a. a < length c.args.names.now.kinds) group) (sym c.as_slice-group.ensures)
    (declared (length c.args.names.now.kinds) c.args.view.now c.args.slice.now.group c.requires.declared c.requires.group)

-- ---- a coordinate without a value

pub returns-then-not-all_known-clause-damaged : goal.returns-then-not-all_known-clause-damaged
returns-then-not-all_known-clause-damaged c = λ is sound.
    let b = c.args.names.now in
    let group = c.args.slice.now.group in
    let unknown : c.all_known.result ≡ false = search rules in
    let known = ap (λ (g : List ℕ). list_all (has_values b c.args.view.now g) c.args.points) c.as_slice-group.ensures ∙ sound.values in
    true≢false (sym known ∙ (sym c.all_known.ensures ∙ unknown))

-- ---- cells that do not join

pub returns-in_err-joined-clause-damaged : goal.returns-in_err-joined-clause-damaged
returns-in_err-joined-clause-damaged c =
    let b = c.args.names.now in
    let view = c.args.view.now in
    let es = c.args.points in
    let p = err_from_is_err_and c.from_residual.result c.from_residual.ensures.1 in
    rw p.1 (λ is sound. c.in_err-joined.ensures.damaged (sym p.2 ∙ is)
    (subst (λ (g : List ℕ). (k : Key) → AllJoin (cells_of b view g k es)) (sym c.as_slice-group.ensures) sound.cells))

-- ---- rows

pub returns-clause-grouped : goal.returns-clause-grouped
returns-clause-grouped c =
    let b = c.args.names.now in
    let view = c.args.view.now in
    let s = c.args.slice.now in
    let joined = c.in_ok-joined.joined in
    let groups = subst (λ (g : List ℕ). map (keyed b view g) joined ≡ by_key b view g c.args.points) c.as_slice-group.ensures c.in_ok-joined.ensures.joined in
    c.new.ensures ∙ ap (map (row_from s.columns)) groups

pub returns-clause-sound : goal.returns-clause-sound
returns-clause-sound c =
    let b = c.args.names.now in
    let view = c.args.view.now in
    let es = c.args.points in
    let known : c.all_known.result ≡ true = search rules in
    record {
      values = sym (ap (λ (g : List ℕ). list_all (has_values b view g) es) c.as_slice-group.ensures) ∙ (sym c.all_known.ensures ∙ known);
      cells = subst (λ (g : List ℕ). (k : Key) → AllJoin (cells_of b view g k es)) c.as_slice-group.ensures c.in_ok-joined.ensures.join;
    }

pub returns-clause-form : goal.returns-clause-form
returns-clause-form c =
    let b = c.args.names.now in
    let view = c.args.view.now in
    let s = c.args.slice.now in
    subst (λ (rows : List Row). All (HasForm b s) rows) (sym (returns-clause-grouped c)) (formed b view s c.args.points (returns-clause-sound c).values)
