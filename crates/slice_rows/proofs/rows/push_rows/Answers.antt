use Rattle.std.proofs.Common.{get_or, ◌≡◌, ◌<◌, ◌+◌, ℕ, List, [], ◌∷◌, ◌++◌, map, take, length, append-nil, append_assoc, sym, ◌∙◌, ap, arith}
use Rattle.std.proofs.lemmas.List.{map-append, take_more}
use Rattle.csv_text.specs.Rows.{Written, row_fields, rows_text, with_end, with_fields, with_rows}
use Rattle.spec_points.specs.Answer.{row_from}
use Rattle.point_groups.specs.Bare.{nowhere}
use Rattle.slice_rows.specs.Grouped.{keyed}
use Rattle.slice_rows.proofs.rows.push_rows.Goals as goal

-- a row as text
abbrev line : List (List ℕ) → List ℕ
line row = (with_end (record { text = []; fields = row })).text

rows-more : (rows : List (List (List ℕ))) (row : List (List ℕ)) → rows_text rows ++ line row ≡ rows_text (rows ++ row ∷ [])
rows-more [] row = sym (append-nil (line row))
rows-more (r ∷ rows) row = append_assoc (line r) (rows_text rows) (line row) ∙ ap (λ text. line r ++ text) (rows-more rows row)

-- a row more was written
one-more : (start old new : Written) (rows : List (List (List ℕ))) (row : List (List ℕ)) → old ≡ with_rows start rows → start.fields ≡ [] → new ≡ with_end (with_fields old row)
    → new ≡ with_rows start (rows ++ row ∷ [])
one-more start old new rows row before empty is =
    let text = ap (λ fields. (start.text ++ rows_text rows) ++ line (fields ++ row)) empty
    ∙ (append_assoc start.text (rows_text rows) (line row) ∙ ap (λ text. start.text ++ text) (rows-more rows row)) in
    is ∙ (ap (λ (w : Written). with_end (with_fields w row)) before ∙ (λ i. record { text = text i; fields = sym empty i }))

pub loop-place-preserved : goal.loop-place-preserved
loop-place-preserved c =
    let columns = c.args.slice.now.columns in
    let es = c.args.points.now in
    let i = c.loop-place.place in
    let key = keyed c.args.names.now c.args.view.now c.args.slice.now.group in
    let e = get_or c.at-number.result.0.now c.at-number.result.1 nowhere in
    let low : i < length es = omega (arith, c.loop-place-test.true, c.len-place-end.ensures) in
    let next : take (i + 1) es ≡ take i es ++ e ∷ [] = take_more es i e low ∙ ap (λ x. take i es ++ x ∷ []) (sym (c.at-number.ensures e)) in
    let rows = map row_fields (map (row_from columns) (map key (take i es))) in
    one-more c.args.writer.now c.loop-place.writer c.push_row.new.writer rows (row_fields (row_from columns (key e))) c.loop-place.invariant c.requires.between c.in_ok-push_row.ensures.pushed
    ∙ ap (with_rows c.args.writer.now)
    (sym (ap (λ l. map row_fields (map (row_from columns) (map key l))) next
    ∙ (ap (λ l. map row_fields (map (row_from columns) l)) (map-append key (take i es) (e ∷ []))
    ∙ (ap (map row_fields) (map-append (row_from columns) (map key (take i es)) (key e ∷ []))
    ∙ map-append row_fields (map (row_from columns) (map key (take i es))) (row_from columns (key e) ∷ [])))))
