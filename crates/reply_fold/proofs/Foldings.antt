-- One row more in the order of keys, folded and written.
use Rattle.std.proofs.Common.{◌≡◌, ℕ, ◌+◌, true, false, List, [], ◌∷◌, ◌++◌, map, length, ℤ, sym, ◌∙◌, ap, append-nil, append_assoc, arith, length-append}
use Rattle.std.specs.Ordering.{is_eq}
use Rattle.std.proofs.lemmas.List.{length-map}
use Rattle.csv.specs.Writing.{default_writer, row_text}
use Rattle.csv_text.specs.Rows.{Written, row_fields, rows_text, with_count, with_end, with_fields}
use Rattle.fact_model.specs.declared.slice.Column.{Column}
use Rattle.fact_model.specs.declared.slice.Row.{Row}
use Rattle.fact_model.specs.Rows.{as_row}
use Rattle.fact_model.specs.Value.{Key, key_cmp}
use Rattle.fact_model.proofs.ValueOrder.{key_cmp-IsAntisymmetric}
use Rattle.reply_text.specs.Replies.{answer_text}
use Rattle.row_fold.specs.Joins.{join_numbers}
use Rattle.row_fold.proofs.NumberJoins.{numbers-assoc, numbers-comm}
use Rattle.row_fold.proofs.Squeezes.{squeezed-other, squeezed-same}
use Rattle.reply_fold.specs.Folding.{Makes, entry_at, head_of, neighbours}
use Rattle.reply_fold.specs.Order.{row_at}
use Rattle.reply_fold.specs.declared.folding.Folding.{Folding}

-- ---- the text

-- an entry as text
abbrev line : Key × List ℤ → List ℕ
line e = row_text default_writer (row_fields (as_row e))

abbrev lines : List (Key × List ℤ) → List ℕ
lines es = rows_text (map row_fields (map as_row es))

lines-more : (done : List (Key × List ℤ)) (e : Key × List ℤ) → lines done ++ line e ≡ lines (done ++ e ∷ [])
lines-more [] e = sym (append-nil (line e))
lines-more (d ∷ done) e = append_assoc (line d) (lines done) (line e) ∙ ap (λ text. line d ++ text) (lines-more done e)

written-more : (old new : Written) (done : List (Key × List ℤ)) (e : Key × List ℤ) → old ≡ record { text = lines done; fields = [] } → new ≡ with_end (with_fields old (row_fields (as_row e)))
    → new ≡ record { text = lines (done ++ e ∷ []); fields = [] }
written-more old new done e before is =
    is ∙ (ap (λ (w : Written). with_end (with_fields w (row_fields (as_row e)))) before ∙ (λ i. record { text = lines-more done e i; fields = [] }))

more : (done : List (Key × List ℤ)) (e : Key × List ℤ) (old new : ℕ) → old ≡ length done → new ≡ old + 1 → new ≡ length (done ++ e ∷ [])
more done e old new was is = (let all = length-append done (e ∷ []) in omega arith)

-- ---- one row more

module _ (cs : List Column) (rows : List Row) (old new : Folding) (at : ℕ) (es whole : List (Key × List ℤ)) where
  abbrev head : Key × List ℤ
  head = head_of rows old

  abbrev next : Key × List ℤ
  next = entry_at rows at

  -- a row of the last key
  pub makes-same : is_eq (key_cmp head.0 next.0) ≡ true → new.writer ≡ old.writer → new.count ≡ old.count → new.head ≡ old.head
      → new.sums.items ≡ join_numbers cs (row_at rows at).numbers old.sums.items → Makes cs rows old (next ∷ es) whole → Makes cs rows new es whole
  makes-same same writer count place sums m =
      let joined : head_of rows new ≡ (head.0, join_numbers cs head.1 next.1) = λ i. ((row_at rows (place i)).key, (sums ∙ numbers-comm cs next.1 head.1) i) in
      record {
        done = m.done;
        written = writer ∙ m.written;
        count = count ∙ m.count;
        goes =
            ap (λ e. m.done ++ neighbours cs (e ∷ es)) joined
            ∙ (ap (λ xs. m.done ++ xs) (sym (squeezed-same key_cmp key_cmp-IsAntisymmetric (join_numbers cs) (numbers-assoc cs) head next es same)) ∙ m.goes);
      }

  -- a row of another key
  pub makes-other : is_eq (key_cmp head.0 next.0) ≡ false → new.writer ≡ with_end (with_fields old.writer (row_fields (as_row head))) → new.count ≡ old.count + 1 → new.head ≡ at
      → new.sums.items ≡ (row_at rows at).numbers → Makes cs rows old (next ∷ es) whole → Makes cs rows new es whole
  makes-other other writer count place sums m =
      let first : head_of rows new ≡ next = λ i. ((row_at rows (place i)).key, sums i) in
      record {
        done = m.done ++ head ∷ [];
        written = written-more old.writer new.writer m.done head m.written writer;
        count = more m.done head old.count new.count m.count count;
        goes =
            ap (λ e. (m.done ++ head ∷ []) ++ neighbours cs (e ∷ es)) first
            ∙ (append_assoc m.done (head ∷ []) (neighbours cs (next ∷ es))
            ∙ (ap (λ xs. m.done ++ xs) (sym (squeezed-other key_cmp key_cmp-IsAntisymmetric (join_numbers cs) (numbers-assoc cs) head next es other)) ∙ m.goes));
      }

-- the first row
pub makes-first : (cs : List Column) (rows : List Row) (f : Folding) (at : ℕ) (es : List (Key × List ℤ)) → f.writer ≡ record { text = []; fields = [] } → f.count ≡ 0 → f.head ≡ at
    → f.sums.items ≡ (row_at rows at).numbers → Makes cs rows f es (neighbours cs (entry_at rows at ∷ es))
makes-first cs rows f at es writer count place sums = record {
  done = [];
  written = writer;
  count = count;
  goes = λ i. neighbours cs (((row_at rows (place i)).key, sums i) ∷ es);
}

-- the last row, and the number of all
pub makes-last : (cs : List Column) (rows : List Row) (f : Folding) (whole : List (Key × List ℤ)) (writer : Written) (count : ℕ) (text : List ℕ) → Makes cs rows f [] whole
    → writer ≡ with_end (with_fields f.writer (row_fields (as_row (head_of rows f)))) → count ≡ f.count + 1 → text ≡ with_count writer.text count → text ≡ answer_text (map as_row whole)
makes-last cs rows f whole writer count text m is counted told =
    let all : List (Key × List ℤ) = m.done ++ head_of rows f ∷ [] in
    let lines : writer ≡ record { text = lines all; fields = [] } = written-more f.writer writer m.done (head_of rows f) m.written is in
    let long : count ≡ length (map as_row all) = more m.done (head_of rows f) f.count count m.count counted ∙ sym (length-map all as_row) in
    told ∙ ((λ i. with_count (lines i).text (long i)) ∙ ap (λ (es : List (Key × List ℤ)). answer_text (map as_row es)) m.goes)
