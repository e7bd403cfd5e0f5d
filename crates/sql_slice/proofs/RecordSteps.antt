-- Items appended to a row, one by one.
use Rattle.std.proofs.Common.{◌≡◌, ℕ, ◌+◌, ◌<◌, List, [], ◌∷◌, ◌++◌, drop, map, take, length, get_or, ℤ, refl, sym, ◌∙◌, ap, append_assoc, append-nil}
use Rattle.std.specs.Prelude.{IfOk, Result, Ok, Err}
use Rattle.std.specs.Fmt.{signed_decimal}
use Rattle.std.proofs.lemmas.List.{at_drop_more, take_more, map-append}
use Rattle.csv_text.specs.Rows.{Written, rows_text, with_end, with_field, with_fields, with_rows}
use Rattle.fact_model.specs.declared.slice.Column.{Column}
use Rattle.fact_model.specs.Value.{Key}
use Rattle.sql_lang.specs.declared.query.Item.{Item}
use Rattle.sql_lang.specs.declared.query.Item.TheVariants as item
use Rattle.sql_slice.specs.declared.fold.Group.{Group}
use Rattle.sql_lang.specs.declared.query.Query.{Query}
use Rattle.sql_slice.specs.Folding.{entry_in, laid_group}
use Rattle.sql_slice.specs.RowFold.{laid, laid_entry}
use Rattle.sql_slice.specs.SqlRows.{found_text, records_text, value_in}

-- a field more, and then the others
pub field-more : (w : Written) (f : List ℕ) (fs : List (List ℕ)) → with_fields (with_field w f) fs ≡ with_fields w (f ∷ fs)
field-more w f fs = (λ i. record { text = w.text; fields = append_assoc w.fields (f ∷ []) fs i })

module _ (group : List ℕ) (items : List Item) (key : Key) (i : ℕ) (x : Item) (low : i < length items) (is : x ≡ get_or items i x) where
  at-item : (ns : List ℤ) → laid group (drop i items) key ns ≡ laid group (x ∷ drop (i + 1) items) key ns
  at-item ns = at_drop_more (λ xs. laid group xs key ns) items i x low ∙ ap (λ (y : Item). laid group (y ∷ drop (i + 1) items) key ns) (sym is)

  -- behind an attribute
  pub attr-behind : (old new : Written) (a : ℕ) (ns : List ℤ) → x ≡ item.Attr a → new ≡ with_field old (found_text (value_in group key a))
      → with_fields new (laid group (drop (i + 1) items) key ns) ≡ with_fields old (laid group (drop i items) key ns)
  attr-behind old new a ns here pushed =
      ap (λ w. with_fields w (laid group (drop (i + 1) items) key ns)) pushed
      ∙ field-more old (found_text (value_in group key a)) (laid group (drop (i + 1) items) key ns)
      ∙ ap (with_fields old) (sym (at-item ns ∙ ap (λ (y : Item). laid group (y ∷ drop (i + 1) items) key ns) here))

  -- behind a column
  pub number-behind : (old new : Written) (c : Column) (n : ℤ) (ns : List ℤ) → x ≡ item.Column c → new ≡ with_field old (signed_decimal n)
      → with_fields new (laid group (drop (i + 1) items) key ns) ≡ with_fields old (laid group (drop i items) key (n ∷ ns))
  number-behind old new c n ns here pushed =
      ap (λ w. with_fields w (laid group (drop (i + 1) items) key ns)) pushed
      ∙ field-more old (signed_decimal n) (laid group (drop (i + 1) items) key ns)
      ∙ ap (with_fields old) (sym (at-item (n ∷ ns) ∙ ap (λ (y : Item). laid group (y ∷ drop (i + 1) items) key (n ∷ ns)) here))

  pub nothing-behind : (old new : Written) (c : Column) → x ≡ item.Column c → new ≡ with_field old []
      → with_fields new (laid group (drop (i + 1) items) key []) ≡ with_fields old (laid group (drop i items) key [])
  nothing-behind old new c here pushed =
      ap (λ w. with_fields w (laid group (drop (i + 1) items) key [])) pushed
      ∙ field-more old [] (laid group (drop (i + 1) items) key [])
      ∙ ap (with_fields old) (sym (at-item [] ∙ ap (λ (y : Item). laid group (y ∷ drop (i + 1) items) key []) here))

-- ---- rows

-- a row as text
abbrev line : List (List ℕ) → List ℕ
line row = (with_end (record { text = []; fields = row })).text

rows-more : (rows : List (List (List ℕ))) (row : List (List ℕ)) → rows_text rows ++ line row ≡ rows_text (rows ++ row ∷ [])
rows-more [] row = sym (append-nil (line row))
rows-more (r ∷ rows) row = append_assoc (line r) (rows_text rows) (line row) ∙ ap (λ text. line r ++ text) (rows-more rows row)

-- a row more was written
pub one-more : (start old new : Written) (rows : List (List (List ℕ))) (row : List (List ℕ)) → old ≡ with_rows start rows → start.fields ≡ [] → new ≡ with_end (with_fields old row)
    → new ≡ with_rows start (rows ++ row ∷ [])
one-more start old new rows row before empty is =
    let text = ap (λ fields. (start.text ++ rows_text rows) ++ line (fields ++ row)) empty
    ∙ (append_assoc start.text (rows_text rows) (line row) ∙ ap (λ text. start.text ++ text) (rows-more rows row)) in
    is ∙ (ap (λ (w : Written). with_end (with_fields w row)) before ∙ (λ i. record { text = text i; fields = sym empty i }))

-- the rows of items passed, and of one more
pub rows-of-more : {X : Type 0} (row : X → List (List ℕ)) (xs : List X) (i : ℕ) (x : X) → i < length xs → x ≡ get_or xs i x → map row (take (i + 1) xs) ≡ map row (take i xs) ++ row x ∷ []
rows-of-more row xs i x low is =
    ap (map row) (take_more xs i x low ∙ ap (λ y. take i xs ++ y ∷ []) (sym is))
    ∙ map-append row (take i xs) (x ∷ [])

-- the records of groups are those of their entries
pub laid-groups : (q : Query) (gs : List Group) → map (laid_group q) gs ≡ map (laid_entry q) (map (entry_in (length q.group)) gs)
laid-groups q [] = refl
laid-groups q (g ∷ gs) = ap (λ rs. laid_group q g ∷ rs) (laid-groups q gs)

-- the text of groups is that of their entries
pub text-of-entries : {E : Type 0} (result : Result (List ℕ) E) (q : Query) (gs : List Group) (es : List (Key × List ℤ)) → map (entry_in (length q.group)) gs ≡ es
    → IfOk result (λ text. text ≡ records_text (map (laid_group q) gs)) → IfOk result (λ text. text ≡ records_text (map (laid_entry q) es))
text-of-entries (Ok text) q gs es are is = is ∙ ap records_text (laid-groups q gs ∙ ap (map (laid_entry q)) are)
text-of-entries (Err e) q gs es are is = is
