-- The text of a record.
use Rattle.std.proofs.Common.{◌≡◌, ℕ, Bool, List, [], ◌∷◌, refl}
use Rattle.csv.specs.Writing.{escaped, field_text, fields_text, is_blank, row_text, with_flexible}
use Rattle.csv.specs.declared.writer.WriterBuilder.{WriterBuilder}

-- a record's text does not depend on whether lengths may differ
module _ (cfg : WriterBuilder) (b : Bool) where
  same_escaped : (xs : List ℕ) → escaped (with_flexible cfg b) xs ≡ escaped cfg xs
  unfolding escaped
  same_escaped [] = refl
  same_escaped (x ∷ xs) = rw (same_escaped xs) refl

  same_field : (xs : List ℕ) → field_text (with_flexible cfg b) xs ≡ field_text cfg xs
  same_field xs = rw (same_escaped xs) refl

  same_fields : (fs : List (List ℕ)) → fields_text (with_flexible cfg b) fs ≡ fields_text cfg fs
  unfolding fields_text
  same_fields [] = refl
  same_fields (f ∷ fs) = rw (same_escaped f, same_fields fs) refl

  same_blank : (fs : List (List ℕ)) → is_blank (with_flexible cfg b) fs ≡ is_blank cfg fs
  unfolding is_blank
  same_blank [] = refl
  same_blank (f ∷ []) = rw (same_escaped f) refl
  same_blank (f ∷ g ∷ fs) = refl

  pub same_row : (fs : List (List ℕ)) → row_text (with_flexible cfg b) fs ≡ row_text cfg fs
  same_row [] = rw (same_blank []) refl
  same_row (f ∷ fs) = rw (same_escaped f, same_fields fs, same_blank (f ∷ fs)) refl
