-- A point that one coordinate keeps out of the region is passed by.
use Rattle.std.proofs.Common.{◌≡◌, ◌<◌, ◌+◌, ◌*◌, ◌++◌, ◌∙◌, ℕ, List, false, inl, inr, drop, filter, get_or, length, take, refl, sym, ap}
use Rattle.std.proofs.lemmas.Bool.{cases_Bool}
use Rattle.cube_point.specs.Boxes.{IsInside}
use Rattle.cube_point.specs.declared.bounds.Region.{Region}
use Rattle.cube_point.specs.declared.point.Entry.{Entry}
use Rattle.cube_point.specs.declared.point.Shape.{Shape}
use Rattle.page_entry.specs.Bytes.{entry_size}
use Rattle.page_entry.specs.Entries.{entries, entry_of, page_arity, page_count, point_of}
use Rattle.page_entry.proofs.Loops.{entry-read}
use Rattle.range_scan.specs.Meeting.{is_inside}
use Rattle.range_scan.proofs.Lists.{skips}
use Rattle.range_scan.proofs.Tests.{inside-told}

module _ (shape : Shape) (region : Region) (b : List ℕ) (i at : ℕ) (lt : i < page_count b) (low : i < length (entries shape b)) (at-is : at ≡ 8 + i * entry_size (page_arity b) shape)
    (out : IsInside (point_of shape.wide (page_arity b) (drop at b)) region → ⊥) where
  abbrev read : Entry
  read = entry_of (page_arity b) shape (drop at b)

  there : read ≡ get_or (entries shape b) i read
  there = ap (λ (k : ℕ). entry_of (page_arity b) shape (drop k b)) at-is ∙ sym (entry-read shape b i read lt)

  outside : is_inside region read ≡ false
  outside = elim (cases_Bool (is_inside region read)) [
    | inl told ↦ absurd (out (inside-told region read told))
    | inr fails ↦ fails
  ]

  pub passed : (es : List Entry) → es ++ filter (is_inside region) (take i (entries shape b)) ≡ es ++ filter (is_inside region) (take (i + 1) (entries shape b))
  passed es = skips (is_inside region) (entries shape b) i read es (es ++ filter (is_inside region) (take i (entries shape b))) low there outside refl
