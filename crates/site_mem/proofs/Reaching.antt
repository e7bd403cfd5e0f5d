-- What a stop may leave at least, after each step of a history.
use Rattle.std.proofs.Common.{◌≡◌, inl, inr, ℕ, List, ◌++◌, length, take, refl, sym, subst, arith}
use Rattle.site_core.specs.Disk.{Files, Torn}
use Rattle.site_core.proofs.Files.{Torn-refl}
use Rattle.site_mem.specs.declared.step.Range.{Range}
use Rattle.site_mem.specs.declared.step.Step.{Step}
use Rattle.site_mem.specs.declared.step.Step.TheVariants.{Wrote, Tore, Told, Untold}
use Rattle.site_mem.specs.Fields.{Notes, NotesBytes}
use Rattle.site_mem.specs.History.{read_after, MayLeave, disk_of}
use Rattle.site_mem.specs.Tape.{LeavesAsBefore, ReachesTorn, ReachesPrefixes}

module _ (first : Files) (steps new : List Step) where
  pub leaves_stood : new ≡ steps → LeavesAsBefore (disk_of first steps) (disk_of first new)
  leaves_stood same d left = subst (λ n. MayLeave first n d) (sym same) left

  -- a write leaves also what it left before
  pub leaves_torn : (file at : ℕ) (bytes : List ℕ) → ReachesTorn file at bytes (disk_of first steps) (disk_of first new) → LeavesAsBefore (disk_of first steps) (disk_of first new)
  leaves_torn file at bytes reaches d left = reaches.each d d left (Torn-refl file at (length bytes) (length (read_after first steps file)) d)

  torn_by : (file at : ℕ) (bytes : List ℕ) (r : Range) → r.file ≡ file → r.at ≡ at → r.bytes ≡ bytes
      → (d c : Files) → Torn file at (length bytes) (length (read_after first steps file)) d c → Torn r.file r.at (length r.bytes) (length (read_after first steps r.file)) d c
  torn_by file at bytes r file_is at_is bytes_is d c torn =
      subst (λ f. Torn f r.at (length r.bytes) (length (read_after first steps f)) d c) (sym file_is)
      (subst (λ a. Torn file a (length r.bytes) (length (read_after first steps file)) d c) (sym at_is)
      (subst (λ b. Torn file at (length b) (length (read_after first steps file)) d c) (sym bytes_is) torn))

  pub reaches_wrote : (file at : ℕ) (bytes : List ℕ) → Notes Wrote file at bytes steps new → ReachesTorn file at bytes (disk_of first steps) (disk_of first new)
  reaches_wrote file at bytes is = record {
    each = λ d c left torn. subst (λ n. MayLeave first n c) (sym is.2) (d, left, torn_by file at bytes is.0 is.1.0 is.1.1 is.1.2 d c torn);
  }

  pub reaches_tore : (file at : ℕ) (bytes : List ℕ) → Notes Tore file at bytes steps new → ReachesTorn file at bytes (disk_of first steps) (disk_of first new)
  reaches_tore file at bytes is = record {
    each = λ d c left torn. subst (λ n. MayLeave first n c) (sym is.2) (d, left, torn_by file at bytes is.0 is.1.0 is.1.1 is.1.2 d c torn);
  }

  pub leaves_told : (bytes : List ℕ) → NotesBytes Told bytes steps new → LeavesAsBefore (disk_of first steps) (disk_of first new)
  leaves_told bytes is d left = subst (λ n. MayLeave first n d) (sym is) left

  pub leaves_untold : (bytes : List ℕ) → NotesBytes Untold bytes steps new → LeavesAsBefore (disk_of first steps) (disk_of first new)
  leaves_untold bytes is d left = subst (λ n. MayLeave first n d) (sym is) left

  pub reaches_told : (bytes : List ℕ) → NotesBytes Told bytes steps new → ReachesPrefixes bytes (disk_of first steps) (disk_of first new)
  reaches_told bytes is = record {
    each = λ k d left.
        subst (λ n. (disk_of first n).left_since (length steps) ((disk_of first steps).told ++ take k bytes) d) (sym is) (inr (inl (omega arith, ((k, refl), left))));
  }

  pub reaches_untold : (bytes : List ℕ) → NotesBytes Untold bytes steps new → ReachesPrefixes bytes (disk_of first steps) (disk_of first new)
  reaches_untold bytes is = record {
    each = λ k d left.
        subst (λ n. (disk_of first n).left_since (length steps) ((disk_of first steps).told ++ take k bytes) d) (sym is) (inr (inl (omega arith, ((k, refl), left))));
  }
