-- Each image is an outcome, and has no file past the fourth.
use Rattle.std.proofs.Common.{◌≡◌, inl, inr, ℕ, ◌+◌, ◌-◌, ◌%◌, ◌<◌, ◌≤◌, false, List, [], ◌∷◌, length, slice_index, if◌then◌else◌, Result, Ok, Err, IfOk, refl, sym, ◌∙◌, ap, subst, arith}
use Rattle.std.proofs.lemmas.List.{get_or_past}
use Rattle.std.proofs.lemmas.List.FromFn.{get_or-map-range_with_len, length-map-range_with_len}
use Rattle.std.proofs.lemmas.Bool.{cases_lt}
use Rattle.std.proofs.lemmas.Nat.{mod_below}
use Rattle.lcg.specs.Draw.{draw}
use Rattle.site_core.specs.Disk.{Files}
use Rattle.site_core.proofs.Files.{with_file-other}
use Rattle.site_mem.specs.declared.step.Step.{Step}
use Rattle.site_mem.specs.declared.step.Step.TheVariants.{Wrote, Tore, Synced, Told, Untold}
use Rattle.site_mem.specs.History.{texts_of, read_after, MayLeave}
use Rattle.site_mem.specs.Image.{pictured, filled_files, drawn_files, drawn_file, drawn_length, state_behind, state_before}
use Rattle.site_mem.specs.Unstable.{stable_after, reach, stable, is_unstable, full_length, IsOutcome}
use Rattle.site_mem.proofs.Arrays.{texts_of-four}
use Rattle.site_mem.proofs.Outcomes.{may_leave, range_end-other}

-- past the fourth file
module _ (first : Files) (none : (file : ℕ) → 4 ≤ file → first file ≡ []) where
  pub read-past : (steps : List Step) (file : ℕ) → 4 ≤ file → read_after first steps file ≡ []
  read-past [] file high = none file high
  read-past (Wrote r ∷ earlier) file high = let low = r.within in with_file-other (read_after first earlier) r.file _ file (λ same. absurd (omega arith)) ∙ read-past earlier file high
  read-past (Tore r ∷ earlier) file high = read-past earlier file high
  read-past (Synced ∷ earlier) file high = read-past earlier file high
  read-past (Told bytes ∷ earlier) file high = read-past earlier file high
  read-past (Untold bytes ∷ earlier) file high = read-past earlier file high

  pub stable-past : (steps : List Step) (file : ℕ) → 4 ≤ file → stable_after first steps file ≡ []
  stable-past [] file high = none file high
  stable-past (Wrote r ∷ earlier) file high = stable-past earlier file high
  stable-past (Tore r ∷ earlier) file high = stable-past earlier file high
  stable-past (Synced ∷ earlier) file high = read-past earlier file high
  stable-past (Told bytes ∷ earlier) file high = stable-past earlier file high
  stable-past (Untold bytes ∷ earlier) file high = stable-past earlier file high

  reach-past : (steps : List Step) (file : ℕ) → 4 ≤ file → reach steps file ≡ 0
  reach-past [] file high = refl
  reach-past (Wrote r ∷ earlier) file high = let low = r.within in let before = reach-past earlier file high in let here = range_end-other r file (λ same. absurd (omega arith)) in omega arith
  reach-past (Tore r ∷ earlier) file high = let low = r.within in let before = reach-past earlier file high in let here = range_end-other r file (λ same. absurd (omega arith)) in omega arith
  reach-past (Synced ∷ earlier) file high = refl
  reach-past (Told bytes ∷ earlier) file high = let before = reach-past earlier file high in omega arith
  reach-past (Untold bytes ∷ earlier) file high = let before = reach-past earlier file high in omega arith

  full-past : (steps : List Step) (file : ℕ) → 4 ≤ file → full_length first steps file ≡ 0
  full-past steps file high = omega (arith, ap length (stable-past steps file high), reach-past steps file high)

  pictured-past : (steps : List Step) (file len : ℕ) (byte : ℕ → ℕ) → len ≡ 0 → pictured first steps file len byte ≡ []
  pictured-past steps file len byte zero_is = ap (λ n. pictured first steps file n byte) zero_is

  pub filled-past : (steps : List Step) (byte file : ℕ) → 4 ≤ file → filled_files first steps byte file ≡ []
  filled-past steps byte file high = pictured-past steps file (full_length first steps file) (λ i. byte) (full-past steps file high)

-- the drawn length is one between the two
module _ (first : Files) (steps : List Step) (file state : ℕ) where
  growth : draw state % (full_length first steps file - length (stable first steps file) + 1) < full_length first steps file - length (stable first steps file) + 1
  growth = mod_below (draw state) (full_length first steps file - length (stable first steps file) + 1) (omega arith)

  drawn-no_shorter : length (stable first steps file) ≤ drawn_length first steps file state
  drawn-no_shorter = omega arith

  drawn-no_longer : drawn_length first steps file state ≤ full_length first steps file
  drawn-no_longer = omega (arith, growth)

module _ (first : Files) (none : (file : ℕ) → 4 ≤ file → first file ≡ []) where
  pub drawn-past : (steps : List Step) (choice file : ℕ) → 4 ≤ file → drawn_files first steps choice file ≡ []
  drawn-past steps choice file high = pictured-past first none steps file (drawn_length first steps file (state_before first steps choice file)) _ (omega (arith, drawn-no_longer first steps file (state_before first steps choice file), full-past first none steps file high))

-- outcomes
module _ (first : Files) (steps : List Step) (len : ℕ → ℕ) (byte : ℕ → ℕ → ℕ)
    (no_shorter : (file : ℕ) → length (stable first steps file) ≤ len file) (no_longer : (file : ℕ) → len file ≤ full_length first steps file)
  where
    length-pictured : (file : ℕ) → length (pictured first steps file (len file) (byte file)) ≡ len file
    length-pictured file = length-map-range_with_len (λ i. if is_unstable first steps file i then byte file i else slice_index (stable first steps file) i) 0 (len file)

    kept : (file i : ℕ) → is_unstable first steps file i ≡ false → slice_index (pictured first steps file (len file) (byte file)) i ≡ slice_index (stable first steps file) i
    kept file i whole = elim (cases_lt i (len file)) [
      | inl low ↦ get_or-map-range_with_len (λ i. if is_unstable first steps file i then byte file i else slice_index (stable first steps file) i) 0 (len file) i i 0 low (omega arith)
          ∙ ap (λ b. if b then byte file i else slice_index (stable first steps file) i) whole
      | inr high ↦ get_or_past (pictured first steps file (len file) (byte file)) i 0 (omega (arith, length-pictured file)) ∙ sym (get_or_past (stable first steps file) i 0 (omega (arith, no_shorter file)))
    ]

    outcome-pictured : IsOutcome first steps (λ file. pictured first steps file (len file) (byte file))
    outcome-pictured = record {
      no_shorter = λ file. omega (arith, length-pictured file, no_shorter file);
      no_longer = λ file. omega (arith, length-pictured file, no_longer file);
      kept = kept;
    }

module _ (first : Files) (steps : List Step) where
  pub may_leave-stable : MayLeave first steps (stable_after first steps)
  may_leave-stable = may_leave first steps (stable_after first steps) (record { no_shorter = λ file. omega arith; no_longer = λ file. omega arith; kept = λ file i whole. refl })

  pub may_leave-filled : (byte : ℕ) → MayLeave first steps (filled_files first steps byte)
  may_leave-filled byte = may_leave first steps (filled_files first steps byte) (outcome-pictured first steps (full_length first steps) (λ file i. byte) (λ file. omega arith) (λ file. omega arith))

  pub may_leave-drawn : (choice : ℕ) → MayLeave first steps (drawn_files first steps choice)
  may_leave-drawn choice = may_leave first steps (drawn_files first steps choice)
      (outcome-pictured first steps (λ file. drawn_length first steps file (state_before first steps choice file)) _
      (λ file. drawn-no_shorter first steps file (state_before first steps choice file)) (λ file. drawn-no_longer first steps file (state_before first steps choice file)))

  -- four texts that are these files
  pub left_if : {E : Type 0} (files : Files) → MayLeave first steps files → (r : Result (List (List ℕ)) E) → IfOk r (λ texts. texts_of texts ≡ files) → IfOk r (λ texts. MayLeave first steps (texts_of texts))
  left_if files left (Ok texts) is = subst (MayLeave first steps) (sym is) left
  left_if files left (Err e) is = tt

  -- the state goes from file to file
  pub drawn-four : ((file : ℕ) → 4 ≤ file → first file ≡ []) → (choice s1 s2 s3 : ℕ) (a b c d : List ℕ)
      → a ≡ drawn_file first steps 0 choice → s1 ≡ state_behind first steps 0 choice → b ≡ drawn_file first steps 1 s1 → s2 ≡ state_behind first steps 1 s1
      → c ≡ drawn_file first steps 2 s2 → s3 ≡ state_behind first steps 2 s2 → d ≡ drawn_file first steps 3 s3 → texts_of (a ∷ b ∷ c ∷ d ∷ []) ≡ drawn_files first steps choice
  drawn-four none choice s1 s2 s3 a b c d a_is s1_is b_is s2_is c_is s3_is d_is =
      let at1 : s1 ≡ state_before first steps choice 1 = s1_is in
      let at2 : s2 ≡ state_before first steps choice 2 = s2_is ∙ ap (state_behind first steps 1) at1 in
      let at3 : s3 ≡ state_before first steps choice 3 = s3_is ∙ ap (state_behind first steps 2) at2 in
      texts_of-four (drawn_files first steps choice) (drawn-past first none steps choice) a b c d
      a_is (b_is ∙ ap (drawn_file first steps 1) at1) (c_is ∙ ap (drawn_file first steps 2) at2) (d_is ∙ ap (drawn_file first steps 3) at3)
