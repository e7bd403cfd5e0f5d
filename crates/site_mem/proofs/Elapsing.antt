-- What each step of a history makes of the moments.
use Rattle.std.proofs.Common.{◌≡◌, inl, inr, ℕ, List, [], ◌∷◌, ◌++◌, length, reverse, refl, sym, ap, subst, arith, append-nil, Result, Ok, Err, OnOk, OnErr, ◌∙◌}
use Rattle.std.proofs.lemmas.List.{take_all, reverse-append}
use Rattle.site_core.specs.Disk.{Files, Disk, Torn}
use Rattle.site_core.specs.Calls.{Rests, Writes, Emits, TellsNothing, TellsFront, Stays}
use Rattle.site_core.specs.Moments.{After, Elapses}
use Rattle.site_core.proofs.Files.{Torn-refl, Torn-overwritten}
use Rattle.site_core.proofs.Run.{GoesOn-refl}
use Rattle.site_mem.specs.declared.step.Range.{Range}
use Rattle.site_mem.specs.declared.step.Step.{Step}
use Rattle.site_mem.specs.declared.step.Step.TheVariants.{Wrote, Tore, Synced, Told, Untold}
use Rattle.site_mem.specs.Fields.{Notes, NotesBytes}
use Rattle.site_mem.specs.History.{read_after, told_after, MayLeave, Inside, disk_of}
use Rattle.site_mem.specs.Laws.{read_now}

-- nothing is recorded
pub stands : (tells : List ℕ → List ℕ → Type 0) (step : Files → Files → Type 0) → ((files : Files) → step files files) → (disk : Disk) → Elapses tells step disk disk
stands tells step same disk = record { clock = GoesOn-refl disk; now = λ files left. (files, left, same files); since = λ t told files le left. inl left }

-- one step more, which tells by `tells` and changes files by `changes`
module _ (first : Files) (steps : List Step) (step : Step) (tells : List ℕ → List ℕ → Type 0) (changes : Files → Files → Type 0)
    (inside : (told : List ℕ) (files : Files) → Inside first step steps told files → tells (told_after steps) told × After changes (disk_of first steps) files)
    (telling : tells (told_after steps) (told_after (step ∷ steps)))
    (after : (files : Files) → MayLeave first (step ∷ steps) files → After changes (disk_of first steps) files)
  where
    stepped : Elapses tells changes (disk_of first steps) (disk_of first (step ∷ steps))
    stepped = record {
      clock = record { later = omega arith; keeps = λ t told files le left. inl left };
      now = after;
      since = λ t told files le left. elim left [
        | inl past ↦ inl past
        | inr (inl within) ↦ let is = inside told files within.1 in inr (inr (inl (omega arith, within.1)), is.0, is.1)
        | inr (inr now) ↦ inr (inr (inr (omega arith, now.1, now.2)), subst (tells (told_after steps)) (sym now.1) telling, after files now.2)
      ];
    }

Rests-synced : (first : Files) (steps : List Step) → Rests (disk_of first steps) (disk_of first (Synced ∷ steps))
Rests-synced first steps = record {
  files = refl;
  told = refl;
  time = stepped first steps Synced TellsNothing Stays (λ told files none. absurd none) refl (λ files left. (read_after first steps, read_now first steps, left));
}

Writes-wrote : (first : Files) (steps : List Step) (r : Range) → Writes r.file r.at r.bytes (disk_of first steps) (disk_of first (Wrote r ∷ steps))
Writes-wrote first steps r =
    let step = Torn r.file r.at (length r.bytes) (length (read_after first steps r.file)) in
    record {
      files = Torn-overwritten (read_after first steps) r.file r.at r.bytes;
      told = refl;
      time = stepped first steps (Wrote r) TellsNothing step (λ told files none. absurd none) refl (λ files left. left);
    }

Writes-tore : (first : Files) (steps : List Step) (r : Range) → Writes r.file r.at r.bytes (disk_of first steps) (disk_of first (Tore r ∷ steps))
Writes-tore first steps r =
    let step = Torn r.file r.at (length r.bytes) (length (read_after first steps r.file)) in
    record {
      files = Torn-refl r.file r.at (length r.bytes) (length (read_after first steps r.file)) (read_after first steps);
      told = refl;
      time = stepped first steps (Tore r) TellsNothing step (λ told files none. absurd none) refl (λ files left. left);
    }

pub all_told : (bytes old : List ℕ) → TellsFront bytes old (old ++ bytes)
all_told bytes old = (length bytes, ap (λ (l : List ℕ). old ++ l) (sym (take_all (length bytes) bytes (omega arith))))

pub none_told : (bytes old : List ℕ) → TellsFront bytes old old
none_told bytes old = (0, sym (append-nil old))

Emits-told : (first : Files) (steps : List Step) (bytes : List ℕ) → Emits bytes (disk_of first steps) (disk_of first (Told bytes ∷ steps))
Emits-told first steps bytes = record {
  some = all_told bytes (told_after steps);
  files = refl;
  time = stepped first steps (Told bytes) (TellsFront bytes) Stays (λ told files part. (part.0, (files, part.1, refl))) (all_told bytes (told_after steps)) (λ files left. (files, left, refl));
}

Emits-untold : (first : Files) (steps : List Step) (bytes : List ℕ) → Emits bytes (disk_of first steps) (disk_of first (Untold bytes ∷ steps))
Emits-untold first steps bytes = record {
  some = none_told bytes (told_after steps);
  files = refl;
  time = stepped first steps (Untold bytes) (TellsFront bytes) Stays (λ told files part. (part.0, (files, part.1, refl))) (none_told bytes (told_after steps)) (λ files left. (files, left, refl));
}

-- a list that was pushed to, from its end
pub reverse-push : {X : Type 0} → (xs ys : List X) (x : X) → ys ≡ xs ++ x ∷ [] → reverse ys ≡ x ∷ reverse xs
reverse-push xs ys x is = ap reverse is ∙ reverse-append xs (x ∷ [])

-- where the steps are known by equations
module _ (first : Files) (steps new : List Step) where
  pub Rests-stood : new ≡ steps → Rests (disk_of first steps) (disk_of first new)
  Rests-stood same = subst (λ n. Rests (disk_of first steps) (disk_of first n)) (sym same) (record { files = refl; told = refl; time = stands TellsNothing Stays (λ files. refl) (disk_of first steps) })

  pub Rests-is_synced : new ≡ Synced ∷ steps → Rests (disk_of first steps) (disk_of first new)
  Rests-is_synced is = subst (λ n. Rests (disk_of first steps) (disk_of first n)) (sym is) (Rests-synced first steps)

  module _ (file at : ℕ) (bytes : List ℕ) where
    pub Writes-stood : new ≡ steps → Writes file at bytes (disk_of first steps) (disk_of first new)
    Writes-stood same = subst (λ n. Writes file at bytes (disk_of first steps) (disk_of first n)) (sym same) (record {
      files = Torn-refl file at (length bytes) (length (read_after first steps file)) (read_after first steps);
      told = refl;
      time = stands TellsNothing (Torn file at (length bytes) (length (read_after first steps file))) (Torn-refl file at (length bytes) (length (read_after first steps file))) (disk_of first steps);
    })

    moved : (r : Range) (step : Step) → r.file ≡ file → r.at ≡ at → r.bytes ≡ bytes → new ≡ step ∷ steps
        → Writes r.file r.at r.bytes (disk_of first steps) (disk_of first (step ∷ steps)) → Writes file at bytes (disk_of first steps) (disk_of first new)
    moved r step file_is at_is bytes_is is wrote =
        subst (λ n. Writes file at bytes (disk_of first steps) (disk_of first n)) (sym is)
        (subst (λ b. Writes file at b (disk_of first steps) (disk_of first (step ∷ steps))) bytes_is
        (subst (λ a. Writes file a r.bytes (disk_of first steps) (disk_of first (step ∷ steps))) at_is
        (subst (λ f. Writes f r.at r.bytes (disk_of first steps) (disk_of first (step ∷ steps))) file_is wrote)))

    pub Writes-is_wrote : Notes Wrote file at bytes steps new → Writes file at bytes (disk_of first steps) (disk_of first new)
    Writes-is_wrote is = moved is.0 (Wrote is.0) is.1.0 is.1.1 is.1.2 is.2 (Writes-wrote first steps is.0)

    pub Writes-is_tore : Notes Tore file at bytes steps new → Writes file at bytes (disk_of first steps) (disk_of first new)
    Writes-is_tore is = moved is.0 (Tore is.0) is.1.0 is.1.1 is.1.2 is.2 (Writes-tore first steps is.0)

  module _ (bytes : List ℕ) where
    pub Emits-stood : new ≡ steps → Emits bytes (disk_of first steps) (disk_of first new)
    Emits-stood same = subst (λ n. Emits bytes (disk_of first steps) (disk_of first n)) (sym same) (record {
      some = none_told bytes (told_after steps);
      files = refl;
      time = stands (TellsFront bytes) Stays (λ files. refl) (disk_of first steps);
    })

    pub Emits-is_told : NotesBytes Told bytes steps new → Emits bytes (disk_of first steps) (disk_of first new)
    Emits-is_told is = subst (λ n. Emits bytes (disk_of first steps) (disk_of first n)) (sym is) (Emits-told first steps bytes)

    pub Emits-is_untold : NotesBytes Untold bytes steps new → Emits bytes (disk_of first steps) (disk_of first new)
    Emits-is_untold is = subst (λ n. Emits bytes (disk_of first steps) (disk_of first n)) (sym is) (Emits-untold first steps bytes)

-- a result of two kinds
pub either : {T E G P Q : Type 0} → (r : Result T E) → OnOk r P → OnErr r Q → (P → G) → (Q → G) → G
either (Ok x) p q f g = f p
either (Err e) p q f g = g q

pub on_ok : {T E P G : Type 0} → (r : Result T E) → OnOk r P → (P → G) → OnOk r G
on_ok (Ok x) p f = f p
on_ok (Err e) p f = tt

pub on_err : {T E P G : Type 0} → (r : Result T E) → OnErr r P → (P → G) → OnErr r G
on_err (Ok x) p f = tt
on_err (Err e) p f = f p
