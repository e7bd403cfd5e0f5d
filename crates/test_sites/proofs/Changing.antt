-- What each change of a site of which no call fails makes of the moments.
use Rattle.std.proofs.Common.{◌≡◌, inl, inr, ℕ, List, ◌∷◌, length, take, reverse, refl, sym, ◌∙◌, ap, subst, arith}
use Rattle.std.proofs.lemmas.Bool.{cases_eq}
use Rattle.std.proofs.lemmas.List.{take_at}
use Rattle.site_core.specs.Disk.{Files, Torn, with_file, overwritten}
use Rattle.site_core.specs.Calls.{Writes, Emits, TellsNothing, TellsFront, Stays}
use Rattle.site_core.specs.Moments.{Elapses}
use Rattle.site_core.proofs.Files.{Torn-refl, Torn-overwritten, with_file-same, with_file-other}
use Rattle.test_sites.specs.declared.sure_site.Change.{Change}
use Rattle.test_sites.specs.declared.sure_site.Change.TheVariants.{Wrote, Told}
use Rattle.test_sites.specs.Changes.{files_before, told_before, SureSince, changed_disk}
use Rattle.site_mem.specs.History.{texts_of}
use Rattle.test_sites.specs.Put.{IsPut, IsSaid}
use Rattle.site_mem.proofs.Elapsing.{stands, reverse-push, all_told, none_told}

module _ (tells : List ℕ → List ℕ → Type 0) (step : Files → Files → Type 0) (now new : Files) (out more : List ℕ) (changes : List Change) (change : Change)
    (files_are : files_before change new ≡ now) (told_is : told_before change more ≡ out) (telling : tells out more) (stepped : step now new)
  where
    back : (t : ℕ) (told : List ℕ) (files : Files) → SureSince (files_before change new) (told_before change more) changes t told files → SureSince now out changes t told files
    back t told files past = subst (λ f. SureSince f out changes t told files) files_are (subst (λ o. SureSince (files_before change new) o changes t told files) told_is past)

    forth : (t : ℕ) (told : List ℕ) (files : Files) → SureSince now out changes t told files → SureSince (files_before change new) (told_before change more) changes t told files
    forth t told files past = subst (λ o. SureSince (files_before change new) o changes t told files) (sym told_is) (subst (λ f. SureSince f out changes t told files) (sym files_are) past)

    elapses : Elapses tells step (changed_disk now out changes) (changed_disk new more (change ∷ changes))
    elapses = record {
      clock = record { later = omega arith; keeps = λ t told files le left. inl (forth t told files left) };
      now = λ files left. (now, refl, subst (step now) (sym left) stepped);
      since = λ t told files le left. elim left [
        | inl past ↦ inl (back t told files past)
        | inr here ↦ inr (inr (omega arith, here.1, here.2), subst (tells out) (sym here.1) telling, (now, refl, subst (step now) (sym here.2) stepped))
      ];
    }

-- a file that is given back its old bytes
restored_at : (files : Files) (file : ℕ) (bytes : List ℕ) (g : ℕ) → with_file (with_file files file bytes) file (files file) g ≡ files g
restored_at files file bytes g = elim (cases_eq g file) [
  | inl same ↦ subst (λ k. with_file (with_file files file bytes) file (files file) k ≡ files k) (sym same) (with_file-same (with_file files file bytes) file (files file))
  | inr other ↦ with_file-other (with_file files file bytes) file (files file) g other ∙ with_file-other files file bytes g other
]

restored : (files new : Files) (file : ℕ) (bytes : List ℕ) → new ≡ with_file files file bytes → with_file new file (files file) ≡ files
restored files new file bytes is = ap (λ f. with_file f file (files file)) is ∙ (λ i. λ g. restored_at files file bytes g i)

module _ (old new : List (List ℕ)) (out : List ℕ) (past later : List Change) (file at : ℕ) (bytes : List ℕ) where
  pub Writes-put : IsPut file at bytes old new past later → Writes file at bytes (changed_disk (texts_of old) out (reverse past)) (changed_disk (texts_of new) out (reverse later))
  Writes-put is =
      let torn : Torn file at (length bytes) (length (texts_of old file)) (texts_of old) (texts_of new) =
      subst (Torn file at (length bytes) (length (texts_of old file)) (texts_of old)) (sym is.files) (Torn-overwritten (texts_of old) file at bytes) in
      let change = Wrote file (texts_of old file) in
      subst (λ c. Writes file at bytes (changed_disk (texts_of old) out (reverse past)) (changed_disk (texts_of new) out c)) (sym (reverse-push past later change is.noted)) (record {
        files = torn;
        told = refl;
        time = elapses TellsNothing (Torn file at (length bytes) (length (texts_of old file))) (texts_of old) (texts_of new) out out (reverse past) change
            (restored (texts_of old) (texts_of new) file (overwritten (texts_of old file) at bytes) is.files) refl refl torn;
      })

  pub Writes-unput : (texts_of new ≡ texts_of old) × (later ≡ past) → Writes file at bytes (changed_disk (texts_of old) out (reverse past)) (changed_disk (texts_of new) out (reverse later))
  Writes-unput same =
      subst (λ f. Writes file at bytes (changed_disk (texts_of old) out (reverse past)) (changed_disk f out (reverse later))) (sym same.0)
      (subst (λ c. Writes file at bytes (changed_disk (texts_of old) out (reverse past)) (changed_disk (texts_of old) out (reverse c))) (sym same.1) (record {
        files = Torn-refl file at (length bytes) (length (texts_of old file)) (texts_of old);
        told = refl;
        time = stands TellsNothing (Torn file at (length bytes) (length (texts_of old file))) (Torn-refl file at (length bytes) (length (texts_of old file))) (changed_disk (texts_of old) out (reverse past));
      }))

module _ (files : Files) (old new : List ℕ) (past later : List Change) (bytes : List ℕ) where
  pub Emits-said : IsSaid bytes old new past later → Emits bytes (changed_disk files old (reverse past)) (changed_disk files new (reverse later))
  Emits-said is =
      let telling : TellsFront bytes old new = subst (TellsFront bytes old) (sym is.told) (all_told bytes old) in
      let before : take (length old) new ≡ old = ap (take (length old)) is.told ∙ take_at old bytes (length old) refl in
      subst (λ c. Emits bytes (changed_disk files old (reverse past)) (changed_disk files new c)) (sym (reverse-push past later (Told (length old)) is.noted)) (record {
        some = telling;
        files = refl;
        time = elapses (TellsFront bytes) Stays files files old new (reverse past) (Told (length old)) refl before telling refl;
      })

  pub Emits-unsaid : (new ≡ old) × (later ≡ past) → Emits bytes (changed_disk files old (reverse past)) (changed_disk files new (reverse later))
  Emits-unsaid same =
      subst (λ o. Emits bytes (changed_disk files old (reverse past)) (changed_disk files o (reverse later))) (sym same.0)
      (subst (λ c. Emits bytes (changed_disk files old (reverse past)) (changed_disk files old (reverse c))) (sym same.1) (record {
        some = none_told bytes old;
        files = refl;
        time = stands (TellsFront bytes) Stays (λ files. refl) (changed_disk files old (reverse past));
      }))
