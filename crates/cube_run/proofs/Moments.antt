-- What a stop at any moment of a run leaves, and that histories go on with it.
use Rattle.std.proofs.Common.{◌≡◌, ◌∙◌, ◌++◌, ◌⊎◌, inl, inr, ℕ, List, length, take, ap, sym, subst, append-nil, arith}
use Rattle.std.proofs.Math.Seq.{take-append_seam}
use Rattle.cube_run.proofs.Names.{AfterRun, AfterStop, Command, Disk, Elapses, Files, Headline, HistoriesGoOn, Kept, LeavesOnly, OnlyNow, Opened, Status, Stays, TellsFront, TellsNothing, World}
use Rattle.cube_run.proofs.Names.{bare, each_moment, goes_on_once, joined, replies_from, wider}

-- what was told in the end
pub told_front : (old new : Disk) (w : World) (cs : List Command) → LeavesOnly old new (AfterRun w cs old)
    → new.left_since old.clock new.told new.files → TellsFront (replies_from w cs) old.told new.told
told_front old new w cs run now = elim (run.each new.told new.files now) [
  | inl a ↦ (length a.front, a.tells ∙ ap (λ (l : List ℕ). old.told ++ l) (sym (ap (take (length a.front)) a.prefix ∙ take-append_seam a.front a.rest)))
  | inr same ↦ (0, same.0 ∙ sym (append-nil old.told))
]

-- opening, also where it fails, whatever is said of moments behind it
pub opening_moments : (P : List ℕ → Files → Type 0) (old new : Disk) → OnlyNow old → Elapses TellsNothing Stays old new → LeavesOnly old new (λ told files. P told files ⊎ ((told ≡ old.told) × old.may_leave files))
opening_moments P old new only time = each_moment Stays old new (λ told files. P told files ⊎ ((told ≡ old.told) × old.may_leave files))
    (λ told files left. inr (only told files left)) (λ told files same after. inr (same, subst old.may_leave (sym after.2) after.1)) time

-- and then what is said of them
pub moments_then : (P : List ℕ → Files → Type 0) (old mid new : Disk) → OnlyNow old → Elapses TellsNothing Stays old mid → LeavesOnly mid new P
    → LeavesOnly old new (λ told files. P told files ⊎ ((told ≡ old.told) × old.may_leave files))
moments_then P old mid new only time run =
    joined old mid new (λ told files. P told files ⊎ ((told ≡ old.told) × old.may_leave files)) (opening_moments P old mid only time) (wider _ _ _ _ (λ told files a. inl a) run)

-- and then a run of commands
module _ (old mid new : Disk) (w : World) (cs : List Command) (same : mid.told ≡ old.told) (time : Elapses TellsNothing Stays old mid) (only : OnlyNow old)
    (run : LeavesOnly mid new (AfterStop w cs mid.told)) where
  after_start : (told : List ℕ) (files : Files) → AfterStop w cs mid.told told files → AfterStop w cs old.told told files
  after_start told files = subst (λ (l : List ℕ). AfterStop w cs l told files) same

  pub opened_moments : LeavesOnly old new (AfterRun w cs old)
  opened_moments = moments_then (AfterStop w cs old.told) old mid new only time (wider _ _ _ _ after_start run)

  -- the files are opened at the moment between the two
  pub opened_behind : ((files : Files) → new.may_leave files → new.left_since mid.clock new.told files) → Opened old new w cs
  opened_behind counts = record {
    moment = mid.clock;
    later = time.clock.later;
    past = run.clock.later;
    since = λ told files left. after_start told files (run.each told files left);
    before = λ told files left. elim (run.before old.clock told files time.clock.later left) [
      | inl past ↦ elim (time.since old.clock told files (omega arith) past) [
        | inl first ↦ inr (only told files first)
        | inr now ↦ inr (now.1, subst old.may_leave (sym now.2.2) now.2.1)
      ]
      | inr now ↦ inl now.0
    ];
    settled = λ files may. after_start new.told files (run.each new.told files (counts files may));
  }

pub histories_go_on : (kept : Kept) (script left : List ℕ) (start now : Disk) (status : Status) → now.may_leave now.files → Headline (bare kept) script left start now status
    → HistoriesGoOn kept script left start now status
histories_go_on kept script left start now status read headline = record {
  any_stop = wider _ _ _ _ (λ told files. elim [ inl stop ↦ inl (goes_on_once kept script start.told told files stop) | inr untouched ↦ inr untouched ]) headline.any_stop;
  behind = λ past.
      let settled = (headline.opened past).settled in
      record { read = goes_on_once kept script start.told _ _ (settled _ read); left = λ files may. goes_on_once kept script start.told _ files (settled files may) };
}
