-- How a run of site calls goes on.
use Rattle.std.proofs.Common.{◌≡◌, ◌⊎◌, ◌∙◌, ◌≤◌, refl, sym, subst, inl, inr, ⊎_elim, ℕ, List, Result, Ok, Err, OnOk, append-nil, arith}
use Rattle.std.proofs.lemmas.Result.{on_ok_weaker}
use Rattle.site_core.specs.Disk.{Files, Disk}
use Rattle.site_core.specs.Calls.{Stays, TellsNothing, Changes, Rests, Emits, Settles}
use Rattle.site_core.specs.Moments.{After, Elapses, GoesOn, HoldsNow, IsStable, LeavesOnly}

-- what always holds, holds where the result is Ok
pub on_ok : {A E P : Type 0} (result : Result A E) → P → OnOk result P
on_ok (Ok x) p = p
on_ok (Err e) p = tt

pub GoesOn-refl : (disk : Disk) → GoesOn disk disk
GoesOn-refl disk = record { later = omega arith; keeps = λ t told files le left. left }

pub GoesOn-then : (a b c : Disk) → GoesOn a b → GoesOn b c → GoesOn a c
GoesOn-then a b c first second = record {
  later = omega (arith, first.later, second.later);
  keeps = λ t told files le left. second.keeps t told files (omega (arith, le, first.later)) (first.keeps t told files le left);
}

-- before the first call
pub started : (old : Disk) (P : List ℕ → Files → Type 0) → ((told : List ℕ) (files : Files) → old.left_since old.clock told files → P told files) → LeavesOnly old old P
started old P here = record { clock = GoesOn-refl old; each = here; before = λ t told files le left. inl left }

-- two runs, one after the other
pub joined : (old mid new : Disk) (P : List ℕ → Files → Type 0) → LeavesOnly old mid P → LeavesOnly mid new P → LeavesOnly old new P
joined old mid new P first second = record {
  clock = GoesOn-then old mid new first.clock second.clock;
  each = λ told files left. ⊎_elim (first.each told files) (λ now. now.1) (second.before old.clock told files first.clock.later left);
  before = λ t told files le left. elim (second.before t told files (omega (arith, le, first.clock.later)) left) [
    | inl past ↦ ⊎_elim inl (λ now. inr (second.clock.keeps old.clock told files first.clock.later now.0, now.1)) (first.before t told files le past)
    | inr now ↦ inr (new.earlier old.clock mid.clock told files first.clock.later now.0, now.1)
  ];
}

-- one call, inside which and after which a stop leaves what has P, in a run that has begun
pub called : {tells : List ℕ → List ℕ → Type 0} {step : Files → Files → Type 0} (old mid new : Disk) (P : List ℕ → Files → Type 0)
    → LeavesOnly old mid P → Elapses tells step mid new
    → ((told : List ℕ) (files : Files) → tells mid.told told → After step mid files → P told files)
    → (t : ℕ) (told : List ℕ) (files : Files) → t ≤ old.clock → new.left_since t told files
    → mid.left_since t told files ⊎ (new.left_since old.clock told files × P told files)
called old mid new P so_far time here t told files le left =
    ⊎_elim inl (λ now. inr (new.earlier old.clock mid.clock told files so_far.clock.later now.0, here told files now.1 now.2))
    (time.since t told files (omega (arith, le, so_far.clock.later)) left)

-- one call more
pub goes_on : {tells : List ℕ → List ℕ → Type 0} {step : Files → Files → Type 0} (old mid new : Disk) (P : List ℕ → Files → Type 0)
    → LeavesOnly old mid P → Elapses tells step mid new
    → ((told : List ℕ) (files : Files) → tells mid.told told → After step mid files → P told files) → LeavesOnly old new P
goes_on old mid new P so_far time here = record {
  clock = GoesOn-then old mid new so_far.clock time.clock;
  each = λ told files left. ⊎_elim (so_far.each told files) (λ now. now.1) (called old mid new P so_far time here old.clock told files (omega arith) left);
  before = λ t told files le left. elim (called old mid new P so_far time here t told files le left) [
    | inl past ↦ ⊎_elim inl (λ now. inr (time.clock.keeps old.clock told files so_far.clock.later now.0, now.1)) (so_far.before t told files le past)
    | inr now ↦ inr now
  ];
}

-- what follows from P at every moment
pub wider : (old new : Disk) (P Q : List ℕ → Files → Type 0) → ((told : List ℕ) (files : Files) → P told files → Q told files) → LeavesOnly old new P → LeavesOnly old new Q
wider old new P Q to run = record {
  clock = run.clock;
  each = λ told files left. to told files (run.each told files left);
  before = λ t told files le left. ⊎_elim inl (λ now. inr (now.0, to told files now.1)) (run.before t told files le left);
}

-- A run of calls that tell nothing and change files by `first`, and one that changes them by `second`: together they change them by `step`.
module _ (first second step : Files → Files → Type 0) (a b c : Disk) (widens : (x y : Files) → first x y → step x y)
    (joins : (x y z : Files) → first x y → second y z → step x z) where
  after_both : Elapses TellsNothing first a b → (files : Files) → After second b files → After step a files
  after_both run files left = let was = run.now left.0 left.1 in (was.0, was.1, joins was.0 left.0 files was.2 left.2)

  pub Elapses-then : b.told ≡ a.told → Elapses TellsNothing first a b → Elapses TellsNothing second b c → Elapses TellsNothing step a c
  Elapses-then told run next = record {
    clock = GoesOn-then a b c run.clock next.clock;
    now = λ files left. after_both run files (next.now files left);
    since = λ t out files le left. elim (next.since t out files (omega (arith, le, run.clock.later)) left) [
      | inl past ↦ ⊎_elim inl (λ now. inr (next.clock.keeps a.clock out files run.clock.later now.0, now.1, (now.2.0, now.2.1, widens now.2.0 files now.2.2)))
          (run.since t out files le past)
      | inr now ↦ inr (c.earlier a.clock b.clock out files run.clock.later now.0, now.1 ∙ told, after_both run files now.2)
    ];
  }

  pub Changes-joined : Changes first a b → Changes second b c → Changes step a c
  Changes-joined run next = record {
    files = joins a.files b.files c.files run.files next.files;
    told = next.told ∙ run.told;
    time = Elapses-then run.told run.time next.time;
  }

  pub Settles-joined : {A E : Type 0} (result : Result A E) → Changes first a b → Settles second b c result → Settles step a c result
  Settles-joined result run next = record {
    files = on_ok_weaker result (λ changed. joins a.files b.files c.files run.files changed) next.files;
    told = next.told ∙ run.told;
    time = Elapses-then run.told run.time next.time;
  }

-- runs of calls that change files by one step
module _ (step : Files → Files → Type 0) where
  pub Changes-refl : (disk : Disk) → ((files : Files) → step files files) → Changes step disk disk
  Changes-refl disk same = record {
    files = same disk.files;
    told = refl;
    time = record {
      clock = GoesOn-refl disk;
      now = λ files left. (files, left, same files);
      since = λ t told files le left. inl left;
    };
  }

  pub Changes-then : (a b c : Disk) → ((x y z : Files) → step x y → step y z → step x z) → Changes step a b → Changes step b c → Changes step a c
  Changes-then a b c joins = Changes-joined step step step a b c (λ x y changed. changed) joins

  -- where no call failed, it is known what a read gives
  pub Settles-ok : {A E : Type 0} (a b : Disk) (x : A) → Settles {E = E} step a b (Ok x) → Changes step a b
  Settles-ok a b x run = record { files = run.files; told = run.told; time = run.time }

  pub Changes-settles : {A E : Type 0} (a b : Disk) (result : Result A E) → Changes step a b → Settles step a b result
  Changes-settles a b result run = record { files = on_ok result run.files; told = run.told; time = run.time }

  -- what holds at each moment of such a run
  pub each_moment : (old new : Disk) (P : List ℕ → Files → Type 0) → ((told : List ℕ) (files : Files) → old.left_since old.clock told files → P told files)
      → ((told : List ℕ) (files : Files) → told ≡ old.told → After step old files → P told files) → Elapses TellsNothing step old new → LeavesOnly old new P
  each_moment old new P at_start inside time = goes_on old old new P (started old P at_start) time inside

-- a run changes files by a step that another follows from
module _ (step to : Files → Files → Type 0) (a b : Disk) where
  Elapses-wider : ((x y : Files) → a.may_leave x → step x y → to x y) → Elapses TellsNothing step a b → Elapses TellsNothing to a b
  Elapses-wider more time = record {
    clock = time.clock;
    now = λ files left. let was = time.now files left in (was.0, was.1, more was.0 files was.1 was.2);
    since = λ t told files le left. ⊎_elim inl (λ now. inr (now.0, now.1, (now.2.0, now.2.1, more now.2.0 files now.2.1 now.2.2))) (time.since t told files le left);
  }

  pub Changes-wider : ((x y : Files) → step x y → to x y) → Changes step a b → Changes to a b
  Changes-wider more run = record { files = more a.files b.files run.files; told = run.told; time = Elapses-wider (λ x y left. more x y) run.time }

  pub Settles-wider : {A E : Type 0} (result : Result A E) → ((x y : Files) → step x y → to x y) → Settles step a b result → Settles to a b result
  Settles-wider result more run = record {
    files = on_ok_weaker result (more a.files b.files) run.files;
    told = run.told;
    time = Elapses-wider (λ x y left. more x y) run.time;
  }

  -- where it begins in files that are as these tell
  module _ (good : Files → Type 0) (read : good a.files) (left : (x : Files) → a.may_leave x → good x) (more : (x y : Files) → good x → step x y → to x y) where
    pub Changes-from : Changes step a b → Changes to a b
    Changes-from run = record { files = more a.files b.files read run.files; told = run.told; time = Elapses-wider (λ x y may. more x y (left x may)) run.time }

    pub Settles-from : {A E : Type 0} (result : Result A E) → Settles step a b result → Settles to a b result
    Settles-from result run = record {
      files = on_ok_weaker result (more a.files b.files read) run.files;
      told = run.told;
      time = Elapses-wider (λ x y may. more x y (left x may)) run.time;
    }

pub Rests-then : (a b c : Disk) → Rests a b → Rests b c → Rests a c
Rests-then a b c = Changes-then Stays a b c (λ x y z first second. second ∙ first)

-- a call or a run, and one that changes nothing behind or before it
module _ (step : Files → Files → Type 0) (a b c : Disk) where
  behind : (x y z : Files) → step x y → Stays y z → step x z
  behind x y z changed same = subst (λ f. step x f) (sym same) changed

  before : (x y z : Files) → Stays x y → step y z → step x z
  before x y z same changed = subst (λ f. step f z) same changed

  pub Changes-rest : Changes step a b → Rests b c → Changes step a c
  Changes-rest = Changes-joined step Stays step a b c (λ x y changed. changed) behind

  pub Changes-settle : {A E : Type 0} (result : Result A E) → Changes step a b → Settles Stays b c result → Settles step a c result
  Changes-settle result = Settles-joined step Stays step a b c (λ x y changed. changed) behind result

  module _ (same : (files : Files) → step files files) where
    pub rest-Changes : Rests a b → Changes step b c → Changes step a c
    rest-Changes = Changes-joined Stays step step a b c (λ x y is. subst (λ f. step x f) (sym is) (same x)) before

    pub rest-Settles : {A E : Type 0} (result : Result A E) → Rests a b → Settles step b c result → Settles step a c result
    rest-Settles result = Settles-joined Stays step step a b c (λ x y is. subst (λ f. step x f) (sym is) (same x)) before result

-- where a stop leaves what a read gives, what holds of that holds of both
pub stable_holds : (P : Files → Type 0) (disk : Disk) → IsStable disk → P disk.files → HoldsNow P disk
stable_holds P disk stable read = record { read = read; left = λ files left. subst P (sym (stable files left)) read }

-- and so does what follows from it
pub holds_to : (P Q : Files → Type 0) (disk : Disk) → ((files : Files) → P files → Q files) → HoldsNow P disk → HoldsNow Q disk
holds_to P Q disk to is = record { read = to disk.files is.read; left = λ files left. to files (is.left files left) }

-- what holds of both goes on over calls that change nothing
pub rests_hold : (P : Files → Type 0) (old new : Disk) → Rests old new → HoldsNow P old → HoldsNow P new
rests_hold P old new rests is = record {
  read = subst P (sym rests.files) is.read;
  left = λ files left. let was = rests.time.now files left in subst P (sym was.2) (is.left was.0 was.1);
}

-- what files that a stop may leave have in common goes on
pub left_after : (step : Files → Files → Type 0) (P Q : Files → Type 0) (a b : Disk) → ((x y : Files) → P x → step x y → Q y)
    → ((x : Files) → a.may_leave x → P x) → Elapses TellsNothing step a b → (y : Files) → b.may_leave y → Q y
left_after step P Q a b on all time y left = let was = time.now y left in on was.0 y (all was.0 was.1) was.2

-- what was left at each moment is left now; `counts` is the site's law counts_now
pub left_now : (old new : Disk) (P : List ℕ → Files → Type 0) → ((t : ℕ) (files : Files) → t ≤ new.clock → new.may_leave files → new.left_since t new.told files)
    → LeavesOnly old new P → (c : Files) → new.may_leave c → P new.told c
left_now old new P counts run c left = run.each new.told c (counts old.clock c run.clock.later left)

-- nothing was told, and nothing was called
pub Emits-none : (bytes : List ℕ) (disk : Disk) → Emits bytes disk disk
Emits-none bytes disk = record {
  some = (0, sym (append-nil disk.told));
  files = refl;
  time = record {
    clock = GoesOn-refl disk;
    now = λ files left. (files, left, refl);
    since = λ t told files le left. inl left;
  };
}
