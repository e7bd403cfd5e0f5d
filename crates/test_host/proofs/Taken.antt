-- A call that does a part.
use Rattle.std.proofs.Common.{◌≡◌, ◌≢◌, ◌≤◌, ℕ, Bool, true, false, IsTrue, List, ◌++◌, length, take, min, sym, ◌∙◌, ap, arith, inl, inr, length-take}
use Rattle.std.specs.Prelude.{set, slice_index_or}
use Rattle.std.proofs.lemmas.Bool.{true≢false}
use Rattle.std.proofs.lemmas.List.{get_or-set_other, take_min, take-take}
use Rattle.site_core.specs.Disk.{Disk, Torn}
use Rattle.site_core.specs.Calls.{Emits, TellsFront, Writes}
use Rattle.site_core.proofs.Run.{Changes-wider}
use Rattle.test_host.specs.Flags.{AreAbsent, HaveNothing}
use Rattle.site_folder.proofs.Written.{Torn-within}

-- the front of a front
front_of : (k : ℕ) (bytes before now : List ℕ) → TellsFront (take k bytes) before now → TellsFront bytes before now
front_of k bytes before now front =
    let n = min front.0 (length (take k bytes)) in
    (n, front.1 ∙ ap (λ (l : List ℕ). before ++ l) (sym (take_min front.0 (take k bytes)) ∙ take-take n k bytes (omega (arith, length-take k bytes))))

-- a part of an output is an output
pub Emits-part : (k : ℕ) (bytes : List ℕ) (a b : Disk) → Emits (take k bytes) a b → Emits bytes a b
Emits-part k bytes a b part = record {
  some = front_of k bytes a.told b.told part.some;
  files = part.files;
  time = record {
    clock = part.time.clock;
    now = part.time.now;
    since = λ t told files le left. elim (part.time.since t told files le left) [
      | inl past ↦ inl past
      | inr now ↦ inr (now.0, front_of k bytes a.told told now.1, now.2)
    ];
  };
}

-- a part of a write is one of the range
pub Writes-part : (file at : ℕ) (part bytes : List ℕ) (a b : Disk) → length part ≤ length bytes → Writes file at part a b → Writes file at bytes a b
Writes-part file at part bytes a b few wrote =
    let end = length (a.files file) in
    Changes-wider (Torn file at (length part) end) (Torn file at (length bytes) end) a b
    (λ x y. Torn-within file at (length bytes) end at (length part) end x y (omega arith) (omega arith) (omega arith)) wrote

-- what is there is not what is not there
is-other : (file g : ℕ) (is_there : List Bool) → IsTrue (slice_index_or is_there file true) → slice_index_or is_there g true ≡ false → g ≢ file
is-other file g is_there here gone same = true≢false (sym here ∙ (ap (λ (n : ℕ). slice_index_or is_there n true) (sym same) ∙ gone))

-- a write leaves no bytes of what is not there
pub Writes-absent : (file at : ℕ) (bytes : List ℕ) (is_there : List Bool) (a b : Disk) → IsTrue (slice_index_or is_there file true) → Writes file at bytes a b → AreAbsent is_there a → AreAbsent is_there b
Writes-absent file at bytes is_there a b here wrote absent = λ g gone files left.
    let was = wrote.time.now files left in
    ap length (was.2.others g (is-other file g is_there here gone)) ∙ absent g gone was.0 was.1

-- nor anything of it to sync
pub kept-nothing : (file : ℕ) (is_there synced : List Bool) → IsTrue (slice_index_or is_there file true) → HaveNothing is_there synced → HaveNothing is_there (set synced file false)
kept-nothing file is_there synced here nothing = λ g gone. get_or-set_other synced file g false true (is-other file g is_there here gone) ∙ nothing g gone
