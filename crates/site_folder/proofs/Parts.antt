-- An output in two parts.
use Rattle.std.proofs.Common.{◌≡◌, ◌+◌, ℕ, List, ◌++◌, take, drop, sym, ◌∙◌, ap, subst, arith, inl, inr, ⊎_elim}
use Rattle.std.proofs.lemmas.List.{append_assoc}
use Rattle.std.proofs.Math.Seq.{take-add}
use Rattle.site_core.specs.Disk.{Files, Disk}
use Rattle.site_core.specs.Calls.{Emits, Stays, TellsFront}
use Rattle.site_core.specs.Moments.{After}
use Rattle.site_core.proofs.Run.{GoesOn-then}

-- a front of what is left is told behind the first bytes
pub front-then : (bytes : List ℕ) (c : ℕ) (a b d : List ℕ) → b ≡ a ++ take c bytes → TellsFront (drop c bytes) b d → TellsFront bytes a d
front-then bytes c a b d is front = (
  c + front.0,
  front.1 ∙ ap (λ (l : List ℕ). l ++ take front.0 (drop c bytes)) is ∙ append_assoc a (take c bytes) (take front.0 (drop c bytes))
      ∙ ap (λ (l : List ℕ). a ++ l) (sym (take-add c front.0 bytes)),
)

-- one call more, for what is left
pub Emits-then : (bytes : List ℕ) (c : ℕ) (part : List ℕ) (a b d : Disk) → part ≡ drop c bytes → b.told ≡ a.told ++ take c bytes
    → Emits bytes a b → Emits part b d → Emits bytes a d
Emits-then bytes c part a b d rest is first so_called =
    let second : Emits (drop c bytes) b d = subst (λ (l : List ℕ). Emits l b d) rest so_called in
    let after : (files : Files) → After Stays b files → After Stays a files = λ files left.
    let was = first.time.now left.0 left.1 in (was.0, was.1, left.2 ∙ was.2) in
    record {
      some = front-then bytes c a.told b.told d.told is second.some;
      files = second.files ∙ first.files;
      time = record {
        clock = GoesOn-then a b d first.time.clock second.time.clock;
        now = λ files left. after files (second.time.now files left);
        since = λ t told files le left. elim (second.time.since t told files (omega (arith, le, first.time.clock.later)) left) [
          | inl past ↦ ⊎_elim inl (λ now. inr (second.time.clock.keeps a.clock told files first.time.clock.later now.0, now.1, now.2)) (first.time.since t told files le past)
          | inr now ↦ inr (d.earlier a.clock b.clock told files first.time.clock.later now.0, front-then bytes c a.told b.told told is now.1, after files now.2)
        ];
      };
    }

-- what a call tells, of what was left
pub told-then : (bytes part : List ℕ) (c k : ℕ) (a b d : List ℕ) → part ≡ drop c bytes → b ≡ a ++ take c bytes → d ≡ b ++ take k part → d ≡ a ++ take (c + k) bytes
told-then bytes part c k a b d rest is told =
    told ∙ ap (λ (l : List ℕ). l ++ take k part) is ∙ append_assoc a (take c bytes) (take k part)
    ∙ ap (λ (l : List ℕ). a ++ (take c bytes ++ take k l)) rest ∙ ap (λ (l : List ℕ). a ++ l) (sym (take-add c k bytes))
