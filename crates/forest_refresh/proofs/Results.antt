-- What holds of results: of an error, of a fault, and of the count of faults.
use Rattle.std.proofs.Common.{◌≡◌, ℕ, Result, Ok, Err, IfErr, OnOk, arith, refl, subst, sym}
use Rattle.std.specs.Result.{IsErrAnd}
use Rattle.site_core.specs.Causes.{HasCause, HasCauseWhere, Rose}

-- what holds of an error holds of a result that is this error
pub at_error : {A E : Type 0} (P : Result A E → Type 0) (error : E) (result : Result A E) → IsErrAnd result (λ e. e ≡ error) → P (Err error) → P result
at_error P error (Ok x) same is = absurd same
at_error {E = E} P error (Err e) same is = subst (λ (x : E). P (Err x)) (sym same) is

-- where only this error may come
pub at_fault : {A E : Type 0} (fault : E) (result : Result A E) → IfErr result (λ e. e ≡ fault) → (P : E → Type 0) → P fault → IfErr result P
at_fault fault (Ok x) only P is = tt
at_fault fault (Err e) only P is = subst P (sym only) is

-- what holds anyway holds at Ok
pub at_ok : {A E : Type 0} (result : Result A E) (P : Type 0) → P → OnOk result P
at_ok (Ok x) P is = is
at_ok (Err e) P is = tt

-- without a fault the count stays
pub cause_ok : {A E : Type 0} (fault : E) (before now : ℕ) (x : A) → now ≡ before → HasCauseWhere fault before now (Ok x)
cause_ok fault before now x same = record {
  later = omega (arith, same);
  once = omega (arith, same);
  failed = λ told. absurd (cc);
  other = tt;
  ok = same;
}

-- a fault that is told as this error, behind calls without one
pub cause_fault : {A B E F : Type 0} (fault : E) (before mid now : ℕ) (f : F) → mid ≡ before → HasCause {T = A} mid now (Err f) → HasCauseWhere {T = B} fault before now (Err fault)
cause_fault fault before mid now f same was = record {
  later = omega (arith, same, was.later);
  once = omega (arith, same, was.once);
  failed = λ told. subst (λ (n : ℕ). Rose n now) same was.failed;
  other = λ apart. absurd (apart refl);
  ok = tt;
}
