-- What holds of a result, from what holds of it.
use Rattle.std.proofs.Common.{◌≡◌, Option, Some, subst}
use Rattle.std.specs.Prelude.{IfErr, IfOk, IfSome, OnOk, Result, Ok, Err}

pub ok-both : {A E Q : Type 0} {P S : A → Type 0} (r : Result A E) → OnOk r Q → IfOk r P → ((x : A) → Q → P x → S x) → IfOk r S
ok-both (Ok x) q p f = f x q p
ok-both (Err e) q p f = tt

pub ok-one : {A E : Type 0} {P S : A → Type 0} (r : Result A E) → IfOk r P → ((x : A) → P x → S x) → IfOk r S
ok-one (Ok x) p f = f x p
ok-one (Err e) p f = tt

pub err-one : {A E : Type 0} {P S : E → Type 0} (r : Result A E) → IfErr r P → ((e : E) → P e → S e) → IfErr r S
err-one (Ok x) p f = tt
err-one (Err e) p f = f e p

pub some-holds : {A : Type 0} (P : A → Type 0) (o : Option A) (x : A) → IfSome o P → o ≡ Some x → P x
some-holds {A = A} P o x p e = subst (λ (q : Option A). IfSome q P) e p
