-- Answers, unless memory ran out.
use Rattle.std.specs.Prelude.{◌≡◌, ◌≢◌, Result, Ok, Err}
use Rattle.reply_fold.specs.declared.fault.Fault.{Fault}
use Rattle.reply_fold.specs.declared.fault.Fault.TheVariants as faults

-- the answer is this one, unless memory ran out
abbrev pub Answers : {A : Type 0} → Result A Fault → Result A Fault → Type 0
Answers (Ok x) want = want ≡ Ok x
Answers (Err fault) want = fault ≢ faults.Memory → want ≡ Err fault
