-- How a fold may end, as the exit status of the process.
use Rattle.std.specs.Prelude.{ℕ}
use Rattle.reply_fold.specs.declared.fault.Fault.{Fault}
use Rattle.reply_fold.specs.declared.fault.Fault.TheVariants as faults
use Rattle.cubefold.specs.declared.end.End.{End}
use Rattle.cubefold.specs.declared.end.End.TheVariants.{Done, Usage, Output, Faulty}

-- the status of an input that has no reply of the whole
abbrev pub fault_code : Fault → ℕ
fault_code faults.Input = 3
fault_code faults.Memory = 7
fault_code faults.Heading = 9
fault_code (faults.Schema refusal) = 9
fault_code (faults.Slice refusal) = 10
fault_code faults.Nothing = 11
fault_code faults.Cut = 11
fault_code (faults.Record n) = 11
fault_code (faults.Differs n) = 12
fault_code faults.Sum = 13

-- the exit status
abbrev pub code_of : End → ℕ
code_of Done = 0
code_of Usage = 2
code_of Output = 5
code_of (Faulty fault) = fault_code fault
