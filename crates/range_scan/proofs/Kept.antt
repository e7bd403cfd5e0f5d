-- What is kept, whatever is answered.
use Rattle.std.proofs.Common.{Result, Ok, Err, OnOk}

pub kept-of : {T E : Type 0} {P : Type 0} (result : Result T E) → P → OnOk result P
kept-of (Ok value) p = p
kept-of (Err stop) p = tt
