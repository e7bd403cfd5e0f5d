use Rattle.std.proofs.Common.{ap, arith, subst, []}
use Rattle.attr_dict.specs.Book.{Book}
use Rattle.attr_dict.specs.Entering.{HasRead}
use Rattle.attr_dict.specs.Room.{entries_len}
use Rattle.attr_dict.specs.Stops.{HasCause}
use Rattle.attr_dict.proofs.Lens.{len-none}
use Rattle.forest_open.proofs.opening.names_in.Goals as goal

pub returns-in-Ok-clause-read : goal.returns-in-Ok-clause-read
returns-in-Ok-clause-read c = subst (λ (b : Book). HasRead b c.read_names.new.self c.args.entries.now []) c.in_ok-dicts.ensures c.in-Ok.ensures.read

pub returns-in-Ok-clause-len : goal.returns-in-Ok-clause-len
returns-in-Ok-clause-len c = omega (arith, c.in-Ok.ensures.len, ap entries_len c.in_ok-dicts.ensures, len-none c.args.schema.now)

pub returns-in-Err-clause-damaged : goal.returns-in-Err-clause-damaged
returns-in-Err-clause-damaged c = subst (λ (b : Book). HasCause b c.args.entries.now c.in-Err.stop) c.in_ok-dicts.ensures c.in-Err.ensures.damaged
