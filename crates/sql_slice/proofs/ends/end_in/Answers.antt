use Rattle.std.proofs.Common.{arith}
use Rattle.sql_slice.proofs.EndLaws.{end_low}
use Rattle.sql_slice.proofs.ends.end_in.Goals as goal

pub loop-test-init : goal.loop-test-init
loop-test-init c = record { rest = omega (arith, end_low c.args.attr c.args.tests.now); within = omega arith }
