use Rattle.cube_batches.proofs.Names.{◌+◌, ◌<◌, ◌≡◌, arith, block_read, length, nat_tests}
use Rattle.cube_batches.proofs.Nexts.{next_batch, next_empty, next_refused}
use Rattle.cube_batches.proofs.batch.read_next.Goals as goal

pub returns-in-Refused-clause-read : goal.returns-in-Refused-clause-read
returns-in-Refused-clause-read c =
    let due : c.args.number ≡ c.args.last + 1 = grind (arith, nat_tests) in
    next_refused c.args.schema.now c.args.last c.args.number due (block_read c.args.schema.now c.args.block) c.in_ok-batch.field-0 (c.in_ok-batch.ensures.read c.args.last) c.in-Refused.reply c.in-Refused.is

pub returns-then-is_empty-clause-read : goal.returns-then-is_empty-clause-read
returns-then-is_empty-clause-read c =
    let due : c.args.number ≡ c.args.last + 1 = grind (arith, nat_tests) in
    let zero : length c.in-Batch.batch ≡ 0 = grind (arith, nat_tests) in
    next_empty c.args.schema.now c.args.last c.args.number due (block_read c.args.schema.now c.args.block) c.in_ok-batch.field-0 (c.in_ok-batch.ensures.read c.args.last) c.in-Batch.batch c.in-Batch.field-1 c.in_ok-reply-3.reply
    c.in-Batch.is zero c.in_ok-reply-3.ensures

pub returns-clause-read : goal.returns-clause-read
returns-clause-read c =
    let due : c.args.number ≡ c.args.last + 1 = grind (arith, nat_tests) in
    let some : 0 < length c.in-Batch.batch = grind (arith, nat_tests) in
    next_batch c.args.schema.now c.args.last c.args.number due (block_read c.args.schema.now c.args.block) c.in_ok-batch.field-0 (c.in_ok-batch.ensures.read c.args.last) c.in-Batch.batch c.in-Batch.field-1 c.in-Batch.is some
