use Rattle.std.proofs.Common.{arith}
use Rattle.site_mem.specs.History.{files_of}
use Rattle.site_mem.proofs.Arrays.{files_of-past, files_of-four}
use Rattle.site_mem.proofs.tape.fields.copies.Goals as goal

pub returns : goal.returns
returns c = files_of-four (files_of c.args.files.now) (λ file high. files_of-past c.args.files.now file (omega arith)) c.in_ok-copy.field-0 c.in_ok-copy-2.field-0 c.in_ok-copy-3.field-0 c.in_ok-copy-4.field-0 c.in_ok-copy.ensures c.in_ok-copy-2.ensures c.in_ok-copy-3.ensures c.in_ok-copy-4.ensures
