use Rattle.std.proofs.Common.{arith}
use Rattle.site_mem.specs.History.{texts_of}
use Rattle.site_mem.proofs.Arrays.{texts_of-past, files_of-four}
use Rattle.site_mem.proofs.site.vectors.Goals as goal

pub returns : goal.returns
returns c =
    files_of-four (texts_of c.args.files.now) (λ file high. texts_of-past c.args.files.now file (omega arith)) c.in_ok-vector.field-0 c.in_ok-vector-2.field-0 c.in_ok-vector-3.field-0 c.in_ok-vector-4.field-0
    c.in_ok-vector.ensures c.in_ok-vector-2.ensures c.in_ok-vector-3.ensures c.in_ok-vector-4.ensures
