use Rattle.std.proofs.Common.{arith}
use Rattle.site_mem.specs.History.{files_of}
use Rattle.site_mem.proofs.Arrays.{files_of-past, texts_of-four}
use Rattle.site_mem.proofs.image.texts.Goals as goal

pub returns : goal.returns
returns c = texts_of-four (files_of c.args.files.now) (λ file high. files_of-past c.args.files.now file (omega arith)) _ _ _ _ c.in_ok-text.ensures c.in_ok-text-2.ensures c.in_ok-text-3.ensures c.in_ok-text-4.ensures
