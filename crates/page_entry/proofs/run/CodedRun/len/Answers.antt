use Rattle.std.proofs.Common.{ℕ, List, length, sym, ap, ◌∙◌}
use Rattle.cube_point.specs.declared.point.Entry.{Entry}
use Rattle.cube_point.specs.declared.point.Shape.{Shape}
use Rattle.page_entry.proofs.Runs.{run-long}
use Rattle.page_entry.proofs.run.CodedRun.len.Goals as goal

abbrev Seen : Type 0
Seen = record { entries : List Entry; arity : ℕ; shape : Shape }

pub returns : goal.returns
returns c =
    let s = c.self.inside in
    sym (run-long s.arity s.shape s.count s.bytes.now) ∙ ap (λ (v : Seen). length v.entries) c.self.view_is
