use Rattle.std.proofs.Common.{◌≡◌, ℕ, List, subst}
use Rattle.std.specs.List.{All}
use Rattle.cube_point.specs.declared.point.Entry.{Entry}
use Rattle.cube_point.specs.declared.point.Shape.{Shape}
use Rattle.page_entry.proofs.Runs.{run-arities}
use Rattle.page_entry.proofs.run.CodedRun.arity.Goals as goal

abbrev Seen : Type 0
Seen = record { entries : List Entry; arity : ℕ; shape : Shape }

pub returns-clause-all : goal.returns-clause-all
returns-clause-all c =
    let s = c.self.inside in
    subst (λ (v : Seen). All (λ (e : Entry). e.point.arity ≡ v.arity) v.entries) c.self.view_is (run-arities s.arity s.shape s.count s.bytes.now)
