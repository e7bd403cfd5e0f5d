use Rattle.std.proofs.Common.{◌≡◌, ◌+◌, ◌*◌, ◌++◌, ℕ, List, length, take, sym, ap, subst, ◌∙◌, arith}
use Rattle.std.specs.Prelude.{flat_map}
use Rattle.cube_point.specs.declared.point.Entry.{Entry}
use Rattle.cube_point.specs.declared.point.Shape.{Shape}
use Rattle.page_entry.specs.Bytes.{entry_bytes, entry_size}
use Rattle.page_entry.proofs.Runs.{run-back, run-long}
use Rattle.page_entry.proofs.run.CodedRun.put.Goals as goal

abbrev Seen : Type 0
Seen = record { entries : List Entry; arity : ℕ; shape : Shape }

abbrev bytes_of : Seen → ℕ
bytes_of v = length v.entries * entry_size v.arity v.shape

pub put_bytes-requires : goal.put_bytes-requires
put_bytes-requires c =
    let s = c.self.inside in
    let size = ap (λ (n : ℕ). n * entry_size s.arity s.shape) (run-long s.arity s.shape s.count s.bytes.now) in
    omega (arith, c.requires.place, c.self.invariant.long, size, ap bytes_of c.self.view_is)

pub returns-clause-next : goal.returns-clause-next
returns-clause-next c =
    let s = c.self.inside in
    let size = ap (λ (n : ℕ). n * entry_size s.arity s.shape) (run-long s.arity s.shape s.count s.bytes.now) in
    omega (arith, c.put_bytes.ensures.next, c.self.invariant.long, size, ap bytes_of c.self.view_is)

pub returns-clause-written : goal.returns-clause-written
returns-clause-written c =
    let s = c.self.inside in
    let b = s.bytes.now in
    let size = ap (λ (n : ℕ). n * entry_size s.arity s.shape) (run-long s.arity s.shape s.count b) ∙ sym c.self.invariant.long in
    subst (λ (v : Seen). take (c.args.at + bytes_of v) c.put_bytes.new.page ≡ take c.args.at c.args.page.now ++ flat_map (entry_bytes v.arity v.shape) v.entries) c.self.view_is
    (ap (λ (k : ℕ). take (c.args.at + k) c.put_bytes.new.page) size
    ∙ (c.put_bytes.ensures.written ∙ ap (λ (l : List ℕ). take c.args.at c.args.page.now ++ l) (sym (run-back s.arity s.shape s.count b c.self.invariant.are c.self.invariant.long))))
