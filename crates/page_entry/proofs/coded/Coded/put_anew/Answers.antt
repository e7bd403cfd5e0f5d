use Rattle.std.proofs.Common.{◌≡◌, ◌+◌, ◌-◌, ◌++◌, ℕ, List, length, take, drop, sym, ap, ◌∙◌, arith, subst}
use Rattle.std.specs.Prelude.{flat_map}
use Rattle.std.proofs.lemmas.List.{length-drop, take_all}
use Rattle.be_numbers.specs.Numbers.{coded}
use Rattle.cube_point.specs.declared.point.Entry.{Entry}
use Rattle.page_entry.specs.Bytes.{entry_bytes, entry_size, width}
use Rattle.page_entry.proofs.Carried.{behind, carried}
use Rattle.page_entry.proofs.coded.Coded.put_anew.Goals as goal

pub returns-clause-written : goal.returns-clause-written
returns-clause-written c =
    let s = c.self.inside in
    let b = s.bytes.now in
    let other = c.args.shape.now in
    let w = width other.wide in
    let is = c.self.invariant in
    let k = c.size_of_point.result in
    let old = c.args.page.now in
    let mid = c.put_coordinates-next.new.page in
    let new = c.put_bytes.new.page in
    let next = c.put_coordinates-next.result in
    let rest : take (length b - k) (drop k b) ≡ behind s.arity s.shape b = take_all (length b - k) (drop k b) (omega (arith, length-drop k b)) ∙ ap (λ (n : ℕ). drop n b) c.size_of_point.ensures.size in
    let point = c.point-point.ensures ∙ ap (λ (e : Entry). e.point) (sym c.self.view_is) in
    let front = c.put_coordinates-next.ensures.written ∙ (λ i. take c.args.at old ++ flat_map (coded w) (take s.arity (point i).at)) in
    let back = subst (λ (l : List ℕ). take (next + length l) new ≡ take next mid ++ l) rest c.put_bytes.ensures.written in
    let measures = ap (λ (e : Entry). e.cell.measures) c.self.view_is ∙ c.requires.measures in
    subst (λ (e : Entry). take (c.args.at + entry_size e.point.arity other) new ≡ take c.args.at old ++ entry_bytes e.point.arity other e) c.self.view_is
    (carried s.arity c.args.at next s.shape other b old mid new is.are is.long measures c.put_coordinates-next.ensures.next front back)
