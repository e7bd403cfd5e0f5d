use Rattle.std.proofs.Common.{◌≡◌, ◌≤◌, Option, Some, List, length, take, sym, ap, subst, ◌∙◌, arith}
use Rattle.std.specs.List.{All}
use Rattle.std.proofs.lemmas.List.{length-take-le, take-take}
use Rattle.cube_point.specs.declared.point.Entry.{Entry}
use Rattle.cube_point.specs.declared.point.Point.{Point}
use Rattle.page_entry.specs.Runs.{Precedes}
use Rattle.page_entry.specs.Entries.{ascend, entry_before}
use Rattle.merge_pack.specs.Ready.{ComeBefore}
use Rattle.merge_pack.proofs.OneByOne.{take-ascends}
use Rattle.merge_pack.proofs.runs.count_before.Goals as goal

pub count_before-requires : goal.count_before-requires
count_before-requires c = record {
  order = ap (ascend entry_before) c.run.ensures.entries ∙ take-ascends c.args.most c.args.scan.now.held c.requires.order;
}

pub returns-in-Some-clause-before : goal.returns-in-Some-clause-before
returns-in-Some-clause-before c =
    let held = c.args.scan.now.held in
    let n = c.count_before.result in
    let few : n ≤ c.args.most = omega (arith, c.count_before.ensures.within, ap length c.run.ensures.entries, length-take-le c.args.most held c.requires.held) in
    let some : Some c.in-Some.point ≡ c.args.new.now = sym c.in-Some.is in
    subst (λ (p : Option Point). ComeBefore p (take n held)) some
    (subst (λ (l : List Entry). All (Precedes c.in-Some.point) l) (ap (take n) c.run.ensures.entries ∙ take-take n c.args.most held few) c.count_before.ensures.before)
