use Rattle.std.proofs.Common.{rules, ◌+◌, arith, ap, subst, List, ℕ}
use Rattle.site_core.specs.Disk.{Files}
use Rattle.site_core.proofs.Run.{Rests-then}
use Rattle.site_folder.specs.Reads.{ReadsAt}
use Rattle.site_folder.proofs.Filled.{filled-then}
use Rattle.site_folder.proofs.calls.fill.Goals as goal

pub loop-count-preserved : goal.loop-count-preserved
loop-count-preserved g c =
    let file : List ℕ = (g.H.Host.disk c.args.host.now).files c.args.file in
    let place : ℕ = (c.args.at + c.loop-count.count) in
    record {
      within = search rules;
      few = λ tells.
          let same = ap (λ (f : Files). f c.args.file) (c.loop-count.invariant.disk tells).files in
          let now : ReadsAt file place c.in_ok-got.got c.read_at.new.into =
          subst (λ (l : List ℕ). ReadsAt l place c.in_ok-got.got c.read_at.new.into) same (c.in_ok-got.ensures.answer tells) in
          omega (arith, now.within, c.loop-count.invariant.few tells);
      bytes = λ tells.
          let same = ap (λ (f : Files). f c.args.file) (c.loop-count.invariant.disk tells).files in
          let now : ReadsAt file place c.in_ok-got.got c.read_at.new.into =
          subst (λ (l : List ℕ). ReadsAt l place c.in_ok-got.got c.read_at.new.into) same (c.in_ok-got.ensures.answer tells) in
          filled-then file c.loop-count.into c.read_at.new.into c.args.at c.loop-count.count c.in_ok-got.got place (search rules) (search rules) (search rules)
          (c.loop-count.invariant.bytes tells) now.bytes;
      disk = λ tells. Rests-then _ (g.H.Host.disk c.loop-count.host) _ (c.loop-count.invariant.disk tells) (c.read_at.ensures.disk tells);
      keeps = search rules;
      faults = search rules;
      others = search rules;
    }
