use Rattle.std.proofs.Common.{rules, ◌+◌, arith, length-take, length-drop, drop, ◌-◌, length}
use Rattle.std.proofs.lemmas.List.{take_rest}
use Rattle.site_folder.proofs.Written.{Writes-then, written-then}
use Rattle.site_folder.proofs.calls.put.Goals as goal

pub returns-in_err-count-clause-disk : goal.returns-in_err-count-clause-disk
returns-in_err-count-clause-disk g c = λ tells.
    let count = c.loop-count.count in
    Writes-then c.args.file c.args.at c.args.bytes.now (c.args.at + count) _ (g.H.Host.disk c.args.host.now) (g.H.Host.disk c.loop-count.host)
    (g.H.Host.disk c.write_at.new.self) (omega arith)
    (omega (arith, length-take (length c.args.bytes.now - count) (drop count c.args.bytes.now), length-drop count c.args.bytes.now))
    (c.loop-count.invariant.disk tells) (c.write_at.ensures.disk tells)

pub loop-count-preserved : goal.loop-count-preserved
loop-count-preserved g c =
    let count = c.loop-count.count in
    record {
      within = search rules;
      written = λ tells.
          written-then c.args.file c.args.at count c.in_ok-count.field-0 (c.args.at + count) c.args.bytes.now _
          (g.H.Host.disk c.args.host.now).files (g.H.Host.disk c.loop-count.host).files (g.H.Host.disk c.write_at.new.self).files (take_rest c.args.bytes.now count)
          (search rules) (c.requires.place tells) (search rules) (c.loop-count.invariant.written tells) (c.in_ok-count.ensures.written tells);
      disk = λ tells.
          Writes-then c.args.file c.args.at c.args.bytes.now (c.args.at + count) _ (g.H.Host.disk c.args.host.now) (g.H.Host.disk c.loop-count.host)
          (g.H.Host.disk c.write_at.new.self) (omega arith)
          (omega (arith, length-take (length c.args.bytes.now - count) (drop count c.args.bytes.now), length-drop count c.args.bytes.now))
          (c.loop-count.invariant.disk tells) (c.write_at.ensures.disk tells);
      keeps = search rules;
      faults = search rules;
      others = search rules;
    }
