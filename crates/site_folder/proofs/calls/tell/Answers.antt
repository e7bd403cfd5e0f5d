use Rattle.std.proofs.Common.{rules}
use Rattle.std.proofs.lemmas.List.{take_rest}
use Rattle.site_folder.proofs.Parts.{Emits-then, told-then}
use Rattle.site_folder.proofs.calls.tell.Goals as goal

pub returns-in_err-count-clause-disk : goal.returns-in_err-count-clause-disk
returns-in_err-count-clause-disk g c = λ tells.
    Emits-then c.args.bytes.now c.loop-count.count _ (g.H.Host.disk c.args.host.now) (g.H.Host.disk c.loop-count.host) (g.H.Host.disk c.put.new.self)
    (take_rest c.args.bytes.now c.loop-count.count) (c.loop-count.invariant.told tells) (c.loop-count.invariant.disk tells) (c.put.ensures.disk tells)

pub loop-count-preserved : goal.loop-count-preserved
loop-count-preserved g c =
    let rest = take_rest c.args.bytes.now c.loop-count.count in
    record {
      within = search rules;
      told = λ tells.
          told-then c.args.bytes.now _ c.loop-count.count c.in_ok-count.field-0 _ _ _ rest (c.loop-count.invariant.told tells) (c.in_ok-count.ensures.told tells);
      disk = λ tells.
          Emits-then c.args.bytes.now c.loop-count.count _ (g.H.Host.disk c.args.host.now) (g.H.Host.disk c.loop-count.host) (g.H.Host.disk c.put.new.self)
          rest (c.loop-count.invariant.told tells) (c.loop-count.invariant.disk tells) (c.put.ensures.disk tells);
      keeps = search rules;
      faults = search rules;
      others = search rules;
    }
