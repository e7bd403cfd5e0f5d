use Rattle.std.proofs.Common.{◌≡◌, ◌+◌, length, ap, ◌∙◌, arith}
use Rattle.std.proofs.lemmas.List.{length-append}
use Rattle.attr_dict.specs.Admitting.{entry_text}
use Rattle.attr_dict.proofs.EntryTexts.{read-more}
use Rattle.attr_dict.proofs.read.read_entries.Goals as goal

pub loop-rest-preserved : goal.loop-rest-preserved
loop-rest-preserved c =
    let front = c.in_ok-rest.ensures.read in
    let shorter : length c.loop-rest.rest.now ≡ length (entry_text front.entry) + length c.in_ok-rest.rest.now = ap length front.are ∙ length-append (entry_text front.entry) c.in_ok-rest.rest.now in
    record {
      same = c.in_ok-rest.ensures.same ∙ c.loop-rest.invariant.same;
      short = (let short = c.loop-rest.invariant.short in omega arith);
      so-far =
          read-more (record { kinds = c.args.kinds.now; names = c.args.names.now.items }) (record { kinds = c.args.kinds.now; names = c.loop-rest.names.items }) (record { kinds = c.args.kinds.now; names = c.read_entry.new.names.items })
          c.args.bytes.now c.loop-rest.rest.now c.in_ok-rest.rest.now c.loop-rest.invariant.so-far front;
    }
