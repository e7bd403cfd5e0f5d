use Rattle.std.proofs.Common.{◌<◌, arith}
use Rattle.std.proofs.lemmas.List.Elements.{All-from_get_or}
use Rattle.attr_dict.proofs.EntryReads.{book-read, only-read, only-stop}
use Rattle.attr_dict.proofs.Lens.{read-size}
use Rattle.attr_dict.proofs.dicts.Dicts.read_names.Goals as goal

pub invariant_of-self : goal.invariant_of-self
invariant_of-self c = book-read c.self.inside.kinds.items c.as_slice.result.now c.self.inside.names.items c.read_entries.new.names.items c.args.bytes.now c.as_slice.ensures.value c.self.invariant (All-from_get_or (λ b. b < 256) c.args.bytes.now 0 (λ i lt. (let fits = c.type_inv.bytes i in omega arith))) c.read_entries.ensures.some

pub returns-clause-same : goal.returns-clause-same
returns-clause-same c =
    only-read c.read_entries.result c.self.inside.kinds.items c.as_slice.result.now c.self.inside.names.items c.read_entries.new.names.items c.args.self.now c.args.bytes.now c.as_slice.ensures.value c.self.view_is c.read_entries.ensures.read

pub returns-clause-only : goal.returns-clause-only
returns-clause-only c =
    only-stop c.read_entries.result c.self.inside.kinds.items c.as_slice.result.now c.self.inside.names.items c.args.self.now c.args.bytes.now c.as_slice.ensures.value c.self.view_is c.read_entries.ensures.stop

pub returns-clause-len : goal.returns-clause-len
returns-clause-len c =
    read-size c.read_entries.result c.self.inside.kinds.items c.as_slice.result.now c.self.inside.names.items c.read_entries.new.names.items c.args.self.now c.args.bytes.now c.as_slice.ensures.value c.self.view_is c.self.invariant c.read_entries.ensures.read
