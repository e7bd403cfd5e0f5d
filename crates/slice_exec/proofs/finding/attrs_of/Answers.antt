use Rattle.spec_store.proofs.ViewReads.{view-taken}
use Rattle.slice_exec.proofs.finding.attrs_of.Goals as goal

pub returns : goal.returns
returns c = view-taken c.args.store.now.forest.schema.views c.as_slice.result.now c.args.view c.index-as_slice-view.result c.as_slice-2.result.now c.requires c.as_slice.ensures c.index-as_slice-view.is c.as_slice-2.ensures
