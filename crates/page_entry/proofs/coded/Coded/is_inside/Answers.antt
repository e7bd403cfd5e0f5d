use Rattle.std.proofs.Common.{◌↔◌, IsTrue, subst}
use Rattle.cube_point.specs.declared.point.Entry.{Entry}
use Rattle.cube_point.specs.Boxes.{IsInside}
use Rattle.page_entry.proofs.coded.Coded.is_inside.Goals as goal

pub returns : goal.returns
returns c = subst (λ (e : Entry). IsTrue c.lies_in.result ↔ IsInside e.point c.args.region.now) c.self.view_is c.lies_in.ensures
