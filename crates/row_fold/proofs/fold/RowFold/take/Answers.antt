use Rattle.std.proofs.Common.{◌∙◌, map}
use Rattle.std.proofs.lemmas.Result.{on_ok_weaker}
use Rattle.row_fold.specs.Lent.{group_of, value_of}
use Rattle.row_fold.proofs.Puts.{taken-behind}
use Rattle.row_fold.proofs.fold.RowFold.take.Goals as goal

pub returns-clause-taken : goal.returns-clause-taken
returns-clause-taken c =
    on_ok_weaker c.take_in.result
    (λ is. λ rows are. taken-behind c.args.columns.now (map value_of c.args.key.now) c.args.numbers.now (map group_of c.self.inside.groups.entries) (map group_of c.take_in.new.groups.entries) is rows (c.self.view_is ∙ are))
    c.take_in.ensures.taken
