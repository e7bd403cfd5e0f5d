use Rattle.std.proofs.Common.{◌++◌, ◌∷◌, [], subst}
use Rattle.csv.specs.Records.{fields_of}
use Rattle.fact_csv.specs.Batch.{AreRead}
use Rattle.fact_csv.specs.Drafts.{drafted}
use Rattle.fact_csv.proofs.Rows.{fault_stays, handed_fault, with_answer}
use Rattle.fact_csv.proofs.batch.with_row.Goals as goal

pub returns-in_err-so_far-clause-read : goal.returns-in_err-so_far-clause-read
returns-in_err-so_far-clause-read c = λ rows at so_far.
    (let schema = c.args.schema.now in
    let row = fields_of c.args.fields.now in
    let e = c.in_err-so_far.field-0.0 in
    handed_fault schema (rows ++ row ∷ []) c.from_residual.result c.args.builder.now e c.from_residual.ensures.1
    (fault_stays schema rows row c.args.row at e (subst (λ answer. AreRead schema rows (drafted answer c.args.builder.now)) c.in_err-so_far.was so_far)))

pub returns-clause-read : goal.returns-clause-read
returns-clause-read c = λ rows at so_far.
    (let schema = c.args.schema.now in
    with_answer schema rows (fields_of c.args.fields.now) c.args.row at c.read_row.result c.args.builder.now c.read_row.new.builder
    (subst (λ answer. AreRead schema rows (drafted answer c.args.builder.now)) c.in_ok-so_far.was so_far) c.read_row.ensures.read c.read_row.ensures.refused)
