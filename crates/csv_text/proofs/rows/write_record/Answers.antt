use Rattle.std.proofs.Common.{◌≢◌, ◌∙◌, ◌++◌, ap, sym, true}
use Rattle.csv.proofs.ReadFacts.{on-ok}
use Rattle.csv.specs.Records.{fields_of}
use Rattle.csv.specs.Writing.{default_writer, row_text, writer_setup}
use Rattle.csv.specs.declared.writer.QuoteStyle.TheVariants as style
use Rattle.csv_text.specs.Between.{text_of}
use Rattle.csv_text.proofs.RowTexts.{same_row}
use Rattle.csv_text.proofs.rows.write_record.Goals as goal

pub returns-clause-written : goal.returns-clause-written
returns-clause-written c =
    let between = c.requires in
    let good = sym c.is_err.ensures.value ∙ c.if-is_err.false in
    let plain : (writer_setup c.args.writer.now).style ≢ style.NonNumeric = rw between.setup (λ e. cc e) in
    let fields = fields_of c.args.row.now in
    on-ok c.write_byte_record.result good c.write_byte_record.ensures.bytes between.fields between.wrote plain
    ∙ ap (λ cfg. text_of c.args.writer.now ++ row_text cfg fields) between.setup
    ∙ ap (λ text. text_of c.args.writer.now ++ text) (same_row default_writer true fields)
