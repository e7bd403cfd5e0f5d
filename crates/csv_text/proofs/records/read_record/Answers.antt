use Rattle.std.proofs.Common.{Bool, subst}
use Rattle.csv.specs.Reading.{ReadRecord}
use Rattle.csv.specs.Records.{fields_of}
use Rattle.csv_text.proofs.AllRecords.{known, read_next, reads_on}
use Rattle.csv_text.proofs.records.read_record.Goals as goal

pub returns-clause-next : goal.returns-clause-next
returns-clause-next c =
    read_next c.args.reader.now c.read_byte_record.new.self (fields_of c.read_byte_record.new.row) c.requires c.in-Ok.found (c.in-Ok.ensures.reads c.requires.trim c.requires.ready)

pub returns-clause-reader : goal.returns-clause-reader
returns-clause-reader c = λ some.
    reads_on c.args.reader.now c.read_byte_record.new.self (fields_of c.read_byte_record.new.row) c.requires
    (subst (λ (found : Bool). ReadRecord known c.args.reader.now c.read_byte_record.new.self found (fields_of c.read_byte_record.new.row)) some (c.in-Ok.ensures.reads c.requires.trim c.requires.ready))
    (c.in-Ok.ensures.ready c.requires.trim) c.in-Ok.ensures.flexible
