use Rattle.sql_lang.proofs.Again.{answer-again}
use Rattle.sql_lang.proofs.Drafted.{answer-agrees}
use Rattle.sql_lang.proofs.Told.{answer-told}
use Rattle.sql_lang.proofs.read.read_sql.Goals as goal

pub returns-clause-lawful : goal.returns-clause-lawful
returns-clause-lawful c = answer-agrees c.args.schema.now c.args.text.now c.read_text.result c.read_text.ensures

pub returns-clause-said : goal.returns-clause-said
returns-clause-said c = answer-told c.args.schema.now c.args.text.now c.read_text.result c.read_text.ensures

pub returns-clause-read : goal.returns-clause-read
returns-clause-read c = answer-again c.args.schema.now c.args.text.now c.read_text.result c.read_text.ensures c.requires
