use Rattle.std.proofs.Common.{◌≡◌, ◌≤◌, ◌++◌, ◌∷◌, Bool, [], length, subst, sym, ap, ◌∙◌, arith, append_assoc}
use Rattle.std.proofs.lemmas.List.{length_push}
use Rattle.csv.specs.Records.{fields_of}
use Rattle.csv_text.specs.Reader.{IsNext, left_by}
use Rattle.fact_csv.specs.Batch.{AreRead}
use Rattle.fact_csv.proofs.Rows.{agree_all, few_all, few_so_far, read_all, refused_all, too_many}
use Rattle.fact_csv.proofs.batch.read_batch.Goals as goal

pub with_row-so_far-requires-clause-few : goal.with_row-so_far-requires-clause-few
with_row-so_far-requires-clause-few c =
    let so_far = c.loop-row.invariant in
    let count = so_far.count in
    few_so_far c.args.schema.now so_far.rows c.loop-row.so_far c.loop-row.builder so_far.read (omega arith)

pub loop-row-preserved : goal.loop-row-preserved
loop-row-preserved c =
    let so_far = c.loop-row.invariant in
    let fields = fields_of c.read_record.new.fields in
    let left = left_by c.read_record.new.reader in
    let some = c.if-not-branch.false in
    let next : left_by c.loop-row.reader ≡ fields ∷ left = subst (λ (found : Bool). IsNext (left_by c.loop-row.reader) left fields found) some c.in_ok-read_record.ensures.next in
    let more = length_push so_far.rows fields in
    let count = so_far.count in
    record {
      reads = c.in_ok-read_record.ensures.reader some;
      rows = so_far.rows ++ fields ∷ [];
      count = omega arith;
      all = append_assoc so_far.rows (fields ∷ []) left ∙ ap (λ l. so_far.rows ++ l) (sym next) ∙ so_far.all;
      between = c.with_row-so_far.ensures.between;
      read = c.with_row-so_far.ensures.read so_far.rows (omega arith) so_far.read;
    }

-- all rows are read where there is no next record
pub returns-then-not-branch : goal.returns-then-not-branch
returns-then-not-branch c =
    let so_far = c.loop-row.invariant in
    let left = left_by c.loop-row.reader in
    let none : left ≡ [] = subst (λ (found : Bool). IsNext left (left_by c.read_record.new.reader) (fields_of c.read_record.new.fields) found) c.if-not-branch.true c.in_ok-read_record.ensures.next in
    let few : length so_far.rows ≤ 262144 = (let count = so_far.count in omega arith) in
    let read = subst (AreRead c.args.schema.now so_far.rows) (sym c.batch_from.ensures) so_far.read in
    record {
      read = read_all c.args.schema.now c.args.block.now so_far.rows left so_far.all none few c.batch_from.result read;
      refused = refused_all c.args.schema.now c.args.block.now so_far.rows left so_far.all none few c.batch_from.result read;
      agree = agree_all c.args.schema.now c.args.block.now so_far.rows left so_far.all none few c.batch_from.result read;
      few = few_all c.args.schema.now c.args.block.now so_far.rows left so_far.all none few c.batch_from.result read;
    }

pub returns : goal.returns
returns c =
    let so_far = c.loop-row.invariant in
    let left = left_by c.loop-row.reader in
    let none : left ≡ [] = subst (λ (found : Bool). IsNext left (left_by c.read_record-2.new.reader) (fields_of c.read_record-2.new.fields) found) c.if-branch.false c.in_ok-read_record-2.ensures.next in
    let few : length so_far.rows ≤ 262144 = (let count = so_far.count in omega arith) in
    let read = subst (AreRead c.args.schema.now so_far.rows) (sym c.batch_from-2.ensures) so_far.read in
    record {
      read = read_all c.args.schema.now c.args.block.now so_far.rows left so_far.all none few c.batch_from-2.result read;
      refused = refused_all c.args.schema.now c.args.block.now so_far.rows left so_far.all none few c.batch_from-2.result read;
      agree = agree_all c.args.schema.now c.args.block.now so_far.rows left so_far.all none few c.batch_from-2.result read;
      few = few_all c.args.schema.now c.args.block.now so_far.rows left so_far.all none few c.batch_from-2.result read;
    }

pub returns-then-branch-clause-refused : goal.returns-then-branch-clause-refused
returns-then-branch-clause-refused c = λ _.
    let so_far = c.loop-row.invariant in
    let left = left_by c.loop-row.reader in
    let fields = fields_of c.read_record-2.new.fields in
    let rest = left_by c.read_record-2.new.reader in
    let next : left ≡ fields ∷ rest = subst (λ (found : Bool). IsNext left rest fields found) c.if-branch.true c.in_ok-read_record-2.ensures.next in
    too_many c.args.schema.now c.args.block.now so_far.rows left so_far.all fields rest next (let count = so_far.count in omega arith)
