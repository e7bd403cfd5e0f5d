use Rattle.std.proofs.Common.{◌∙◌, ap, refl, Bor, List, ℕ}
use Rattle.csv.specs.Records.{fields_of}
use Rattle.fact_csv.proofs.Items.{lent}
use Rattle.reply_fold.proofs.fields.field.Goals as goal

pub returns : goal.returns
returns c = ap (λ (s : Bor (List ℕ)). s.now) c.unwrap_or.ensures ∙ lent (fields_of c.args.fields.now) c.args.place c.get.result _ c.get.ensures.value refl
