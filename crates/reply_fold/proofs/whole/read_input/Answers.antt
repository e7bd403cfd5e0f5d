use Rattle.reply_fold.proofs.Said.{read-answer}
use Rattle.reply_fold.proofs.whole.read_input.Goals as goal

pub returns-clause-said : goal.returns-clause-said
returns-clause-said c =
    read-answer c.args.input.now c.in_ok-schema.schema c.in_ok-asked.asked c.place_of_end-place.result c.front.result.now c.after-rest.result.now c.cut_at.result.0.now c.after.result.now c.read_replies.result
    c.place_of_end-place.ensures.place c.if-place-input.false c.front.ensures c.after-rest.ensures c.cut_at.ensures.before c.after.ensures c.in_ok-schema.ensures.schema c.in_ok-asked.ensures.asked c.in_ok-asked.ensures.known c.read_replies.ensures.said
