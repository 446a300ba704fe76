use Rattle.requests.specs.Read.{asked}
use Rattle.requests.proofs.Answer.{answer_ok, answer_err}
use Rattle.requests.proofs.reply.put_answer.Goals as goal

pub returns-in-Ok-clause-items : goal.returns-in-Ok-clause-items
returns-in-Ok-clause-items c =
    answer_ok (asked c.args.q) _ _ c.make_tag.new.out _ c.in-Ok.rounds c.in-Ok.ensures.answer c.in-Ok.ensures.long.0 c.in-Ok.ensures.tag c.put_tag.ensures.items

pub returns-in-Err-clause-items : goal.returns-in-Err-clause-items
returns-in-Err-clause-items c = answer_err (asked c.args.q) _ _ c.in-Err.refusal c.in-Err.ensures.answer c.put_refusal.ensures.items
