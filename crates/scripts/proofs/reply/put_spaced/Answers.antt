use Rattle.std.proofs.Common.{vec_items}
use Rattle.scripts.proofs.Writing.{spaced_more, spaced_all}
use Rattle.scripts.proofs.reply.put_spaced.Goals as goal

pub loop-n-preserved : goal.loop-n-preserved
loop-n-preserved c =
    spaced_more c.args.numbers.now c.loop-n.n-index (vec_items c.loop-n.out) _ c.loop-n.invariant _ _ c.loop-n-test.true c.in_ok-push.ensures.items c.in_ok-put_decimal.ensures.items

pub returns : goal.returns
returns c = spaced_all c.args.numbers.now c.loop-n.n-index (vec_items c.loop-n.out) _ c.loop-n.invariant c.loop-n-test.false
