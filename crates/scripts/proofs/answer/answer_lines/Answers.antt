use Rattle.std.proofs.Common.{vec_items, arith}
use Rattle.scripts.proofs.Replying.{told_none, told_more, told_all}
use Rattle.scripts.proofs.answer.answer_lines.Goals as goal

pub loop-line-init : goal.loop-line-init
loop-line-init c = told_none _ _ c.args.lines.now _ c.new-out.ensures.items

pub put_reply-requires : goal.put_reply-requires
put_reply-requires c = omega arith

pub loop-line-preserved : goal.loop-line-preserved
loop-line-preserved c =
    told_more _ _ c.args.lines.now c.loop-line.line-index c.line-item.result c.loop-line.stage _ (vec_items c.loop-line.out) _ _ c.loop-line-test.true c.line-item.is c.in_ok-next.ensures.0 c.in_ok-next.ensures.1 c.in_ok-push.ensures.items c.loop-line.invariant

pub returns : goal.returns
returns c = told_all _ _ c.args.lines.now c.loop-line.line-index c.loop-line.stage (vec_items c.loop-line.out) c.loop-line-test.false c.loop-line.invariant
