use Rattle.std.proofs.Common.{sym, ◌∙◌, arith}
use Rattle.std.proofs.lemmas.List.{length-set}
use Rattle.hash.proofs.Sums.{added_none, added_more}
use Rattle.sha_1.proofs.steps.close.Goals as goal

pub loop-i-init : goal.loop-i-init
loop-i-init c = (c.told-chain, sym (added_none c.args.chain.now c.args.last.now))

pub loop-i-preserved : goal.loop-i-preserved
loop-i-preserved c =
    let l = c.loop-i in (
      length-set l.chain l.i _ ∙ l.invariant.0,
      added_more c.args.chain.now c.args.last.now l.chain l.i c.sum.result (omega arith) (omega arith) l.invariant.1 c.sum.ensures,
    )
