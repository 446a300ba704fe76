use Rattle.std.proofs.Common.{◌<◌, length, rules}
use Rattle.hmac.proofs.Keys.{xored_more}
use Rattle.hmac.proofs.xor_all.Goals as goal

pub loop-x-preserved : goal.loop-x-preserved
loop-x-preserved c =
    let inside : c.loop-x.x-index < length c.args.block.now = search rules in
    xored_more c.args.pad c.args.block.now c.loop-x.block c.loop-x.x-index inside c.loop-x.invariant
